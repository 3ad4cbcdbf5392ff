-- The last byte of a list: at lists at which a misreading of the definition would show, and in the words of the relation.
use Rattle.lists.proofs.Words.{◌≡◌, ◌==◌, ◌++◌, ◌+◌, ◌-◌, ◌∙◌, ℕ, List, [], ◌∷◌, true, false, true≢false, refl, sym, ap, map, filter, codes, length, take, get_or, take_more, take_all, eqb-true, range_with_len, ends_with_feed, EndsWithFeed, arith, length-append, get_or_push}

pub lists_with_a_feed : map ends_with_feed (codes "\n" ∷ codes "a\n" ∷ codes "a\r\n" ∷ codes "\n\n" ∷ [])
    ≡ true ∷ true ∷ true ∷ true ∷ []
lists_with_a_feed = refl

pub lists_without : map ends_with_feed (codes "" ∷ codes "a" ∷ codes "\na" ∷ codes "\n " ∷ codes "\n\r" ∷ [])
    ≡ false ∷ false ∷ false ∷ false ∷ false ∷ []
lists_without = refl

-- of all bytes a line feed alone
pub last_bytes : filter (λ byte. ends_with_feed (10 ∷ byte ∷ [])) (range_with_len 0 256) ≡ 10 ∷ []
last_bytes = refl

-- the two definitions say the same
pub feed_is_told : (bytes : List ℕ) → EndsWithFeed bytes → ends_with_feed bytes ≡ true
feed_is_told bytes (before, is) =
    let more = length-append before (10 ∷ []) in
    let last : length before ≡ length (before ++ 10 ∷ []) - 1 = omega (arith, more) in
    rw is (ap (λ byte. byte == 10) (get_or_push before 10 0 (length (before ++ 10 ∷ []) - 1) last))

pub told_is_feed : (bytes : List ℕ) → ends_with_feed bytes ≡ true → EndsWithFeed bytes
told_is_feed [] told = absurd (true≢false (sym told))
told_is_feed (byte ∷ bytes) told =
    let last : length (byte ∷ bytes) - 1 ≡ length bytes = omega arith in
    let is : get_or (byte ∷ bytes) (length (byte ∷ bytes) - 1) 0 ≡ 10 = eqb-true _ 10 told in (
      take (length bytes) (byte ∷ bytes),
      sym (take_all (length bytes + 1) (byte ∷ bytes) (omega arith))
          ∙ take_more (byte ∷ bytes) (length bytes) 0 (omega arith)
          ∙ ap (λ b. take (length bytes) (byte ∷ bytes) ++ b ∷ [])
          (ap (λ n. get_or (byte ∷ bytes) n 0) (sym last) ∙ is),
    )
