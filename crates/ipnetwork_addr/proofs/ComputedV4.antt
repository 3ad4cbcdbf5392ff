-- The address that an IPv4 text names, computed.
use Rattle.ipnetwork_addr.proofs.Words.{◌≡◌, ℕ, ◌/◌, ◌%◌, ◌^◌, ◌<◌, ◌≤◌, ◌==◌, true, false, cond, List, [], ◌∷◌, ◌++◌, map, decimal, Option, None, Some, refl, sym, ap, subst, ◌∙◌, arith, append-nil, cond_both, ltb-true, lt-ltb, ne_eqb, none-some, same_Some, bytes_eq-Decides, decimal_is_IsNumeral, digit_from_value, bytes_eq, slice_split, number_from_digits, AllDigits, digits_value, dot, NamesV4, canonical_v4, v4_of}
use Rattle.std.specs.Prelude.{nat_lt}
use Rattle.ipnetwork_addr.proofs.Ipv4Lemmas.{Chain, reading_of, number_of, canonical_v4_names}

named_by_print : (text : List ℕ) (n : ℕ) → n < 2 ^ 32 → text ≡ canonical_v4 n → NamesV4 text n
named_by_print text n fits e = subst (λ (t : List ℕ). NamesV4 t n) (sym e) (canonical_v4_names n fits)

pub v4_of_sound : (text : List ℕ) (address : ℕ) → v4_of text ≡ Some address → NamesV4 text address
v4_of_sound text address =
    let n : ℕ = number_from_digits 256 (map (digits_value 10) (slice_split (λ b. b == dot) text)) in
    cond_both (nat_lt n (2 ^ 32)) _ _ (λ (r : Option ℕ). r ≡ Some address → NamesV4 text address)
    (λ fits. cond_both (bytes_eq text (canonical_v4 n)) _ _ (λ (r : Option ℕ). r ≡ Some address → NamesV4 text address)
    (λ same e. subst (NamesV4 text) (same_Some n address e)
    (named_by_print text n (ltb-true n (2 ^ 32) fits) ((bytes_eq-Decides text (canonical_v4 n)).0 same)))
    (λ other e. absurd (none-some address e)))
    (λ past e. absurd (none-some address e))

-- ---- the other direction: digits contain no dot

abbrev NoDot : List ℕ → Type 0
NoDot [] = Unit {0}
NoDot (x ∷ xs) = ((x == dot) ≡ false) × NoDot xs

digits_no_dot : (ds : List ℕ) → AllDigits 10 ds → NoDot ds
digits_no_dot [] h = tt
digits_no_dot (d ∷ ds) h = let within = digit_from_value d h.0 in
    (ne_eqb d dot (λ e. omega arith), digits_no_dot ds h.1)

split_at : (a b : List ℕ) → NoDot a → slice_split (λ x. x == dot) (a ++ dot ∷ b) ≡ a ∷ slice_split (λ x. x == dot) b
split_at [] b h = refl
split_at (x ∷ a) b h = simp (h.0, split_at a b h.1)

split_none : (a : List ℕ) → NoDot a → slice_split (λ x. x == dot) a ≡ a ∷ []
split_none [] h = refl
split_none (x ∷ a) h = simp (h.0, split_none a h.1)

decimal_no_dot : (n : ℕ) → n ≤ 255 → NoDot (decimal n)
decimal_no_dot n bound = digits_no_dot (decimal n) (decimal_is_IsNumeral n (omega arith)).0.1

decimal_value : (n : ℕ) → n ≤ 255 → digits_value 10 (decimal n) ≡ n
decimal_value n bound = (decimal_is_IsNumeral n (omega arith)).1

spelled_out : (text : List ℕ) (a b c d : ℕ) → Chain text a b c d
    → text ≡ decimal a ++ dot ∷ (decimal b ++ dot ∷ (decimal c ++ dot ∷ decimal d))
spelled_out text a b c d k =
    k.first.split
    ∙ ap (λ z. decimal a ++ z) (k.second.dotted
    ∙ ap (λ z. dot ∷ z) (k.second.begins.split
    ∙ ap (λ z. decimal b ++ z) (k.third.dotted
    ∙ ap (λ z. dot ∷ z) (k.third.begins.split
    ∙ ap (λ z. decimal c ++ z) (k.fourth.dotted
    ∙ ap (λ z. dot ∷ z) (k.fourth.begins.split ∙ append-nil (decimal d)))))))

parts_of : (text : List ℕ) (a b c d : ℕ) → Chain text a b c d
    → map (digits_value 10) (slice_split (λ x. x == dot) text) ≡ a ∷ b ∷ c ∷ d ∷ []
parts_of text a b c d k =
    let bound_a = k.first.bound in
    let bound_b = k.second.begins.bound in
    let bound_c = k.third.begins.bound in
    let bound_d = k.fourth.begins.bound in
    let parts : slice_split (λ x. x == dot) text ≡ decimal a ∷ decimal b ∷ decimal c ∷ decimal d ∷ [] =
    ap (slice_split (λ x. x == dot)) (spelled_out text a b c d k)
    ∙ split_at (decimal a) (decimal b ++ dot ∷ (decimal c ++ dot ∷ decimal d)) (decimal_no_dot a bound_a)
    ∙ ap (λ z. decimal a ∷ z) (split_at (decimal b) (decimal c ++ dot ∷ decimal d) (decimal_no_dot b bound_b)
    ∙ ap (λ z. decimal b ∷ z) (split_at (decimal c) (decimal d) (decimal_no_dot c bound_c)
    ∙ ap (λ z. decimal c ∷ z) (split_none (decimal d) (decimal_no_dot d bound_d)))) in
    ap (map (digits_value 10)) parts
    ∙ rw (decimal_value a bound_a, decimal_value b bound_b, decimal_value c bound_c, decimal_value d bound_d)

-- a text that names an address is its canonical text
own_text : (text : List ℕ) (a b c d : ℕ) → Chain text a b c d → (number_of a b c d < 2 ^ 32)
    × (text ≡ canonical_v4 (number_of a b c d))
own_text text a b c d k =
    let bound_a = k.first.bound in
    let bound_b = k.second.begins.bound in
    let bound_c = k.third.begins.bound in
    let bound_d = k.fourth.begins.bound in
    let n : ℕ = number_of a b c d in
    let is_a : n / 256 / 256 / 256 % 256 ≡ a = omega arith in
    let is_b : n / 256 / 256 % 256 ≡ b = omega arith in
    let is_c : n / 256 % 256 ≡ c = omega arith in
    let is_d : n % 256 ≡ d = omega arith in
    (omega arith, spelled_out text a b c d k ∙ sym (rw (is_a, is_b, is_c, is_d)))

pub v4_of_complete : (text : List ℕ) (address : ℕ) → NamesV4 text address → v4_of text ≡ Some address
v4_of_complete text address h =
    let k = reading_of text address h in
    let whole = own_text text k.a k.b k.c k.d k.chain in
    let n : ℕ = number_of k.a k.b k.c k.d in
    let read : number_from_digits 256 (map (digits_value 10) (slice_split (λ b. b == dot) text)) ≡ n =
    ap (number_from_digits 256) (parts_of text k.a k.b k.c k.d k.chain) in
    let fits : nat_lt n (2 ^ 32) ≡ true = lt-ltb n (2 ^ 32) whole.0 in
    let same : bytes_eq text (canonical_v4 n) ≡ true = (bytes_eq-Decides text (canonical_v4 n)).1 whole.1 in
    ap (λ (m : ℕ). cond (nat_lt m (2 ^ 32)) (cond (bytes_eq text (canonical_v4 m)) (Some m) None) None) read
    ∙ ap (λ v. cond v (cond (bytes_eq text (canonical_v4 n)) (Some n) None) None) fits
    ∙ ap (λ v. cond v (Some n) None) same
    ∙ ap Some (sym k.value)
