-- A part of an IPv6 text: groups joined by colons.
use Rattle.ipnetwork_addr.proofs.Words.{◌≡◌, ◌≢◌, ℕ, ◌<◌, ◌≤◌, List, [], ◌∷◌, ◌++◌, length, get_or, drop, decimal, Option, None, Some, refl, sym, ap, ◌∙◌, subst, arith, lit≤, decimal_is_IsNumeral, length-decimal-le, digit_value, AllDigits, digits_value, dot, colon, NamesV4, two_groups, NoHex, BeginsWithGroup, NoGroup, Last, Dotted, Gap, Next, IsTextPart}
use Rattle.ipnetwork_addr.proofs.Groups.{group_unique}
use Rattle.ipnetwork_addr.proofs.Ipv4Lemmas.{reading_of, v4_unique}

-- ---- the octet that an IPv4 text begins with is a group before a dot

hex_from_decimal : (ds : List ℕ) → AllDigits 10 ds → AllDigits 16 ds
hex_from_decimal [] h = tt
hex_from_decimal (d ∷ ds) h = (let v = digit_value d in omega (arith, h.0), hex_from_decimal ds h.1)

pub record BeginsDotted (text : List ℕ) : Type 0 where
  pub group : ℕ
  pub after : List ℕ
  pub begins : BeginsWithGroup text group (dot ∷ after)

pub v4_begins : (text : List ℕ) (address : ℕ) → NamesV4 text address → BeginsDotted text
v4_begins text address h =
    let k = reading_of text address h in
    let bound = k.chain.first.bound in
    let numeral = (decimal_is_IsNumeral k.a (omega arith)).0 in
    record {
      group = digits_value 16 (decimal k.a);
      after = k.chain.second.after_dot;
      begins = record {
        front = decimal k.a;
        named = record {
          digits = (numeral.0, hex_from_decimal (decimal k.a) numeral.1);
          short = let short : length (decimal k.a) ≤ 3 =
              length-decimal-le 3 k.a (omega arith) (omega arith) (omega arith) in omega arith;
          value = refl;
        };
        split = k.chain.first.split ∙ ap (λ t. decimal k.a ++ t) k.chain.second.dotted;
        stops = lit≤ tt;
      };
    }

-- ---- what follows the first group determines the kind of the part

pub data Kind (text : List ℕ) (group : ℕ) (after : List ℕ) (groups : List ℕ) (end : Option (List ℕ)) : Type 0 where
  IsLast : after ≡ [] → groups ≡ group ∷ [] → end ≡ None → Kind text group after groups end
  IsDot : (address : ℕ) (more : List ℕ) → after ≡ dot ∷ more → NamesV4 text address → groups ≡ two_groups address
      → end ≡ None → Kind text group after groups end
  IsGap : (next : List ℕ) → after ≡ colon ∷ colon ∷ next → groups ≡ group ∷ [] → end ≡ Some next
      → Kind text group after groups end
  IsNext : (next more : List ℕ) → after ≡ colon ∷ next → groups ≡ group ∷ more → IsTextPart more next end
      → Kind text group after groups end

pub kind_of : (groups text : List ℕ) (end : Option (List ℕ)) (g : ℕ) (after : List ℕ) → BeginsWithGroup text g after
    → IsTextPart groups text end → Kind text g after groups end
kind_of [] text end g after b part = absurd part
kind_of (h ∷ groups) text end g after b (Last c e f) =
    let same = group_unique text g h after [] b c in
    IsLast same.1 (ap (λ t. h ∷ t) e ∙ ap (λ x. x ∷ []) (sym same.0)) f
kind_of (h ∷ groups) text end g after b (Dotted address named e f) =
    let c = v4_begins text address named in
    IsDot address c.after (group_unique text g c.group after (dot ∷ c.after) b c.begins).1 named e f
kind_of (h ∷ groups) text end g after b (Gap next c e f) =
    let same = group_unique text g h after (colon ∷ colon ∷ next) b c in
    IsGap next same.1 (ap (λ t. h ∷ t) e ∙ ap (λ x. x ∷ []) (sym same.0)) f
kind_of (h ∷ groups) text end g after b (Next next c more) =
    let same = group_unique text g h after (colon ∷ next) b c in
    IsNext next groups same.1 (ap (λ x. x ∷ groups) (sym same.0)) more

-- ---- texts that begin with no part

pub no_group_no_part : (groups text : List ℕ) (end : Option (List ℕ)) → NoGroup text → ¬ (IsTextPart groups text end)
no_group_no_part [] text end none part = part
no_group_no_part (g ∷ groups) text end none (Last b e f) = none g [] b
no_group_no_part (g ∷ groups) text end none (Dotted address named e f) = let b = v4_begins text address named in
    none b.group (dot ∷ b.after) b.begins
no_group_no_part (g ∷ groups) text end none (Gap next b e f) = none g (colon ∷ colon ∷ next) b
no_group_no_part (g ∷ groups) text end none (Next next b more) = none g (colon ∷ next) b

-- a group does not begin with a byte that is no hex digit
no_front : (text front rest : List ℕ) → 0 < length front → AllDigits 16 front → NoHex text → text ≡ front ++ rest → ⊥
no_front text [] rest some digits none e = omega (arith, some)
no_front text (x ∷ front) rest some digits none e =
    let large : 16 ≤ digit_value x = subst NoHex e none in
    omega (arith, large, digits.0)

pub no_hex_no_group : (text : List ℕ) → NoHex text → NoGroup text
no_hex_no_group text none g rest h = no_front text h.front rest h.named.digits.0 h.named.digits.1 none h.split

pub no_part_at_colon : (groups text : List ℕ) (end : Option (List ℕ)) → ¬ (IsTextPart groups (colon ∷ text) end)
no_part_at_colon groups text end = no_group_no_part groups (colon ∷ text) end (no_hex_no_group (colon ∷ text) (lit≤ tt))

pub no_part_of_nothing : (groups : List ℕ) (end : Option (List ℕ)) → ¬ (IsTextPart groups [] end)
no_part_of_nothing groups end = no_group_no_part groups [] end (no_hex_no_group [] (lit≤ tt))

-- ---- the part and its end are unique

first : List ℕ → ℕ
first text = get_or text 0 0

-- an empty text does not begin with a byte
pub nil_cons : (x : ℕ) (xs : List ℕ) → [] ≡ x ∷ xs → ⊥
nil_cons x xs e = let n = ap length e in omega arith

pub other_first : (x y : ℕ) (xs ys : List ℕ) → x ∷ xs ≡ y ∷ ys → x ≢ y → ⊥
other_first x y xs ys e other = other (ap (λ t. get_or t 0 0) e)

pub part_unique : (gs hs text : List ℕ) (e f : Option (List ℕ)) → IsTextPart gs text e → IsTextPart hs text f
    → (gs ≡ hs) × (e ≡ f)
part_unique [] hs text e f p q = absurd p
part_unique (g ∷ gs) hs text e f (Last b is_gs is_e) q = elim (kind_of hs text f g [] b q) [
  | IsLast _ is_hs is_f ↦ (ap (λ t. g ∷ t) is_gs ∙ sym is_hs, is_e ∙ sym is_f)
  | IsDot _ more s _ _ _ ↦ absurd (nil_cons dot more s)
  | IsGap next s _ _ ↦ absurd (nil_cons colon (colon ∷ next) s)
  | IsNext next _ s _ _ ↦ absurd (nil_cons colon next s)
]
part_unique (g ∷ gs) hs text e f (Dotted address named is_gs is_e) q =
    let b = v4_begins text address named in
    elim (kind_of hs text f b.group (dot ∷ b.after) b.begins q) [
      | IsLast s _ _ ↦ absurd (nil_cons dot b.after (sym s))
      | IsDot other more s named' is_hs
          is_f ↦ (is_gs ∙ ap two_groups (v4_unique text address other named named') ∙ sym is_hs, is_e ∙ sym is_f)
      | IsGap next s _ _ ↦ absurd (other_first dot colon b.after (colon ∷ next) s (omega arith))
      | IsNext next _ s _ _ ↦ absurd (other_first dot colon b.after next s (omega arith))
    ]
part_unique (g ∷ gs) hs text e f (Gap next b is_gs is_e) q = elim (kind_of hs text f g (colon ∷ colon ∷ next) b q) [
  | IsLast s _ _ ↦ absurd (nil_cons colon (colon ∷ next) (sym s))
  | IsDot _ more s _ _ _ ↦ absurd (other_first colon dot (colon ∷ next) more s (omega arith))
  | IsGap other s is_hs is_f ↦ (ap (λ t. g ∷ t) is_gs ∙ sym is_hs, is_e ∙ ap Some (ap (drop 2) s) ∙ sym is_f)
  | IsNext other more s _ part ↦ absurd
      (no_part_at_colon more next f (subst (λ (t : List ℕ). IsTextPart more t f) (sym (ap (drop 1) s)) part))
]
part_unique (g ∷ gs) hs text e f (Next next b part) q = elim (kind_of hs text f g (colon ∷ next) b q) [
  | IsLast s _ _ ↦ absurd (nil_cons colon next (sym s))
  | IsDot _ more s _ _ _ ↦ absurd (other_first colon dot next more s (omega arith))
  | IsGap other s _ _ ↦ absurd
      (no_part_at_colon gs other e (subst (λ (t : List ℕ). IsTextPart gs t e) (ap (drop 1) s) part))
  | IsNext other more s is_hs part' ↦
      let later = part_unique gs more next e f part
      (subst (λ (t : List ℕ). IsTextPart more t f) (sym (ap (drop 1) s)) part') in
      (ap (λ t. g ∷ t) later.0 ∙ sym is_hs, later.1)
]
