-- A part of an IPv6 text, read group by group.
use Rattle.ipnetwork_addr.proofs.Words.{◌≡◌, ◌≢◌, ℕ, ◌+◌, ◌*◌, ◌/◌, ◌%◌, ◌^◌, ◌<◌, ◌≤◌, List, [], ◌∷◌, ◌++◌, length, drop, Option, None, Some, refl, sym, ap, ◌∙◌, subst, arith, lit≤, length-append, pow-le-pow_right, pow-add, number_after_append, number_from_digits, colon, dot, NamesV4, NamesNoV4, two_groups, BeginsWithGroup, NoGroup, Last, Dotted, Gap, Next, IsTextPart, BeginsWithPart, NoPart}
use Rattle.ipnetwork_addr.proofs.Groups.{group_fits}
use Rattle.ipnetwork_addr.proofs.Parts.{IsLast, IsDot, IsGap, IsNext, kind_of, no_group_no_part, nil_cons, other_first}

-- the text is these groups, with a colon after each, followed by the rest
abbrev pub Steps : List ℕ → List ℕ → List ℕ → Type 0
Steps [] text rest = text ≡ rest
Steps (g ∷ groups) text rest = (next : List ℕ) × BeginsWithGroup text g (colon ∷ next)
    × ((r : List ℕ) → next ≢ colon ∷ r) × Steps groups next rest

pub record PartSoFar (text rest : List ℕ) (count number : ℕ) : Type 0 where
  pub groups : List ℕ
  pub steps : Steps groups text rest
  pub counted : count ≡ length groups
  pub value : number ≡ number_from_digits (2 ^ 16) groups
  pub small : number < (2 ^ 16) ^ count

-- ---- the groups read so far are the first of any part

steps_push : (groups text rest : List ℕ) (g : ℕ) (next : List ℕ) → Steps groups text rest
    → BeginsWithGroup rest g (colon ∷ next) → ((r : List ℕ) → next ≢ colon ∷ r) → Steps (groups ++ g ∷ []) text next
steps_push [] text rest g next e b other =
    (next, subst (λ (t : List ℕ). BeginsWithGroup t g (colon ∷ next)) (sym e) b, other, refl)
steps_push (h ∷ groups) text rest g next s b other = (s.0, s.1, s.2, steps_push groups s.0 rest g next s.3 b other)

steps_part : (groups more text rest : List ℕ) (end : Option (List ℕ)) → Steps groups text rest
    → IsTextPart more rest end → IsTextPart (groups ++ more) text end
steps_part [] more text rest end e p = subst (λ (t : List ℕ). IsTextPart more t end) (sym e) p
steps_part (g ∷ groups) more text rest end s p = Next s.0 s.1 (steps_part groups more s.0 rest end s.3 p)

record Remaining (groups part rest : List ℕ) (end : Option (List ℕ)) : Type 0 where
  more : List ℕ
  is : part ≡ groups ++ more
  later : IsTextPart more rest end

steps_back : (groups part text rest : List ℕ) (end : Option (List ℕ)) → Steps groups text rest
    → IsTextPart part text end → Remaining groups part rest end
steps_back [] part text rest end e p =
    record { more = part; is = refl; later = subst (λ (t : List ℕ). IsTextPart part t end) e p }
steps_back (g ∷ groups) part text rest end s p = elim (kind_of part text end g (colon ∷ s.0) s.1 p) [
  | IsLast e _ _ ↦ absurd (nil_cons colon s.0 (sym e))
  | IsDot _ more e _ _ _ ↦ absurd (other_first colon dot s.0 more e (omega arith))
  | IsGap next e _ _ ↦ absurd (s.2 next (ap (drop 1) e))
  | IsNext next more e is_part p' ↦
      let later = steps_back groups more s.0 rest end s.3
      (subst (λ (t : List ℕ). IsTextPart more t end) (sym (ap (drop 1) e)) p') in
      record { more = later.more; is = is_part ∙ ap (λ t. g ∷ t) later.is; later = later.later }
]

-- ---- numbers

value_push : (groups : List ℕ) (g n : ℕ) → n ≡ number_from_digits (2 ^ 16) groups
    → n * 2 ^ 16 + g ≡ number_from_digits (2 ^ 16) (groups ++ g ∷ [])
value_push groups g n e = ap (λ m. m * 2 ^ 16 + g) e ∙ sym (number_after_append (2 ^ 16) 0 groups (g ∷ []))

value_halves : (groups : List ℕ) (a n : ℕ) → n ≡ number_from_digits (2 ^ 16) groups
    → n * 2 ^ 32 + a ≡ number_from_digits (2 ^ 16) (groups ++ two_groups a)
value_halves groups a n e =
    let step : n * 2 ^ 32 + a ≡ (n * 2 ^ 16 + a / 2 ^ 16) * 2 ^ 16 + a % 2 ^ 16 = omega arith in
    step ∙ ap (λ m. (m * 2 ^ 16 + a / 2 ^ 16) * 2 ^ 16 + a % 2 ^ 16) e
    ∙ sym (number_after_append (2 ^ 16) 0 groups (two_groups a))

small_push : (n count g : ℕ) → n < (2 ^ 16) ^ count → g < 2 ^ 16 → n * 2 ^ 16 + g < (2 ^ 16) ^ (count + 1)
small_push n count g h k =
    let p : ℕ = (2 ^ 16) ^ count in
    let e : (2 ^ 16) ^ (count + 1) ≡ p * 2 ^ 16 = pow-add (2 ^ 16) count 1 in
    rw e (omega (arith, h, k))

small_halves : (n count a : ℕ) → n < (2 ^ 16) ^ count → a < 2 ^ 32 → n * 2 ^ 32 + a < (2 ^ 16) ^ (count + 2)
small_halves n count a h k =
    let p : ℕ = (2 ^ 16) ^ count in
    let e : (2 ^ 16) ^ (count + 2) ≡ p * 2 ^ 32 = pow-add (2 ^ 16) count 2 in
    rw e (omega (arith, h, k))

-- the number is small enough for one more group, or for two
pub fits_one : {text rest : List ℕ} {count number room : ℕ} → PartSoFar text rest count number → count < room → room ≤ 8
    → number < 2 ^ 112
fits_one {text} {rest} {count} {number} {room} s h k =
    let most : (2 ^ 16) ^ count ≤ (2 ^ 16) ^ 7 = pow-le-pow_right {n = 65536} (lit≤ tt) {j = 7} (omega arith) in
    omega (arith, most, s.small)

pub fits_two : {text rest : List ℕ} {count number room : ℕ} → PartSoFar text rest count number → count + 2 ≤ room
    → room ≤ 8 → number < 2 ^ 96
fits_two {text} {rest} {count} {number} {room} s h k =
    let most : (2 ^ 16) ^ count ≤ (2 ^ 16) ^ 6 = pow-le-pow_right {n = 65536} (lit≤ tt) {j = 6} (omega arith) in
    omega (arith, most, s.small)

-- ---- the loop

pub so_far_none : (text : List ℕ) → PartSoFar text text 0 0
so_far_none text = record { groups = []; steps = refl; counted = refl; value = refl; small = lit≤ tt }

pub so_far_more : {text rest after next : List ℕ} {count number g : ℕ} → PartSoFar text rest count number
    → BeginsWithGroup rest g after → after ≡ colon ∷ next → ((r : List ℕ) → next ≢ colon ∷ r)
    → PartSoFar text next (count + 1) (number * 2 ^ 16 + g)
so_far_more {text} {rest} {after} {next} {count} {number} {g} s b at_colon other = record {
  groups = s.groups ++ g ∷ [];
  steps = steps_push s.groups text rest g next s.steps (subst (BeginsWithGroup rest g) at_colon b) other;
  counted = omega (arith, s.counted, length-append s.groups (g ∷ []));
  value = value_push s.groups g number s.value;
  small = small_push number count g s.small (group_fits rest g after b);
}

-- ---- the exits

-- a part with one more group, which ends as that group does
ended : {text rest : List ℕ} {count number g room : ℕ} {end : Option (List ℕ)} → PartSoFar text rest count number
    → IsTextPart (g ∷ []) rest end → count < room → g < 2 ^ 16
    → BeginsWithPart room text (count + 1) (number * 2 ^ 16 + g) end
ended {text} {rest} {count} {number} {g} {room} {end} s part h fits = record {
  groups = s.groups ++ g ∷ [];
  part = steps_part s.groups (g ∷ []) text rest end s.steps part;
  counted = omega (arith, s.counted, length-append s.groups (g ∷ []));
  fits = omega arith;
  value = value_push s.groups g number s.value;
  small = small_push number count g s.small fits;
}

pub ends_last : {text rest after : List ℕ} {count number g room : ℕ} → PartSoFar text rest count number
    → BeginsWithGroup rest g after → after ≡ [] → count < room
    → BeginsWithPart room text (count + 1) (number * 2 ^ 16 + g) None
ends_last {text} {rest} {after} {count} {number} {g} {room} s b empty h =
    ended s (Last (subst (BeginsWithGroup rest g) empty b) refl refl) h (group_fits rest g after b)

pub ends_at_gap : {text rest after next behind : List ℕ} {count number g room : ℕ} → PartSoFar text rest count number
    → BeginsWithGroup rest g after → after ≡ colon ∷ next → next ≡ colon ∷ behind → count < room
    → BeginsWithPart room text (count + 1) (number * 2 ^ 16 + g) (Some behind)
ends_at_gap {text} {rest} {after} {next} {behind} {count} {number} {g} {room} s b at_colon again h =
    ended s (Gap behind (subst (BeginsWithGroup rest g) (at_colon ∙ ap (λ t. colon ∷ t) again) b) refl refl) h
    (group_fits rest g after b)

pub ends_dotted : {text rest : List ℕ} {count number address room : ℕ} → PartSoFar text rest count number
    → NamesV4 rest address → count + 2 ≤ room → address < 2 ^ 32
    → BeginsWithPart room text (count + 2) (number * 2 ^ 32 + address) None
ends_dotted {text} {rest} {count} {number} {address} {room} s named h fits = record {
  groups = s.groups ++ two_groups address;
  part = steps_part s.groups (two_groups address) text rest None s.steps (Dotted address named refl refl);
  counted = omega (arith, s.counted, length-append s.groups (two_groups address));
  fits = h;
  value = value_halves s.groups address number s.value;
  small = small_halves number count address s.small fits;
}

-- ---- no part

-- if the rest begins with no part that fits, neither does the text
none_on : {text rest : List ℕ} {count number room : ℕ} → PartSoFar text rest count number → ((more : List ℕ)
    (end : Option (List ℕ)) → IsTextPart more rest end → room < count + length more) → NoPart room text
none_on {text} {rest} {count} {number} {room} s long part end p =
    let k = steps_back s.groups part text rest end s.steps p in
    let most = long k.more end k.later in
    omega (arith, most, s.counted, ap length k.is, length-append s.groups k.more)

pub no_group_on : {text rest : List ℕ} {count number room : ℕ} → PartSoFar text rest count number → NoGroup rest
    → NoPart room text
no_group_on {text} {rest} {count} {number} {room} s none =
    none_on s (λ more end p. absurd (no_group_no_part more rest end none p))

pub no_room : {text rest : List ℕ} {count number room : ℕ} → PartSoFar text rest count number → room ≤ count
    → NoPart room text
no_room {text} {rest} {count} {number} {room} s full = none_on s go
  where
    go : (more : List ℕ) (end : Option (List ℕ)) → IsTextPart more rest end → room < count + length more
    go [] end p = absurd p
    go (g ∷ more) end p = omega arith

-- no part fits if neither the end nor a colon follows a group, and no IPv4 text fits
no_part_at_dot : {text rest after : List ℕ} {count number g room : ℕ} → PartSoFar text rest count number
    → BeginsWithGroup rest g after → after ≢ [] → ((r : List ℕ) → after ≢ colon ∷ r)
    → ((more next : List ℕ) (address : ℕ) → after ≡ dot ∷ next → NamesV4 rest address → more ≡ two_groups address
    → room < count + length more)
    → NoPart room text
no_part_at_dot {text} {rest} {after} {count} {number} {g} {room} s b some no_colon none =
    none_on s λ more end p. elim (kind_of more rest end g after b p) [
      | IsLast e _ _ ↦ absurd (some e)
      | IsDot address next e named is_more _ ↦ none more next address e named is_more
      | IsGap m e _ _ ↦ absurd (no_colon (colon ∷ m) e)
      | IsNext m _ e _ _ ↦ absurd (no_colon m e)
    ]

-- no part fits if neither the end, a colon nor a dot follows a group
pub no_other_byte : {text rest after : List ℕ} {count number g room : ℕ} → PartSoFar text rest count number
    → BeginsWithGroup rest g after → after ≢ [] → ((r : List ℕ) → after ≢ colon ∷ r) → ((r : List ℕ) → after ≢ dot ∷ r)
    → NoPart room text
no_other_byte s b some no_colon no_dot =
    no_part_at_dot s b some no_colon (λ more next address e named is_more. absurd (no_dot next e))

-- no part fits if a dot follows a group, but there is no IPv4 text or no room for one
pub no_dotted : {text rest after : List ℕ} {count number g room : ℕ} → PartSoFar text rest count number
    → BeginsWithGroup rest g after → after ≢ [] → ((r : List ℕ) → after ≢ colon ∷ r) → NamesNoV4 rest → NoPart room text
no_dotted s b some no_colon none =
    no_part_at_dot s b some no_colon (λ more next address e named is_more. absurd (none address named))

pub no_room_dotted : {text rest after : List ℕ} {count number g room : ℕ} → PartSoFar text rest count number →
    BeginsWithGroup rest g after → after ≢ [] → ((r : List ℕ) → after ≢ colon ∷ r) → room < count + 2 → NoPart room text
no_room_dotted {text} {rest} {after} {count} {number} {g} {room} s b some no_colon full =
    no_part_at_dot s b some no_colon (λ more next address e named is_more. omega (arith, ap length is_more))
