-- The address that an IPv6 text names, computed.
use Rattle.ipnetwork_addr.proofs.Words.{◌≡◌, ℕ, zero, suc, ◌+◌, ◌-◌, ◌^◌, ◌<◌, ◌≤◌, ◌==◌, inl, inr, Bool, true, false, cond, List, [], ◌∷◌, ◌++◌, length, take, drop, replicate, Option, None, Some, refl, sym, ap, subst, ◌∙◌, arith, append_assoc, take-append-drop, length-append, decimal, cond_both, ltb-true, lt-ltb, leb-true, le-leb, eqb-true, eq-eqb, ne_eqb, cases_eq, none-some, same_Some, take_at, drop_at, drop-drop, join_with_byte-slice_split, bytes_eq-Decides, ◌&&◌, nat_le, bytes_eq, codes, digit_value, is_digit, list_all, join_with_byte, AllZip, number_from_digits, AllDigits, digits_value, colon, NamesV4, v4_of, IsGroup, IsPlain, IsDotted, IsEnded, NamesV6, two_groups, or_else, group_of, grouped, groups_of, two_groups_of, dotted_groups_of, colon_parts, plain_of, dotted_of, full_number, gap_number, gap_at, gap_below, v6_of, decimal_is_IsNumeral, digit_from_value, BeginsWithOctet}
use Rattle.std.specs.Prelude.{nat_lt}
use Rattle.ipnetwork_addr.proofs.Octets.{BeginsWithDottedOctet}
use Rattle.ipnetwork_addr.proofs.Compressed.{room_of, compressed}
use Rattle.ipnetwork_addr.proofs.Ipv4Lemmas.{reading_of}
use Rattle.ipnetwork_addr.proofs.ComputedV4.{v4_of_sound, v4_of_complete}
use Rattle.ipnetwork_addr.proofs.Ipv6Names.{v6_unique}

-- ---- a group

first_digit : (x : ℕ) (rest v : Bool) → is_digit x 16 ≡ v → (v && rest) ≡ true → (digit_value x < 16) × (rest ≡ true)
first_digit x rest true e f = (ltb-true (digit_value x) 16 e, f)
first_digit x rest false e f = cc

hex_digits : (text : List ℕ) → list_all (λ b. is_digit b 16) text ≡ true → AllDigits 16 text
hex_digits [] e = tt
hex_digits (x ∷ text) e =
    let (first, later) = first_digit x (list_all (λ b. is_digit b 16) text) (is_digit x 16) refl e in
    (first, hex_digits text later)

are_hex_digits : (text : List ℕ) → AllDigits 16 text → list_all (λ b. is_digit b 16) text ≡ true
are_hex_digits [] h = refl
are_hex_digits (x ∷ text) h = rw (lt-ltb (digit_value x) 16 h.0) (are_hex_digits text h.1)

group_sound : (text : List ℕ) (g : ℕ) → group_of text ≡ Some g → IsGroup text g
group_sound text g =
    cond_both (nat_lt 0 (length text)) _ _ (λ (r : Option ℕ). r ≡ Some g → IsGroup text g)
    (λ some. cond_both (nat_le (length text) 4) _ _ (λ (r : Option ℕ). r ≡ Some g → IsGroup text g)
    (λ short. cond_both (list_all (λ b. is_digit b 16) text) _ _ (λ (r : Option ℕ). r ≡ Some g → IsGroup text g)
    (λ digits e.
    record {
      digits = (ltb-true 0 (length text) some, hex_digits text digits);
      short = leb-true (length text) 4 short;
      value = sym (same_Some _ g e);
    })
    (λ other e. absurd (none-some g e)))
    (λ long e. absurd (none-some g e)))
    (λ empty e. absurd (none-some g e))

group_complete : (text : List ℕ) (g : ℕ) → IsGroup text g → group_of text ≡ Some g
group_complete text g h =
    let inner : Option ℕ = cond (list_all (λ b. is_digit b 16) text) (Some (digits_value 16 text)) None in
    ap (λ v. cond v (cond (nat_le (length text) 4) inner None) None) (lt-ltb 0 (length text) h.digits.0)
    ∙ ap (λ v. cond v inner None) (le-leb (length text) 4 h.short)
    ∙ ap (λ v. cond v (Some (digits_value 16 text)) None) (are_hex_digits text h.digits.1)
    ∙ ap Some (sym h.value)

-- ---- groups in a row

grouped_parts : (a : Option ℕ) (b : Option (List ℕ)) (gs : List ℕ) → grouped a b ≡ Some gs
    → (g : ℕ) × (hs : List ℕ) × (a ≡ Some g) × (b ≡ Some hs) × (gs ≡ g ∷ hs)
grouped_parts (Some g) (Some hs) gs e = (g, hs, refl, refl, sym (same_Some _ gs e))
grouped_parts (Some g) None gs e = absurd (none-some gs e)
grouped_parts None b gs e = absurd (none-some gs e)

groups_sound : (parts : List (List ℕ)) (gs : List ℕ) → groups_of parts ≡ Some gs → AllZip IsGroup parts gs
groups_sound [] gs e = subst (AllZip IsGroup []) (same_Some [] gs e) tt
groups_sound (part ∷ parts) gs e =
    let (g, hs, f, k, same) = grouped_parts (group_of part) (groups_of parts) gs e in
    rw same (group_sound part g f, groups_sound parts hs k)

groups_complete : (parts : List (List ℕ)) (gs : List ℕ) → AllZip IsGroup parts gs → groups_of parts ≡ Some gs
groups_complete [] [] h = refl
groups_complete [] (g ∷ gs) h = absurd h
groups_complete (part ∷ parts) [] h = absurd h
groups_complete (part ∷ parts) (g ∷ gs) h = rw (group_complete part g h.0, groups_complete parts gs h.1) refl

-- ---- splitting at colons

abbrev NoColon : List ℕ → Type 0
NoColon [] = Unit {0}
NoColon (x ∷ xs) = ((x == colon) ≡ false) × NoColon xs

hex_is_no_colon : (x : ℕ) → digit_value x < 16 → (x == colon) ≡ false
hex_is_no_colon x below = ne_eqb x colon
    (λ e. let k : digit_value colon < 16 = subst (λ (y : ℕ). digit_value y < 16) e below in omega (arith, k))

digits_no_colon : (text : List ℕ) → AllDigits 16 text → NoColon text
digits_no_colon [] h = tt
digits_no_colon (x ∷ text) h = (hex_is_no_colon x h.0, digits_no_colon text h.1)

split_at : (a b : List ℕ) → NoColon a → colon_parts (a ++ colon ∷ b) ≡ a ∷ colon_parts b
split_at [] b h = refl
split_at (x ∷ a) b h = simp (h.0, split_at a b h.1)

split_none : (a : List ℕ) → NoColon a → colon_parts a ≡ a ∷ []
split_none [] h = refl
split_none (x ∷ a) h = simp (h.0, split_none a h.1)

abbrev NoColons : List (List ℕ) → Type 0
NoColons [] = Unit {0}
NoColons (part ∷ parts) = NoColon part × NoColons parts

-- splitting joined parts at the colons gives the parts back
cut_again : (part : List ℕ) (parts : List (List ℕ)) → NoColons (part ∷ parts)
    → colon_parts (join_with_byte colon (part ∷ parts)) ≡ part ∷ parts
cut_again part [] h = split_none part h.0
cut_again part (next ∷ parts) h = split_at part (join_with_byte colon (next ∷ parts)) h.0
    ∙ ap (λ ps. part ∷ ps) (cut_again next parts h.1)

zip_no_colons : (parts : List (List ℕ)) (gs : List ℕ) → AllZip IsGroup parts gs → NoColons parts
zip_no_colons [] gs h = tt
zip_no_colons (part ∷ parts) [] h = absurd h
zip_no_colons (part ∷ parts) (g ∷ gs) h = (digits_no_colon part h.0.digits.1, zip_no_colons parts gs h.1)

-- ---- plain texts

plain_sound : (text gs : List ℕ) → plain_of text ≡ Some gs → IsPlain text gs
plain_sound [] gs e = record { parts = []; spelled = refl; named = subst (AllZip IsGroup []) (same_Some [] gs e) tt }
plain_sound (x ∷ text) gs e = record {
  parts = colon_parts (x ∷ text);
  spelled = sym (join_with_byte-slice_split colon (x ∷ text));
  named = groups_sound (colon_parts (x ∷ text)) gs e;
}

plain_nonempty : (text : List ℕ) (part : List ℕ) (parts : List (List ℕ)) (g : ℕ)
    → text ≡ join_with_byte colon (part ∷ parts) → IsGroup part g → plain_of text ≡ groups_of (colon_parts text)
plain_nonempty (x ∷ text) part parts g e h = refl
plain_nonempty [] part [] g e h = absurd (let k = ap length e in omega (arith, k, h.digits.0))
plain_nonempty [] (y ∷ part) (next ∷ parts) g e h = cc
plain_nonempty [] [] (next ∷ parts) g e h = cc

plain_complete : (text gs : List ℕ) → IsPlain text gs → plain_of text ≡ Some gs
plain_complete text gs h = go h.parts gs h.spelled h.named
  where
    go : (parts : List (List ℕ)) (gs : List ℕ) → text ≡ join_with_byte colon parts → AllZip IsGroup parts gs
        → plain_of text ≡ Some gs
    go [] [] e named = ap plain_of e
    go [] (g ∷ gs) e named = absurd named
    go (part ∷ parts) [] e named = absurd named
    go (part ∷ parts) (g ∷ gs) e named =
        plain_nonempty text part parts g e named.0
        ∙ ap groups_of (ap colon_parts e ∙ cut_again part parts (zip_no_colons (part ∷ parts) (g ∷ gs) named))
        ∙ groups_complete (part ∷ parts) (g ∷ gs) named

-- ---- texts that end in an IPv4 text

halves_some : (o : Option ℕ) (gs : List ℕ) → two_groups_of o ≡ Some gs → (address : ℕ) × (o ≡ Some address)
    × (gs ≡ two_groups address)
halves_some None gs e = absurd (none-some gs e)
halves_some (Some a) gs e = (a, refl, sym (same_Some (two_groups a) gs e))

-- parts whose last one is an IPv4 text
record DottedParts (parts : List (List ℕ)) (gs : List ℕ) : Type 0 where
  front_parts : List (List ℕ)
  front : List ℕ
  last : List ℕ
  address : ℕ
  spelled : parts ≡ front_parts ++ last ∷ []
  named : AllZip IsGroup front_parts front
  dotted : NamesV4 last address
  value : gs ≡ front ++ two_groups address

dotted_parts_sound : (parts : List (List ℕ)) (gs : List ℕ) → dotted_groups_of parts ≡ Some gs → DottedParts parts gs
dotted_parts_sound [] gs e = absurd (none-some gs e)
dotted_parts_sound (part ∷ []) gs e =
    let (address, f, same) = halves_some (v4_of part) gs e in
    record {
      front_parts = [];
      front = [];
      last = part;
      address = address;
      spelled = refl;
      named = tt;
      dotted =
          v4_of_sound part address f;
      value = same;
    }
dotted_parts_sound (part ∷ next ∷ parts) gs e =
    let (g, hs, f, k, same) = grouped_parts (group_of part) (dotted_groups_of (next ∷ parts)) gs e in
    let later = dotted_parts_sound (next ∷ parts) hs k in
    record {
      front_parts = part ∷ later.front_parts;
      front = g ∷ later.front;
      last = later.last;
      address = later.address;
      spelled = ap (λ ps. part ∷ ps) later.spelled;
      named = (group_sound part g f, later.named);
      dotted = later.dotted;
      value = same ∙ ap (λ (l : List ℕ). g ∷ l) later.value;
    }

dotted_sound : (text gs : List ℕ) → dotted_of text ≡ Some gs → IsDotted text gs
dotted_sound text gs e =
    let k = dotted_parts_sound (colon_parts text) gs e in
    record {
      parts = k.front_parts;
      front = k.front;
      last = k.last;
      address = k.address;
      spelled = sym (join_with_byte-slice_split colon text) ∙ ap (join_with_byte colon) k.spelled;
      named = k.named;
      dotted = k.dotted;
      value = k.value;
    }

NoColon-append : (a b : List ℕ) → NoColon a → NoColon b → NoColon (a ++ b)
NoColon-append [] b h k = k
NoColon-append (x ∷ a) b h k = (h.0, NoColon-append a b h.1 k)

decimals_no_colon : (ds : List ℕ) → AllDigits 10 ds → NoColon ds
decimals_no_colon [] h = tt
decimals_no_colon (d ∷ ds) h = let within = digit_from_value d h.0 in
    (ne_eqb d colon (λ e. omega arith), decimals_no_colon ds h.1)

octet_no_colon : (text : List ℕ) (n : ℕ) (rest : List ℕ) → BeginsWithOctet text n rest → NoColon rest → NoColon text
octet_no_colon text n rest h k =
    rw h.split (NoColon-append (decimal n) rest
    (decimals_no_colon (decimal n) (decimal_is_IsNumeral n (omega (arith, h.bound))).0.1) k)

dotted_octet_no_colon : (text : List ℕ) (n : ℕ) (rest : List ℕ) → BeginsWithDottedOctet text n rest → NoColon rest
    → NoColon text
dotted_octet_no_colon text n rest h k = rw h.dotted (refl, octet_no_colon h.after_dot n rest h.begins k)

v4_no_colon : (text : List ℕ) (address : ℕ) → NamesV4 text address → NoColon text
v4_no_colon text address h =
    let k = (reading_of text address h).chain in
    octet_no_colon _ _ _ k.first (dotted_octet_no_colon _ _ _ k.second
    (dotted_octet_no_colon _ _ _ k.third (dotted_octet_no_colon _ _ _ k.fourth tt)))

no_colons_more : (parts : List (List ℕ)) (last : List ℕ) → NoColons parts → NoColon last → NoColons (parts ++ last ∷ [])
no_colons_more [] last h k = (k, tt)
no_colons_more (part ∷ parts) last h k = (h.0, no_colons_more parts last h.1 k)

cut_again_more : (parts : List (List ℕ)) (last : List ℕ) → NoColons (parts ++ last ∷ [])
    → colon_parts (join_with_byte colon (parts ++ last ∷ [])) ≡ parts ++ last ∷ []
cut_again_more [] last h = cut_again last [] h
cut_again_more (part ∷ parts) last h = cut_again part (parts ++ last ∷ []) h

dotted_groups_more : (part : List ℕ) (parts : List (List ℕ)) (last : List ℕ)
    → dotted_groups_of (part ∷ (parts ++ last ∷ [])) ≡ grouped (group_of part) (dotted_groups_of (parts ++ last ∷ []))
dotted_groups_more part [] last = refl
dotted_groups_more part (next ∷ parts) last = refl

dotted_parts_complete : (parts : List (List ℕ)) (front last : List ℕ) (address : ℕ) → AllZip IsGroup parts front
    → NamesV4 last address → dotted_groups_of (parts ++ last ∷ []) ≡ Some (front ++ two_groups address)
dotted_parts_complete [] [] last address named h = ap two_groups_of (v4_of_complete last address h)
dotted_parts_complete [] (g ∷ front) last address named h = absurd named
dotted_parts_complete (part ∷ parts) [] last address named h = absurd named
dotted_parts_complete (part ∷ parts) (g ∷ front) last address named h =
    dotted_groups_more part parts last
    ∙ rw (group_complete part g named.0, dotted_parts_complete parts front last address named.1 h) refl

dotted_complete : (text gs : List ℕ) → IsDotted text gs → dotted_of text ≡ Some gs
dotted_complete text gs h =
    let clean = no_colons_more h.parts h.last (zip_no_colons h.parts h.front h.named)
    (v4_no_colon h.last h.address h.dotted) in
    ap dotted_groups_of (ap colon_parts h.spelled ∙ cut_again_more h.parts h.last clean)
    ∙ dotted_parts_complete h.parts h.front h.last h.address h.named h.dotted
    ∙ ap Some (sym h.value)

-- ---- whole texts

full_sound : (text : List ℕ) (groups : Option (List ℕ)) (a : ℕ) → ((gs : List ℕ) → groups ≡ Some gs → IsEnded text gs)
    → full_number groups ≡ Some a → NamesV6 text a
full_sound text None a ended e = absurd (none-some a e)
full_sound text (Some gs) a ended e =
    cond_both (length gs == 8) _ _ (λ (r : Option ℕ). r ≡ Some a → NamesV6 text a)
    (λ eight f. inl (record
    { groups = gs; ended = ended gs refl; eight = eqb-true (length gs) 8 eight; value = sym (same_Some _ a f) }))
    (λ other f. absurd (none-some a f)) e

full_complete : (gs : List ℕ) (groups : Option (List ℕ)) → groups ≡ Some gs → length gs ≡ 8
    → full_number groups ≡ Some (number_from_digits (2 ^ 16) gs)
full_complete gs groups e eight = ap full_number e ∙ ap (λ v. cond v (Some (number_from_digits (2 ^ 16) gs)) None)
    (eq-eqb (length gs) 8 eight)

-- ---- texts with a gap

gap_sound : (text l r : List ℕ) (left right : Option (List ℕ)) (a : ℕ) → text ≡ l ++ (colon ∷ colon ∷ []) ++ r
    → ((gs : List ℕ) → left ≡ Some gs → IsPlain l gs) → ((gs : List ℕ) → right ≡ Some gs → IsEnded r gs)
    → gap_number left right ≡ Some a → NamesV6 text a
gap_sound text l r None right a cut plain ended e = absurd (none-some a e)
gap_sound text l r (Some ls) None a cut plain ended e = absurd (none-some a e)
gap_sound text l r (Some ls) (Some rs) a cut plain ended e =
    cond_both (nat_le (length ls + length rs) 7) _ _ (λ (o : Option ℕ). o ≡ Some a → NamesV6 text a)
    (λ room f. inr (compressed text l r ls rs a cut (plain ls refl) (ended rs refl)
    (leb-true (length ls + length rs) 7 room) (sym (same_Some _ a f))))
    (λ none f. absurd (none-some a f)) e

or_else_sound : (P : ℕ → Type 0) (a b : Option ℕ) (x : ℕ) → ((y : ℕ) → a ≡ Some y → P y) → ((y : ℕ) → b ≡ Some y → P y)
    → or_else a b ≡ Some x → P x
or_else_sound P (Some y) b x f g e = f x e
or_else_sound P None b x f g e = g x e

cut_at : (text : List ℕ) (i : ℕ) → take 2 (drop i text) ≡ colon ∷ colon ∷ []
    → text ≡ take i text ++ (colon ∷ colon ∷ []) ++ drop (i + 2) text
cut_at text i e =
    sym (take-append-drop i text)
    ∙ ap (λ t. take i text ++ t) (sym (take-append-drop 2 (drop i text)) ∙ ap (λ t. t ++ drop 2 (drop i text)) e
    ∙ ap (λ t. (colon ∷ colon ∷ []) ++ t) (drop-drop 2 i text))
    ∙ sym (append_assoc (take i text) (colon ∷ colon ∷ []) (drop (i + 2) text))

gap_at_sound : (text : List ℕ) (i a : ℕ) → gap_at text i ≡ Some a → NamesV6 text a
gap_at_sound text i a =
    cond_both (bytes_eq (take 2 (drop i text)) (codes "::")) _ _ (λ (r : Option ℕ). r ≡ Some a → NamesV6 text a)
    (λ here. let cut = cut_at text i ((bytes_eq-Decides (take 2 (drop i text)) (codes "::")).0 here) in
    or_else_sound (NamesV6 text) _ _ a
    (λ y. gap_sound text _ _ _ _ y cut (plain_sound (take i text)) (λ gs e. inl (plain_sound (drop (i + 2) text) gs e)))
    (λ y. gap_sound text _ _ _ _ y cut (plain_sound (take i text))
    (λ gs e. inr (dotted_sound (drop (i + 2) text) gs e))))
    (λ elsewhere e. absurd (none-some a e))

gap_below_sound : (text : List ℕ) (n a : ℕ) → gap_below text n ≡ Some a → NamesV6 text a
unfolding gap_below
gap_below_sound text zero a e = absurd (none-some a e)
gap_below_sound text (suc n) a e = or_else_sound (NamesV6 text) (gap_at text n) (gap_below text n) a
    (gap_at_sound text n) (gap_below_sound text n) e

pub v6_of_sound : (text : List ℕ) (a : ℕ) → v6_of text ≡ Some a → NamesV6 text a
unfolding v6_of
v6_of_sound text a e =
    or_else_sound (NamesV6 text) (full_number (plain_of text)) _ a
    (λ y. full_sound text (plain_of text) y (λ gs f. inl (plain_sound text gs f)))
    (λ y. or_else_sound (NamesV6 text) (full_number (dotted_of text)) _ y
    (λ z. full_sound text (dotted_of text) z (λ gs f. inr (dotted_sound text gs f)))
    (gap_below_sound text (length text)))
    e

-- ---- an address is found if the text names one

abbrev Found : Option ℕ → Type 0
Found o = (x : ℕ) × (o ≡ Some x)

found_first : (a b : Option ℕ) → Found a → Found (or_else a b)
found_first (Some x) b h = (x, refl)
found_first None b h = absurd (none-some h.0 h.1)

found_second : (a b : Option ℕ) → Found b → Found (or_else a b)
found_second (Some x) b h = (x, refl)
found_second None b h = h

gap_found : (ls rs : List ℕ) (left right : Option (List ℕ)) → left ≡ Some ls → right ≡ Some rs
    → length ls + length rs ≤ 7 → Found (gap_number left right)
gap_found ls rs left right e f room =
    let n : ℕ = number_from_digits (2 ^ 16) (ls ++ replicate (8 - length ls - length rs) 0 ++ rs) in
    (n, rw (e, f) (ap (λ v. cond v (Some n) None) (le-leb (length ls + length rs) 7 room)))

found_where : (b : Bool) (o : Option ℕ) → b ≡ true → Found o → Found (cond b o None)
found_where b o e h = (h.0, ap (λ v. cond v o None) e ∙ h.1)

gap_at_found : (text l r ls rs : List ℕ) → text ≡ l ++ (colon ∷ colon ∷ []) ++ r → IsPlain l ls → IsEnded r rs
    → length ls + length rs ≤ 7 → Found (gap_at text (length l))
gap_at_found text l r ls rs cut plain ended room =
    let i : ℕ = length l in
    let whole : text ≡ l ++ (colon ∷ colon ∷ r) = cut ∙ append_assoc l (colon ∷ colon ∷ []) r in
    let front : take i text ≡ l = ap (take i) whole ∙ take_at l (colon ∷ colon ∷ r) i refl in
    let here : drop i text ≡ colon ∷ colon ∷ r = ap (drop i) whole ∙ drop_at l (colon ∷ colon ∷ r) i refl in
    let back : drop (i + 2) text ≡ r = sym (drop-drop 2 i text) ∙ ap (drop 2) here in
    let test : bytes_eq (take 2 (drop i text)) (codes "::") ≡ true =
    (bytes_eq-Decides (take 2 (drop i text)) (codes "::")).1 (ap (take 2) here) in
    let left : plain_of (take i text) ≡ Some ls = ap plain_of front ∙ plain_complete l ls plain in
    found_where (bytes_eq (take 2 (drop i text)) (codes "::")) _ test (elim ended [
      | inl k ↦ found_first _ _ (gap_found ls rs _ _ left (ap plain_of back ∙ plain_complete r rs k) room)
      | inr k ↦ found_second _ _ (gap_found ls rs _ _ left (ap dotted_of back ∙ dotted_complete r rs k) room)
    ])

gap_below_found : (text : List ℕ) (n i : ℕ) → i < n → Found (gap_at text i) → Found (gap_below text n)
unfolding gap_below
gap_below_found text zero i below h = absurd (omega arith)
gap_below_found text (suc n) i below h = elim (cases_eq i n) [
  | inl same ↦ found_first (gap_at text n) (gap_below text n) (subst (λ (j : ℕ). Found (gap_at text j)) same h)
  | inr apart ↦ found_second (gap_at text n) (gap_below text n) (gap_below_found text n i (omega arith) h)
]

found : (text : List ℕ) (a : ℕ) → NamesV6 text a → Found (v6_of text)
unfolding v6_of
found text a (inl h) = elim h.ended [
  | inl k ↦ found_first _ _ (
    number_from_digits (2 ^ 16) h.groups,
    full_complete h.groups (plain_of text) (plain_complete text h.groups k) h.eight,
  )
  | inr k ↦ found_second _ _
      (found_first _ _ (
        number_from_digits (2 ^ 16) h.groups,
        full_complete h.groups (dotted_of text) (dotted_complete text h.groups k) h.eight,
      ))
]
found text a (inr h) =
    let count : length text ≡ length h.before + (2 + length h.behind) =
    ap length h.split ∙ length-append (h.before ++ (colon ∷ colon ∷ [])) h.behind
    ∙ (let k = length-append h.before (colon ∷ colon ∷ []) in omega arith) in
    found_second _ _ (found_second _ _ (gap_below_found text (length text) (length h.before) (omega arith)
    (gap_at_found text h.before h.behind h.high h.low h.split h.high_groups h.low_groups (room_of text a h))))

pub v6_of_complete : (text : List ℕ) (a : ℕ) → NamesV6 text a → v6_of text ≡ Some a
v6_of_complete text a h =
    let (b, e) = found text a h in
    e ∙ ap Some (v6_unique text b a (v6_of_sound text b e) h)
