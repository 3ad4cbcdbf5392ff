-- The texts of IPv6 addresses, as the parts before and after a `::`.
use Rattle.ipnetwork_addr.proofs.Words.{◌≡◌, ℕ, ◌+◌, ◌-◌, ◌^◌, ◌<◌, ◌≤◌, List, [], ◌∷◌, ◌++◌, length, drop, replicate, Option, None, Some, refl, sym, ap, ◌∙◌, subst, inl, inr, arith, lit≤, append_assoc, append-nil, length-append, none-some, same_Some, join_with_byte, AllZip, number_from_digits, colon, NamesV4, IsGroup, IsPlain, IsDotted, IsEnded, NamesV6, two_groups, NoHex, BeginsWithGroup, Last, Dotted, Gap, Next, IsTextPart, IsLeft, IsRight}
use Rattle.ipnetwork_addr.proofs.Compressed.{room_of, value_of, compressed}
use Rattle.ipnetwork_addr.proofs.Parts.{part_unique, no_part_at_colon, no_part_of_nothing}

-- the two forms of a text, as the reader sees them
pub data Shape (text : List ℕ) (address : ℕ) : Type 0 where
  Full : (groups : List ℕ) → IsTextPart groups text None → length groups ≡ 8
      → address ≡ number_from_digits (2 ^ 16) groups → Shape text address
  Gapped : (left right next : List ℕ) → IsLeft left text (Some next) → IsRight right next
      → length left + length right ≤ 7 → address ≡ number_from_digits (2 ^ 16)
      (left ++ replicate (8 - length left - length right) 0 ++ right) → Shape text address

-- ---- from the definitions to the parts

begins : (part : List ℕ) (g : ℕ) (rest : List ℕ) → IsGroup part g → NoHex rest → BeginsWithGroup (part ++ rest) g rest
begins part g rest named stops = record { front = part; named = named; split = refl; stops = stops }

plain_part : (parts : List (List ℕ)) (groups : List ℕ) → AllZip IsGroup parts groups → 0 < length groups
    → IsTextPart groups (join_with_byte colon parts) None
plain_part [] [] named some = absurd (omega arith)
plain_part [] (g ∷ groups) named some = absurd named
plain_part (p ∷ parts) [] named some = absurd named
plain_part (p ∷ []) (g ∷ []) named some = Last (rw append-nil at (begins p g [] named.0 (lit≤ tt))) refl refl
plain_part (p ∷ []) (g ∷ h ∷ groups) named some = absurd named.1
plain_part (p ∷ q ∷ parts) (g ∷ []) named some = absurd named.1
plain_part (p ∷ q ∷ parts) (g ∷ h ∷ groups) named some =
    Next (join_with_byte colon (q ∷ parts)) (begins p g (colon ∷ join_with_byte colon (q ∷ parts)) named.0 (lit≤ tt))
    (plain_part (q ∷ parts) (h ∷ groups) named.1 (omega arith))

dotted_part : (parts : List (List ℕ)) (front last : List ℕ) (address : ℕ) → AllZip IsGroup parts front
    → NamesV4 last address → IsTextPart (front ++ two_groups address) (join_with_byte colon (parts ++ last ∷ [])) None
dotted_part [] [] last address named dotted = Dotted address dotted refl refl
dotted_part [] (g ∷ front) last address named dotted = absurd named
dotted_part (p ∷ parts) [] last address named dotted = absurd named
dotted_part (p ∷ []) (g ∷ front) last address named dotted =
    Next last (begins p g (colon ∷ last) named.0 (lit≤ tt)) (dotted_part [] front last address named.1 dotted)
dotted_part (p ∷ q ∷ parts) (g ∷ front) last address named dotted =
    let next : List ℕ = join_with_byte colon (q ∷ (parts ++ last ∷ [])) in
    Next next (begins p g (colon ∷ next) named.0 (lit≤ tt)) (dotted_part (q ∷ parts) front last address named.1 dotted)

left_part : (parts : List (List ℕ)) (groups next : List ℕ) → AllZip IsGroup parts groups → 0 < length groups
    → IsTextPart groups (join_with_byte colon parts ++ colon ∷ colon ∷ next) (Some next)
left_part [] [] next named some = absurd (omega arith)
left_part [] (g ∷ groups) next named some = absurd named
left_part (p ∷ parts) [] next named some = absurd named
left_part (p ∷ []) (g ∷ []) next named some = Gap next (begins p g (colon ∷ colon ∷ next) named.0 (lit≤ tt)) refl refl
left_part (p ∷ []) (g ∷ h ∷ groups) next named some = absurd named.1
left_part (p ∷ q ∷ parts) (g ∷ []) next named some = absurd named.1
left_part (p ∷ q ∷ parts) (g ∷ h ∷ groups) next named some =
    let later : List ℕ = join_with_byte colon (q ∷ parts) ++ colon ∷ colon ∷ next in
    let e : (p ++ colon ∷ join_with_byte colon (q ∷ parts)) ++ colon ∷ colon ∷ next ≡ p ++ colon ∷ later =
    append_assoc p (colon ∷ join_with_byte colon (q ∷ parts)) (colon ∷ colon ∷ next) in
    Next later (subst (λ (t : List ℕ). BeginsWithGroup t g (colon ∷ later)) (sym e)
    (begins p g (colon ∷ later) named.0 (lit≤ tt))) (left_part (q ∷ parts) (h ∷ groups) next named.1 (omega arith))

ended_part : (text groups : List ℕ) → IsEnded text groups → 0 < length groups → IsTextPart groups text None
ended_part text groups (inl h) some = subst (λ (t : List ℕ). IsTextPart groups t None) (sym h.spelled)
    (plain_part h.parts groups h.named some)
ended_part text groups (inr h) some =
    rw (h.spelled, h.value) (dotted_part h.parts h.front h.last h.address h.named h.dotted)

nothing : (text : List ℕ) (parts : List (List ℕ)) → text ≡ join_with_byte colon parts
    → AllZip IsGroup parts [] → text ≡ []
nothing text [] e named = e
nothing text (p ∷ parts) e named = absurd named

right_of : (text groups : List ℕ) → IsEnded text groups → IsRight groups text
right_of text [] (inl h) = inr (refl, nothing text h.parts h.spelled h.named)
right_of text [] (inr h) = absurd (omega (arith, ap length h.value, length-append h.front (two_groups h.address)))
right_of text (g ∷ groups) h = inl (ended_part text (g ∷ groups) h (omega arith))

left_of : (text left_text left next : List ℕ) → text ≡ left_text ++ colon ∷ colon ∷ next → IsPlain left_text left
    → IsLeft left text (Some next)
left_of text left_text [] next e h =
    inr (record {
      next = next;
      none = refl;
      spelled = e
          ∙ ap (λ t. t ++ colon ∷ colon ∷ next) (nothing left_text h.parts h.spelled h.named);
      ends = refl;
    })
left_of text left_text (g ∷ groups) next e h =
    inl (subst (λ (t : List ℕ). IsTextPart (g ∷ groups) t (Some next)) (sym (e
    ∙ ap (λ t. t ++ colon ∷ colon ∷ next) h.spelled)) (left_part h.parts (g ∷ groups) next h.named (omega arith)))

pub shape_of : (text : List ℕ) (address : ℕ) → NamesV6 text address → Shape text address
shape_of text address (inl h) = Full h.groups (ended_part text h.groups h.ended (omega (arith, h.eight)))
    h.eight h.value
shape_of text address (inr h) =
    Gapped h.high h.low h.behind
    (left_of text h.before h.high h.behind (h.split ∙ append_assoc h.before (colon ∷ colon ∷ []) h.behind)
    h.high_groups) (right_of h.behind h.low h.low_groups) (room_of text address h) (value_of text address h)

-- ---- from the parts to the definitions

join_more : (part : List ℕ) (parts : List (List ℕ)) → 0 < length parts
    → part ++ colon ∷ join_with_byte colon parts ≡ join_with_byte colon (part ∷ parts)
join_more part [] some = absurd (omega arith)
join_more part (p ∷ parts) some = refl

as_many : (parts : List (List ℕ)) (groups : List ℕ) → AllZip IsGroup parts groups → 0 < length groups → 0 < length parts
as_many [] [] named some = some
as_many [] (g ∷ groups) named some = absurd named
as_many (p ∷ parts) groups named some = omega arith

some_group : (groups text : List ℕ) (end : Option (List ℕ)) → IsTextPart groups text end → 0 < length groups
some_group [] text end part = absurd part
some_group (g ∷ groups) text end part = omega arith

plain_more : (text next : List ℕ) (g : ℕ) (groups : List ℕ) → BeginsWithGroup text g (colon ∷ next)
    → IsPlain next groups → 0 < length groups → IsPlain text (g ∷ groups)
plain_more text next g groups b h some = record {
  parts = b.front ∷ h.parts;
  spelled = b.split ∙ ap (λ t. b.front ++ colon ∷ t) h.spelled
      ∙ join_more b.front h.parts (as_many h.parts groups h.named some);
  named = (b.named, h.named);
}

dotted_more : (text next : List ℕ) (g : ℕ) (groups : List ℕ) → BeginsWithGroup text g (colon ∷ next)
    → IsDotted next groups → IsDotted text (g ∷ groups)
dotted_more text next g groups b h = record {
  parts = b.front ∷ h.parts;
  front = g ∷ h.front;
  last = h.last;
  address = h.address;
  spelled = b.split ∙ ap (λ t. b.front ++ colon ∷ t) h.spelled
      ∙ join_more b.front (h.parts ++ h.last ∷ []) (omega (arith, length-append h.parts (h.last ∷ [])));
  named = (b.named, h.named);
  dotted = h.dotted;
  value = ap (λ t. g ∷ t) h.value;
}

plain_one : (text : List ℕ) (g : ℕ) (groups : List ℕ) → BeginsWithGroup text g [] → groups ≡ []
    → IsPlain text (g ∷ groups)
plain_one text g groups b e =
    rw e (record { parts = b.front ∷ []; spelled = b.split ∙ append-nil b.front; named = (b.named, tt) })

part_ended : (groups text : List ℕ) → IsTextPart groups text None → IsEnded text groups
part_ended [] text part = absurd part
part_ended (g ∷ groups) text (Last b e f) = inl (plain_one text g groups b e)
part_ended (g ∷ groups) text (Dotted address named e f) =
    inr (record {
      parts = [];
      front = [];
      last = text;
      address = address;
      spelled = refl;
      named = tt;
      dotted = named;
      value = e;
    })
part_ended (g ∷ groups) text (Gap next b e f) = absurd (none-some next f)
part_ended (g ∷ groups) text (Next next b part) = elim (part_ended groups next part) [
  | inl h ↦ inl (plain_more text next g groups b h (some_group groups next None part))
  | inr h ↦ inr (dotted_more text next g groups b h)
]

record LeftText (text groups next : List ℕ) : Type 0 where
  front : List ℕ
  spelled : text ≡ front ++ colon ∷ colon ∷ next
  plain : IsPlain front groups

front_one : (g : ℕ) (groups part : List ℕ) → IsGroup part g → groups ≡ [] → IsPlain part (g ∷ groups)
front_one g groups part h e = rw e (record { parts = part ∷ []; spelled = refl; named = (h, tt) })

part_left : (groups text next : List ℕ) → IsTextPart groups text (Some next) → LeftText text groups next
part_left [] text next part = absurd part
part_left (g ∷ groups) text next (Last b e f) = absurd (none-some next (sym f))
part_left (g ∷ groups) text next (Dotted address named e f) = absurd (none-some next (sym f))
part_left (g ∷ groups) text next (Gap other b e f) = record {
  front = b.front;
  spelled = b.split ∙ ap (λ t. b.front ++ colon ∷ colon ∷ t) (sym (same_Some next other f));
  plain = front_one g groups b.front b.named e;
}
part_left (g ∷ groups) text next (Next after b part) =
    let later = part_left groups after next part in
    record {
      front = b.front ++ colon ∷ later.front;
      spelled = b.split ∙ ap (λ t. b.front ++ colon ∷ t) later.spelled
          ∙ sym (append_assoc b.front (colon ∷ later.front) (colon ∷ colon ∷ next));
      plain = plain_more (b.front ++ colon ∷ later.front) later.front g groups
          (record { front = b.front; named = b.named; split = refl; stops = lit≤ tt }) later.plain
          (some_group groups after (Some next) part);
    }

left_text_of : (groups text next : List ℕ) → IsLeft groups text (Some next) → LeftText text groups next
left_text_of groups text next (inl part) = part_left groups text next part
left_text_of groups text next (inr h) = rw h.none (record {
  front = [];
  spelled = h.spelled ∙ ap (λ t. colon ∷ colon ∷ t) (sym (same_Some next h.next h.ends));
  plain = record { parts = []; spelled = refl; named = tt };
})

right_ended : (groups text : List ℕ) → IsRight groups text → IsEnded text groups
right_ended groups text (inl part) = part_ended groups text part
right_ended groups text (inr h) = inl (rw h.0 (record { parts = []; spelled = h.1; named = tt }))

pub names_of : (text : List ℕ) (address : ℕ) → Shape text address → NamesV6 text address
names_of text address (Full groups part eight value) =
    inl (record { groups = groups; ended = part_ended groups text part; eight = eight; value = value })
names_of text address (Gapped left right next l r room value) =
    let front = left_text_of left text next l in
    inr (compressed text front.front next left right address (front.spelled
    ∙ sym (append_assoc front.front (colon ∷ colon ∷ []) next)) front.plain (right_ended right next r) room value)

-- ---- the left and right parts are unique

pub left_unique : (gs hs text : List ℕ) (e f : Option (List ℕ)) → IsLeft gs text e → IsLeft hs text f
    → (gs ≡ hs) × (e ≡ f)
left_unique gs hs text e f (inl p) (inl q) = part_unique gs hs text e f p q
left_unique gs hs text e f (inl p) (inr q) =
    absurd (no_part_at_colon gs (colon ∷ q.next) e (subst (λ (t : List ℕ). IsTextPart gs t e) q.spelled p))
left_unique gs hs text e f (inr p) (inl q) =
    absurd (no_part_at_colon hs (colon ∷ p.next) f (subst (λ (t : List ℕ). IsTextPart hs t f) p.spelled q))
left_unique gs hs text e f (inr p) (inr q) =
    (p.none ∙ sym q.none, p.ends ∙ ap (λ t. Some (drop 2 t)) (sym p.spelled ∙ q.spelled) ∙ sym q.ends)

pub right_unique : (gs hs text : List ℕ) → IsRight gs text → IsRight hs text → gs ≡ hs
right_unique gs hs text (inl p) (inl q) = (part_unique gs hs text None None p q).0
right_unique gs hs text (inl p) (inr q) =
    absurd (no_part_of_nothing gs None (subst (λ (t : List ℕ). IsTextPart gs t None) q.1 p))
right_unique gs hs text (inr p) (inl q) =
    absurd (no_part_of_nothing hs None (subst (λ (t : List ℕ). IsTextPart hs t None) p.1 q))
right_unique gs hs text (inr p) (inr q) = p.0 ∙ sym q.0

-- ---- a text names one address

pub shape_unique : (text : List ℕ) (a b : ℕ) → Shape text a → Shape text b → a ≡ b
shape_unique text a b (Full gs p eight e) (Full hs q eight' f) =
    e ∙ ap (number_from_digits (2 ^ 16)) (part_unique gs hs text None None p q).0 ∙ sym f
shape_unique text a b (Full gs p eight e) (Gapped l r next q s room f) =
    absurd (none-some next (left_unique gs l text None (Some next) (inl p) q).1)
shape_unique text a b (Gapped l r next q s room f) (Full gs p eight e) =
    absurd (none-some next (left_unique gs l text None (Some next) (inl p) q).1)
shape_unique text a b (Gapped l r next p s room e) (Gapped l' r' next' p' s' room' f) =
    let same = left_unique l l' text (Some next) (Some next') p p' in
    let behind = same_Some next next' same.1 in
    let right = right_unique r r' next s (subst (IsRight r') (sym behind) s') in
    e ∙ rw (same.0, right) (sym f)

pub v6_unique : (text : List ℕ) (a b : ℕ) → NamesV6 text a → NamesV6 text b → a ≡ b
v6_unique text a b h k = shape_unique text a b (shape_of text a h) (shape_of text b k)
