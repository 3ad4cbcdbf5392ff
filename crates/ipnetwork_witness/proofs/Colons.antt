-- Groups joined by colons, in this library's grammar and in std's.
use Rattle.ipnetwork_witness.proofs.Words.{◌≡◌, ℕ, ◌+◌, ◌*◌, ◌/◌, ◌%◌, ◌^◌, ◌<◌, Bool, true, false, List, [], ◌∷◌, ◌++◌, flat_map, refl, sym, ap, ap₂, ◌∙◌, subst, arith, inl, inr, append-nil, true≢false, IsTrue, join_with_byte, AllZip, number_from_digits, IsGroupsAfter, IsGroups, colon, NamesV4, IsPlain, IsEnded, two_groups}
use Rattle.std.specs.Net.Addr.{segments_of}
use Rattle.std.specs.Net.Grammar as std
use Rattle.ipnetwork_addr.specs.Ipv6Text.{IsGroup}
use Rattle.ipnetwork_witness.proofs.Dotted.{v4_bridge}

to_std : (text : List ℕ) (group : ℕ) → IsGroup text group → std.IsGroup text group
to_std text group h = ((h.digits, sym h.value), h.short)

from_std : (text : List ℕ) (group : ℕ) → std.IsGroup text group → IsGroup text group
from_std text group h = record { digits = h.0.0; short = h.1; value = sym h.0.1 }

-- four octets as two groups
halves-segments : (text octets : List ℕ) → std.IsDotted text octets
    → two_groups (number_from_digits 256 octets) ≡ segments_of octets
halves-segments text octets h = rw h.value (two h.a h.b h.c h.d h.fit)
  where
    two : (a b c d : ℕ) → (a < 256) × (b < 256) × (c < 256) × (d < 256)
        → two_groups (number_from_digits 256 (a ∷ b ∷ c ∷ d ∷ [])) ≡ (a * 256 + b) ∷ (c * 256 + d) ∷ []
    two a b c d fit =
        let n : ℕ = number_from_digits 256 (a ∷ b ∷ c ∷ d ∷ []) in
        let high : n / 2 ^ 16 ≡ a * 256 + b = omega (arith, fit.0, fit.1, fit.2, fit.3) in
        let low : n % 2 ^ 16 ≡ c * 256 + d = omega (arith, fit.0, fit.1, fit.2, fit.3) in
        ap₂ (λ x y. x ∷ y ∷ []) high low

-- ---- parts with a colon between them, or before each

abbrev after_colons : List (List ℕ) → List ℕ
after_colons parts = flat_map (λ part. colon ∷ part) parts

pub joined-cons : (part : List ℕ) (parts : List (List ℕ)) → join_with_byte colon (part ∷ parts) ≡ part
    ++ flat_map (λ part. colon ∷ part) parts
joined-cons part [] = sym (append-nil part)
joined-cons part (next ∷ parts) = ap (λ t. part ++ colon ∷ t) (joined-cons next parts)

record Spelling : Type 0 where
  lead : List ℕ
  spell : List (List ℕ) → List ℕ
  none : spell [] ≡ []
  more : (part : List ℕ) (parts : List (List ℕ)) → spell (part ∷ parts) ≡ lead ++ part ++ after_colons parts

abbrev between : Spelling
between = record { lead = []; spell = join_with_byte colon; none = refl; more = joined-cons }

abbrev before_each : Spelling
before_each = record { lead = colon ∷ []; spell = after_colons; none = refl; more = λ part parts. refl }

one_part : (s : Spelling) (last : List ℕ) → s.spell (last ∷ []) ≡ s.lead ++ last
one_part s last = s.more last [] ∙ append-nil (s.lead ++ last)

-- ---- into std's grammar

plain_to_std : (s : Spelling) (ipv4 : Bool) (text : List ℕ) (parts : List (List ℕ)) (groups : List ℕ)
    → text ≡ s.spell parts → AllZip IsGroup parts groups → IsGroupsAfter ipv4 s.lead text groups
plain_to_std s ipv4 text [] [] e named = e ∙ s.none
plain_to_std s ipv4 text [] (g ∷ groups) e named = absurd named
plain_to_std s ipv4 text (p ∷ parts) [] e named = absurd named
plain_to_std s ipv4 text (p ∷ parts) (g ∷ groups) e named =
    inl (
      p,
      after_colons parts,
      e ∙ s.more p parts,
      to_std p g named.0,
      plain_to_std before_each ipv4 (after_colons parts) parts groups refl named.1,
    )

dotted_to_std : (s : Spelling) (text : List ℕ) (parts : List (List ℕ)) (front last : List ℕ) (address : ℕ)
    → text ≡ s.spell (parts ++ last ∷ []) → AllZip IsGroup parts front → NamesV4 last address
    → IsGroupsAfter true s.lead text (front ++ two_groups address)
dotted_to_std s text [] [] last address e named dotted =
    let (octets, spelled, value) = v4_bridge.to_spelled last address dotted in
    inr (last, octets, refl, e ∙ one_part s last, spelled, ap two_groups value ∙ halves-segments last octets spelled)
dotted_to_std s text [] (g ∷ front) last address e named dotted = absurd named
dotted_to_std s text (p ∷ parts) [] last address e named dotted = absurd named
dotted_to_std s text (p ∷ parts) (g ∷ front) last address e named dotted =
    let rest : List ℕ = after_colons (parts ++ last ∷ []) in
    inl (
      p,
      rest,
      e ∙ s.more p (parts ++ last ∷ []),
      to_std p g named.0,
      dotted_to_std before_each rest parts front last address refl named.1 dotted,
    )

pub plain_groups : (text groups : List ℕ) → IsPlain text groups → IsGroups false text groups
plain_groups text groups h = plain_to_std between false text h.parts groups h.spelled h.named

pub ended_groups : (text groups : List ℕ) → IsEnded text groups → IsGroups true text groups
ended_groups text groups (inl h) = plain_to_std between true text h.parts groups h.spelled h.named
ended_groups text groups (inr h) =
    subst (IsGroups true text) (sym h.value)
    (dotted_to_std between text h.parts h.front h.last h.address h.spelled h.named h.dotted)

-- ---- from std's grammar

data Parts (ipv4 : Bool) (spell : List (List ℕ) → List ℕ) (text groups : List ℕ) : Type 0 where
  Plain : (parts : List (List ℕ)) → text ≡ spell parts → AllZip IsGroup parts groups → Parts ipv4 spell text groups
  Dotted : IsTrue ipv4 → (parts : List (List ℕ)) (front last : List ℕ) (address : ℕ) → text ≡ spell (parts ++ last ∷ [])
      → AllZip IsGroup parts front → NamesV4 last address → groups ≡ front ++ two_groups address
      → Parts ipv4 spell text groups

one_more : (s : Spelling) (ipv4 : Bool) (text part rest : List ℕ) (g : ℕ) (groups : List ℕ) → text ≡ s.lead ++ part
    ++ rest → IsGroup part g → Parts ipv4 after_colons rest groups → Parts ipv4 s.spell text (g ∷ groups)
one_more s ipv4 text part rest g groups split named (Plain parts e later) =
    Plain (part ∷ parts) (split ∙ ap (λ t. s.lead ++ part ++ t) e ∙ sym (s.more part parts)) (named, later)
one_more s ipv4 text part rest g groups split named (Dotted allowed parts front last address e later dotted value) =
    Dotted allowed (part ∷ parts) (g ∷ front) last address (split ∙ ap (λ t. s.lead ++ part ++ t) e
    ∙ sym (s.more part (parts ++ last ∷ []))) (named, later) dotted (ap (λ t. g ∷ t) value)

parts_of : (s : Spelling) (ipv4 : Bool) (text groups : List ℕ) → IsGroupsAfter ipv4 s.lead text groups
    → Parts ipv4 s.spell text groups
parts_of s ipv4 text [] e = Plain [] (e ∙ sym s.none) tt
parts_of s ipv4 text (g ∷ groups) (inl h) =
    one_more s ipv4 text h.0 h.1 g groups h.2 (from_std h.0 g h.3) (parts_of before_each ipv4 h.1 groups h.4)
parts_of s ipv4 text (g ∷ groups) (inr h) =
    Dotted h.2 [] [] h.0 (number_from_digits 256 h.1) (h.3 ∙ sym (one_part s h.0)) tt (v4_bridge.to_named h.0 h.1 h.4)
    (h.5 ∙ sym (halves-segments h.0 h.1 h.4))

pub groups_plain : (text groups : List ℕ) → IsGroups false text groups → IsPlain text groups
groups_plain text groups h = go (parts_of between false text groups h)
  where
    go : Parts false (join_with_byte colon) text groups → IsPlain text groups
    go (Plain parts e named) = record { parts = parts; spelled = e; named = named }
    go (Dotted allowed parts front last address e named dotted value) = absurd (true≢false (sym allowed))

pub groups_ended : (text groups : List ℕ) → IsGroups true text groups → IsEnded text groups
groups_ended text groups h = go (parts_of between true text groups h)
  where
    go : Parts true (join_with_byte colon) text groups → IsEnded text groups
    go (Plain parts e named) = inl (record { parts = parts; spelled = e; named = named })
    go (Dotted allowed parts front last address e named dotted value) = inr (record {
      parts = parts;
      front = front;
      last = last;
      address = address;
      spelled = e;
      named = named;
      dotted = dotted;
      value = value;
    })
