-- IPv4: this library's grammar and std's spell the same octets, and both print the same texts.
use Rattle.ipnetwork_witness.proofs.Words.{◌≡◌, ℕ, List, [], ◌∷◌, length, decimal, refl, ◌∙◌, arith, lit≤, append_assoc, join_with_byte, AllZip, number_from_digits, ipv4_text, IsDotted, dot, octets_of, IsOctet, NamesV4, canonical_v4}
use Rattle.ipnetwork_witness.proofs.Bridge.{Bridge}

spells : (text : List ℕ) (parts : List (List ℕ)) (octets : List ℕ) → text ≡ join_with_byte dot parts
    → AllZip IsOctet parts octets → length octets ≡ 4 → IsDotted text octets
spells text (p ∷ q ∷ r ∷ s ∷ []) (a ∷ b ∷ c ∷ d ∷ []) spelled named four = record {
  a = a;
  b = b;
  c = c;
  d = d;
  fit = (
    omega (arith, named.0.0),
    omega (arith, named.1.0.0),
    omega (arith, named.1.1.0.0),
    omega (arith, named.1.1.1.0.0),
  );
  value = refl;
  spelled = spelled ∙ rw (named.0.1, named.1.0.1, named.1.1.0.1, named.1.1.1.0.1) (simp append_assoc);
}
spells text parts [] spelled named four = absurd (omega arith)
spells text parts (a ∷ []) spelled named four = absurd (omega arith)
spells text parts (a ∷ b ∷ []) spelled named four = absurd (omega arith)
spells text parts (a ∷ b ∷ c ∷ []) spelled named four = absurd (omega arith)
spells text parts (a ∷ b ∷ c ∷ d ∷ e ∷ more) spelled named four = absurd (omega arith)
spells text [] (a ∷ b ∷ c ∷ d ∷ []) spelled named four = absurd named
spells text (p ∷ []) (a ∷ b ∷ c ∷ d ∷ []) spelled named four = absurd named.1
spells text (p ∷ q ∷ []) (a ∷ b ∷ c ∷ d ∷ []) spelled named four = absurd named.1.1
spells text (p ∷ q ∷ r ∷ []) (a ∷ b ∷ c ∷ d ∷ []) spelled named four = absurd named.1.1.1
spells text (p ∷ q ∷ r ∷ s ∷ t ∷ more) (a ∷ b ∷ c ∷ d ∷ []) spelled named four = absurd named.1.1.1.1

names : (text octets : List ℕ) → IsDotted text octets → NamesV4 text (number_from_digits 256 octets)
names text octets h = record {
  octets = octets;
  joined = record {
    parts = decimal h.a ∷ decimal h.b ∷ decimal h.c ∷ decimal h.d ∷ [];
    spelled = h.spelled ∙ simp append_assoc;
    named = rw h.value (
      (omega (arith, h.fit.0), refl),
      ((omega (arith, h.fit.1), refl), ((omega (arith, h.fit.2), refl), ((omega (arith, h.fit.3), refl), tt))),
    );
  };
  four = rw h.value refl;
  value = refl;
}

pub v4_bridge : Bridge 256 4 NamesV4 IsDotted
v4_bridge = record {
  some = lit≤ tt;
  to_spelled = λ text n h.
      (h.octets, spells text h.joined.parts h.octets h.joined.spelled h.joined.named h.four, h.value);
  to_named = names;
  fits = λ text ds h. rw h.value (refl, (h.fit.0, (h.fit.1, (h.fit.2, (h.fit.3, tt)))));
}

pub v4_prints : (n : ℕ) → canonical_v4 n ≡ ipv4_text (octets_of n)
v4_prints n = simp append_assoc
