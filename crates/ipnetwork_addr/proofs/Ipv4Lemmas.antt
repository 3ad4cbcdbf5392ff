-- An IPv4 text, octet by octet from the front.
use Rattle.ipnetwork_addr.proofs.Words.{◌≡◌, ◌≢◌, ℕ, ◌^◌, ◌<◌, List, [], ◌∷◌, ◌++◌, length, map, decimal, refl, sym, ap, ◌∙◌, arith, lit≤, inl, append-nil, Bool, true, false, ◌==◌, eqb-true, eqb-false, nil_from_length, join_with_byte, AllZip, number_from_digits, dot, octets_of, IsOctet, NamesV4, canonical_v4, NoDigit, BeginsWithOctet}
use Rattle.ipnetwork_addr.proofs.Octets.{BeginsWithDottedOctet, octet_unique, dotted_octet_unique}

-- four octets, one after the other, and nothing after them
pub record Chain (text : List ℕ) (a b c d : ℕ) : Type 0 where
  pub after_a : List ℕ
  pub after_b : List ℕ
  pub after_c : List ℕ
  pub first : BeginsWithOctet text a after_a
  pub second : BeginsWithDottedOctet after_a b after_b
  pub third : BeginsWithDottedOctet after_b c after_c
  pub fourth : BeginsWithDottedOctet after_c d []

-- the number with these octets, highest first
abbrev pub number_of : ℕ → ℕ → ℕ → ℕ → ℕ
number_of a b c d = number_from_digits 256 (a ∷ b ∷ c ∷ d ∷ [])

pub record Reading (text : List ℕ) (address : ℕ) : Type 0 where
  pub a : ℕ
  pub b : ℕ
  pub c : ℕ
  pub d : ℕ
  pub chain : Chain text a b c d
  pub value : address ≡ number_of a b c d

begins : (part : List ℕ) (n : ℕ) (rest : List ℕ) → IsOctet part n → NoDigit rest → BeginsWithOctet (part ++ rest) n rest
begins part n rest h stops = record { bound = h.0; split = ap (λ t. t ++ rest) h.1; stops = stops }

at_dot : (rest : List ℕ) → NoDigit (dot ∷ rest)
at_dot rest = inl (lit≤ tt)

at_end : NoDigit []
at_end = inl (lit≤ tt)

reading_of_parts : (text : List ℕ) (parts : List (List ℕ)) (octets : List ℕ) (address : ℕ)
    → text ≡ join_with_byte dot parts → AllZip IsOctet parts octets → length octets ≡ 4
    → address ≡ number_from_digits 256 octets → Reading text address
reading_of_parts text (p ∷ q ∷ r ∷ s ∷ []) (a ∷ b ∷ c ∷ d ∷ []) address spelled named four value = record {
  a = a;
  b = b;
  c = c;
  d = d;
  chain = record {
    after_a = dot ∷ (q ++ dot ∷ (r ++ dot ∷ s));
    after_b = dot ∷ (r ++ dot ∷ s);
    after_c = dot ∷ s;
    first = rw spelled (begins p a (dot ∷ (q ++ dot ∷ (r ++ dot ∷ s))) named.0 (at_dot (q ++ dot ∷ (r ++ dot ∷ s))));
    second =
        record {
          after_dot = q ++ dot ∷ (r ++ dot ∷ s);
          dotted = refl;
          begins =
              begins q b (dot ∷ (r ++ dot ∷ s)) named.1.0 (at_dot (r ++ dot ∷ s));
        };
    third = record { after_dot = r ++ dot ∷ s; dotted = refl; begins = begins r c (dot ∷ s) named.1.1.0 (at_dot s) };
    fourth = record { after_dot = s; dotted = refl; begins = rw append-nil at (begins s d [] named.1.1.1.0 at_end) };
  };
  value = value;
}
reading_of_parts text parts [] address spelled named four value = absurd (omega arith)
reading_of_parts text parts (a ∷ []) address spelled named four value = absurd (omega arith)
reading_of_parts text parts (a ∷ b ∷ []) address spelled named four value = absurd (omega arith)
reading_of_parts text parts (a ∷ b ∷ c ∷ []) address spelled named four value = absurd (omega arith)
reading_of_parts text parts (a ∷ b ∷ c ∷ d ∷ e ∷ more) address spelled named four value = absurd (omega arith)
reading_of_parts text [] (a ∷ b ∷ c ∷ d ∷ []) address spelled named four value = absurd named
reading_of_parts text (p ∷ []) (a ∷ b ∷ c ∷ d ∷ []) address spelled named four value = absurd named.1
reading_of_parts text (p ∷ q ∷ []) (a ∷ b ∷ c ∷ d ∷ []) address spelled named four value = absurd named.1.1
reading_of_parts text (p ∷ q ∷ r ∷ []) (a ∷ b ∷ c ∷ d ∷ []) address spelled named four value = absurd named.1.1.1
reading_of_parts text (p ∷ q ∷ r ∷ s ∷ t ∷ more) (a ∷ b ∷ c ∷ d ∷ []) address spelled named four value =
    absurd named.1.1.1.1

pub reading_of : (text : List ℕ) (address : ℕ) → NamesV4 text address → Reading text address
reading_of text address h = reading_of_parts text h.joined.parts h.octets address h.joined.spelled h.joined.named
    h.four h.value

-- ---- the results of the reader

-- what a test for the end says
pub is_nil : (b : Bool) (text : List ℕ) → b ≡ (length text == 0) → b ≡ true → text ≡ []
is_nil b text e f = nil_from_length text (eqb-true (length text) 0 (sym e ∙ f))

pub not_nil : (b : Bool) (text : List ℕ) → b ≡ (length text == 0) → b ≡ false → text ≢ []
not_nil b text e f empty = eqb-false (length text) 0 (sym e ∙ f) (ap length empty)

pub names_four : {text : List ℕ} {a b c d : ℕ} {r s t u : List ℕ} → BeginsWithOctet text a r → BeginsWithDottedOctet r b
    s → BeginsWithDottedOctet s c t → BeginsWithDottedOctet t d u → u ≡ [] → NamesV4 text (number_of a b c d)
names_four {text} {a} {b} {c} {d} {r} {s} {t} {u} first second third fourth empty = record {
  octets = a ∷ b ∷ c ∷ d ∷ [];
  joined = record {
    parts = decimal a ∷ decimal b ∷ decimal c ∷ decimal d ∷ [];
    spelled =
        first.split
        ∙ ap (λ z. decimal a ++ z) (second.dotted
        ∙ ap (λ z. dot ∷ z) (second.begins.split
        ∙ ap (λ z. decimal b ++ z) (third.dotted
        ∙ ap (λ z. dot ∷ z) (third.begins.split
        ∙ ap (λ z. decimal c ++ z) (fourth.dotted
        ∙ ap (λ z. dot ∷ z) (fourth.begins.split ∙ ap (λ z. decimal d ++ z) empty ∙ append-nil (decimal d)))))));
    named = (
      (first.bound, refl),
      ((second.begins.bound, refl), ((third.begins.bound, refl), ((fourth.begins.bound, refl), tt))),
    );
  };
  four = refl;
  value = refl;
}

-- after the first octets are read, those of any address that the text names are the same
pub same_after_a : {text : List ℕ} {a : ℕ} {r : List ℕ} {b' c' d' a' : ℕ} → BeginsWithOctet text a r
    → (k : Chain text a' b' c' d') → k.after_a ≡ r
same_after_a {text} {a} {r} {b'} {c'} {d'} {a'} first k = (octet_unique text a' a k.after_a r k.first first).1

pub same_after_b : {text : List ℕ} {a b : ℕ} {r s : List ℕ} {b' c' d' a' : ℕ} → BeginsWithOctet text a r
    → BeginsWithDottedOctet r b s → (k : Chain text a' b' c' d') → k.after_b ≡ s
same_after_b {text} {a} {b} {r} {s} {b'} {c'} {d'} {a'} first second k =
    (dotted_octet_unique r b' b k.after_b s (rw (same_after_a first k) at k.second) second).1

pub same_after_c : {text : List ℕ} {a b c : ℕ} {r s t : List ℕ} {b' c' d' a' : ℕ} → BeginsWithOctet text a r
    → BeginsWithDottedOctet r b s → BeginsWithDottedOctet s c t → (k : Chain text a' b' c' d') → k.after_c ≡ t
same_after_c {text} {a} {b} {c} {r} {s} {t} {b'} {c'} {d'} {a'} first second third k =
    (dotted_octet_unique s c' c k.after_c t (rw (same_after_b first second k) at k.third) third).1

-- ---- the laws

pub v4_unique : (text : List ℕ) (x y : ℕ) → NamesV4 text x → NamesV4 text y → x ≡ y
v4_unique text x y h k =
    let i = reading_of text x h in
    let j = reading_of text y k in
    let a = octet_unique text i.a j.a _ _ i.chain.first j.chain.first in
    let b = dotted_octet_unique _ i.b j.b _ _ (rw a.1 at i.chain.second) j.chain.second in
    let c = dotted_octet_unique _ i.c j.c _ _ (rw b.1 at i.chain.third) j.chain.third in
    let d = dotted_octet_unique _ i.d j.d _ _ (rw c.1 at i.chain.fourth) j.chain.fourth in
    i.value ∙ rw (a.0, b.0, c.0, d.0) (sym j.value)

-- an address is the number with its octets as digits in base 256
number-octets_of : (address : ℕ) → address < 2 ^ 32 → address ≡ number_from_digits 256 (octets_of address)
number-octets_of address fits = omega arith

pub canonical_v4_names : (address : ℕ) → address < 2 ^ 32 → NamesV4 (canonical_v4 address) address
canonical_v4_names address fits = record {
  octets = octets_of address;
  joined = record {
    parts = map decimal (octets_of address);
    spelled = refl;
    named = ((omega arith, refl), ((omega arith, refl), ((omega arith, refl), ((omega arith, refl), tt))));
  };
  four = refl;
  value = number-octets_of address fits;
}
