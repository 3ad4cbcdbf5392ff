-- The smallest block that contains two networks, in cases that would reveal a misreading of the definition.
use Rattle.ipnetwork_blocks.proofs.Words.{◌≡◌, ℕ, ◌^◌, ◌<◌, ◌≤◌, refl, arith, ⊎_elim, List, [], ◌∷◌, cases_lt, SharesBits, Network, IsNetwork, Member, coarser_size, IsSpanning}
use Rattle.ipnetwork_blocks.proofs.LeastLists.{contains_head, contains_tail}
use Rattle.ipnetwork_blocks.proofs.SpanningBlock.{spans_both}

abbrev net : ℕ → ℕ → Network
net address prefix = record { address = address; prefix = prefix }

fits : (address prefix : ℕ) → address < 2 ^ 32 → prefix ≤ 32 → IsNetwork 32 (net address prefix)
fits address prefix below short = record { address_fits = below; prefix_fits = short }

-- 192.0.2.0/26 and 192.0.2.77/26; the second has host bits
abbrev quarters : List Network
quarters = net 3221225984 26 ∷ net 3221226061 26 ∷ []

shared : SharesBits 32 3221225984 3221226048 25
shared = record {
  within = omega arith;
  agree = refl;
  greatest = λ q l e. ⊎_elim (λ (less : q < 26). omega arith)
      (λ (le : 26 ≤ q).
      let f : 50331656 ≡ 50331657 = coarser_size 32 26 q 3221225984 3221226048 le l e in
      let r : q ≤ 25 = absurd (omega (arith, f)) in r)
      (cases_lt q 26);
}

-- the smallest block is 192.0.2.0/25
pub half_spans : IsSpanning 32 quarters (net 3221225984 25)
half_spans =
    spans_both 32 25 25 (net 3221225984 26) (net 3221226061 26) (fits 3221225984 26 (omega arith) (omega arith))
    (fits 3221226061 26 (omega arith) (omega arith)) shared refl

-- a wider block is not the smallest,
pub wider_does_not : ¬ (IsSpanning 32 quarters (net 3221225984 24))
wider_does_not h =
    let m : Member 32 (net 3221225984 25) 3221226239 = h.smallest (net 3221225984 25)
    (fits 3221225984 25 (omega arith) (omega arith)) half_spans.around 3221226239 (omega arith, refl) in
    let f : 25165829 ≡ 25165828 = m.1 in
    omega (arith, f)

-- a narrower block does not contain both
pub narrower_does_not : ¬ (IsSpanning 32 quarters (net 3221225984 26))
narrower_does_not h =
    let m : Member 32 (net 3221225984 26) 3221226048 =
    h.around (net 3221226061 26) (contains_tail (net 3221225984 26) (net 3221226061 26 ∷ []) (net 3221226061 26)
    (contains_head (net 3221226061 26) [])) 3221226048 (omega arith, refl) in
    let f : 50331657 ≡ 50331656 = m.1 in
    omega (arith, f)

-- a network with host bits is not a block
pub host_bits_do_not : ¬ (IsSpanning 32 quarters (net 3221225985 25))
host_bits_do_not h =
    let f : 3221225985 ≡ 3221225984 = h.block.block in
    omega (arith, f)
