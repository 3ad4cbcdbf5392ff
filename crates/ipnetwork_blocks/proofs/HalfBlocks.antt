-- The halves of a block, and two blocks one of which comes after the other.
use Rattle.ipnetwork_blocks.proofs.Words.{◌≡◌, ℕ, ◌+◌, ◌-◌, ◌*◌, ◌^◌, ◌<◌, ◌≤◌, ◌⊎◌, inl, inr, sym, refl, ap, ◌∙◌, arith, ⊎_elim, ◌↔◌, div-mul-le_self, cases_lt, Network, IsNetwork, IsCidrBlock, Member, low, block_size, Subnet, high, IsNetworkAtMost, size_pos, size_divides, within_member, member_within, subnet_from, shares_address, block_begins, has_ends, block_at_network, parent, AreHalves}

-- a block has twice as many addresses as each of its halves
pub size_half : (w p : ℕ) → p < w → block_size w p ≡ block_size w (p + 1) + block_size w (p + 1)
size_half w p h =
    let one : p + 1 - p ≡ 1 = omega arith in
    let twice : block_size w p ≡ block_size w (p + 1) * 2 ^ (p + 1 - p) =
    size_divides w p (p + 1) (omega arith) (omega arith) in
    twice ∙ ap (λ j. block_size w (p + 1) * 2 ^ j) one ∙ (omega arith)

-- where two halves lie in their block, and the sizes of all three
halves_stand : (w : ℕ) (t b : Network) → IsCidrBlock w t → IsCidrBlock w b → AreHalves w t b
    → (low w (parent w t) ≤ t.address)
    × (b.address + block_size w t.prefix ≤ low w (parent w t) + (block_size w t.prefix + block_size w t.prefix))
    × (block_size w (parent w t).prefix ≡ block_size w t.prefix + block_size w t.prefix)
    × (block_size w b.prefix ≡ block_size w t.prefix)
halves_stand w t b ht hb s =
    let d : Network = parent w t in
    let tf = ht.network.prefix_fits in
    let pos = s.1 in
    let dn : IsNetwork w d = (block_at_network w t.address (t.prefix - 1) ht.network.address_fits (omega arith)).network
    in
    let back : t.prefix - 1 + 1 ≡ t.prefix = omega arith in
    let half : block_size w (t.prefix - 1) ≡ block_size w t.prefix + block_size w t.prefix =
    size_half w (t.prefix - 1) (omega arith) ∙ ap (λ k. block_size w k + block_size w k) back in
    let sub : Subnet w b d = subnet_from w b d hb.network (let e = s.0 in omega arith) s.2 in
    let ends = has_ends w b hb.network in
    let top = within_member w d (high w b) (sub (high w b) ends.high_is_member) in
    let same : block_size w b.prefix ≡ block_size w t.prefix = ap (block_size w) (sym s.0) in
    let begins : d.address ≡ low w d = block_begins w (record { address = t.address; prefix = t.prefix - 1 }) in
    let under : d.address ≤ t.address = div-mul-le_self t.address (block_size w (t.prefix - 1)) in
    (omega arith, omega (arith, top.1, hb.block, size_pos w b.prefix), half, same)

-- no block lies between two halves
pub nothing_between : (w : ℕ) (e t b : Network) → IsCidrBlock w e → IsCidrBlock w t → IsCidrBlock w b
    → high w e < t.address → high w t < b.address → AreHalves w e b → ⊥
nothing_between w e t b he ht hb l m s =
    let p = halves_stand w e b he hb s in
    omega (arith, p.0, p.1, he.block, ht.block, size_pos w e.prefix, size_pos w t.prefix)

-- for two halves in order, their block begins with the first, and its members are those of both
pub halves_join : (w : ℕ) (t b : Network) → IsCidrBlock w t → IsCidrBlock w b → high w t < b.address → AreHalves w t b
    → ((parent w t).address ≡ t.address) × ((x : ℕ) → Member w (parent w t) x ↔ (Member w t x ⊎ Member w b x))
halves_join w t b ht hb l s =
    let d : Network = parent w t in
    let p = halves_stand w t b ht hb s in
    let size_t : 0 < block_size w t.prefix = size_pos w t.prefix in
    let begins : d.address ≡ low w d = block_begins w (record { address = t.address; prefix = t.prefix - 1 }) in
    let at : low w d ≡ t.address = omega (arith, p.0, p.1, ht.block) in
    let next : b.address ≡ t.address + block_size w t.prefix = omega (arith, p.0, p.1, ht.block) in
    let tf = ht.network.prefix_fits in
    let pos = s.1 in
    let dn : IsNetwork w d = (block_at_network w t.address (t.prefix - 1) ht.network.address_fits (omega arith)).network
    in (
      begins ∙ at,
      λ x. (
        (λ m.
            let i = within_member w d x m in
            ⊎_elim
            (λ (less : x < t.address + block_size w t.prefix).
            inl (member_within w t ht.network x (omega (arith, i.0, at, ht.block)) (omega (arith, ht.block))))
            (λ (le : t.address + block_size w t.prefix ≤ x). inr (member_within w b hb.network x
            (omega (arith, hb.block, next)) (omega (arith, i.1, p.2, p.3, hb.block, next, at))))
            (cases_lt x (t.address + block_size w t.prefix))),
        (λ o. ⊎_elim
            (λ (m : Member w t x). let i = within_member w t x m in
            member_within w d dn x (omega (arith, i.0, at, ht.block)) (omega (arith, i.1, at, p.2, ht.block)))
            (λ (m : Member w b x). let i = within_member w b x m in member_within w d dn x
            (omega (arith, i.0, at, hb.block, next)) (omega (arith, i.1, at, p.2, p.3, hb.block, next)))
            o),
      ),
    )

-- for two blocks in order, the second lies in the first or begins after its end
pub past_top : (w : ℕ) (t b : Network) → IsCidrBlock w t → IsCidrBlock w b → IsNetworkAtMost t b → ¬ (Subnet w b t)
    → high w t < b.address
past_top w t b ht hb order out =
    let Goal : Type 0 = high w t < b.address in
    let from : t.address ≤ b.address = ⊎_elim (λ (l : t.address < b.address). omega arith)
    (λ (e : (t.address ≡ b.address) × (t.prefix ≤ b.prefix)). omega (arith, e.0)) order in
    ⊎_elim (λ (ok : high w t < b.address). ok)
    (λ (le : b.address ≤ high w t).
    let inside : Member w t b.address = member_within w t ht.network b.address (omega (arith, ht.block))
    (omega (arith, size_pos w t.prefix)) in
    ⊎_elim
    (λ (wide : b.prefix < t.prefix).
    let own : Member w b b.address = (hb.network.address_fits, refl) in
    let shared : Member w b t.address = shares_address w t b b.address (omega arith) ht.network hb.network inside own in
    let i = within_member w b t.address shared in
    let r : Goal = ⊎_elim
    (λ (l : t.address < b.address). absurd (omega (arith, i.0, hb.block)))
    (λ (e : (t.address ≡ b.address) × (t.prefix ≤ b.prefix)). absurd (omega (arith, e.1))) order in r)
    (λ (k : t.prefix ≤ b.prefix). let r : Goal = absurd (out (subnet_from w b t hb.network k inside)) in r)
    (cases_lt b.prefix t.prefix))
    (cases_lt (high w t) b.address)
