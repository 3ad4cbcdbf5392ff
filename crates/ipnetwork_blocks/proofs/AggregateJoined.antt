-- If no two blocks of a list can be joined, they are the maximal blocks of their union.
use Rattle.ipnetwork_blocks.proofs.Words.{◌≡◌, ℕ, zero, suc, ◌+◌, ◌-◌, ◌*◌, ◌/◌, ◌^◌, ◌<◌, ◌≤◌, ◌⊎◌, sym, refl, ap, subst, ◌∙◌, arith, ⊎_elim, List, get_or, cases_lt, Contains, All-contains, Network, IsNetwork, IsCidrBlock, Member, low, block_size, block_at, Subnet, size_pos, within_member, member_within, subnet_from, subnet_prefix, shares_address, multiple_begins, block_begins, block_same_set, block_at_network, block_at_holds, block_at_subnet, same_block, parent, AreHalves, Follows, AreJoined, IsMaximalIn, InUnion, LiesInUnion, SameUnion, IsAggregate}
use Rattle.ipnetwork_blocks.proofs.AggregateLists.{pairs_contains}
use Rattle.ipnetwork_blocks.proofs.LeastLists.{least_of_same}
use Rattle.ipnetwork_blocks.proofs.HalfBlocks.{size_half}

-- two blocks of a joined list that share an address are the same
pub joined_apart : (w : ℕ) (r : List Network) → AreJoined w r → (a b : Network) → Contains r a → Contains r b → (x : ℕ)
    → Member w a x → Member w b x → a ≡ b
joined_apart w r h a b ca cb x ma mb =
    let ba : IsCidrBlock w a = All-contains (IsCidrBlock w) r a h.blocks ca in
    let bb : IsCidrBlock w b = All-contains (IsCidrBlock w) r b h.blocks cb in
    let ia = within_member w a x ma in
    let ib = within_member w b x mb in
    let Goal : Type 0 = a ≡ b in
    ⊎_elim (λ (e : a ≡ b). e)
    (λ (o : Follows w a b ⊎ Follows w b a). ⊎_elim
    (λ (f : Follows w a b). let r : Goal = absurd (omega (arith, f.0, ia.1, ib.0, bb.block)) in r)
    (λ (f : Follows w b a). let r : Goal = absurd (omega (arith, f.0, ib.1, ia.0, ba.block)) in r) o)
    (pairs_contains (Follows w) r a b h.pairs ca cb)

-- if the halves of a block lie in two blocks of the list, the whole block lies in one of the two: otherwise these two
-- would be the halves
halves_joined : (w : ℕ) (r : List Network) → AreJoined w r → (x p : ℕ) → p < w → x < 2 ^ w → (a b : Network)
    → Contains r a → Contains r b
    → Subnet w (block_at w (x / block_size w p * block_size w p) (p + 1)) a
    → Subnet w (block_at w (x / block_size w p * block_size w p + block_size w (p + 1)) (p + 1)) b
    → (n : Network) × Contains r n × Subnet w (block_at w x p) n
halves_joined w r h x p lt l a b ca cb sa sb =
    let s : ℕ = block_size w (p + 1) in
    let q : ℕ = x / block_size w p in
    let d : Network = block_at w x p in
    let dn : IsNetwork w d = (block_at_network w x p l (omega arith)).network in
    let begins : d.address ≡ low w d = block_begins w (record { address = x; prefix = p }) in
    let half : block_size w p ≡ s + s = size_half w p lt in
    let s_pos : 0 < s = size_pos w (p + 1) in
    let x0 : ℕ = d.address in
    let x1 : ℕ = d.address + s in
    let m0 : Member w d x0 = member_within w d dn x0 (omega arith) (omega arith) in
    let m1 : Member w d x1 = member_within w d dn x1 (omega arith) (omega arith) in
    let h0 : Member w (block_at w x0 (p + 1)) x0 = block_at_holds w x0 (p + 1) m0.0 in
    let h1 : Member w (block_at w x1 (p + 1)) x1 = block_at_holds w x1 (p + 1) m1.0 in
    let a0 : Member w a x0 = sa x0 h0 in
    let b1 : Member w b x1 = sb x1 h1 in
    let ba : IsCidrBlock w a = All-contains (IsCidrBlock w) r a h.blocks ca in
    let bb : IsCidrBlock w b = All-contains (IsCidrBlock w) r b h.blocks cb in
    let Goal : Type 0 = (n : Network) × Contains r n × Subnet w d n in
    ⊎_elim
    (λ (wide : a.prefix < p + 1). (a, ca, subnet_from w d a dn (omega arith) a0))
    (λ (na : p + 1 ≤ a.prefix). ⊎_elim
    (λ (wide : b.prefix < p + 1).
    (b, cb, subnet_from w d b dn (omega arith) (shares_address w d b x1 (omega arith) dn bb.network m1 b1)))
    (λ (nb : p + 1 ≤ b.prefix).
    let ka = subnet_prefix w (block_at w x0 (p + 1)) a ((block_at_network w x0 (p + 1) m0.0 (omega arith)).network)
    ba.network sa in
    let kb = subnet_prefix w (block_at w x1 (p + 1)) b ((block_at_network w x1 (p + 1) m1.0 (omega arith)).network)
    bb.network sb in
    let pa : a.prefix ≡ p + 1 = omega arith in
    let pb : b.prefix ≡ p + 1 = omega arith in
    let ea : a ≡ block_at w x0 (p + 1) = same_block w a (block_at w x0 (p + 1)) ba.block
    (block_begins w (record { address = x0; prefix = p + 1 })) pa x0 a0 h0 in
    let eb : b ≡ block_at w x1 (p + 1) = same_block w b (block_at w x1 (p + 1)) bb.block
    (block_begins w (record { address = x1; prefix = p + 1 })) pb x1 b1 h1 in
    let e0 : x0 ≡ q * 2 * s = ap (λ z. q * z) half ∙ (omega arith) in
    let e1 : x1 ≡ (q * 2 + 1) * s = ap (λ z. z + s) e0 ∙ (omega arith) in
    let aa : a.address ≡ x0 = ap (λ n. n.address) ea ∙ ap (λ z. z / s * s) e0
    ∙ multiple_begins s (q * 2) s_pos ∙ sym e0 in
    let ab : b.address ≡ x1 = ap (λ n. n.address) eb ∙ ap (λ z. z / s * s) e1
    ∙ multiple_begins s (q * 2 + 1) s_pos ∙ sym e1 in
    let base : Member w (block_at w x0 p) x1 = (block_same_set w (record { address = x0; prefix = p }) x1).1 m1 in
    let M : ℕ → ℕ → ℕ → Type 0 = λ u v z. Member w (block_at w u v) z in
    let pm : a.prefix - 1 ≡ p = omega arith in
    let held : Member w (parent w a) b.address =
    subst (λ u. M u (a.prefix - 1) b.address) (sym aa)
    (subst (λ v. M x0 v b.address) (sym pm) (subst (λ z. M x0 p z) (sym ab) base)) in
    let r : Goal = not_both w r h a b ca cb (omega arith) (pa ∙ sym pb, omega arith, held) in r)
    (cases_lt b.prefix (p + 1)))
    (cases_lt a.prefix (p + 1))
  where
    not_both : {G : Type 0} (w : ℕ) (r : List Network) → AreJoined w r → (a b : Network) → Contains r a → Contains r b
        → a.address < b.address → AreHalves w a b → G
    not_both {G} w r h a b ca cb l s =
        let bb : IsCidrBlock w b = All-contains (IsCidrBlock w) r b h.blocks cb in
        ⊎_elim (λ (e : a ≡ b). let same : a.address ≡ b.address = ap (λ n. n.address) e in absurd (omega arith))
        (λ (o : Follows w a b ⊎ Follows w b a). ⊎_elim
        (λ (f : Follows w a b). absurd (f.1 s))
        (λ (f : Follows w b a). absurd (omega (arith, f.0, bb.block, l, size_pos w b.prefix))) o)
        (pairs_contains (Follows w) r a b h.pairs ca cb)

-- a block that lies in the union lies in one block of the list: this holds for one address, and for a block if it holds
-- for its halves
pub block_in_one : (w : ℕ) (r : List Network) → AreJoined w r → (k x p : ℕ) → p + k ≡ w → x < 2 ^ w
    → LiesInUnion w (block_at w x p) r
    → (n : Network) × Contains r n × Subnet w (block_at w x p) n
block_in_one w r h zero x p e l within =
    let c = within x (block_at_holds w x p l) in
    let n : Network = c.0 in
    let b : IsCidrBlock w n = All-contains (IsCidrBlock w) r n h.blocks c.1 in
    (n, c.1, block_at_subnet w x p n (omega (arith, b.network.prefix_fits)) (omega arith) c.2)
block_in_one w r h (suc k) x p e l within =
    let s : ℕ = block_size w (p + 1) in
    let q : ℕ = x / block_size w p in
    let d : Network = block_at w x p in
    let dn : IsNetwork w d = (block_at_network w x p l (omega arith)).network in
    let begins : d.address ≡ low w d = block_begins w (record { address = x; prefix = p }) in
    let half : block_size w p ≡ s + s = size_half w p (omega arith) in
    let s_pos : 0 < s = size_pos w (p + 1) in
    let m0 : Member w d d.address = member_within w d dn d.address (omega arith) (omega arith) in
    let m1 : Member w d (d.address + s) = member_within w d dn (d.address + s) (omega arith) (omega arith) in
    let c0 = block_in_one w r h k d.address (p + 1) (omega arith) m0.0
    (λ y m. within y (block_at_subnet w d.address (p + 1) d (omega arith) (omega arith) m0 y m)) in
    let c1 = block_in_one w r h k (d.address + s) (p + 1) (omega arith) m1.0
    (λ y m. within y (block_at_subnet w (d.address + s) (p + 1) d (omega arith) (omega arith) m1 y m)) in
    halves_joined w r h x p (omega arith) l c0.0 c1.0 c0.1 c1.1 c0.2 c1.2

-- the same for any network
pub network_in_one : (w : ℕ) (r : List Network) → AreJoined w r → (c : Network) → IsNetwork w c → LiesInUnion w c r
    → (n : Network) × Contains r n × Subnet w c n
network_in_one w r h c cn within =
    let own : Member w c c.address = (cn.address_fits, refl) in
    let fits = cn.prefix_fits in
    let o = block_in_one w r h (w - c.prefix) c.address c.prefix (omega arith) cn.address_fits
    (λ y m. within y (block_at_subnet w c.address c.prefix c (omega arith) fits own y m)) in
    (o.0, o.1, λ y m. o.2 y ((block_same_set w c y).1 m))

-- the blocks of a joined list are the maximal blocks of its union
joined_is_maximal : (w : ℕ) (r : List Network) → AreJoined w r → (b : Network) → Contains r b
    → IsMaximalIn w (InUnion w r) b
joined_is_maximal w r h b cb =
    let bb : IsCidrBlock w b = All-contains (IsCidrBlock w) r b h.blocks cb in
    record {
      network = bb.network;
      block = bb.block;
      lies = λ x m. (b, cb, m);
      maximal = λ c cn lt sub within.
          let o = network_in_one w r h c cn within in
          let own : Member w b b.address = (bb.network.address_fits, refl) in
          let same : o.0 ≡ b = joined_apart w r h o.0 b o.1 cb b.address (o.2 b.address (sub b.address own)) own in
          let inside : Subnet w c b = subst (λ n. Subnet w c n) same o.2 in
          absurd (omega (arith, subnet_prefix w c b cn bb.network inside, lt));
    }

maximal_is_joined : (w : ℕ) (r : List Network) → AreJoined w r → (b : Network) → IsMaximalIn w (InUnion w r) b
    → Contains r b
maximal_is_joined w r h b m =
    let o = network_in_one w r h b m.network m.lies in
    let n : Network = o.0 in
    let bn : IsCidrBlock w n = All-contains (IsCidrBlock w) r n h.blocks o.1 in
    let own : Member w b b.address = (m.network.address_fits, refl) in
    ⊎_elim
    (λ (wide : n.prefix < b.prefix).
    let r : Contains r b = absurd (m.maximal n bn.network wide o.2 (λ x k. (n, o.1, k))) in r)
    (λ (le : b.prefix ≤ n.prefix).
    let ge = subnet_prefix w b n m.network bn.network o.2 in
    let same : n ≡ b = same_block w n b bn.block m.block (omega arith) b.address (o.2 b.address own) own in
    subst (λ k. Contains r k) same o.1)
    (cases_lt n.prefix b.prefix)

-- a joined list with the same union as the networks is their aggregate
pub joined_is_aggregate : (w : ℕ) (ns r : List Network) → AreJoined w r → SameUnion w r ns → IsAggregate w ns r
joined_is_aggregate w ns r h same =
    least_of_same w (InUnion w r) (InUnion w ns) r same (record {
      maximal = λ b. (joined_is_maximal w r h b, maximal_is_joined w r h b);
      ascending = λ i j d l m.
          let b : IsCidrBlock w (get_or r i d) = h.blocks i d (omega arith) in
          let f = h.pairs i j d l m in
          omega (arith, f.0, b.block, size_pos w (get_or r i d).prefix);
    })
