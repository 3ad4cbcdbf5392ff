use Rattle.ipnetwork_blocks.proofs.Known.{◌≡◌, ◌+◌, ◌≤◌, ℕ, List, get_or, sym, subst, arith, AllWithin, IsPermutation, iff_false, get_or_default, IsPermutation-trans, IpNetwork, IsV4, IsV6, one_first, one_behind}
use Rattle.ipnetwork_blocks.proofs.aggregate_ip.put_v4_first.Goals as goal
use Rattle.ipnetwork_blocks.proofs.aggregate_ip.put_v4_first.Goals.{then-is_ipv4, else-is_ipv4}

pub loop-next-preserved : goal.loop-next-preserved
loop-next-preserved c =
    let old : List IpNetwork = c.args.networks.now in
    let xs : List IpNetwork = c.loop-next.networks in
    let count : ℕ = c.loop-next.v4_count in
    let next : ℕ = c.loop-next.next in
    let h = c.loop-next.invariant in
    let read : (d : IpNetwork) → get_or xs next d ≡ get_or xs next c.index-networks-next.result =
    λ d. get_or_default xs next d c.index-networks-next.result (omega arith) in
    let branch = λ (ys : List IpNetwork) (k : ℕ) (e : c.if-is_ipv4.networks ≡ ys) (f : c.if-is_ipv4.v4_count ≡ k)
    (p : (k ≤ next + 1) × IsPermutation old ys × AllWithin IsV4 ys 0 k × AllWithin IsV6 ys k (next + 1)).
    subst (λ (zs : List IpNetwork). (c.if-is_ipv4.v4_count ≤ next + 1) × IsPermutation old zs
    × AllWithin IsV4 zs 0 c.if-is_ipv4.v4_count × AllWithin IsV6 zs c.if-is_ipv4.v4_count (next + 1)) (sym e)
    (subst (λ (j : ℕ). (j ≤ next + 1) × IsPermutation old ys × AllWithin IsV4 ys 0 j × AllWithin IsV6 ys j (next + 1))
    (sym f) p) in
    elim c.if-is_ipv4.branch [
      | then-is_ipv4 w ↦
          let first = one_first xs w.swap.new.self count next h.0 h.2 h.3
          (λ d. subst IsV4 (sym (read d)) (c.is_ipv4.ensures.0 w.if-is_ipv4.true)) w.swap.ensures.by_index in
          branch _ _ w.networks-is w.v4_count-is (
            omega (arith, h.0),
            IsPermutation-trans old xs w.swap.new.self h.1 w.swap.ensures.permutation,
            first.0,
            first.1,
          )
      | else-is_ipv4 w ↦ branch _ _ w.networks-is w.v4_count-is (
        omega (arith, h.0),
        h.1,
        h.2,
        one_behind xs count next h.3 (λ d v. iff_false c.is_ipv4.ensures w.if-is_ipv4.false (subst IsV4 (read d) v)),
      )
    ]
