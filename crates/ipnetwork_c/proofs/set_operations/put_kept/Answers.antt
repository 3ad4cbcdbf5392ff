use Rattle.ipnetwork_c.proofs.Known.{◌≡◌, ℕ, List, map, sym, subst, YieldsFirstBy, Network, IsLeastList, kept_by, PutsItems, PutsSet, Operation, Union, Intersection, Difference, given}
use Rattle.ipnetwork_c.proofs.set_operations.put_kept.Goals as goal

-- the blocks of the addresses that one operation keeps are put
kept : {N C : Type 0} (pair : N → Network) (held : C → Network) (operation other : Operation) → operation ≡ other
    → (w : ℕ) (first second : List Network) (before after : List C) (count : ℕ) (blocks : List Network)
    → IsLeastList w (kept_by other w first second) blocks
    → PutsItems (YieldsFirstBy pair (λ (left : List Network). left)) pair held blocks before after count
    → PutsSet w held (kept_by operation w first second) before after count
kept pair held operation other e w first second before after count blocks least put =
    subst (λ (o : Operation). PutsSet w held (kept_by o w first second) before after count) (sym e)
    (blocks, least, given pair held blocks before after count put)

pub returns-in-Union : goal.returns-in-Union
returns-in-Union g c =
    let held = g.H.HoldsNetwork.held in
    kept g.N.CidrNetwork.pair held _ Union c.in-Union.is g.N.CidrNetwork.WIDTH (map held c.args.first.now)
    (map held c.args.second.now) _ _ _ _ c.of.ensures c.put_blocks.ensures

pub returns-in-Intersection : goal.returns-in-Intersection
returns-in-Intersection g c =
    let held = g.H.HoldsNetwork.held in
    kept g.N.CidrNetwork.pair held _ Intersection c.in-Intersection.is g.N.CidrNetwork.WIDTH (map held c.args.first.now)
    (map held c.args.second.now) _ _ _ _ c.of-in-Intersection.ensures c.put_blocks-in-Intersection.ensures

pub returns-in-Difference : goal.returns-in-Difference
returns-in-Difference g c =
    let held = g.H.HoldsNetwork.held in
    kept g.N.CidrNetwork.pair held _ Difference c.in-Difference.is g.N.CidrNetwork.WIDTH (map held c.args.first.now)
    (map held c.args.second.now) _ _ _ _ c.of-in-Difference.ensures c.put_blocks-in-Difference.ensures
