use Rattle.ipnetwork_c.proofs.Known.{ℕ, ◌<◌, map, IsRow}
use Rattle.ipnetwork_c.proofs.table_making.put_rows.Given as goal

abbrev pub invariant-loop-row : goal.invariant-loop-row
invariant-loop-row g l = (k : ℕ) → k < l.row
    → IsRow g.N.CidrNetwork.WIDTH (map g.H.HoldsNetwork.held l.networks) l.places (map g.H.HoldsNetwork.held l.blocks) k
