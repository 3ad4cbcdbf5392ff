use Rattle.byte_search.proofs.Known.{eqb, arith, w8, bitmask_splat, length-chunk}
use Rattle.byte_search.proofs.marks_of.Goals as goal
use lib.Lanes.{chunk}

pub returns : goal.returns
returns g c =
    let bytes = chunk c.args.at g.row.N c.args.text.now in
    bitmask_splat w8 eqb bytes g.row.N c.args.byte (length-chunk c.args.at g.row.N c.args.text.now c.requires.within)
    (omega (arith, c.requires.few))
