use Rattle.cidr_join.proofs.Known.{[], refl, arith, line_more, line_stops, all_taken, last_stops}
use Rattle.cidr_join.proofs.list.take_list.Goals as goal

pub lines-init : goal.lines-init
lines-init g c = record {
  within = omega arith;
  few = omega arith;
  taken = ([], refl, λ others end h. h);
}

pub lines-preserved : goal.lines-preserved
lines-preserved g c = record {
  within = omega (arith, c.in-Some.ensures.within);
  few = omega (arith, c.lines.invariant.few, c.in-Some.ensures.behind, c.take_next.ensures.lines);
  taken = line_more c.args.rules c.args.text.now c.lines.at c.args.listing.now.networks c.lines.listing.networks
      c.lines.invariant.taken
      c.in-Some.end c.in-Some.ensures c.take_next.new.listing.networks c.in_default-take_next.ensures.ok;
}

pub returns-in-Err-clause-err : goal.returns-in-Err-clause-err
returns-in-Err-clause-err g c =
    line_stops c.args.rules c.args.text.now c.lines.at c.args.listing.now.networks c.lines.listing.networks
    c.lines.invariant.taken
    c.in-Some.end c.in-Some.ensures c.in-Err.fault.fault c.in-Err.ensures.err

pub returns-clause-ok : goal.returns-clause-ok
returns-clause-ok g c =
    all_taken c.args.rules c.args.text.now c.lines.at c.args.listing.now.networks c.lines.listing.networks
    c.lines.invariant.taken
    c.in_default.ensures c.take_next-2.result c.take_next-2.new.listing.networks c.take_next-2.ensures.ok

pub returns-clause-err : goal.returns-clause-err
returns-clause-err g c =
    last_stops c.args.rules c.args.text.now c.lines.at c.args.listing.now.networks c.lines.listing.networks
    c.lines.invariant.taken
    c.in_default.ensures c.take_next-2.result c.take_next-2.ensures.err
