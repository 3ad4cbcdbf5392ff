use Rattle.lines.proofs.Known.{◌+◌, arith, ◌∙◌, length-take, length-drop, Appends-kept, written_more, stopped_at, took_some}
use Rattle.lines.proofs.writing.write_whole.Goals as goal

pub returns-in-Err-clause-err : goal.returns-in-Err-clause-err
returns-in-Err-clause-err g c =
    stopped_at _ _ c.loop-at.at c.args.bytes.now (Appends-kept _ _ _ _ c.loop-at.invariant.sofar c.in-Err.ensures.bytes)

pub returns-then-count-eq0-clause-err : goal.returns-then-count-eq0-clause-err
returns-then-count-eq0-clause-err g c =
    stopped_at _ _ (c.loop-at.at + c.in-Ok.count) c.args.bytes.now
    (written_more _ _ _ c.loop-at.at c.in-Ok.count c.args.bytes.now c.loop-at.invariant.sofar c.in-Ok.ensures.bytes)

pub loop-at-preserved : goal.loop-at-preserved
loop-at-preserved g c = record {
  within = let bound = simp (length-take, length-drop) at c.in-Ok.ensures.bound in omega (arith, c.in-Ok.ensures.bound);
  sofar = written_more _ _ _ c.loop-at.at c.in-Ok.count c.args.bytes.now c.loop-at.invariant.sofar
      c.in-Ok.ensures.bytes;
  watched = c.in-Ok.ensures.failed ∙ took_some _ c.in-Ok.count _ c.if-count-eq0.false ∙ c.loop-at.invariant.watched;
}
