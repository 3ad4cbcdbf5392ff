use Rattle.cidr_merge.proofs.Known.{◌+◌, arith, refl, line_more}
use Rattle.cidr_merge.proofs.checking.end_line.Goals as goal

pub loop-line-preserved : goal.loop-line-preserved
loop-line-preserved c = record {
  fits = omega (arith, c.in-Some.ensures.less);
  so_far = line_more c.args.text.now c.loop-line.lines.text.now c.next.new.self.text.now c.loop-line.last.now
      c.in-Some.line.now c.loop-line.number (c.loop-line.number + 1) c.loop-line.invariant.so_far
      c.in-Some.ensures.line refl;
}
