use Rattle.cidr_merge.proofs.Known.{◌∙◌, ℕ, List, ap, subst, flat_map, name_at, findings_by, line_findings, said_by, TellsFound, more_so_far, none_so_far}
use Rattle.cidr_merge.proofs.checking.check_lists.Goals as goal

pub loop-line-init : goal.loop-line-init
loop-line-init g c =
    let names = c.args.lists.now.names.now in record {
      names = c.of-lines.ensures.names;
      told = none_so_far _ _ c.args.output.now
          (ap (flat_map (line_findings c.args.lists.now.rules c.args.strictly names)) c.of-lines.ensures.lines);
    }

pub loop-line-preserved : goal.loop-line-preserved
loop-line-preserved g c =
    let names = c.args.lists.now.names.now in
    let line = c.in-Some.line in
    let name = c.in-Some.ensures.named
    ∙ ap (λ ns. name_at ns line.list) c.loop-line.invariant.names in
    let told = subst (λ (n : List ℕ). TellsFound (findings_by c.args.strictly n line.number
    line.text.now (said_by c.args.lists.now.rules line.text.now)) c.loop-line.output c.check_line-more.new.output
    c.check_line-more.result) name c.check_line-more.ensures in record {
      names = c.next.ensures.names ∙ c.loop-line.invariant.names;
      told = more_so_far _ _ _ _ c.args.output.now c.loop-line.output c.check_line-more.new.output
          c.loop-line.found c.check_line-more.result c.either-found.result
          c.loop-line.invariant.told
          (ap (flat_map (line_findings c.args.lists.now.rules c.args.strictly names)) c.in-Some.ensures.line) told
          c.either-found.ensures;
    }
