use Rattle.cidr_merge.proofs.Known.{◌∙◌, ℕ, List, ap, map, subst, flat_map, list_any, name_at, is_refused, line_matches, matches_by, numbered_lines, said_by, sought_in, TellsFound, any_more, more_so_far, none_so_far}
use Rattle.cidr_merge.proofs.searching.search_lists.Goals as goal

pub loop-line-init : goal.loop-line-init
loop-line-init g c =
    let names = c.args.lists.now.names.now in record {
      names = c.of-lines.ensures.names;
      printed = none_so_far _ _ c.args.output.now
          (ap (flat_map (line_matches c.args.lists.now.rules (sought_in c.args.query.now) names)) c.of-lines.ensures.lines);
      told = ap (list_any (is_refused c.args.lists.now.rules)) c.of-lines.ensures.lines;
    }

pub loop-line-preserved : goal.loop-line-preserved
loop-line-preserved g c =
    let names = c.args.lists.now.names.now in
    let sought = sought_in c.args.query.now in
    let line = c.in-Some.line in
    let more = c.search_line-more in
    let name = c.in-Some.ensures.named
    ∙ ap (λ ns. name_at ns line.list) c.loop-line.invariant.names in
    let printed = subst (λ (n : List ℕ). TellsFound (matches_by sought n line.number line.text.now
    (said_by c.args.lists.now.rules line.text.now)) c.loop-line.output more.new.output more.result.printed) name
    more.ensures.printed in record {
      names = c.next.ensures.names ∙ c.loop-line.invariant.names;
      printed = more_so_far _ _ _ _ c.args.output.now c.loop-line.output more.new.output
          c.loop-line.printed more.result.printed c.either-printed.result
          c.loop-line.invariant.printed
          (ap (flat_map (line_matches c.args.lists.now.rules sought names)) c.in-Some.ensures.line) printed
          c.either-printed.ensures;
      told = any_more (is_refused c.args.lists.now.rules) (numbered_lines 0 (map (λ text. text.items) c.args.lists.now.texts.now)) _ _ _
          c.loop-line.told more.result.told c.either-told.result
          c.loop-line.invariant.told c.in-Some.ensures.line more.ensures.told c.either-told.ensures;
    }
