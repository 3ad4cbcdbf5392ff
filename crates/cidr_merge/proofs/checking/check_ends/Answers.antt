use Rattle.cidr_merge.proofs.Known.{◌∙◌, List, ℕ, ap, arith, subst, sym, string_bytes, TellsFound, end_findings, ends_next, more_so_far, none_so_far, refl}
use Rattle.cidr_merge.proofs.checking.check_ends.Goals as goal

pub loop-at-init : goal.loop-at-init
loop-at-init g c = none_so_far _ _ c.args.output.now refl

pub loop-at-preserved : goal.loop-at-preserved
loop-at-preserved g c =
    let rules = c.args.lists.now.rules in
    let text = c.index-lists-at.result in
    let name = c.index-lists-at-in-loop-at.result in
    let more = c.check_end-more in
    let of_name : TellsFound (end_findings rules (string_bytes name) c.as_slice-text.result.now) c.loop-at.output
    more.new.output more.result = subst (λ (n : List ℕ). TellsFound (end_findings rules n c.as_slice-text.result.now)
    c.loop-at.output more.new.output more.result)
    (c.as_str.ensures.value ∙ ap string_bytes (sym c.index-lists-at-in-loop-at.is)) more.ensures in
    let of_text : TellsFound (end_findings rules (string_bytes name) text.items) c.loop-at.output more.new.output
    more.result = subst (λ (t : List ℕ). TellsFound (end_findings rules (string_bytes name) t) c.loop-at.output
    more.new.output more.result) (c.as_slice-text.ensures.value ∙ ap (λ v. v.items) (sym c.index-lists-at.is)) of_name in
    more_so_far _ _ (end_findings rules (string_bytes name) text.items) _ c.args.output.now c.loop-at.output
    more.new.output c.loop-at.found more.result c.either-found.result c.loop-at.invariant
    (ends_next rules (λ text. text.items) c.args.lists.now.names.now c.args.lists.now.texts.now c.loop-at.at name text
    (omega arith) (omega arith) c.index-lists-at-in-loop-at.is c.index-lists-at.is)
    of_text c.either-found.ensures
