use Rattle.lists.proofs.Known.{◌==◌, ◌∙◌, ap, before_first, before_either}
use Rattle.lists.proofs.comment.without_comment.Goals as goal

pub returns : goal.returns
returns c =
    c.before-3.ensures ∙ ap (before_first (λ other. other == 59)) c.before-2.ensures ∙ before_either c.args.line.now
