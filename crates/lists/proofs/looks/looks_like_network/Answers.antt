use Rattle.lists.proofs.Known.{◌∙◌, ap, before_first, is_slash, looks_like_address}
use Rattle.lists.proofs.looks.looks_like_network.Goals as goal

pub returns : goal.returns
returns c =
    c.looks_like_address.ensures
    ∙ ap looks_like_address (c.before-2.ensures ∙ ap (before_first is_slash) c.trim.ensures)
