use Rattle.lists.proofs.Known.{◌∙◌, sym, told_cut, told_whole}
use Rattle.lists.proofs.read.read_list.Goals as goal

pub returns-in-Ok-clause-stopped : goal.returns-in-Ok-clause-stopped
returns-in-Ok-clause-stopped g c = (
  sym c.wants_whole_lists-wants_whole.ensures ∙ c.if-wants_whole.true,
  λ input e. (
    told_cut c.in-Ok.ends _ input c.if-not-ends.true (c.in-Ok.ensures.ends input e),
    c.in-Ok.ensures.taken input e,
  ),
)

pub returns-in-Ok-2-clause-whole : goal.returns-in-Ok-2-clause-whole
returns-in-Ok-2-clause-whole g c =
    λ wants works input e. told_whole c.in-Ok.ends _ input c.if-not-ends.false (c.in-Ok.ensures.ends input e) works
