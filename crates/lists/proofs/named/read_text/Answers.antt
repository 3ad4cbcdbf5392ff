use Rattle.lists.proofs.Known.{refl, sym, ◌∙◌}
use Rattle.lists.proofs.named.read_text.Goals as goal

pub returns-then-is_out_of_memory-clause-stopped : goal.returns-then-is_out_of_memory-clause-stopped
returns-then-is_out_of_memory-clause-stopped c =
    (c.take_text.new.lists, c.take_text.ensures, sym c.is_out_of_memory.ensures ∙ c.if-is_out_of_memory.true, refl)
