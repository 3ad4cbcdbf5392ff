use Rattle.lists.proofs.Known.{refl, pushed}
use Rattle.lists.proofs.list_reader.ListReader.take.Goals as goal

pub returns : goal.returns
returns c =
    pushed _ c.args.self.now _ c.args.entry c.push_entry-pushed.result c.self.view_is c.requires
    c.push_entry-pushed.ensures refl refl refl refl
    c.is_err-self-inside.ensures.value
