use Rattle.ipnetwork_family.proofs.Known.{same_text, format_printed}
use Rattle.ipnetwork_family.proofs.laws.values.errors_by_their_texts.Goals as goal

pub returns : goal.returns
returns c = record { same = same_text; format = format_printed }
