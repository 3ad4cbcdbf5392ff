use Rattle.ipnetwork_witness.proofs.Known.{readers_agree}
use Rattle.ipnetwork_witness.proofs.laws.readers.v4_readers_agree.Goals as goal

pub returns : goal.returns
returns c =
    let shared = c.v4_texts_are_shared.ensures in λ text ours theirs read parsed.
    readers_agree _ _ _ c.v4_text_names_one.ensures shared.ours shared.theirs _ text ours theirs
    read parsed
