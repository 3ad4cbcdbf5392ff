use Rattle.lists.proofs.Known.{network_texts, v4_texts, v6_texts}
use Rattle.lists.proofs.laws.network_texts_are_entries.Goals as goal

pub returns : goal.returns
returns c = network_texts (v4_texts c.v4_text_bytes.ensures c.v4_text_is_computed.ensures)
    (v6_texts c.v6_text_bytes.ensures c.v6_text_is_computed.ensures)
