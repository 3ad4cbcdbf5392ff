use Rattle.ipnetwork_witness.proofs.Known.{sym, ap, ◌∙◌, ipv4_text, v4_prints, octets_are}
use Rattle.ipnetwork_witness.proofs.laws.prints.v4_prints_agree.Goals as goal

pub returns : goal.returns
returns c ours theirs same = v4_prints ours ∙ ap ipv4_text (sym (octets_are ours theirs same.1))
