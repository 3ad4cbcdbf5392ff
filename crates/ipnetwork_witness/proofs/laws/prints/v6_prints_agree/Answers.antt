use Rattle.ipnetwork_witness.proofs.Known.{sym, ap, ◌∙◌, ipv6_text, v6_prints, segments_are}
use Rattle.ipnetwork_witness.proofs.laws.prints.v6_prints_agree.Goals as goal

pub returns : goal.returns
returns c ours theirs same = v6_prints c.canonical_v6_is_one_text.ensures ours same.0
    ∙ ap ipv6_text (sym (segments_are ours theirs same.1))
