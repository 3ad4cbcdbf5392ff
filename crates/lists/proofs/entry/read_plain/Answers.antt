use Rattle.lists.proofs.Known.{◌+◌, take, subst, ReadsRange, range_read, network_read, rest_of}
use Rattle.lists.proofs.entry.read_plain.Goals as goal

pub returns-in-Some : goal.returns-in-Some
returns-in-Some c =
    let text = c.args.text.now in
    range_read c.ip_text_names_one.ensures text c.in-Some.at c.in-Some.ensures c.read_range.result
    (subst (λ rest. ReadsRange (take c.in-Some.at text) rest c.read_range.result) (rest_of text (c.in-Some.at + 1))
    c.read_range.ensures)

pub returns-in-None : goal.returns-in-None
returns-in-None c = network_read c.args.text.now c.in-None.ensures c.read_network.result c.read_network.ensures
