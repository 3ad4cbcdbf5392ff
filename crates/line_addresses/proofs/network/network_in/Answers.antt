use Rattle.line_addresses.proofs.Known.{sym, ◌∙◌, take_rest, network_begun_by, at_rest, at_start, none_at_rest, none_without, network_begins, network_begins_behind, no_network_begins}
use Rattle.line_addresses.proofs.network.network_in.Goals as goal

pub returns-then-not-has_slash : goal.returns-then-not-has_slash
returns-then-not-has_slash c = none_without c.args.stretch.now (sym c.has_slash.ensures ∙ c.if-not-has_slash.true)

pub returns-in-Some : goal.returns-in-Some
returns-in-Some c =
    network_begins c.args.stretch.now (sym c.has_slash.ensures ∙ c.if-not-has_slash.false) _
    (at_start _ c.args.stretch.now c.in-Some.address c.in-Some.size _ c.in-Some.ensures)

pub returns-in-Some-network_begun_by : goal.returns-in-Some-network_begun_by
returns-in-Some-network_begun_by c =
    let rest = c.behind_word-start in
    network_begins_behind c.args.stretch.now (sym c.has_slash.ensures ∙ c.if-not-has_slash.false) _
    c.in_default.ensures (at_rest network_begun_by c.args.stretch.now _ rest.result rest.ensures.within
    (take_rest c.args.stretch.now rest.result) rest.ensures.rest c.in-Some-network_begun_by.address
    c.in-Some-network_begun_by.size _ c.in-Some-network_begun_by.ensures)

pub returns-in-None : goal.returns-in-None
returns-in-None c =
    let rest = c.behind_word-start in
    no_network_begins c.args.stretch.now (sym c.has_slash.ensures ∙ c.if-not-has_slash.false) c.in_default.ensures
    ∙ none_at_rest network_begun_by c.args.stretch.now _ rest.result rest.ensures.within
    (take_rest c.args.stretch.now rest.result) rest.ensures.rest c.in-None.ensures
