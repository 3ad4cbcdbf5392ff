use Rattle.line_addresses.proofs.Known.{sym, ◌∙◌, whole, marked, no_mark}
use Rattle.line_addresses.proofs.StretchNetworks.{no_rest}
use Rattle.line_addresses.proofs.network.network_begun_by.Goals as goal
use Rattle.line_addresses.proofs.network.network_begun_by.Goals.{then-ends_with_mark+in_default-named_network, else-ends_with_mark}

pub returns-in-Some : goal.returns-in-Some
returns-in-Some c = whole c.args.stretch.now c.in-Some.address (sym c.named_network.ensures ∙ c.in-Some.is)

pub returns-in-Some-named_network : goal.returns-in-Some-named_network
returns-in-Some-named_network c =
    marked c.args.stretch.now c.in-Some-named_network.address
    (sym c.named_network.ensures ∙ c.in_default.is)
    (sym c.ends_with_mark.ensures ∙ c.if-ends_with_mark.true) (sym c.named_network-then-ends_with_mark.ensures
    ∙ c.in-Some-named_network.is)

pub returns : goal.returns
returns c =
    let stretch = c.args.stretch.now in
    let none = sym c.named_network.ensures ∙ c.in_default.is in
    elim c.if-ends_with_mark.branch [
      | then-ends_with_mark+in_default-named_network w ↦ no_rest stretch none
          (sym w.named_network-then-ends_with_mark.ensures ∙ w.in_default-named_network.is)
      | else-ends_with_mark w ↦ no_mark stretch none (sym c.ends_with_mark.ensures ∙ w.if-ends_with_mark.false)
    ]
