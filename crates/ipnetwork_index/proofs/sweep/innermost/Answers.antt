use Rattle.ipnetwork_index.proofs.Known.{◌≡◌, ℕ, ◌-◌, Some, length, sym, ◌∙◌, slice_get, by_pair, entry_read, innermost_is, top_within}
use Rattle.ipnetwork_index.proofs.sweep.innermost.Goals as goal

pub returns-in-Some : goal.returns-in-Some
returns-in-Some g c =
    let pair = g.N.CidrNetwork.pair in
    let opened = c.args.opened.now in
    let place : ℕ = c.in-Some.place in
    let e = c.index-entries-place.result in
    let top : slice_get opened (length opened - 1) ≡ Some place
    = sym c.last.ensures.value ∙ sym c.copied.ensures ∙ c.in-Some.is in
    let own = top_within pair c.args.entries.now opened place c.requires.places top in
    let read = entry_read pair c.args.entries.now place e own c.index-entries-place.is in
    innermost_is (by_pair pair c.args.entries.now) opened place c.prefix.result (pair e.0) e.1 top
    read c.prefix.ensures.made
