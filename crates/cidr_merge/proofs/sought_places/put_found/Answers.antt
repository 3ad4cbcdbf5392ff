use Rattle.cidr_merge.proofs.Known.{◌≡◌, ◌++◌, ◌∙◌, ℕ, List, ap, arith, drop, length, length-take, subst, sym, take, take-append_seam, take_rest, AreFound, AreUpTo, IpAddr, Place, is_v6, number_of, are_found}
use Rattle.cidr_merge.proofs.sought_places.put_found.Goals as goal

pub returns-clause-found : goal.returns-clause-found
returns-clause-found c =
    let put = c.put_all-total.new.buffer in
    let total = c.put_all-total.result in
    let sorted = c.sort_unstable.new.self in
    let items = c.as_slice-sorted.result.now in
    let begin = c.first_from-begin.result in
    let size : length sorted ≡ total = omega (arith, c.sort_unstable.ensures.len, length-take total put) in
    let ends = c.ends_of-first.ensures in
    subst (AreFound c.args.entry.now c.args.query.now.sought.items)
    (sym (ap (λ (k : ℕ). take k (sorted ++ drop total put)) (sym size) ∙ take-append_seam sorted (drop total put)))
    (are_found c.args.entry.now c.is_v6.result c.args.query.now.sought.items c.places_in-places.result.now items
    (take c.put_reaching-count.result c.put_reaching-count.new.buffer) c.up_to-found.result.now (take total put) sorted
    begin c.number_of-first.result c.number_of.result
    (c.is_v6.ensures ∙ ap (λ (e : IpAddr × IpAddr). is_v6 e.0) ends)
    (c.number_of-first.ensures ∙ ap (λ (e : IpAddr × IpAddr). number_of e.0) ends)
    (c.number_of.ensures ∙ ap (λ (e : IpAddr × IpAddr). number_of e.1) ends)
    c.places_in-places.ensures c.as_slice-sorted.ensures.value c.first_from-begin.ensures
    c.put_reaching-count.ensures.found
    (subst (λ (ps : List Place). AreUpTo ps c.number_of.result c.up_to-found.result.now) (take_rest items begin)
    c.up_to-found.ensures)
    c.put_all-total.ensures.put c.sort_unstable.ensures.permutation c.sort_unstable.ensures.sorted)
