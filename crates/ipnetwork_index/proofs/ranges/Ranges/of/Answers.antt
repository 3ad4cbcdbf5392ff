use Rattle.ipnetwork_index.proofs.Known.{List, ℕ, map, by_pair, answered, entries_listed}
use Rattle.ipnetwork_index.proofs.ranges.Ranges.of.Goals as goal

pub answers_of-requires-clause-listed : goal.answers_of-requires-clause-listed
answers_of-requires-clause-listed g c =
    entries_listed g.N.CidrNetwork.WIDTH c.requires.0
    (by_pair g.N.CidrNetwork.pair c.args.entries.now) c.requires.1.blocks c.listing.ensures.stored
    c.listing.ensures.ascending c.requires.1.own

pub answers_of-requires-clause-partition : goal.answers_of-requires-clause-partition
answers_of-requires-clause-partition g c =
    rw c.as_slice.ensures.value (c.in_ok-lasts.ensures c.requires.0 c.requires.1.own).partition

pub new-requires : goal.new-requires
new-requires g c =
    rw c.as_slice-2.ensures.value (c.in_ok-lasts.ensures c.requires.0 c.requires.1.own).partition

pub returns : goal.returns
returns g c = λ t h.
    let lasts : List ℕ = map g.N.CidrNetwork.number c.in_ok-lasts.lasts.items in
    record {
      lasts = lasts;
      placed = rw c.as_slice-2.ensures.value at c.in_ok-places.ensures;
      answered = answered g.N.CidrNetwork.WIDTH t lasts c.in_ok-answers.answers.prefixes.items
          c.in_ok-answers.answers.values.items h.blocks (c.in_ok-lasts.ensures t h.own)
          ((rw c.as_slice.ensures.value at c.in_ok-answers.ensures) t h.blocks h.own);
    }
