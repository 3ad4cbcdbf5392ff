use Rattle.ipnetwork_index.proofs.Known.{ℕ, ◌<◌, length, arith, slice_get_within, by_pair, few_open, room_for_next, entries_length, opens_next}
use Rattle.ipnetwork_index.proofs.sweep.open_up_to.Goals as goal

pub push-requires : goal.push-requires
push-requires g c =
    let w : ℕ = g.N.CidrNetwork.WIDTH in
    let x : ℕ = g.N.CidrNetwork.number c.args.addr in
    let opened = c.close_before.new.opened.items in
    let room : length opened < 129
    = room_for_next w (by_pair g.N.CidrNetwork.pair c.args.entries.now) c.opening.at x opened
    c.requires.listed
    (opens_next g.N.CidrNetwork.pair w c.args.entries.now c.opening.at x
    (g.N.CidrNetwork.number c.network-first.result) (g.N.Number.Key.value c.number_of.result)
    (g.N.Number.Key.value c.number_of-in-opening.result) c.is_less.result
    c.opening.opened.items opened c.index-entries-at.result c.requires.listed
    c.opening.invariant c.close_before.ensures.kept c.close_before.ensures.last
    c.opening-test.true c.index-entries-at.is c.network-first.ensures c.is_less.ensures
    c.if-is_less.false c.number_of.ensures.number c.number_of-in-opening.ensures.number)
    g.met.N.AddressSpace.few_bits in
    (omega arith, room)

pub opening-preserved : goal.opening-preserved
opening-preserved g c =
    rw c.push.ensures.items
    (opens_next g.N.CidrNetwork.pair g.N.CidrNetwork.WIDTH c.args.entries.now c.opening.at
    (g.N.CidrNetwork.number c.args.addr) (g.N.CidrNetwork.number c.network-first.result)
    (g.N.Number.Key.value c.number_of.result)
    (g.N.Number.Key.value c.number_of-in-opening.result) c.is_less.result
    c.opening.opened.items c.close_before.new.opened.items c.index-entries-at.result
    c.requires.listed c.opening.invariant c.close_before.ensures.kept
    c.close_before.ensures.last c.opening-test.true c.index-entries-at.is
    c.network-first.ensures c.is_less.ensures c.if-is_less.false c.number_of.ensures.number
    c.number_of-in-opening.ensures.number)

pub returns-then-is_less-clause-few : goal.returns-then-is_less-clause-few
returns-then-is_less-clause-few g c =
    few_open g.N.CidrNetwork.WIDTH (by_pair g.N.CidrNetwork.pair c.args.entries.now) c.opening.at
    (g.N.CidrNetwork.number c.args.addr) c.opening.opened.items c.requires.listed
    c.opening.invariant

pub returns-clause-few : goal.returns-clause-few
returns-clause-few g c =
    few_open g.N.CidrNetwork.WIDTH (by_pair g.N.CidrNetwork.pair c.args.entries.now) c.opening.at
    (g.N.CidrNetwork.number c.args.addr) c.opening.opened.items c.requires.listed
    c.opening.invariant

pub returns-clause-all : goal.returns-clause-all
returns-clause-all g c = λ e f.
    let pair = g.N.CidrNetwork.pair in
    let own = slice_get_within (by_pair pair c.args.entries.now) c.opening.at e f in
    absurd (omega (arith, own, c.opening-test.false, entries_length pair c.args.entries.now))
