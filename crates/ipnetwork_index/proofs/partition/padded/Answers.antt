use Rattle.ipnetwork_index.proofs.Known.{map, map-append, pads}
use Rattle.ipnetwork_index.proofs.partition.padded.Goals as goal

pub returns : goal.returns
returns g c =
    let f = g.N.Number.Key.value in
    pads g.N.CidrNetwork.WIDTH (map f c.args.lasts.items) (map f c.push-3.new.self.items)
    (f c.greatest-greatest.result)
    (rw (c.in_ok-push-3.ensures.items, c.in_ok-push-2.ensures.items, c.in_ok-push.ensures.items)
    (simp map-append))
    c.requires c.greatest-greatest.ensures
