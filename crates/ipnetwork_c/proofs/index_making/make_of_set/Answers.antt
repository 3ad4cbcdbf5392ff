use Rattle.ipnetwork_c.proofs.Known.{refl, On, fits_too}
use Rattle.ipnetwork_c.proofs.index_making.make_of_set.Goals as goal

pub returns : goal.returns
returns g c =
    let fit = fits_too g.H.HoldsNetwork.holds g.H.HoldsNetwork.held g.N.CidrNetwork.WIDTH g.met.H.Listed.fitting in
    On (
      fit _ (c.all_fit.ensures.0 c.if-not-all_fit.false),
      On (
        c.is_address_set.ensures.0 c.if-not-is_address_set.false,
        (refl, (c.make.ensures.size, c.make.ensures.made)),
      ),
    )
