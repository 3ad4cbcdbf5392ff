use Rattle.ipnetwork_c.proofs.Known.{subst, sym, take_rest, Suffixed, NamesV6Network, cut_at}
use Rattle.ipnetwork_c.proofs.either.v6_before_two_digits.Goals as goal

pub returns-in-Some : goal.returns-in-Some
returns-in-Some c =
    subst (NamesV6Network c.args.text.now) (sym c.in-Some.ensures.1)
    (Suffixed _ _ (rw take_rest (cut_at c.args.text.now _ c.in_ok-at.ensures.0 c.in_ok-at.ensures.1)) c.in-Ok.ensures
    c.in_ok-prefix.ensures.1)
