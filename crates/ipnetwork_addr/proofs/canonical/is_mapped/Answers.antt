use Rattle.ipnetwork_addr.proofs.Known.{other_front, mapped_groups}
use Rattle.ipnetwork_addr.proofs.canonical.is_mapped.Goals as goal

pub returns-then-half-ne0 : goal.returns-then-half-ne0
returns-then-half-ne0 c = other_front c.args.groups.now _ (record { eight = c.told-groups; each = c.fits-groups })
    c.half.ensures c.if-half-ne0.true

pub returns : goal.returns
returns c =
    mapped_groups c.args.groups.now _ _ _ (record { eight = c.told-groups; each = c.fits-groups }) c.half.ensures
    c.if-half-ne0.false c.from.ensures c.from-2.ensures
