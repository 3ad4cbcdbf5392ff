use Rattle.ipnetwork_addr.proofs.Known.{subst, IsCanonicalV6, made_of, canonical_v6_from}
use Rattle.ipnetwork_addr.proofs.ipv6.Ipv6Addr.canonical.Goals as goal

pub returns-clause-canonical : goal.returns-clause-canonical
returns-clause-canonical c = subst (IsCanonicalV6 c.canonical_text.result.bytes)
    (made_of _ _ c.segments.ensures.bound c.segments.ensures.segments) c.canonical_text.ensures

pub returns-clause-bytes : goal.returns-clause-bytes
returns-clause-bytes c = canonical_v6_from _ _ (returns-clause-canonical c)
