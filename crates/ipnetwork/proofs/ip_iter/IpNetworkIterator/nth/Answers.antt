use Rattle.std.proofs.Common.{◌+◌, ◌∙◌}
use Rattle.ipnetwork_addr.specs.declared.ip.IpAddr.TheVariants as addresses
use Rattle.ipnetwork.proofs.Passed.{left_after, one_after}
use Rattle.ipnetwork.proofs.ip_iter.IpNetworkIterator.nth.Goals as goal
use Rattle.ipnetwork.proofs.ip_iter.IpNetworkIterator.nth.Goals.{in-V4+in_ok-nth-in-V4, in-V6+in_ok-nth-in-V6}

pub returns-in_err-nth-in-V4-clause-left : goal.returns-in_err-nth-in-V4-clause-left
returns-in_err-nth-in-V4-clause-left c =
    rw (← c.self.view_is, c.in-V4.is) (left_after addresses.V4 (c.args.n + 1) _ _ c.nth.ensures.left)

pub returns-in_err-nth-in-V6-clause-item : goal.returns-in_err-nth-in-V6-clause-item
returns-in_err-nth-in-V6-clause-item c =
    rw (← c.self.view_is, c.in-V6.is)
    (c.from_residual-in_err-nth-in-V6.ensures ∙ one_after addresses.V6 c.args.n _ _ c.in_err-nth-in-V6.ensures.item)

pub returns-in_err-nth-in-V6-clause-left : goal.returns-in_err-nth-in-V6-clause-left
returns-in_err-nth-in-V6-clause-left c =
    rw (← c.self.view_is, c.in-V6.is) (left_after addresses.V6 (c.args.n + 1) _ _ c.nth-in-V6.ensures.left)

pub returns-clause-item : goal.returns-clause-item
returns-clause-item c =
    elim c.match-self.branch [
      | in-V4+in_ok-nth-in-V4 w ↦ rw (w.result-is, ← c.self.view_is, w.in-V4.is)
          (one_after addresses.V4 c.args.n _ _ w.in_ok-nth-in-V4.ensures.item)
      | in-V6+in_ok-nth-in-V6 w ↦ rw (w.result-is, ← c.self.view_is, w.in-V6.is)
          (one_after addresses.V6 c.args.n _ _ w.in_ok-nth-in-V6.ensures.item)
    ]

pub returns-clause-left : goal.returns-clause-left
returns-clause-left c =
    elim c.match-self.branch [
      | in-V4+in_ok-nth-in-V4 w ↦ rw (w.self-inside-is, ← c.self.view_is, w.in-V4.is)
          (left_after addresses.V4 (c.args.n + 1) _ _ w.nth.ensures.left)
      | in-V6+in_ok-nth-in-V6 w ↦ rw (w.self-inside-is, ← c.self.view_is, w.in-V6.is)
          (left_after addresses.V6 (c.args.n + 1) _ _ w.nth-in-V6.ensures.left)
    ]
