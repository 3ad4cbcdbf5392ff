use Rattle.cidr_join.proofs.Known.{◌∙◌, ap, sym, arith, is_some, option_copied_mut, counts_again, counts_first, some_named, some_counted}
use Rattle.cidr_join.proofs.tally.Tally.count.Goals.{else-count-eq0-via-then-count-eq0+else-not-named, else-count-eq0-via-else-count-eq0}
use Rattle.cidr_join.proofs.tally.Tally.count.Goals as goal

pub returns-in-Some : goal.returns-in-Some
returns-in-Some c =
    let found = sym c.get_mut.ensures.value ∙ ap option_copied_mut c.in-Some.is in
    counts_again c.args.text.now c.args.self.now.counts (c.get_mut.follows.lender c.saturating_add.result) c.args.count
    c.in-Some.before.now c.saturating_add.result c.args.named
    (elim c.else-count-eq0.branch [
      | else-count-eq0-via-then-count-eq0+else-not-named w ↦ some_named c.args.count c.args.named w.if-not-named.false
      | else-count-eq0-via-else-count-eq0 w ↦ some_counted c.args.count c.args.named w.if-count-eq0.false
    ]) found c.saturating_add.ensures ((c.get_mut.follows.holds c.saturating_add.result).3 (ap is_some found))

pub returns : goal.returns
returns c =
    counts_first c.args.text.now c.in_ok-text.text c.args.self.now.counts c.insert.new.self c.args.count c.args.named
    (elim c.else-count-eq0.branch [
      | else-count-eq0-via-then-count-eq0+else-not-named w ↦ some_named c.args.count c.args.named w.if-not-named.false
      | else-count-eq0-via-else-count-eq0 w ↦ some_counted c.args.count c.args.named w.if-count-eq0.false
    ]) (omega arith) c.in_ok-text.ensures.items (sym c.get_mut.ensures.value ∙ ap option_copied_mut c.in_default.is)
    (rw c.get_mut.follows.holds-at-none at c.in_ok-insert.ensures.updates)
