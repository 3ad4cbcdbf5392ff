use Rattle.lists.proofs.Known.{length, ◌-◌, ◌≡◌, ◌+◌, ◌≤◌, drop, prefix_len}
use Rattle.lists.proofs.trimming.front_len.Given as goal

abbrev pub invariant-loop-count : goal.invariant-loop-count
invariant-loop-count g l =
    let is_one = g.K.ByteKind.is_one in
    record {
      within : l.count ≤ length l.text;
      counted : prefix_len is_one l.text ≡ l.count + prefix_len is_one (drop l.count l.text);
    }

abbrev pub decreases-loop-count : goal.decreases-loop-count
decreases-loop-count g l = length l.text - l.count
