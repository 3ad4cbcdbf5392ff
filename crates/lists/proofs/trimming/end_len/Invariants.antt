use Rattle.lists.proofs.Known.{length, ◌≡◌, ◌+◌, ◌≤◌, take, suffix_len}
use Rattle.lists.proofs.trimming.end_len.Given as goal

abbrev pub invariant-loop-end : goal.invariant-loop-end
invariant-loop-end g l =
    let is_one = g.K.ByteKind.is_one in
    record {
      within : l.end ≤ length l.text;
      counted : l.end + suffix_len is_one l.text ≡ length l.text + suffix_len is_one (take l.end l.text);
    }

abbrev pub decreases-loop-end : goal.decreases-loop-end
decreases-loop-end g l = l.end
