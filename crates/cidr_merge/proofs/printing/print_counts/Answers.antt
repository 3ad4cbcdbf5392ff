use Rattle.cidr_merge.proofs.Known.{rules, ◌++◌, count_line, sign_of, First, Second, fails_first, puts_two, count_lines, counts_of_both, counts_of_one}
use Rattle.std.proofs.Common.{codes}
use Rattle.cidr_merge.proofs.printing.print_counts.Goals as goal

pub returns-in_err-put_counts-in-Differ : goal.returns-in_err-put_counts-in-Differ
returns-in_err-put_counts-in-Differ g c =
    let m = c.args.merging.now in
    let operation = m.request.operation in
    let one = count_line (sign_of operation First ++ codes "v4 ") c.counts_of-firsts.result.0.bytes
    ++ count_line (sign_of operation First ++ codes "v6 ") c.counts_of-firsts.result.1.bytes in
    let other = count_line (sign_of operation Second ++ codes "v4 ") c.counts_of-seconds.result.0.bytes
    ++ count_line (sign_of operation Second ++ codes "v6 ") c.counts_of-seconds.result.1.bytes in (
      one ++ other,
      counts_of_both operation c.in-Differ.is m.first.now m.second.now one other
          (count_lines (sign_of operation First) _ _ _ _ c.counts_of-firsts.ensures.v4 c.counts_of-firsts.ensures.v6)
          (count_lines (sign_of operation Second) _ _ _ _ c.counts_of-seconds.ensures.v4
          c.counts_of-seconds.ensures.v6),
      fails_first _ c.args.output.now c.put_counts.new.output one other (search rules)
          c.in_err-put_counts-in-Differ.ensures.failed
          (rw c.sign_of-sign.ensures at c.in_err-put_counts-in-Differ.ensures.beginning),
    )

pub returns-in_ok-put_counts-in-Differ : goal.returns-in_ok-put_counts-in-Differ
returns-in_ok-put_counts-in-Differ g c =
    let m = c.args.merging.now in
    let operation = m.request.operation in
    let one = count_line (sign_of operation First ++ codes "v4 ") c.counts_of-firsts.result.0.bytes
    ++ count_line (sign_of operation First ++ codes "v6 ") c.counts_of-firsts.result.1.bytes in
    let other = count_line (sign_of operation Second ++ codes "v4 ") c.counts_of-seconds.result.0.bytes
    ++ count_line (sign_of operation Second ++ codes "v6 ") c.counts_of-seconds.result.1.bytes in (
      one ++ other,
      counts_of_both operation c.in-Differ.is m.first.now m.second.now one other
          (count_lines (sign_of operation First) _ _ _ _ c.counts_of-firsts.ensures.v4 c.counts_of-firsts.ensures.v6)
          (count_lines (sign_of operation Second) _ _ _ _ c.counts_of-seconds.ensures.v4
          c.counts_of-seconds.ensures.v6),
      puts_two c.put_counts-in-Differ.result c.args.output.now c.put_counts.new.output c.put_counts-in-Differ.new.output
          one other (rw c.sign_of-sign.ensures at c.in_ok-put_counts-in-Differ.ensures.ok)
          c.in_ok-put_counts-in-Differ.ensures.failed (rw c.sign_of.ensures at c.put_counts-in-Differ.ensures),
    )

pub returns-in_default : goal.returns-in_default
returns-in_default g c =
    let m = c.args.merging.now in
    let operation = m.request.operation in
    let one = count_line (sign_of operation First ++ codes "v4 ") c.counts_of-firsts.result.0.bytes
    ++ count_line (sign_of operation First ++ codes "v6 ") c.counts_of-firsts.result.1.bytes in (
      one,
      counts_of_one operation c.in_default.not-Differ m.first.now m.second.now one
          (count_lines (sign_of operation First) _ _ _ _ c.counts_of-firsts.ensures.v4 c.counts_of-firsts.ensures.v6),
      rw c.sign_of-sign.ensures at c.put_counts-in_default.ensures,
    )
