use Rattle.cidr_merge.proofs.Known.{strip_prefix_char}
use Rattle.cidr_merge.proofs.named_lists.after.Goals as goal

pub returns : goal.returns
returns c = strip_prefix_char c.args.letter c.args.text.now c.strip_prefix.result
    c.strip_prefix.ensures.cases c.requires
