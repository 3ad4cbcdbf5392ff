use Rattle.cidr_join.proofs.Known.{refl, text_counted}
use Rattle.cidr_join.proofs.counts.Counts.count_text.Goals as goal

pub returns : goal.returns
returns c = text_counted c.count.result c.args.self.now _ c.args.text.now refl c.count.ensures
