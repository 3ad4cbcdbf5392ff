use Rattle.cidr_join.proofs.Known.{◌≡◌, ℕ, ap, sym, FinMap, Network, network_cmp, HasOnlyBlocks, found_by_pair, FindsOver, AnswersOver, number_or_none}
use Rattle.std.proofs.Common.{Option, None, Some}
use Rattle.cidr_join.proofs.value_ids.number_in.Goals as goal

module _ {N : Type 0} (pair : N → Network) (w : ℕ) (index : FinMap network_cmp ℕ) (a : Network) where
  by_what_it_means : (found : Option (N × ℕ)) → FindsOver pair w index a found
      → AnswersOver w index a (found_by_pair pair found)
  by_what_it_means None finds = finds
  by_what_it_means (Some found) finds = finds

  -- the number that a lookup found, with its network as the pair that contracts see
  number_is : (found : Option (N × ℕ)) (number : ℕ) → FindsOver pair w index a found → HasOnlyBlocks w index
      → number_or_none (found_by_pair pair found) ≡ number → (told : Option (Network × ℕ)) × AnswersOver w index a told
      × HasOnlyBlocks w index × (number ≡ number_or_none told)
  number_is found number finds blocks is = (found_by_pair pair found, by_what_it_means found finds, blocks, sym is)

pub returns-in-Some : goal.returns-in-Some
returns-in-Some g c = number_is g.N.CidrNetwork.pair g.N.CidrNetwork.WIDTH c.args.index.now
    (g.N.CidrNetwork.pair c.args.asked) c.longest_over.result _ c.longest_over.ensures.answer
    c.longest_over.ensures.blocks (ap (λ o. number_or_none (found_by_pair g.N.CidrNetwork.pair o)) c.in-Some.is)

pub returns-in-None : goal.returns-in-None
returns-in-None g c = number_is g.N.CidrNetwork.pair g.N.CidrNetwork.WIDTH c.args.index.now
    (g.N.CidrNetwork.pair c.args.asked) c.longest_over.result _ c.longest_over.ensures.answer
    c.longest_over.ensures.blocks (ap (λ o. number_or_none (found_by_pair g.N.CidrNetwork.pair o)) c.in-None.is)
