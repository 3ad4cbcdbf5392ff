use Rattle.ipnetwork_addr.proofs.Known.{MatchOption, subst, arith, List, ℕ, IsOctet, IsNoOctet, all_of, no_octet_of_none, no_octet_of_four}
use Rattle.ipnetwork_addr.proofs.octet.read_octet.Goals.{then-count-lt2-via-then-count-lt2, then-count-lt2-via-else-count-lt2+then-count-gt3}
use Rattle.ipnetwork_addr.proofs.octet.read_octet.Goals as goal

pub returns-then-count-lt2 : goal.returns-then-count-lt2
returns-then-count-lt2 c = elim c.then-count-lt2.branch [
  | then-count-lt2-via-then-count-lt2 w ↦ no_octet_of_none _ (omega (arith, w.if-count-lt2))
  | then-count-lt2-via-else-count-lt2+then-count-gt3 w ↦ no_octet_of_four _ (omega (arith, w.if-count-gt3))
]

pub returns : goal.returns
returns c =
    subst (λ (text : List ℕ). MatchOption c.octet_of_several.result (IsNoOctet text) (IsOctet text))
    (all_of c.args.text.now (omega arith) (omega arith)) c.octet_of_several.ensures
