-- What `find` answers, computed from the entries of a table.
use Rattle.cidr.proofs.Words.{◌≡◌, ℕ, List, ap, refl, ◌∙◌, entries, IpAddr, AnswerIsComputed, AnswerIsOne, longest_of, V4, V6, find_answer, of_family, found_text, Finds, Routes}
use Rattle.ipnetwork_addr.specs.declared.ip.IpAddr.TheVariants as addresses
use Rattle.cidr.proofs.Keys.{HasClearKeys}

module _ (computed : AnswerIsComputed ℕ) where
  -- a lookup finds the longest entry that contains the address
  pub find_some : (r : Routes) (a : IpAddr) → Finds r a (find_answer r a)
  find_some r (addresses.V4 a) =
      let block = longest_of 32 a (entries r.v4) in (of_family V4 block, (block, computed 32 r.v4 a, refl), refl)
  find_some r (addresses.V6 a) =
      let block = longest_of 128 a (entries r.v6) in (of_family V6 block, (block, computed 128 r.v6 a, refl), refl)

  -- a lookup finds nothing else
  pub find_one : AnswerIsOne ℕ → (r : Routes) (a : IpAddr) (x : List ℕ) → HasClearKeys r → Finds r a x
      → x ≡ find_answer r a
  find_one one r (addresses.V4 a) x keys finds =
      let found = finds.1 in finds.2
      ∙ ap found_text (found.2 ∙ ap (of_family V4) (one 32 r.v4 a found.0 _ keys.0 found.1 (computed 32 r.v4 a)))
  find_one one r (addresses.V6 a) x keys finds =
      let found = finds.1 in finds.2
      ∙ ap found_text (found.2 ∙ ap (of_family V6) (one 128 r.v6 a found.0 _ keys.1 found.1 (computed 128 r.v6 a)))
