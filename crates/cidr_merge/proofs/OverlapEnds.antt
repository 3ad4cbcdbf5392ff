-- How a run ends that prints the findings for entries in order.
use Rattle.cidr_merge.proofs.Words.{◌≡◌, ◌||◌, ◌∙◌, ℕ, Bool, List, ◌++◌, ap, inr, map, if◌then◌else◌, Result, OnOk, OnErr, IsTrue, IsFalse, AppendsBeginning, is_err, String, Appends, Written, RunFault, status_of, lists_findings, ends_if, EndsOrdered, findings_status, Rules, IsInOrder, lists_entries, listed_as, TellsFound, found_among, Placed}
use Rattle.cidr_merge.proofs.Found.{tells_both}
use Rattle.cidr_merge.proofs.Inspected.{all_written, status_is}

pub ordered_ended : {Z W T : Type 0} (strictly : Bool) (rules : Rules) (names : List (String Z)) (texts : List (List ℕ))
    (entries held : List Placed) → held ≡ entries → (old before between mid new : Written W) (written : Result T RunFault)
    (wrong cut more rest found : Bool) (status result : ℕ) → IsInOrder (lists_entries rules texts) (map listed_as entries)
    → TellsFound (lists_findings rules strictly names texts) old before wrong
    → TellsFound (ends_if strictly rules names texts) before between cut
    → TellsFound (found_among strictly names (map listed_as held)) between mid more
    → rest ≡ (cut || more) → found ≡ (wrong || rest) → status ≡ (if found then 1 else 0)
    → OnOk written (Appends mid.holds new.holds mid.waits)
    → OnErr written (AppendsBeginning mid.holds new.holds mid.waits) → OnOk written (IsFalse new.failed)
    → new.failed ≡ (mid.failed || is_err written) → (IsTrue mid.failed → new ≡ mid) → result ≡ status_of written status
    → EndsOrdered strictly rules names texts old new result
ordered_ended strictly rules names texts entries held same old before between mid new written wrong cut more rest found status
    result e h f k r b s wrote begins works failed stays is =
    let all = lists_findings rules strictly names texts in
    let ends = ends_if strictly rules names texts in
    let own = found_among strictly names (map listed_as held) in
    let others = tells_both ends own before between mid cut more rest f k r in
    let both = tells_both all (ends ++ own) old before mid wrong rest found h others b in
    inr (
      own,
      (map listed_as entries, e, ap (λ es. found_among strictly names (map listed_as es)) same),
      all_written (all ++ (ends ++ own)) old mid new written status (findings_status (all ++ (ends ++ own))) result both.0
          (s ∙ status_is (all ++ (ends ++ own)) found both.1) wrote begins works failed stays is,
    )
