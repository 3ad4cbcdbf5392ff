-- Parsing returns what reading does, whatever the networks and the causes are.
use Rattle.ipnetwork_family.proofs.Words.{ℕ, List, Ok, Err, MatchResult, AddrParseError, CidrFault, Parses, ParsesAsItReads}

pub parses_as_it_reads : {N : Type 0} (Names : List ℕ → N → Type 0) (IsCauseOf : List ℕ → CidrFault → Type 0)
    (kind : AddrParseError)
    → ParsesAsItReads (λ text result. MatchResult result (Names text) (λ fault. IsCauseOf text fault
    × ((n : N) → ¬ (Names text n)))) kind (Parses Names IsCauseOf kind)
parses_as_it_reads Names IsCauseOf kind text (Ok n) = ((λ h. h), (λ h. h))
parses_as_it_reads Names IsCauseOf kind text (Err error) =
    ((λ h. (h.1.0, (h.1.1, h.0), h.1.2)), (λ h. (h.1.1, (h.0, h.1.0, h.2))))
