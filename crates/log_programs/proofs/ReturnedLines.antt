-- What the reader of a log returns.
use Rattle.log_programs.proofs.Words.{◌≡◌, ℕ, List, subst, Option, LogLine, GivesNext, OpenLog, NextLogLine}

-- it is what the match found
pub handed_out : (log : OpenLog) (remained remains : Option (List ℕ)) (first : List LogLine) (next found : NextLogLine)
    → next ≡ found
    → GivesNext log remained remains first next → GivesNext log remained remains first found
handed_out log remained remains first next found is h =
    subst (λ (n : NextLogLine). GivesNext log remained remains first n) is h
