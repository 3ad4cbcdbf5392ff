-- How a run ends.
use Rattle.cidr_merge.proofs.Words.{◌≡◌, ℕ, List, subst, inr, take, drop, Option, Result, Ok, Err, OnOk, IfErr, String, nothing_read, Refused, no_refusals, KnownLists, Table, command_of, sets_of, EndsAsked, EndsBy, IsOptions, Command, ReadsSide, ReadsSides, rules_of, source, Stops, StopsInSides, Request, ReadFault, Sets, Ending, Version}

-- both sides were read, or the reading stopped at a list of the second side
pub sides_read : {Z T : Type 0} (result : Result T ReadFault) (known : KnownLists) (fields : List (List ℕ))
    (only : Option Version) (words others : List (String Z)) (request : Request) (first second : Sets) (between refused : Refused)
    → others ≡ drop request.middle words
    → ReadsSide (source known fields request.shape) only 0 (take request.middle words) no_refusals first between
    → OnOk result (ReadsSide (source known fields request.shape) only request.middle others between second refused)
    → IfErr result (Stops (source known fields request.shape) request.middle others (nothing_read (rules_of request.shape) between))
    → OnOk result (ReadsSides known fields only words request first second refused)
    × IfErr result (StopsInSides known fields only words request)
sides_read (Ok all) known fields only words others request first second between refused o firsts seconds stops = (
  record {
    between = between;
    firsts = firsts;
    seconds = subst (λ names. ReadsSide (source known fields request.shape) only request.middle names between second refused) o
        seconds;
  },
  tt,
)
sides_read (Err fault) known fields only words others request first second between refused o firsts seconds stops = (
  tt,
  inr (
    first,
    between,
    firsts,
    subst (λ names. Stops (source known fields request.shape) request.middle names (nothing_read (rules_of request.shape) between) fault) o stops,
  ),
)

-- the words ask for a command, or are wrong
pub asked_ends : {Z W E : Type 0} (known : KnownLists) (words : List (String Z)) (end : Ending W E) (table : Table)
    → IsOptions table → (asked : Option (Command × List (List ℕ))) → asked ≡ command_of table words
    → EndsAsked known (sets_of table words) asked end.output end.output_after end.status → EndsBy known words end
asked_ends known words end table options asked e h =
    inr (
      table,
      options,
      subst (λ (a : Option (Command × List (List ℕ))). EndsAsked known (sets_of table words) a end.output
          end.output_after end.status) e h,
    )
