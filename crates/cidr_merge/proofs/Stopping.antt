-- Where the reading of lists stops.
use Rattle.cidr_merge.proofs.Words.{◌≡◌, ◌<◌, ◌+◌, ℕ, List, false, subst, arith, length, get_or, take, drop, length-take, Result, Ok, Err, IfErr, String, string_bytes, ReadLists, nothing_read, Refused, Source, StopsOne, ReadsLists, Stops, ReadFault, rules_of}
use Rattle.cidr_merge.proofs.Places.{cut_at}

-- ---- lists in turn

-- the reading of the list at a place stops
pub stops_in : {Z : Type 0} (known : Source) (names : List (String Z)) (number place : ℕ)
    (name : String Z) (start mid : ReadLists) (fault : ReadFault) (refused : Refused)
    → place < length names → name ≡ get_or names place name
    → ReadsLists known number (take place names) start mid → mid.is_out_of_memory ≡ false
    → StopsOne known (number + place) (string_bytes name) mid fault refused
    → Stops known number names start fault
stops_in known names number place name start mid fault refused l is reads memory stops = record {
  first = take place names;
  name = name;
  others = drop (place + 1) names;
  between = mid;
  refused = refused;
  cut = cut_at names place name l is;
  reads = reads;
  memory = memory;
  stops = subst (λ (p : ℕ). StopsOne known p (string_bytes name) mid fault refused)
      (omega (arith, l, length-take place names)) stops;
}

-- ---- sides

pub side_stopped : {Z T : Type 0} (result : Result T ReadFault) (known : Source) (number : ℕ) (names : List (String Z))
    (before : Refused) (start : ReadLists) → start ≡ nothing_read (rules_of known.shape) before
    → IfErr result (Stops known number names start) → IfErr result (Stops known number names (nothing_read (rules_of known.shape) before))
side_stopped (Ok done) known number names before start s h = tt
side_stopped (Err fault) known number names before start s h =
    subst (λ (l : ReadLists). Stops known number names l fault) s h
