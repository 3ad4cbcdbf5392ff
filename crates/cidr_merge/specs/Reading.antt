-- The result of reading lists.
use Rattle.std.specs.Prelude.{◌≡◌, ℕ, ◌+◌, List, [], ◌∷◌, Option, false, String, take, drop}
use Rattle.std.specs.String.{string_bytes}
use Rattle.ipnetwork_blocks.specs.Aggregate.{IsAggregate}
use Rattle.lists.specs.Lists.{ReadLists, nothing_read}
use Rattle.lists.specs.Refusals.{Refused, no_refusals}
use Rattle.lists.specs.KnownLists.{KnownLists}
use Rattle.cidr_merge.specs.Families.{looked_at}
use Rattle.cidr_merge.specs.Shapes.{Source, source, rules_of, ReadsOne}
use Rattle.cidr_merge.specs.declared.command_line.Request.{Request}
use Rattle.cidr_merge.specs.declared.exports.Version.{Version}
use Rattle.cidr_merge.specs.declared.exports.Version.TheVariants.{V4, V6}
use Rattle.cidr_merge.specs.declared.reading.Sets.{Sets}

-- the lists of these names are read, in turn; the first has this number, the second the next, and so on
abbrev pub ReadsLists : {Z : Type 0} → Source → ℕ → List (String Z) → ReadLists → ReadLists → Type 0
ReadsLists from number [] before after = after ≡ before
ReadsLists from number (name ∷ names) before after =
    (between : ReadLists) × ReadsOne from number (string_bytes name) before between
    × ReadsLists from (number + 1) names between after

-- the lists of these names were read, after the lines in `before` were refused: the sets have the addresses of their
-- networks of the families that are looked at, and `refused` has all lines refused up to now
pub record ReadsSide {Z : Type 0} (from : Source) (only : Option Version) (number : ℕ) (names : List (String Z))
    (before : Refused) (sets : Sets) (refused : Refused) : Type 0 where
  pub read : ReadLists
  pub lists : ReadsLists from number names (nothing_read (rules_of from.shape) before) read
  pub memory : read.is_out_of_memory ≡ false
  pub v4 : IsAggregate 32 (looked_at only V4 read.v4) sets.v4
  pub v6 : IsAggregate 128 (looked_at only V6 read.v6) sets.v6
  pub refused_lines : read.refused ≡ refused

-- the lists of both sides were read, of JSON documents maybe only these fields
pub record ReadsSides {Z : Type 0} (known : KnownLists) (fields : List (List ℕ)) (only : Option Version)
    (words : List (String Z)) (request : Request) (first second : Sets) (refused : Refused) : Type 0 where
  pub between : Refused
  pub firsts : ReadsSide (source known fields request.shape) only 0 (take request.middle words) no_refusals first
      between
  pub seconds : ReadsSide (source known fields request.shape) only request.middle
      (drop request.middle words) between second refused
