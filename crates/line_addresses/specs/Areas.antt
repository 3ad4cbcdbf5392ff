-- Where to look for the addresses of a line.
use Rattle.std.specs.Prelude.{◌≡◌, ℕ, ◌-◌, ◌≤◌, Bool, List, [], ◌∷◌, Option, None, Some, length, slice_get}
use Rattle.std.specs.Prelude.{if◌then◌else◌}
use Rattle.std.specs.Option.{option_to_list}
use Rattle.line_addresses.specs.Addresses.{Spelled, spelled}
use Rattle.line_addresses.specs.Fields.{fields_of}
use Rattle.line_addresses.specs.Following.{value_after}
use Rattle.line_addresses.specs.Found.{spelled_at}
use Rattle.line_addresses.specs.Networks.{found_of, spelled_network}
use Rattle.line_addresses.specs.Places.{at_place}
use Rattle.line_addresses.specs.Words.{words_of}
use Rattle.line_addresses.specs.declared.area.Area.{Area}
use Rattle.line_addresses.specs.declared.area.Part.{Part}
use Rattle.line_addresses.specs.declared.area.Part.TheVariants as parts
use Rattle.line_addresses.specs.declared.area.Pick.{Pick}
use Rattle.line_addresses.specs.declared.area.Pick.TheVariants as picks
use Rattle.line_addresses.specs.declared.found.Found.{Found}

-- the part of a line, if the line has it
abbrev pub part_of : Part → List ℕ → Option (List ℕ)
part_of parts.Line line = Some line
part_of (parts.Field place separator) line = at_place place (fields_of separator line)
part_of (parts.Word place) line = at_place place (words_of line)
part_of (parts.After text) line = value_after text line

-- the last address of a list, or `before` if the list is empty
abbrev pub last_of : Option Spelled → List Spelled → Option Spelled
last_of before [] = before
last_of before (found ∷ others) = last_of (Some found) others

-- the address that a text names, or, if `networks`, the network
abbrev pub spelled_by : Bool → List ℕ → Option Spelled
spelled_by networks text = if networks then spelled_network text else spelled text

-- the address that is picked from a part of a line, or the first of several: the whole part, the first in it, the one
-- with this number, from 1 on, or the last. If `networks`, networks count too
abbrev pub picked : Bool → Pick → List ℕ → Option Spelled
picked networks picks.Whole text = spelled_by networks text
picked networks picks.Each text = slice_get (found_of networks text) 0
picked networks (picks.Number number) text = slice_get (found_of networks text) (number - 1)
picked networks picks.Last text = last_of None (found_of networks text)

abbrev pub picked_in : Bool → Pick → Option (List ℕ) → Option Spelled
picked_in networks pick None = None
picked_in networks pick (Some text) = picked networks pick text

-- all addresses that are picked from a part: several only for `Each`
abbrev pub each_of : Bool → Pick → List ℕ → List Spelled
each_of networks picks.Each text = found_of networks text
each_of networks pick text = option_to_list (picked networks pick text)

abbrev pub each_in : Bool → Pick → Option (List ℕ) → List Spelled
each_in networks pick None = []
each_in networks pick (Some text) = each_of networks pick text

-- the addresses in an area of a line, in order; if `networks`, its networks and addresses
abbrev pub spelled_in : Bool → Area → List ℕ → List Spelled
spelled_in networks area line = each_in networks area.pick (part_of area.part line)

-- the position of `found` lies within the text, and `one` is the address found there
pub record IsPicked (one : Option Spelled) (text : List ℕ) (found : Found) : Type 0 where
  pub ordered : found.start ≤ found.end
  pub within : found.end ≤ length text
  pub is : one ≡ Some (spelled_at text found)
