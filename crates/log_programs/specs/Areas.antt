-- Where to look for the addresses of a line, by the options given.
use Rattle.std.specs.Prelude.{ℕ, ◌||◌, Bool, not, List, bytes_eq, codes, if◌then◌else◌}
use Rattle.std.specs.Option.{unwrap_or}
use Rattle.line_addresses.specs.Numbers.{ordinal_in}
use Rattle.line_addresses.specs.Places.{place_in}
use Rattle.line_addresses.specs.declared.area.Area.{Area}
use Rattle.line_addresses.specs.declared.area.Part.{Part}
use Rattle.line_addresses.specs.declared.area.Part.TheVariants as parts
use Rattle.line_addresses.specs.declared.area.Pick.{Pick}
use Rattle.line_addresses.specs.declared.area.Pick.TheVariants as picks
use Rattle.line_addresses.specs.declared.place.Place.{Place}
use Rattle.line_addresses.specs.declared.place.Place.TheVariants as places
use Rattle.log_programs.specs.Rows as rows
use Rattle.options.specs.Given.{is_given, value_of}
use Rattle.options.specs.Values.{byte_in}
use Rattle.options.specs.declared.items.Item.{Item}

-- without `-w` and `--after`, the part is a field: `-k` or `-d` is given, or neither `-a` nor `--nth` is
abbrev pub is_in_a_field : List Item → Bool
is_in_a_field items = is_given items rows.field || is_given items rows.separator
    || not (is_given items rows.anywhere || is_given items rows.nth)

-- which field or word: as `-k` says, and without it the first
abbrev pub place_of : List Item → Place
place_of items = unwrap_or (place_in (value_of items rows.field)) (places.Number 1)

-- the part of a line to search: after a text, a word, a field, or the whole line. Without `-d` fields are separated by
-- spaces (byte 32)
abbrev pub part_of : List Item → Part
part_of items =
    if is_given items rows.after then parts.After (value_of items rows.after)
    else if is_given items rows.words then parts.Word (place_of items)
    else if not (is_in_a_field items) then parts.Line
    else parts.Field (place_of items) (unwrap_or (byte_in (value_of items rows.separator)) 32)

-- the address that a value of `--nth` means: the last, or the one with a number, which is 1 for `first`
abbrev pub nth_in : List ℕ → Pick
nth_in value = if bytes_eq value (codes "last") then picks.Last else picks.Number (unwrap_or (ordinal_in value) 1)

-- which addresses of the part: as `--nth` says; else the first after a text; else all with `-a`; else the whole part
abbrev pub pick_of : List Item → Pick
pick_of items =
    if is_given items rows.nth then nth_in (value_of items rows.nth)
    else if is_given items rows.after then picks.Number 1
    else if is_given items rows.anywhere then picks.Each
    else picks.Whole

abbrev pub area_of : List Item → Area
area_of items = record { part = part_of items; pick = pick_of items }
