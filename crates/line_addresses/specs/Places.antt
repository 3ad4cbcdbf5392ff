-- Which field or word of a line.
use Rattle.std.specs.Prelude.{ℕ, ◌-◌, ◌==◌, List, [], ◌∷◌, Option, None, decimal, option_map, reverse, slice_get}
use Rattle.std.specs.Prelude.{if◌then◌else◌}
use Rattle.line_addresses.specs.Numbers.{ordinal_in}
use Rattle.line_addresses.specs.declared.place.Place.{Place}
use Rattle.line_addresses.specs.declared.place.Place.TheVariants as places

-- the place that a text names: a number from 1 to 4,294,967,295, which counts from the end after `-` (byte 45)
abbrev pub place_in : List ℕ → Option Place
place_in [] = None
place_in (byte ∷ text) = if byte == 45 then option_map places.FromEnd (ordinal_in text)
    else option_map places.Number (ordinal_in (byte ∷ text))

-- the text of a place
abbrev pub place_text : Place → List ℕ
place_text (places.Number number) = decimal number
place_text (places.FromEnd number) = 45 ∷ decimal number

-- the part at a place, if there is one: 1 is the first part or, counted from the end, the last
abbrev pub at_place : Place → List (List ℕ) → Option (List ℕ)
at_place (places.Number number) parts = slice_get parts (number - 1)
at_place (places.FromEnd number) parts = slice_get (reverse parts) (number - 1)
