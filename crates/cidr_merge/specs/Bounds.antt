-- Bounds on the number of addresses of a family: of others after a `reduce`, or of those that only one side of a `differ`
-- has.
use Rattle.std.specs.Prelude.{ℕ, ◌-◌, ◌*◌, ◌^◌, ◌&&◌, min, Bool, true, List, Option, None, Some, length, take}
use Rattle.std.specs.Prelude.{drop, nat_le, if◌then◌else◌, codes, bytes_eq}
use Rattle.std.specs.Option.{unwrap_or}
use Rattle.line_addresses.specs.Numbers.{is_number, number_of}
use Rattle.options.specs.Given.{value_of}
use Rattle.options.specs.declared.items.Item.{Item}
use Rattle.cidr_merge.specs.Options as own
use Rattle.cidr_merge.specs.declared.bounds.Bound.{Bound}
use Rattle.cidr_merge.specs.declared.bounds.Bound.TheVariants.{Any, Number, Percent}

-- whether so many others are allowed for so many addresses of the lists
abbrev pub allows : Bound → ℕ → ℕ → Bool
allows Any addresses others = true
allows (Number most) addresses others = nat_le others most
allows (Percent percent) addresses others = nat_le (others * 100) (percent * addresses)

-- the number that digits name; a number of more than 128 bits counts as the greatest of 128 bits
abbrev pub large_number : List ℕ → ℕ
large_number digits = min (number_of digits) (2 ^ 128 - 1)

-- the bound that a text names: `any`, a number, or a number and a `%`
abbrev pub bound_in : List ℕ → Option Bound
bound_in text =
    if bytes_eq text (codes "any") then Some Any
    else if is_number text then Some (Number (large_number text))
    else if bytes_eq (drop (length text - 1) text) (codes "%") && is_number (take (length text - 1) text)
    then Some (Percent (large_number (take (length text - 1) text)))
    else None

-- the bound of a `reduce`: as many as there are addresses, if no option gives one
abbrev pub bound_of : List Item → Bound
bound_of items = unwrap_or (bound_in (value_of items own.max_others)) (Percent 100)

-- the bound of a `differ`: any number of addresses, if no option gives one
abbrev pub change_of : List Item → Bound
change_of items = unwrap_or (bound_in (value_of items own.max_change)) Any
