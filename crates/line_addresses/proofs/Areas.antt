-- Areas, for examples.
use Rattle.line_addresses.proofs.Words.{ℕ, List, Area, Part}
use Rattle.line_addresses.specs.declared.area.Part.TheVariants as parts
use Rattle.line_addresses.specs.declared.area.Pick.TheVariants as picks

-- a part that is an address as a whole
abbrev pub whole : Part → Area
whole part = record { part = part; pick = picks.Whole }

-- all addresses of a line
abbrev pub anywhere : Area
anywhere = record { part = parts.Line; pick = picks.Each }

-- the first that follows a text
abbrev pub after : List ℕ → Area
after text = record { part = parts.After text; pick = picks.Number 1 }
