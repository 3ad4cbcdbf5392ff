-- The families whose networks are looked at: one, or both.
use Rattle.std.specs.Prelude.{Bool, true, false, List, [], Option, None, Some, if◌then◌else◌}
use Rattle.options.specs.Given.{is_given}
use Rattle.options.specs.declared.items.Item.{Item}
use Rattle.cidr_merge.specs.Options as own
use Rattle.cidr_merge.specs.declared.exports.Version.{Version}
use Rattle.cidr_merge.specs.declared.exports.Version.TheVariants.{V4, V6}

-- the family that is looked at alone: that of `-4` or `-6`
abbrev pub only_of : List Item → Option Version
only_of items =
    if is_given items own.only_v4 then Some V4 else if is_given items own.only_v6 then Some V6 else None

-- whether a family is looked at: it is, unless the other alone is
abbrev pub looks_at : Option Version → Version → Bool
looks_at (Some V4) V6 = false
looks_at (Some V6) V4 = false
looks_at only version = true

-- the networks of a family that are looked at: all of them, or none
abbrev pub looked_at : {X : Type 0} → Option Version → Version → List X → List X
looked_at only version networks = if looks_at only version then networks else []
