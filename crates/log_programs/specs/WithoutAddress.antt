-- What happens to lines without an address, and to lines that are too long.
use Rattle.std.specs.Prelude.{ℕ, ◌==◌, ◌&&◌, Bool, true, false, not, List, bytes_eq, codes, if◌then◌else◌}
use Rattle.log_programs.specs.declared.log_stats.LogStats.{LogStats}
use Rattle.log_programs.specs.declared.without_address.WithoutAddress.{WithoutAddress}
use Rattle.log_programs.specs.declared.without_address.WithoutAddress.TheVariants as without

-- lines without an address are left out; the first of them ends the run; their number is reported
abbrev pub is_dropped : WithoutAddress → Bool
is_dropped without.Drop = true
is_dropped other = false

abbrev pub is_stopped : WithoutAddress → Bool
is_stopped without.Stop = true
is_stopped other = false

abbrev pub is_reported : WithoutAddress → Bool
is_reported without.Report = true
is_reported other = false

-- what happens to such lines, by a value of `--bad`, which is empty if there is none
abbrev pub bad_in : List ℕ → WithoutAddress
bad_in value = if bytes_eq value (codes "drop") then without.Drop
    else if bytes_eq value (codes "keep") then without.Keep
    else if bytes_eq value (codes "stop") then without.Stop
    else if bytes_eq value (codes "report") then without.Report else without.Unsaid

-- a line is missed: a line is too long, and such lines are not dropped
abbrev pub is_missed : WithoutAddress → LogStats → Bool
is_missed bad seen = not (is_dropped bad) && not (seen.first_long == 0)
