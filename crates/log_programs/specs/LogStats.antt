-- The counts of the lines of a log.
use Rattle.std.specs.Prelude.{◌+◌, ◌-◌, ◌^◌, ◌==◌, min, Bool, true, false, length, nat_lt}
use Rattle.std.specs.Prelude.{if◌then◌else◌}
use Rattle.program.specs.LogLines.{LogLine, content}
use Rattle.log_programs.specs.declared.log_stats.LogStats.{LogStats}

-- the line has more than 1,048,576 bytes, not counting its end
abbrev pub is_long : LogLine → Bool
is_long line = nat_lt 1048576 (length (content line))

-- the counts of no lines; after one more line that is not too long, with or without an address; after one that is
abbrev pub nothing : LogStats
nothing = record { lines = 0; is_addressed = false; bare = 0; long = 0; first_long = 0 }

abbrev pub with_line : LogStats → Bool → LogStats
with_line seen true = record {
  lines = min (seen.lines + 1) (2 ^ 64 - 1);
  is_addressed = true;
  bare = seen.bare;
  long = seen.long;
  first_long = seen.first_long;
}
with_line seen false = record {
  lines = min (seen.lines + 1) (2 ^ 64 - 1);
  is_addressed = seen.is_addressed;
  bare = min (seen.bare + 1) (2 ^ 64 - 1);
  long = seen.long;
  first_long = seen.first_long;
}

abbrev pub with_long : LogStats → LogStats
with_long seen = record {
  lines = min (seen.lines + 1) (2 ^ 64 - 1);
  is_addressed = seen.is_addressed;
  bare = seen.bare;
  long = min (seen.long + 1) (2 ^ 64 - 1);
  first_long = if seen.first_long == 0 then min (seen.lines + 1) (2 ^ 64 - 1) else seen.first_long;
}
