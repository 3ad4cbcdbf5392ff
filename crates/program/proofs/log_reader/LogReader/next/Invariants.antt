use Rattle.program.proofs.Known.{◌≡◌, ◌≤◌, [], ℕ, List, Bool, Option, Buffered, Prints, device_of, has_failed, LogLine, OpenLog, HandsFirst, left}
use Rattle.program.proofs.log_reader.LogReader.next.Given as goal

-- the log by the fields of its reader
abbrev pub open_log : Buffered → ℕ → Bool → OpenLog
open_log buffered room hurries = record { buffered = buffered; room = room; hurries = hurries }

abbrev pub invariant-asks : goal.invariant-asks
invariant-asks g l =
    let old = open_log l.initial.self-inside.lines l.initial.self-inside.room l.initial.self-inside.hurries in
    let now = open_log l.self-inside.lines l.self-inside.room l.self-inside.hurries in
    record {
      hands : (remained : Option (List ℕ)) → (first : List LogLine)
          → HandsFirst old remained (g.R.Read.remaining (device_of l.initial.reader)) first
          → HandsFirst now remained (g.R.Read.remaining (device_of l.reader)) first;
      puts : Prints l.initial.output l.output [];
      fewer : left now ≤ left old;
      hurries : now.hurries ≡ old.hurries;
      reads : has_failed l.reader ≡ has_failed l.initial.reader;
      writes : l.output.failed ≡ l.initial.output.failed;
    }

abbrev pub decreases-asks : goal.decreases-asks
decreases-asks g l = left (open_log l.self-inside.lines l.self-inside.room l.self-inside.hurries)
