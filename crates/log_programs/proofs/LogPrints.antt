-- How the lines of a log are read in turn, and what they give is put into the output.
use Rattle.log_programs.proofs.Words.{◌≡◌, ◌<◌, ℕ, Bool, true, false, List, [], ◌++◌, refl, sym, subst, length, Option, None, Some, IsTrue, Result, Ok, Err, Written, Prints, FailsIn, LineEnd, puts_nothing, puts_more, begins_after_puts, LogLine, content, feed_behind, OpenLog, HandsFirst, GivesNext, Breaks, line_of, whole_of, LogFault, Line, TooLong, End, OfLine, PrintsLog, PrintsSoFar, Put, StopsLine, TakesLine}
use Rattle.program.specs.declared.log_fault.LogFault.TheVariants as faults
use Rattle.log_programs.proofs.LogReads.{reads_nothing, reads_all, reads_enough, reads_cut, reads_break, reads_line}
use Rattle.log_programs.proofs.LogReads.{reads_unwritten, reads_last, reads_long, reads_last_long}

module _ {T W : Type 0} (old mid new : Written W) (first second : List ℕ) (p : Prints old mid first) where
  pub put_more : (result : Result T LogFault) → Put result mid new second → Put result old new (first ++ second)
  put_more (Ok done) h = puts_more _ _ _ _ _ _ first second p h
  put_more (Err faults.Read) h = puts_more _ _ _ _ _ _ first second p h
  put_more (Err faults.Write) h = (h.0, begins_after_puts _ _ _ _ _ first second p h.1)
  put_more (Err faults.Address) h = puts_more _ _ _ _ _ _ first second p h
  put_more (Err faults.Length) h = puts_more _ _ _ _ _ _ first second p h
  put_more (Err faults.Endless) h = puts_more _ _ _ _ _ _ first second p h

module _ {S W : Type 0} (is_full : S → Bool) (Of : S → List ℕ → List ℕ → List ℕ → Option S → Type 0) (start : S)
    (remained : Option (List ℕ)) (old : Written W) where
  pub begins : (log : OpenLog) → HandsFirst log remained remained []
      → PrintsSoFar is_full Of start log remained remained old old start
  begins log hands = record {
    added = [];
    prints = puts_nothing _ _;
    reads =
        reads_nothing is_full Of start remained log hands;
  }

  module _ (was now : OpenLog) (before after : Option (List ℕ)) (mid between : Written W) (state : S)
      (s : PrintsSoFar is_full Of start was remained before old mid state) (read_failed : Bool) where
    abbrev Ended : {T : Type 0} → Result T LogFault → Written W → S → Type 0
    Ended result new left = PrintsLog is_full Of start result remained read_failed old new left

    -- a write, or a read, failed
    pub unwritten : {T : Type 0} (left : S) → IsTrue between.failed → FailsIn mid between []
        → Ended {T = T} (Err faults.Write) between left
    unwritten {T} left failed put = record {
      added = s.added ++ [];
      put = (failed, begins_after_puts _ _ _ _ _ s.added [] s.prints put);
      reads = reads_cut is_full Of start remained was now before after s.added state s.reads read_failed faults.Write
          left refl tt;
    }

    pub breaks : {T : Type 0} (fault : LogFault) (left : S)
        → Breaks remained after read_failed mid between s.reads.first fault
        → Ended {T = T} (Err fault) between left
    breaks {T} fault left h = record {
      added = s.added ++ [];
      put = put_more {T = T} old mid between s.added [] s.prints (Err fault) (put_broken fault h);
      reads = reads_break is_full Of start remained was now before after s.added state s.reads read_failed mid between
          fault left h;
    } where
      put_broken : (fault : LogFault) → Breaks remained after read_failed mid between s.reads.first fault
          → Put {T = T} (Err fault) mid between []
      put_broken faults.Read h = h.1
      put_broken faults.Write h = (h.0, h.1)
      put_broken faults.Address h = absurd h
      put_broken faults.Length h = absurd h
      put_broken faults.Endless h = h.0

    module _ (put : Prints mid between []) where
      -- the log ends
      pub log_ends : {T : Type 0} (done : T) → GivesNext now remained after s.reads.first End
          → Ended (Ok done) between state
      log_ends done given = record {
        added = s.added ++ [];
        put = puts_more _ _ _ _ _ _ s.added [] s.prints put;
        reads = reads_all is_full Of start remained was now before after s.added state s.reads read_failed done given;
      }

      -- no line more is looked at
      pub log_left : {T : Type 0} (done : T) → is_full state ≡ true → Ended (Ok done) between state
      log_left done full = record {
        added = s.added ++ [];
        put = puts_more _ _ _ _ _ _ s.added [] s.prints put;
        reads = reads_enough is_full Of start remained was now before after s.added state s.reads read_failed done full;
      }

      module _ (end : LineEnd) (line whole : List ℕ) (given : GivesNext now remained after s.reads.first (Line end))
          (is : line ≡ line_of now) (all : whole ≡ whole_of now) (free : is_full state ≡ false) where
        pub after_line : (new : Written W) (left : S) → TakesLine Of line (whole ++ feed_behind end) between state new
            left
            → PrintsSoFar is_full Of start now remained after old new left
        after_line new left h = record {
          added = s.added ++ h.0;
          prints = puts_more _ _ _ _ _ _ s.added h.0 s.prints (puts_more _ _ _ _ _ _ [] h.0 put h.2);
          reads = reads_line is_full Of start remained was now before after s.added state s.reads read_failed end line
              whole given is all free h.0 left h.1;
        }

        pub line_stops : {T : Type 0} (fault : LogFault) (new : Written W) (left : S)
            → StopsLine Of line (whole ++ feed_behind end) between state new fault → Ended {T = T} (Err fault) new left
        line_stops faults.Read new left h = absurd h
        line_stops faults.Write new left h = record {
          added = s.added ++ h.1;
          put = (h.0, begins_after_puts _ _ _ _ _ s.added h.1 s.prints (begins_after_puts _ _ _ _ _ [] h.1 put h.4));
          reads = reads_unwritten is_full Of start remained was now before after s.added state s.reads read_failed end
              line whole given is all free h.1 h.2 left h.3;
        }
        line_stops faults.Address new left h = record {
          added = s.added ++ [];
          put = subst (λ (o : Written W). Prints old o (s.added ++ [])) (sym h.1)
              (puts_more _ _ _ _ _ _ s.added [] s.prints put);
          reads = reads_last is_full Of start remained was now before after s.added state s.reads read_failed end line
              whole given is all free faults.Address [] left tt h.0;
        }
        line_stops faults.Length new left h = record {
          added = s.added ++ [];
          put = subst (λ (o : Written W). Prints old o (s.added ++ [])) (sym h.1)
              (puts_more _ _ _ _ _ _ s.added [] s.prints put);
          reads = reads_last is_full Of start remained was now before after s.added state s.reads read_failed end line
              whole given is all free faults.Length [] left tt h.0;
        }
        line_stops faults.Endless new left h = absurd h

      module _ (given : GivesNext now remained after s.reads.first TooLong) (free : is_full state ≡ false) where
        pub after_long : now.hurries ≡ false → (left : S)
            → ((line : LogLine) → 1048576 < length (content line) → OfLine Of state line [] (Some left))
            → PrintsSoFar is_full Of start now remained after old between left
        after_long waits left h = record {
          added = s.added ++ [];
          prints = puts_more _ _ _ _ _ _ s.added [] s.prints put;
          reads = reads_long is_full Of start remained was now before after s.added state s.reads read_failed given free
              waits [] left h;
        }

        pub long_stops : {T : Type 0} (left : S)
            → ((line : LogLine) → 1048576 < length (content line) → OfLine Of state line [] None)
            → Ended {T = T} (Err faults.Length) between left
        long_stops left h = record {
          added = s.added ++ [];
          put = puts_more _ _ _ _ _ _ s.added [] s.prints put;
          reads = reads_last_long is_full Of start remained was now before after s.added state s.reads read_failed given
              free faults.Length [] left tt h;
        }
