-- A log is read, line by line.
use Rattle.program.proofs.Words.{◌≡◌, ℕ, zero, suc, ◌+◌, ◌-◌, ◌*◌, ◌^◌, ◌<◌, ◌≤◌, ◌==◌, ◌&&◌, ◌⊎◌, Bool, true, false, not, cond, List, [], ◌∷◌, ◌++◌, length, inl, inr, take, refl, sym, ap, ◌∙◌, subst, true≢false, arith, append_assoc, append-nil, length-append, length-take, length-drop, Option, IsTrue, ◌||◌, Appends, Consumes, Keeps, list_all, Consumes-nil, Consumes-trans, Consumes-kept, mul_comm, eqb_tells, list_all-append, mul-add-lt, Buffered, IsDropped, IsPending, waits, HandsOut, Gives, Receives, HasNoFeed, work, LineEnd, has_no, puts_out, puts_more, begins_after_puts, Puts, AppendsBeginning, LogLine, log_lines, ended_lines, content, feed_behind, log_line, unended, AreFirst, HandsFirst, ComesNext, GivesNext, left, OpenLog, Line, TooLong, End}
use Rattle.std.proofs.Common.{if◌then◌else◌}
use Rattle.std.specs.Prelude.{slice_index}
use Rattle.std.specs.List.{filter}
use Rattle.lines.specs.declared.line_buffer.NextLine.TheVariants as handed
use Rattle.program.proofs.ReturnedLines.{printed_is, IsFirstOf, handed_first}
use Rattle.program.proofs.LogLines.{lines_last, rest_unended, some_bytes}

pub failed_now : (new old : Bool) → new ≡ (old || true) → IsTrue new
failed_now new true e = e
failed_now new false e = e

-- ---- what was read, so far

pub all_lines : (ended : Bool) (read : List ℕ) (first : List LogLine) (pending : List ℕ)
    → AreFirst ended read first pending → log_lines read ≡ first ++ log_lines pending
all_lines ended read first pending h = ap log_lines (sym (append-nil read)) ∙ h [] (λ e. refl)
    ∙ ap (λ l. first ++ log_lines l) (append-nil pending)

-- one line more
next_first : (ended : Bool) (read : List ℕ) (first : List LogLine) (pending line after : List ℕ)
    (end : LineEnd) → AreFirst ended read first pending → IsFirstOf ended pending line after end
    → AreFirst ended read (first ++ log_line line end ∷ []) after
next_first ended read first pending line after end h is more e =
    h more e ∙ ap (λ ls. first ++ ls) (is.lines more e)
    ∙ sym (append_assoc first (log_line line end ∷ []) (log_lines (after ++ more)))

first_still : (ended : Bool) (read : List ℕ) (first : List LogLine) (pending chunk : List ℕ)
    → AreFirst false read first pending → AreFirst ended (read ++ chunk) first (pending ++ chunk)
first_still ended read first pending chunk h more e =
    ap log_lines (append_assoc read chunk more)
    ∙ h (chunk ++ more) (λ f. absurd (true≢false (sym f)))
    ∙ ap (λ l. first ++ log_lines l) (sym (append_assoc pending chunk more))

ended_too : (ended : Bool) (line : LogLine) → ended ≡ false → (line.is_ended ≡ true)
    ⊎ (ended ≡ true) → line.is_ended ≡ true
ended_too ended line going (inl e) = e
ended_too ended line going (inr e) = absurd (true≢false (sym e ∙ going))

no_bytes : (count : ℕ) → (count == 0) ≡ true → count ≡ 0
no_bytes count e = elim (eqb_tells count 0) [
  | inl same ↦ same.1
  | inr apart ↦ absurd (true≢false (sym e ∙ apart.0))
]

-- of lines the first of which are ended, and the others not, those are the ended ones
none_ended : (others : List LogLine) → list_all (λ line. not line.is_ended) others ≡ true
    → filter (λ line. line.is_ended) others ≡ []
none_ended [] none = refl
none_ended (x ∷ others) none = by (none_ended others) x.is_ended refl where
  by : (list_all (λ line. not line.is_ended) others ≡ true
      → filter (λ line. line.is_ended) others ≡ []) → (b : Bool) → x.is_ended ≡ b
      → filter (λ line. line.is_ended) (x ∷ others) ≡ []
  by rest true e = absurd (true≢false (sym
      (ap (λ b. not b && list_all (λ line. not line.is_ended) others) (sym e) ∙ none)))
  by rest false e =
      ap (λ b. cond b (x ∷ filter (λ line. line.is_ended) others)
      (filter (λ line. line.is_ended) others)) e
      ∙ rest (ap (λ b. not b && list_all (λ line. not line.is_ended) others) (sym e) ∙ none)

first_ended : (first others : List LogLine) → list_all (λ line. line.is_ended) first ≡ true
    → list_all (λ line. not line.is_ended) others ≡ true
    → filter (λ line. line.is_ended) (first ++ others) ≡ first
first_ended [] others all none = none_ended others none
first_ended (x ∷ first) others all none = by (λ h. first_ended first others h none) x.is_ended
    refl where
      by : (list_all (λ line. line.is_ended) first ≡ true
          → filter (λ line. line.is_ended) (first ++ others) ≡ first) → (b : Bool) → x.is_ended ≡ b
          → filter (λ line. line.is_ended) ((x ∷ first) ++ others) ≡ x ∷ first
      by rest true e =
          ap (λ b. cond b (x ∷ filter (λ line. line.is_ended) (first ++ others))
          (filter (λ line. line.is_ended) (first ++ others))) e
          ∙ ap (λ ls. x ∷ ls) (rest (ap (λ b. b && list_all (λ line. line.is_ended) first) (sym e)
          ∙ all))
      by rest false e = absurd (true≢false (sym
          (ap (λ b. b && list_all (λ line. line.is_ended) first) (sym e) ∙ all)))

-- ---- a log by the fields of its reader

pub by_fields : {fields log : OpenLog} {remained remains : Option (List ℕ)} {first : List LogLine} → fields ≡ log
    → HandsFirst log remained remains first → HandsFirst fields remained remains first
by_fields {remained = remained} {remains = remains} {first = first} e h =
    subst (λ (log : OpenLog). HandsFirst log remained remains first) (sym e) h

-- ---- before anything was read

pub begins : (reader : OpenLog) (remained : Option (List ℕ))
    → reader.room ≡ 2 ^ 64 - 1 → reader.buffered.limit ≡ 1048576 → IsPending reader.buffered []
    → reader.buffered.ended ≡ false → HandsFirst reader remained remained []
begins reader remained all limit h going = record {
  read = [];
  reads = Consumes-nil remained;
  counted = omega (arith, all);
  limit = limit;
  at_end = λ e. absurd (true≢false (sym e ∙ going));
  pending = [];
  holds = h;
  lines = λ more e. refl;
  ended = λ e. refl;
}

-- ---- a line is returned

module _ (was now : OpenLog) (remained remains : Option (List ℕ)) (first : List LogLine)
    (s : HandsFirst was remained remains first) (room : now.room ≡ was.room)
    (same : now.buffered.ended ≡ was.buffered.ended)
    (limit : now.buffered.limit ≡ was.buffered.limit) where
  still_first : AreFirst now.buffered.ended s.read first s.pending
  still_first = subst (λ (e : Bool). AreFirst e s.read first s.pending) (sym same) s.lines

  comes_next : (line : List ℕ) (end : LineEnd) → HandsOut now.buffered s.pending line end
      → ComesNext remained remains first (log_line line end)
  comes_next line end hands =
      let is = handed_first now.buffered s.pending line end hands in
      record {
        read = s.read;
        others = log_lines hands.after;
        reads = s.reads;
        lines =
            all_lines was.buffered.ended s.read first s.pending s.lines
            ∙ ap (λ ls. first ++ ls) (ap log_lines (sym (append-nil s.pending))
            ∙ is.lines [] (λ e. refl) ∙ ap (λ l. log_line line end ∷ log_lines l)
            (append-nil hands.after));
        is_line = elim is.whole [ inl e ↦ inl e | inr e ↦ inr (inl (s.at_end (sym same ∙ e))) ];
      }

  one_more : (line : List ℕ) (end : LineEnd) → HandsOut now.buffered s.pending line end
      → HandsFirst now remained remains (first ++ log_line line end ∷ [])
  one_more line end hands =
      let next = log_line line end in
      let is = handed_first now.buffered s.pending line end hands in
      record {
        read = s.read;
        reads = s.reads;
        counted = omega (arith, s.counted, room);
        limit = limit ∙ s.limit;
        at_end = λ e. s.at_end (sym same ∙ e);
        pending = hands.after;
        holds = hands.holds;
        lines = next_first now.buffered.ended s.read first s.pending line hands.after end still_first is;
        ended = λ e.
            list_all-append (λ line. line.is_ended) first (next ∷ [])
            ∙ ap (λ b. b && list_all (λ line. line.is_ended) (next ∷ [])) (s.ended (sym same ∙ e))
            ∙ ap (λ b. b && true) (ended_too now.buffered.ended next e is.whole);
      }

  pub gives_line : (end : LineEnd) → Gives now.buffered s.pending (handed.Line end)
      → GivesNext now remained remains first (Line end)
  gives_line end given =
      let line = now.buffered.line in
      record {
        next = comes_next line end given.0;
        hands = one_more line end given.0;
        is_content = (handed_first now.buffered s.pending line end given.0).is;
        within = omega (arith, given.1, limit, s.limit);
        is_printed = sym (ap (λ l. l ++ feed_behind end) given.2 ∙ printed_is line end);
      }

  pub gives_long : Gives now.buffered s.pending handed.TooLong
      → GivesNext now remained remains first TooLong
  gives_long given =
      let is = handed_first now.buffered s.pending given.0 given.1 given.2 in
      record {
        line = log_line given.0 given.1;
        next = comes_next given.0 given.1 given.2;
        long = subst (λ (l : List ℕ). 1048576 < length l) (sym is.is) (omega (arith, given.3, limit, s.limit));
        hands = λ stays. one_more given.0 given.1 given.2;
      }

  -- ---- the end of the log

  pub gives_end : Gives now.buffered s.pending handed.End → GivesNext now remained remains first End
  gives_end given = (
    s.read,
    s.reads,
    s.at_end (sym same ∙ given.2),
    all_lines was.buffered.ended s.read first s.pending s.lines ∙ ap (λ l. first ++ log_lines l) given.0
        ∙ append-nil first,
  )

  -- ---- more bytes are needed

  -- no line of what is pending is whole, and that is the one that comes next if it is too long
  pub long_comes : HasNoFeed s.pending → 1048577 < length s.pending
      → (line : LogLine) × ComesNext remained remains first line × (1048576 < length (content line))
  long_comes none long = (
    unended s.pending,
    record {
      read = s.read;
      others = [];
      reads = s.reads;
      lines =
          all_lines was.buffered.ended s.read first s.pending s.lines
          ∙ ap (λ ls. first ++ ls) (lines_last s.pending (has_no s.pending none) (some_bytes s.pending long));
      is_line = inr (inr long);
    },
    omega (arith, long),
  )

  module _ (none : HasNoFeed s.pending) (going : now.buffered.ended ≡ false) where
    -- these are all ended lines
    ended_are : ended_lines s.read ≡ first
    ended_are =
        ap (filter (λ line. line.is_ended)) (all_lines was.buffered.ended s.read first s.pending s.lines)
        ∙ first_ended first (log_lines s.pending) (s.ended (sym same ∙ going))
        (rest_unended s.pending (has_no s.pending none))

    -- a read failed
    pub read_breaks : (after : Option (List ℕ)) → Keeps remains after
        → (read : List ℕ) × Consumes remained after read × (ended_lines read ≡ first)
    read_breaks after kept = (s.read, Consumes-kept remained remains after s.read s.reads kept, ended_are)

    -- more was read than 64 bits count
    pub endless_breaks : (after : Option (List ℕ)) (new : Buffered) (count : ℕ)
        → Receives remains after now.buffered new count → was.room < count
        → (read : List ℕ) × (last : List ℕ) × Consumes remained after (read ++ last)
        × (2 ^ 64 - 1 < length (read ++ last)) × (ended_lines read ≡ first)
    endless_breaks after new count r over = (
      s.read,
      r.chunk,
      Consumes-trans remained remains after s.read r.chunk s.reads r.consumed,
      omega (arith, length-append s.read r.chunk, s.counted, r.counted, over),
      ended_are,
    )

    -- some bytes were read
    pub reads_on : (after : Option (List ℕ)) (new : OpenLog) (count : ℕ) → IsPending now.buffered s.pending
        → Receives remains after now.buffered new.buffered count
        → new.buffered.ended ≡ (count == 0) → new.buffered.limit ≡ now.buffered.limit → count ≤ was.room
        → new.room ≡ was.room - count → HandsFirst new remained after first
    reads_on after new count holds r ended still fits lefts = record {
      read = s.read ++ r.chunk;
      reads = Consumes-trans remained remains after s.read r.chunk s.reads r.consumed;
      counted = omega (arith, length-append s.read r.chunk, s.counted, r.counted, fits, lefts);
      limit = still ∙ limit ∙ s.limit;
      at_end = λ e. r.at_end (no_bytes count (sym ended ∙ e));
      pending = s.pending ++ r.chunk;
      holds = r.holds s.pending holds;
      lines = first_still new.buffered.ended s.read first s.pending r.chunk
          (subst (λ (e : Bool). AreFirst e s.read first s.pending) going still_first);
      ended = λ e. s.ended (sym same ∙ going);
    }

-- a write failed
pub write_breaks : (was : OpenLog) (remained remains : Option (List ℕ)) (first : List LogLine)
    → HandsFirst was remained remains first
    → (read : List ℕ) × (others : List LogLine) × Consumes remained remains read × (log_lines read ≡ first ++ others)
write_breaks was remained remains first s =
    (s.read, log_lines s.pending, s.reads, all_lines was.buffered.ended s.read first s.pending s.lines)

-- ---- what waits is handed on, between puts of nothing

pub puts_idle : (held mid holds : Option (List ℕ)) (waited between waits : List ℕ) → Puts held waited mid between []
    → waits ≡ [] → Appends mid holds between → Puts held waited holds waits []
puts_idle held mid holds waited between waits p none h =
    puts_more held mid holds waited between waits [] [] p (puts_out mid holds between waits none h)

pub fails_idle : (held mid holds : Option (List ℕ)) (waited between : List ℕ) → Puts held waited mid between []
    → AppendsBeginning mid holds between → AppendsBeginning held holds (waited ++ [])
fails_idle held mid holds waited between p h =
    begins_after_puts held mid holds waited between [] [] p
    (subst (AppendsBeginning mid holds) (sym (append-nil between)) h)

-- ---- some bytes are pending

no_feeds : ℕ → List ℕ
no_feeds zero = []
no_feeds (suc count) = 0 ∷ no_feeds count

no_feeds_length : (count : ℕ) → length (no_feeds count) ≡ count
unfolding no_feeds
no_feeds_length zero = refl
no_feeds_length (suc count) = ap suc (no_feeds_length count)

no_feeds_absent : (count place : ℕ) → slice_index (no_feeds count) place ≡ 0
unfolding no_feeds
no_feeds_absent zero place = refl
no_feeds_absent (suc count) zero = refl
no_feeds_absent (suc count) (suc place) = no_feeds_absent count place

some_dropped : (dropped : Bool) (limit : ℕ) → (gone : List ℕ) × IsDropped dropped limit gone
some_dropped false limit = ([], refl)
some_dropped true limit =
    let gone = no_feeds (limit + 2) in (
      gone,
      (
        (λ place low high e. omega (arith, sym e ∙ no_feeds_absent (limit + 2) place)),
        omega (arith, no_feeds_length (limit + 2)),
      ),
    )

pub some_pending : (held : Buffered) → (pending : List ℕ) × IsPending held pending
some_pending held =
    let some = some_dropped held.dropped held.limit in
    (some.0 ++ waits held, record { gone = some.0; dropped = some.1; bytes = refl })

-- ---- that it ends

work_bound : (held : Buffered) → work held ≤ length held.bytes + 1
work_bound held =
    let one : (if held.dropped then 1 else 0) ≤ 1 = elim held.dropped as
    (λ v. (if v then 1 else 0) ≤ 1) [ true ↦ omega arith | false ↦ omega arith ] in
    omega (
      arith,
      one,
      length-drop held.start (take held.end held.bytes),
      length-take held.end
          held.bytes,
    )

-- a read gave some bytes, or came to the end of the log
fewer : (room count : ℕ) (was now : Bool) → was ≡ false → now ≡ (count == 0) → count ≤ room
    → room - count + (if now then 0 else 1) < room + (if was then 0 else 1)
fewer room count was now going ended fits =
    let one : ◌≡◌ {A = ℕ} (if was then 0 else 1) 1 = ap (λ v. if v then 0 else 1) going in
    elim (eqb_tells count 0) [
      | inl none ↦
          let zero : ◌≡◌ {A = ℕ} (if now then 0 else 1) 0 = ap (λ v. if v then 0 else 1)
          (ended ∙ none.0) in
          omega (arith, zero, one, none.1, fits)
      | inr some ↦
          let too : ◌≡◌ {A = ℕ} (if now then 0 else 1) 1 = ap (λ v. if v then 0 else 1)
          (ended ∙ some.0) in
          omega (arith, too, one, some.1, fits)
    ]

less_by : (size room count : ℕ) (was now : Buffered) → was.ended ≡ false
    → now.ended ≡ (count == 0) → count ≤ room → length now.bytes ≡ size
    → (room - count + (if now.ended then 0 else 1)) * (size + 2) + work now < (room + (if was.ended then 0 else 1))
    * (size + 2) + work was
less_by size room count was now going ended fits same =
    let left = room - count + (if now.ended then 0 else 1) in
    let all = room + (if was.ended then 0 else 1) in
    by (left * (size + 2) + work now) ((size + 2) * all) (all * (size + 2))
    (mul-add-lt left (size + 2) (work now) all
    (fewer room count was.ended now.ended going ended fits)
    (omega (arith, work_bound now, same))) (mul_comm (size + 2) all) where
      by : (x y z : ℕ) → x < y → y ≡ z → x < z + work was
      by x y z less e = omega (arith, less, e)

pub less_to_read : (was now : OpenLog) (count : ℕ) → now.room ≡ was.room - count → was.buffered.ended ≡ false
    → now.buffered.ended ≡ (count == 0) → count ≤ was.room → length now.buffered.bytes ≡ length was.buffered.bytes
    → left now < left was
less_to_read was now count room going ended fits same = by _ _
    (ap (λ n. (n + (if now.buffered.ended then 0 else 1)) * (length now.buffered.bytes + 2) + work now.buffered) room
    ∙ ap (λ n. (was.room - count + (if now.buffered.ended then 0 else 1)) * (n + 2) + work now.buffered) same)
    (less_by (length was.buffered.bytes) was.room count was.buffered now.buffered going ended fits same) where
      by : (a b : ℕ) → a ≡ b → b < left was → a < left was
      by a b e less = omega (arith, e, less)
