-- How a run proceeds from line to line, and how it ends.
use Rattle.cidr.proofs.Words.{◌≡◌, ℕ, ◌+◌, ◌-◌, ◌*◌, ◌<◌, ◌≤◌, ◌==◌, inl, inr, true, false, if◌then◌else◌, List, [], ◌∷◌, ◌++◌, length, take, refl, sym, ap, ◌∙◌, subst, true≢false, arith, append-nil, append_assoc, length-append, length-take, length-drop, Appends-nil, Appends-trans, Appends-kept, Consumes-nil, Consumes-trans, Consumes-kept, eqb_tells, Appends, Consumes, Keeps, Result, Err, IsOkUnless, lines, AnswerIsComputed, handed, first_still, are_all, has_no, begins_longer, begins_after, begins_with_nothing, first_are_complete, puts_nothing, puts_more, puts_out, puts_waiting, complete_part, IsBeginning, Buffered, AreFirst, IsPending, HandsOut, Gives, Receives, work, AppendsBeginning, Puts, RunFault, Read, Write, InputTooLong, Line, TooLong, Ask, End, LineEnd, MayGet, MayAnswer, IsOutput, reply, replies, Standing, begun, Answered, FailsWithin, FirstMayAnswer, RunSoFar, request_of, Routes, no_routes, Ran}
use Rattle.std.specs.Prelude.{Option, Ok}
use Rattle.cidr.proofs.Computed.{goes_on_to_all}
use Rattle.cidr.proofs.Turns.{LineMayGet, replies-append, answers-append, first_of_all, first_of_more, first-append}

-- ---- answers

pub no_answers : (a : Standing) → Answered a a []
no_answers a = record { answers = []; turns = refl; puts = puts_nothing a.holds a.waits }

-- the replies that wait are written
pub written : (a : Standing) (holds : Option (List ℕ)) (waits : List ℕ) → Appends a.holds holds a.waits → waits ≡ []
    → Answered a (record { holds = holds; waits = waits; routes = a.routes }) []
written a holds waits took none =
    record { answers = []; turns = refl; puts = puts_out a.holds holds a.waits waits none took }

-- the first lines, followed by the others
answers_more : (a b c : Standing) (ls ms : List (List ℕ)) → Answered a b ls → Answered b c ms → Answered a c (ls ++ ms)
answers_more a b c ls ms f g = record {
  answers = f.answers ++ g.answers;
  turns = answers-append a.routes b.routes c.routes ls ms f.answers g.answers f.turns g.turns;
  puts = subst (Puts a.holds a.waits c.holds c.waits) (sym (replies-append f.answers g.answers))
      (puts_more a.holds b.holds c.holds a.waits b.waits c.waits (replies f.answers) (replies g.answers) f.puts g.puts);
}

written_after : (a b c : Standing) (ls : List (List ℕ)) → Answered a b ls → Answered b c [] → Answered a c ls
written_after a b c ls f g = subst (Answered a c) (append-nil ls) (answers_more a b c ls [] f g)

-- an answer after the replies that wait, some of which may have been written
pub one_answer : (a b : Standing) (waits line answer : List ℕ) (routes : Routes) → Answered a b []
    → MayGet b.routes (request_of line) answer routes → waits ≡ b.waits ++ reply answer
    → Answered a (record { holds = b.holds; waits = waits; routes = routes }) (line ∷ [])
one_answer a b waits line answer routes f gets adds =
    answers_more a b (record { holds = b.holds; waits = waits; routes = routes }) [] (line ∷ []) f (record {
      answers = answer ∷ [];
      turns = (routes, gets, refl);
      puts = puts_waiting b.holds b.waits waits (replies (answer ∷ []))
          (adds ∙ ap (λ l. b.waits ++ l) (sym (append-nil (reply answer))));
    })

-- ---- answers up to a failure

pub fails_at_once : (a : Standing) (holds : Option (List ℕ)) (ls : List (List ℕ))
    → AppendsBeginning a.holds holds a.waits → FailsWithin a holds ls
fails_at_once a holds ls h =
    record { answers = []; turns = tt; took = subst (AppendsBeginning a.holds holds) (sym (append-nil a.waits)) h }

fails_later : (a b : Standing) (holds : Option (List ℕ)) (ls ms : List (List ℕ)) → Answered a b ls
    → FailsWithin b holds ms → FailsWithin a holds (ls ++ ms)
fails_later a b holds ls ms f g =
    let firsts = replies f.answers in
    let seconds = replies g.answers in
    let same : f.puts.0 ++ (b.waits ++ seconds) ≡ a.waits ++ replies (f.answers ++ g.answers) =
    sym (append_assoc f.puts.0 b.waits seconds) ∙ ap (λ l. l ++ seconds) (sym f.puts.2)
    ∙ append_assoc a.waits firsts seconds
    ∙ ap (λ l. a.waits ++ l) (sym (replies-append f.answers g.answers)) in
    record {
      answers = f.answers ++ g.answers;
      turns = first-append LineMayGet a.routes b.routes ls ms f.answers g.answers f.turns g.turns;
      took = (
        f.puts.0 ++ g.took.0,
        Appends-trans a.holds b.holds holds f.puts.0 g.took.0 f.puts.1 g.took.1,
        subst (IsBeginning (f.puts.0 ++ g.took.0)) same (begins_after f.puts.0 g.took.0 (b.waits ++ seconds) g.took.2),
      );
    }

-- a flush that fails after the answers to all lines
fails_behind : (a b : Standing) (holds : Option (List ℕ)) (ls : List (List ℕ)) → Answered a b ls → Keeps b.holds holds
    → FailsWithin a holds ls
fails_behind a b holds ls f keeps = record {
  answers = f.answers;
  turns = first_of_all LineMayGet a.routes b.routes ls f.answers f.turns;
  took = (f.puts.0, Appends-kept _ _ _ _ f.puts.1 keeps, (b.waits, f.puts.2));
}

nothing_read : (count : ℕ) → (count == 0) ≡ true → count ≡ 0
nothing_read count e = elim (eqb_tells count 0) [
  | inl same ↦ same.1
  | inr apart ↦ absurd (true≢false (sym e ∙ apart.0))
]

-- ---- the progress of a run

pub begins : (limit room : ℕ) (held : Buffered) (left holds : Option (List ℕ)) (now : Standing) → room ≡ limit
    → IsPending held [] → held.ended ≡ false → now ≡ begun holds
    → RunSoFar limit room held left left (begun holds) now
begins limit room held left holds now all h going same = record {
  read = [];
  consumed = Consumes-nil left;
  counted = omega (arith, all);
  at_end = λ f. absurd (true≢false (sym f ∙ going));
  pending = [];
  holds = h;
  asks = [];
  first = λ more e. refl;
  answers = subst (λ (a : Standing). Answered (begun holds) a []) (sym same) (no_answers (begun holds));
}

-- one more line was returned and answered
one_more : (limit room : ℕ) (old new : Buffered) (left rest : Option (List ℕ)) (start a b : Standing) (end : LineEnd)
    (line : List ℕ) → (s : RunSoFar limit room old left rest start a)
    → HandsOut new s.pending line end → new.ended ≡ old.ended → Answered a b (line ∷ [])
    → RunSoFar limit room new left rest start b
one_more limit room old new left rest start a b end line s hands same f = record {
  read = s.read;
  consumed = s.consumed;
  counted = s.counted;
  at_end = λ e. s.at_end (sym same ∙ e);
  pending = hands.after;
  holds = hands.holds;
  asks = s.asks ++ line ∷ [];
  first = handed old new s.read s.asks s.pending line end s.first same hands;
  answers = answers_more start a b s.asks (line ∷ []) s.answers f;
}

pub after_line : (limit room : ℕ) (old new : Buffered) (left rest : Option (List ℕ)) (start a b : Standing)
    (end : LineEnd) (line : List ℕ) → RunSoFar limit room old left rest start a
    → ((pending : List ℕ) → IsPending old pending → Gives new pending (Line end)) → new.ended ≡ old.ended
    → line ≡ new.line → Answered a b (line ∷ []) → RunSoFar limit room new left rest start b
after_line limit room old new left rest start a b end line s gives same is f =
    one_more limit room old new left rest start a b end line s
    (subst (λ l. HandsOut new s.pending l end) (sym is) (gives s.pending s.holds).0) same f

pub after_long : (limit room max : ℕ) (old new : Buffered) (left rest : Option (List ℕ)) (start a b : Standing)
    → RunSoFar limit room old left rest start a
    → ((pending : List ℕ) → IsPending old pending → Gives new pending TooLong) → new.ended ≡ old.ended → new.limit ≡ max
    → ((line : List ℕ) → max < length line → Answered a b (line ∷ []))
    → RunSoFar limit room new left rest start b
after_long limit room max old new left rest start a b s gives same is f =
    let given = gives s.pending s.holds in
    one_more limit room old new left rest start a b given.1 given.0 s given.2 same
    (f given.0 (omega (arith, given.3, is)))

-- what was read, just before a device is asked: no reply waits, and no line is complete
pub record Idle (limit room : ℕ) (held : Buffered) (left rest : Option (List ℕ)) (start now : Standing) : Type 0 where
  pub sofar : RunSoFar limit room held left rest start now
  pub going : held.ended ≡ false
  pub complete : lines (complete_part sofar.read) ≡ sofar.asks
  pub nothing : now.waits ≡ []

pub before_asking : (limit room : ℕ) (old new : Buffered) (left rest : Option (List ℕ)) (start a b : Standing)
    → RunSoFar limit room old left rest start a
    → ((pending : List ℕ) → IsPending old pending → Gives new pending Ask) → new.ended ≡ old.ended → Answered a b []
    → b.waits ≡ [] → Idle limit room new left rest start b
before_asking limit room old new left rest start a b s gives same f none =
    let given = gives s.pending s.holds in
    let going : new.ended ≡ false = given.3 in
    let first : AreFirst new.ended s.read s.asks s.pending =
    subst (λ e. AreFirst e s.read s.asks s.pending) (sym same) s.first in
    record {
      sofar = record {
        read = s.read;
        consumed = s.consumed;
        counted = s.counted;
        at_end = λ e. s.at_end (sym same ∙ e);
        pending = s.pending;
        holds = given.0;
        asks = s.asks;
        first = first;
        answers = written_after start a b s.asks s.answers f;
      };
      going = going;
      complete = first_are_complete s.read s.asks s.pending (has_no s.pending given.1)
          (first (10 ∷ []) (λ e. absurd (true≢false (sym e ∙ going))));
      nothing = none;
    }

pub after_asking : (limit room room_left count : ℕ) (old new : Buffered) (left mid rest : Option (List ℕ))
    (start now : Standing) → Idle limit room old left mid start now
    → Receives mid rest old new count → new.ended ≡ (count == 0) → count ≤ room → room_left ≡ room - count
    → RunSoFar limit room_left new left rest start now
after_asking limit room room_left count old new left mid rest start now idle r ended fits lefts =
    let s = idle.sofar in
    record {
      read = s.read ++ r.chunk;
      consumed = Consumes-trans left mid rest _ _ s.consumed r.consumed;
      counted = omega (arith, length-append s.read r.chunk, s.counted, r.counted, fits, lefts);
      at_end = λ e. r.at_end (nothing_read count (sym ended ∙ e));
      pending = s.pending ++ r.chunk;
      holds = r.holds s.pending s.holds;
      asks = s.asks;
      first = first_still new.ended s.read s.asks s.pending r.chunk
          (subst (λ e. AreFirst e s.read s.asks s.pending) idle.going s.first);
      answers = s.answers;
    }

-- ---- that a run ends

work_bound : (held : Buffered) → work held ≤ length held.bytes + 1
work_bound held =
    let one : (if held.dropped then 1 else 0) ≤ 1 =
    elim held.dropped as (λ v. (if v then 1 else 0) ≤ 1) [ true ↦ omega arith | false ↦ omega arith ] in
    omega (arith, one, length-drop held.start (take held.end held.bytes), length-take held.end held.bytes)

pub less_to_read : (old new : Buffered) (room count : ℕ) → old.ended ≡ false → new.ended ≡ (count == 0) → count ≤ room
    → length new.bytes ≡ 65536
    → (room - count + (if new.ended then 0 else 1)) * 65538 + work new < (room + (if old.ended then 0 else 1))
    * 65538 + work old
less_to_read old new room count going ended fits size =
    let bound = work_bound new in
    let was : ◌≡◌ {A = ℕ} (if old.ended then 0 else 1) 1 = ap (λ v. if v then 0 else 1) going in
    elim (eqb_tells count 0) [
      | inl none ↦
          let now : ◌≡◌ {A = ℕ} (if new.ended then 0 else 1) 0 = ap (λ v. if v then 0 else 1) (ended ∙ none.0) in
          omega (arith, now, was, none.1, bound, size)
      | inr some ↦
          let now : ◌≡◌ {A = ℕ} (if new.ended then 0 else 1) 1 = ap (λ v. if v then 0 else 1) (ended ∙ some.0) in
          omega (arith, now, was, some.1, bound, size, fits)
    ]

-- ---- how a run ends

-- if no reply waits, all answers were written
all_written : (holds : Option (List ℕ)) (b : Standing) (asks : List (List ℕ)) → (f : Answered (begun holds) b asks)
    → b.waits ≡ [] → Appends holds b.holds (replies f.answers)
all_written holds b asks f none =
    subst (Appends holds b.holds) (sym (f.puts.2 ∙ ap (λ l. f.puts.0 ++ l) none ∙ append-nil f.puts.0)) f.puts.1

is_output : (holds : Option (List ℕ)) (b : Standing) (asks : List (List ℕ)) (input : List ℕ)
    → (f : Answered (begun holds) b asks) → lines input ≡ asks → IsOutput input (replies f.answers)
is_output holds b asks input f same = (
  b.routes,
  (f.answers, subst (λ (ls : List (List ℕ)). MayAnswer no_routes ls f.answers b.routes) (sym same) f.turns, refl),
)

pub read_failed : (limit room : ℕ) (held : Buffered) (left mid rest holds : Option (List ℕ)) (now : Standing)
    → Idle limit room held left mid (begun holds) now → Keeps mid rest
    → Ran limit left rest holds now.holds (Err Read)
read_failed limit room held left mid rest holds now idle keeps =
    let s = idle.sofar in
    record {
      read = s.read;
      written = replies s.answers.answers;
      reads = Consumes-kept left mid rest _ s.consumed keeps;
      writes = all_written holds now s.asks s.answers idle.nothing;
      ends = (omega (arith, s.counted), is_output holds now s.asks (complete_part s.read) s.answers idle.complete);
    }

pub too_long : (limit room count : ℕ) (old new : Buffered) (left mid rest holds : Option (List ℕ)) (now : Standing)
    → Idle limit room old left mid (begun holds) now
    → Receives mid rest old new count → room < count → Ran limit left rest holds now.holds (Err InputTooLong)
too_long limit room count old new left mid rest holds now idle r over =
    let s = idle.sofar in
    record {
      read = s.read ++ r.chunk;
      written = replies s.answers.answers;
      reads = Consumes-trans left mid rest _ _ s.consumed r.consumed;
      writes = all_written holds now s.asks s.answers idle.nothing;
      ends = (
        omega (arith, length-append s.read r.chunk, s.counted, r.counted, over),
        (
          s.read,
          (r.chunk, refl),
          omega (arith, s.counted),
          is_output holds now s.asks (complete_part s.read) s.answers idle.complete,
        ),
      );
    }

-- a failure at one of the lines that were read
stopped : AnswerIsComputed ℕ → (limit : ℕ) (left rest held holds : Option (List ℕ)) (read : List ℕ)
    (asks others : List (List ℕ)) → Consumes left rest read → length read ≤ limit
    → lines read ≡ asks ++ others → FailsWithin (begun held) holds asks → Ran limit left rest held holds (Err Write)
stopped computed limit left rest held holds read asks others consumed within same f =
    let firsts = f.answers in
    let turns : FirstMayAnswer no_routes (lines read) firsts =
    subst (λ (ls : List (List ℕ)). FirstMayAnswer no_routes ls firsts) (sym same)
    (first_of_more LineMayGet no_routes asks others firsts f.turns) in
    let all = goes_on_to_all computed no_routes (lines read) firsts turns in
    record {
      read = read;
      written = f.took.0;
      reads = consumed;
      writes = f.took.1;
      ends = (
        within,
        (
          replies (firsts ++ all.0),
          (all.1, (firsts ++ all.0, all.2, refl)),
          subst (IsBeginning f.took.0) (sym (replies-append firsts all.0))
              (begins_longer f.took.0 (replies firsts) (replies all.0) f.took.2),
        ),
      );
    }

-- a failure while a line is answered
pub line_failed : AnswerIsComputed ℕ → (limit room : ℕ) (old new : Buffered) (left rest held holds : Option (List ℕ))
    (a : Standing) (end : LineEnd) (line : List ℕ)
    → RunSoFar limit room old left rest (begun held) a → ((pending : List ℕ) → IsPending old pending
    → Gives new pending (Line end)) → new.ended ≡ old.ended → line ≡ new.line
    → FailsWithin a holds (line ∷ []) → Ran limit left rest held holds (Err Write)
line_failed computed limit room old new left rest held holds a end line s gives same is f =
    let hands : HandsOut new s.pending line end =
    subst (λ l. HandsOut new s.pending l end) (sym is) (gives s.pending s.holds).0 in
    stopped computed limit left rest held holds s.read (s.asks ++ line ∷ []) (lines hands.after) s.consumed
    (omega (arith, s.counted))
    (are_all new.ended s.read (s.asks ++ line ∷ []) hands.after
    (handed old new s.read s.asks s.pending line end s.first same hands))
    (fails_later (begun held) a holds s.asks (line ∷ []) s.answers f)

pub long_failed : AnswerIsComputed ℕ
    → (limit room : ℕ) (old new : Buffered) (left rest held holds : Option (List ℕ)) (a : Standing)
    → RunSoFar limit room old left rest (begun held) a
    → ((pending : List ℕ) → IsPending old pending → Gives new pending TooLong) → new.ended ≡ old.ended
    → ((line : List ℕ) → FailsWithin a holds (line ∷ [])) → Ran limit left rest held holds (Err Write)
long_failed computed limit room old new left rest held holds a s gives same f =
    let given = gives s.pending s.holds in
    let line = given.0 in
    let hands = given.2 in
    stopped computed limit left rest held holds s.read (s.asks ++ line ∷ []) (lines hands.after) s.consumed
    (omega (arith, s.counted))
    (are_all new.ended s.read (s.asks ++ line ∷ []) hands.after
    (handed old new s.read s.asks s.pending line given.1 s.first same hands))
    (fails_later (begun held) a holds s.asks (line ∷ []) s.answers (f line))

-- a failure while the replies that wait are written
pub writing_failed : AnswerIsComputed ℕ
    → (limit room : ℕ) (held_now : Buffered) (left rest held holds : Option (List ℕ)) (a : Standing)
    → RunSoFar limit room held_now left rest (begun held) a → AppendsBeginning a.holds holds a.waits
    → Ran limit left rest held holds (Err Write)
writing_failed computed limit room held_now left rest held holds a s took =
    stopped computed limit left rest held holds s.read (s.asks ++ []) (lines s.pending) s.consumed
    (omega (arith, s.counted))
    (are_all held_now.ended s.read s.asks s.pending s.first ∙ ap (λ l. l ++ lines s.pending) (sym (append-nil s.asks)))
    (fails_later (begun held) a holds s.asks [] s.answers (fails_at_once a holds [] took))

-- the end of the input
pub finished : AnswerIsComputed ℕ → (limit room : ℕ) (old new : Buffered) (left rest held holds : Option (List ℕ))
    (a b : Standing) (result : Result (Unit {0}) RunFault)
    → RunSoFar limit room old left rest (begun held) a
    → ((pending : List ℕ) → IsPending old pending → Gives new pending End) → new.ended ≡ old.ended
    → Answered a b [] → b.waits ≡ [] → Keeps b.holds holds → IsOkUnless result Write
    → Ran limit left rest held holds result
finished computed limit room old new left rest held holds a b (Ok done) s gives same f none keeps only =
    let given = gives s.pending s.holds in
    let all = written_after (begun held) a b s.asks s.answers f in
    let asked : lines s.read ≡ s.asks = are_all old.ended s.read s.asks s.pending s.first
    ∙ ap (λ l. s.asks ++ lines l) given.0 ∙ append-nil s.asks in
    record {
      read = s.read;
      written = replies all.answers;
      reads = s.consumed;
      writes = Appends-kept _ _ _ _ (all_written held b s.asks all none) keeps;
      ends = (s.at_end (sym same ∙ given.2), omega (arith, s.counted), is_output held b s.asks s.read all asked);
    }
finished computed limit room old new left rest held holds a b (Err fault) s gives same f none keeps only =
    let given = gives s.pending s.holds in
    let all = written_after (begun held) a b s.asks s.answers f in
    let asked : lines s.read ≡ s.asks ++ [] = are_all old.ended s.read s.asks s.pending s.first
    ∙ ap (λ l. s.asks ++ lines l) given.0 in
    subst (λ (f : RunFault). Ran limit left rest held holds (Err f)) (sym only)
    (stopped computed limit left rest held holds s.read s.asks [] s.consumed (omega (arith, s.counted)) asked
    (fails_behind (begun held) b holds s.asks all keeps))

-- ---- a device that had failed before

pub read_had_failed : (limit : ℕ) (left held : Option (List ℕ)) → Ran limit left left held held (Err Read)
unfolding complete_part
read_had_failed limit left held = record {
  read = [];
  written = [];
  reads = Consumes-nil left;
  writes = Appends-nil held;
  ends = (omega arith, (no_routes, ([], refl, refl)));
}

pub write_had_failed : (limit : ℕ) (left held : Option (List ℕ)) → Ran limit left left held held (Err Write)
write_had_failed limit left held = record {
  read = [];
  written = [];
  reads = Consumes-nil left;
  writes = Appends-nil held;
  ends = (omega arith, ([], (no_routes, ([], refl, refl)), begins_with_nothing []));
}
