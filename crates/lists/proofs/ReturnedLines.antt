-- The lines of a list, as they are returned.
use Rattle.lists.proofs.Words.{◌≡◌, ◌∙◌, inl, ℕ, ◌+◌, ◌-◌, ◌^◌, ◌<◌, ◌≤◌, true, false, true≢false, List, [], ◌∷◌, ◌++◌, length, refl, sym, ap, subst, append_assoc, append-nil, length-append, arith, Consumes-trans, Consumes-kept, ltb-true, ltb-false, Consumes, Keeps, IsAtEnd, Option, None, Some, nat_lt, lines, asked, complete_part, Buffered, waits, HasNoFeed, IsPending, AreFirst, IsFirstLine, Gives, Read, InputTooLong, Line, TooLong, Ask, End, LineEnd, next_first, first_still, are_all, has_no, last_line, lines_last, first_are_complete, ReadLists, Takes, TakesLines, TakesSome, HasNoLine, TakesWhole, TakesBefore}
use Rattle.std.specs.Prelude.{Bool}

-- ---- lists of lines

pub lines_nothing : lines [] ≡ []
unfolding last_line
lines_nothing = lines_last [] tt

-- the lines before pending bytes that have no line feed are those that are complete
pub complete_lines : (read : List ℕ) (taken : List (List ℕ)) (pending : List ℕ) → HasNoFeed pending
    → AreFirst false read taken pending → lines (complete_part read) ≡ taken
complete_lines read taken pending none leaves =
    first_are_complete read taken pending (has_no pending none) (leaves (10 ∷ []) (λ e. absurd (true≢false (sym e))))

-- ---- lines that are taken

pub takes_both : (before between after : ReadLists) (first others : List (List ℕ)) → TakesLines before first between
    → TakesLines between others after → TakesLines before (first ++ others) after
takes_both before between after [] others h k = subst (λ (l : ReadLists). TakesLines l others after) h k
takes_both before between after (line ∷ first) others h k = (h.0, h.1, takes_both h.0 between after first others h.2 k)

-- without memory, any lines are taken as nothing
pub takes_nothing : (lists : ReadLists) (ls : List (List ℕ)) → lists.is_out_of_memory ≡ true → TakesLines lists ls lists
takes_nothing lists [] out = refl
takes_nothing lists (line ∷ ls) out = (lists, inl (out, refl), takes_nothing lists ls out)

asked_short : (line : List ℕ) → length line ≤ 1024 → (b : Bool) → nat_lt 1024 (length line) ≡ b
    → asked 1024 line ≡ Some line
asked_short line short true e = absurd (let long = ltb-true 1024 (length line) e in omega (arith, short, long))
asked_short line short false e = rw e refl

asked_long : (line : List ℕ) → 1024 < length line → (b : Bool) → nat_lt 1024 (length line) ≡ b → asked 1024 line ≡ None
asked_long line long true e = rw e refl
asked_long line long false e = absurd (let short = ltb-false 1024 (length line) e in omega (arith, short, long))

-- ---- one line

pub takes_none : (held : Buffered) (lists : ReadLists) (pending : List ℕ) → IsPending held pending
    → TakesSome held lists lists pending
takes_none held lists pending h = record { taken = []; now = pending; holds = h; leaves = λ more e. refl; takes = refl }

some_more : (old new : Buffered) (before between after : ReadLists) (pending line rest : List ℕ) (end : LineEnd)
    → (s : TakesSome old before between pending)
    → IsPending new rest → IsFirstLine end new.ended s.now line rest → new.ended ≡ old.ended
    → Takes between (asked 1024 line) after → TakesSome new before after pending
some_more old new before between after pending line rest end s holds first same took = record {
  taken = s.taken ++ line ∷ [];
  now = rest;
  holds = holds;
  leaves = next_first end new.ended pending s.taken s.now line rest
      (subst (λ e. AreFirst e pending s.taken s.now) (sym same) s.leaves) first;
  takes = takes_both before between after s.taken (line ∷ []) s.takes (after, took, refl);
}

pub takes_line : (old new : Buffered) (before between after : ReadLists) (pending line : List ℕ) (end : LineEnd)
    → TakesSome old before between pending
    → ((now : List ℕ) → IsPending old now → Gives new now (Line end)) → new.ended ≡ old.ended → new.limit ≡ 1024
    → line ≡ new.line
    → Takes between (Some line) after → TakesSome new before after pending
takes_line old new before between after pending line end s gives same limit is took =
    let given = gives s.now s.holds in
    let hands = given.0 in
    let short : length line ≤ 1024 = omega (arith, given.1, limit, ap length is) in
    some_more old new before between after pending line hands.after end s hands.holds
    (subst (λ l. IsFirstLine end new.ended s.now l hands.after) (sym is) hands.first) same
    (subst (λ q. Takes between q after) (sym (asked_short line short (nat_lt 1024 (length line)) refl)) took)

pub takes_too_long : (old new : Buffered) (before between after : ReadLists) (pending : List ℕ)
    → TakesSome old before between pending
    → ((now : List ℕ) → IsPending old now → Gives new now TooLong) → new.ended ≡ old.ended → new.limit ≡ 1024
    → Takes between None after → TakesSome new before after pending
takes_too_long old new before between after pending s gives same limit took =
    let given = gives s.now s.holds in
    let line = given.0 in
    let hands = given.2 in
    some_more old new before between after pending line hands.after given.1 s hands.holds hands.first same
    (subst (λ q. Takes between q after)
    (sym (asked_long line (omega (arith, given.3, limit)) (nat_lt 1024 (length line)) refl)) took)

pub takes_whole : (old new : Buffered) (before after : ReadLists) (pending : List ℕ)
    → TakesSome old before after pending
    → ((now : List ℕ) → IsPending old now → Gives new now Ask) → new.ended ≡ old.ended
    → TakesWhole new before after pending
takes_whole old new before after pending s gives same =
    let given = gives s.now s.holds in
    record {
      some =
          record {
            taken = s.taken;
            now = s.now;
            holds = given.0;
            leaves =
                subst (λ e. AreFirst e pending s.taken s.now) (sym same) s.leaves;
            takes = s.takes;
          };
      idle = subst (λ e. HasNoLine e new s.now) (sym given.3) (given.1, given.2);
    }

pub takes_all : (old new : Buffered) (before after : ReadLists) (pending : List ℕ) → TakesSome old before after pending
    → ((now : List ℕ) → IsPending old now → Gives new now End) → new.ended ≡ old.ended
    → TakesWhole new before after pending
takes_all old new before after pending s gives same =
    let given = gives s.now s.holds in
    record {
      some =
          record {
            taken = s.taken;
            now = [];
            holds = given.1;
            leaves = subst (λ e. AreFirst e pending s.taken []) (sym same)
                (subst (λ l. AreFirst old.ended pending s.taken l) given.0 s.leaves);
            takes = s.takes;
          };
      idle = subst (λ e. HasNoLine e new []) (sym given.2) refl;
    }

-- ---- a whole list

-- the bytes that were read so far, the lines of them that were taken, and the others, which are pending
pub record TakesSoFar (left rest : Option (List ℕ)) (held : Buffered) (start now : ReadLists) (room : ℕ) : Type 0 where
  pub read : List ℕ
  pub consumed : Consumes left rest read
  pub counted : length read + room ≡ 2 ^ 64 - 1
  pub pending : List ℕ
  pub holds : IsPending held pending
  pub none : HasNoFeed pending
  pub taken : List (List ℕ)
  pub leaves : AreFirst false read taken pending
  pub takes : TakesLines start taken now

joined : (read pending now : List ℕ) (taken more : List (List ℕ)) → AreFirst false read taken pending
    → AreFirst false pending more now → AreFirst false read (taken ++ more) now
joined read pending now taken more h k = λ rest e. h rest e ∙ ap (λ ls. taken ++ ls) (k rest e)
    ∙ sym (append_assoc taken more (lines (now ++ rest)))

pub goes_idle : (left between : Option (List ℕ)) (old mid new : Buffered) (start before after : ReadLists) (room : ℕ)
    → TakesSoFar left between old start before room
    → (chunk : List ℕ) → ((pending : List ℕ) → IsPending old pending → IsPending mid (pending ++ chunk))
    → ((pending : List ℕ) → IsPending mid pending → TakesWhole new before after pending) → new.ended ≡ false
    → HasNoFeed (waits new)
goes_idle left between old mid new start before after room s chunk more took going =
    let whole = took (s.pending ++ chunk) (more s.pending s.holds) in
    (subst (λ e. HasNoLine e new whole.some.now) going whole.idle).1

pub goes_on : (left between rest : Option (List ℕ)) (old mid new : Buffered) (start before after : ReadLists)
    (room less count : ℕ) → (s : TakesSoFar left between old start before room)
    → (chunk : List ℕ) → length chunk ≡ count → count ≤ room → less ≡ room - count → Consumes between rest chunk
    → ((pending : List ℕ) → IsPending old pending → IsPending mid (pending ++ chunk))
    → ((pending : List ℕ) → IsPending mid pending → TakesWhole new before after pending) → new.ended ≡ false
    → TakesSoFar left rest new start after less
goes_on left between rest old mid new start before after room less count s chunk counted within is consumed more
    took going =
    let whole = took (s.pending ++ chunk) (more s.pending s.holds) in
    let some = whole.some in
    let idle = subst (λ e. HasNoLine e new some.now) going whole.idle in
    record {
      read = s.read ++ chunk;
      consumed = Consumes-trans left between rest s.read chunk s.consumed consumed;
      counted = omega (arith, length-append s.read chunk, s.counted, counted, within, is);
      pending = some.now;
      holds = some.holds;
      none = idle.0;
      taken = s.taken ++ some.taken;
      leaves = joined (s.read ++ chunk) (s.pending ++ chunk) some.now s.taken some.taken
          (first_still false s.read s.taken s.pending chunk s.leaves)
          (subst (λ e. AreFirst e (s.pending ++ chunk) some.taken some.now) going some.leaves);
      takes = takes_both start before after s.taken some.taken s.takes some.takes;
    }

pub whole_input : (left rest : Option (List ℕ)) (input read : List ℕ) → left ≡ Some input → Consumes left rest read
    → IsAtEnd rest → input ≡ read
whole_input None rest input read e consumed at_end = absurd (let q = e in cc)
whole_input (Some text) None input read e consumed at_end = absurd consumed
whole_input (Some text) (Some more) input read e consumed at_end =
    let same : text ≡ input = (let q = e in cc) in
    sym same ∙ consumed ∙ ap (λ l. read ++ l) at_end ∙ append-nil read

others_of : (left rest : Option (List ℕ)) (input read : List ℕ) → left ≡ Some input → Consumes left rest read
    → (others : List ℕ) × (input ≡ read ++ others)
others_of None rest input read e consumed = absurd (let q = e in cc)
others_of (Some text) None input read e consumed = absurd consumed
others_of (Some text) (Some more) input read e consumed = let same : text ≡ input = (let q = e in cc) in
    (more, sym same ∙ consumed)

-- a read failed
pub stops_reading : (left between rest : Option (List ℕ)) (held : Buffered) (start now : ReadLists) (room : ℕ)
    → TakesSoFar left between held start now room → Keeps between rest
    → TakesBefore left rest Read start now
stops_reading left between rest held start now room s keeps = (
  s.read,
  Consumes-kept left between rest s.read s.consumed keeps,
  subst (λ ls. TakesLines start ls now) (sym (complete_lines s.read s.taken s.pending s.none s.leaves)) s.takes,
)

-- there are more bytes than 64 bits count
pub stops_too_long : (left between rest : Option (List ℕ)) (held : Buffered) (start now : ReadLists) (room : ℕ)
    (s : TakesSoFar left between held start now room) (chunk : List ℕ)
    → Consumes between rest chunk → room < length chunk → TakesBefore left rest InputTooLong start now
stops_too_long left between rest held start now room s chunk consumed more = (
  s.read ++ chunk,
  s.read,
  Consumes-trans left between rest s.read chunk s.consumed consumed,
  omega (arith, length-append s.read chunk, s.counted, more),
  (chunk, refl),
  subst (λ ls. TakesLines start ls now) (sym (complete_lines s.read s.taken s.pending s.none s.leaves)) s.takes,
)

-- the input has ended
pub ends : (left between rest : Option (List ℕ)) (old mid new : Buffered) (start before after : ReadLists) (room : ℕ)
    → TakesSoFar left between old start before room → (chunk : List ℕ)
    → Consumes between rest chunk → IsAtEnd rest
    → ((pending : List ℕ) → IsPending old pending → IsPending mid (pending ++ chunk))
    → ((pending : List ℕ) → IsPending mid pending → TakesWhole new before after pending) → new.ended ≡ true
    → (input : List ℕ) → left ≡ Some input → TakesLines start (lines input) after
ends left between rest old mid new start before after room s chunk consumed at_end more took ended input is =
    let whole = took (s.pending ++ chunk) (more s.pending s.holds) in
    let some = whole.some in
    let read = s.read ++ chunk in
    let nothing : some.now ≡ [] = subst (λ e. HasNoLine e new some.now) ended whole.idle in
    let rest_of : lines (s.pending ++ chunk) ≡ some.taken ++ lines some.now =
    are_all new.ended (s.pending ++ chunk) some.taken some.now some.leaves in
    let cut : lines read ≡ s.taken ++ some.taken =
    are_all false read s.taken (s.pending ++ chunk) (first_still false s.read s.taken s.pending chunk s.leaves)
    ∙ ap (λ ls. s.taken ++ ls) (rest_of ∙ ap (λ l. some.taken ++ lines l) nothing
    ∙ ap (λ ls. some.taken ++ ls) lines_nothing ∙ append-nil some.taken) in
    let all : input ≡ read = whole_input left rest input read is
    (Consumes-trans left between rest s.read chunk s.consumed consumed) at_end in
    subst (λ ls. TakesLines start ls after) (sym (ap lines all ∙ cut))
    (takes_both start before after s.taken some.taken s.takes some.takes)

-- memory has run out
pub runs_out : (left rest : Option (List ℕ)) (held : Buffered) (start now : ReadLists) (room : ℕ)
    → TakesSoFar left rest held start now room → now.is_out_of_memory ≡ true
    → (input : List ℕ) → left ≡ Some input → TakesLines start (lines input) now
runs_out left rest held start now room s out input is =
    let others = others_of left rest input s.read is s.consumed in
    subst (λ ls. TakesLines start ls now)
    (sym (ap lines others.1 ∙ s.leaves others.0 (λ e. absurd (true≢false (sym e)))))
    (takes_both start now now s.taken (lines (s.pending ++ others.0)) s.takes
    (takes_nothing now (lines (s.pending ++ others.0)) out))
