-- How lists end.
use Rattle.lists.proofs.Words.{◌≡◌, ◌≢◌, ◌∙◌, ◌==◌, ◌<◌, ◌-◌, ◌^◌, ℕ, Bool, true, false, inl, inr, List, [], ◌∷◌, ◌++◌, length, refl, sym, ap, subst, arith, cond, append-nil, length-append, Option, None, Some, Consumes, IsAtEnd, Consumes-trans, ltb-true, ltb-false, nat_lt, lines, Buffered, HasNoFeed, IsPending, AreFirst, IsFirstLine, Gives, LineEnd, Line, TooLong, Ask, End, LineFeed, ReturnAndLineFeed, EndOfInput, has_no, last_line, lines_from, lines-append, lines_last, lines_split, pending_from, pending-append, pending_other, newline_cases, ReadLists, EndsWithFeed, TellsEnd, TellsNone}
use Rattle.std.specs.Prelude.{◌&&◌}
use Rattle.lists.proofs.ReturnedLines.{TakesSoFar, lines_nothing, whole_input}

-- ---- what is pending at the end

pushed_same : {A : Type 0} (ls ms : List A) (l m : A) → ls ++ l ∷ [] ≡ ms ++ m ∷ [] → (ls ≡ ms) × (l ≡ m)
pushed_same [] [] l m e = (refl, (cc))
pushed_same [] (x ∷ ms) l m e = absurd (omega (arith, ap length e, length-append ms (m ∷ [])))
pushed_same (x ∷ ls) [] l m e = absurd (omega (arith, ap length e, length-append ls (l ∷ [])))
pushed_same (x ∷ ls) (y ∷ ms) l m e =
    let heads : x ≡ y = cc in
    let tails : ls ++ l ∷ [] ≡ ms ++ m ∷ [] = cc in
    let rest = pushed_same ls ms l m tails in
    (cc, rest.1)

last_pushed : (a : List ℕ) (c : ℕ) → last_line (a ++ c ∷ []) ≡ (a ++ c ∷ []) ∷ []
unfolding last_line
last_pushed [] c = refl
last_pushed (x ∷ a) c = refl

-- the lines of some bytes and an `a` after them
with_one_more : (read : List ℕ) → lines (read ++ 97 ∷ []) ≡ lines_from [] read ++ (pending_from [] read ++ 97 ∷ []) ∷ []
unfolding lines_from pending_from
with_one_more read =
    let was = pending_from [] read in
    lines_split [] (read ++ 97 ∷ []) tt
    ∙ ap (λ ls. ls ++ last_line (pending_from [] (read ++ 97 ∷ []))) (lines-append [] read (97 ∷ []) ∙ append-nil _)
    ∙ ap (λ p. lines_from [] read ++ last_line p) (pending-append [] read (97 ∷ []))
    ∙ ap (λ ls. lines_from [] read ++ ls) (last_pushed was 97)

one_pending : (pending : List ℕ) → HasNoFeed pending → lines (pending ++ 97 ∷ []) ≡ (pending ++ 97 ∷ []) ∷ []
unfolding lines_from pending_from
one_pending pending none = lines_split pending (97 ∷ []) (has_no pending none) ∙ last_pushed pending 97

-- what has no line feed and is left of some bytes when their first lines are taken is what follows the last line feed
pending_is : (read : List ℕ) (taken : List (List ℕ)) (pending : List ℕ) → AreFirst false read taken pending
    → HasNoFeed pending → pending_from [] read ≡ pending
pending_is read taken pending first none =
    let whole = sym (with_one_more read) ∙ first (97 ∷ []) (λ e. absurd (let q = e in cc))
    ∙ ap (λ ls. taken ++ ls) (one_pending pending none) in
    let last = pushed_same (lines_from [] read) taken (pending_from [] read ++ 97 ∷ []) (pending ++ 97 ∷ []) whole in
    (pushed_same (pending_from [] read) pending 97 97 last.1).0

-- ---- whether the last byte is a line feed

ends_none : ¬ (EndsWithFeed [])
ends_none h = absurd (omega (arith, ap length h.1, length-append h.0 (10 ∷ [])))

fed : (p xs : List ℕ) → pending_from p xs ≡ [] → xs ≢ [] → EndsWithFeed xs
unfolding pending_from
fed p [] e some = absurd (some refl)
fed p (c ∷ []) e some = elim (newline_cases c) [
  | inl same ↦ ([], ap (λ x. x ∷ []) same)
  | inr other ↦
      absurd (omega (arith, ap length (sym (pending_other p [] c other) ∙ e), length-append p (c ∷ [])))
]
fed p (c ∷ d ∷ xs) e some =
    let more : d ∷ xs ≢ [] = λ q. absurd (omega (arith, ap length q)) in
    elim (newline_cases c) [
      | inl same ↦
          let rest = fed [] (d ∷ xs) (subst (λ x. pending_from p (x ∷ d ∷ xs) ≡ []) same e) more in
          (c ∷ rest.0, ap (λ l. c ∷ l) rest.1)
      | inr other ↦
          let rest = fed (p ++ c ∷ []) (d ∷ xs) (sym (pending_other p (d ∷ xs) c other) ∙ e) more in
          (c ∷ rest.0, ap (λ l. c ∷ l) rest.1)
    ]

nothing_after : (xs : List ℕ) → EndsWithFeed xs → pending_from [] xs ≡ []
unfolding pending_from
nothing_after xs h = ap (λ l. pending_from [] l) h.1 ∙ pending-append [] h.0 (10 ∷ [])

empty_of : (xs : List ℕ) → length xs ≡ 0 → xs ≡ []
empty_of [] e = refl
empty_of (x ∷ xs) e = absurd (omega (arith, e))

-- ---- a list that was read to its end

tells : (read pending : List ℕ) → pending_from [] read ≡ pending → (none some : Bool) → TellsNone none pending
    → (some ≡ true → read ≢ []) → (some ≡ false → read ≡ []) → (out : Bool) → TellsEnd (none && some) out read
tells read pending is true true told more less out = λ works. fed [] read (is ∙ told) (more refl)
tells read pending is true false told more less out =
    λ ends. ends_none (subst (λ l. EndsWithFeed l) (less refl) ends)
tells read pending is false some told more less out = λ ends. told (sym is ∙ nothing_after read ends)

pub tells_end : (left between rest : Option (List ℕ)) (old mid : Buffered) (start now : ReadLists) (room less : ℕ)
    → TakesSoFar left between old start now room → (chunk : List ℕ) → length chunk ≡ 0 → less ≡ room
    → Consumes between rest chunk → IsAtEnd rest
    → ((pending : List ℕ) → IsPending old pending → IsPending mid (pending ++ chunk)) → (none whole : Bool)
    → whole ≡ (none && nat_lt less (2 ^ 64 - 1))
    → ((pending : List ℕ) → IsPending mid pending → TellsNone none pending)
    → (out : Bool) (input : List ℕ) → left ≡ Some input → TellsEnd whole out input
tells_end left between rest old mid start now room less s chunk empty same consumed at_end holds none whole is told out
    input known =
    let some = nat_lt less (2 ^ 64 - 1) in
    let nothing = empty_of chunk empty in
    let all : input ≡ s.read = whole_input left rest input (s.read ++ chunk) known
    (Consumes-trans left between rest s.read chunk s.consumed consumed) at_end
    ∙ ap (λ l. s.read ++ l) nothing ∙ append-nil s.read in
    let pending = subst (λ l. IsPending mid (s.pending ++ l)) nothing (holds s.pending s.holds) in
    let left_over = subst (λ l. TellsNone none l) (append-nil s.pending) (told (s.pending ++ []) pending) in
    subst (λ w. TellsEnd w out input) (sym is) (subst (λ l. TellsEnd (none && some) out l) (sym all)
    (tells s.read s.pending (pending_is s.read s.taken s.pending s.leaves s.none) none some left_over
    (λ yes nil. absurd (omega (arith, ltb-true less (2 ^ 64 - 1) yes, s.counted, same, ap length nil)))
    (λ no. empty_of s.read (omega (arith, ltb-false less (2 ^ 64 - 1) no, s.counted, same))) out))

-- ---- whether there was a line

-- whether no line was returned yet, so that all is pending, or one was, so that something was pending
abbrev pub NoneYet : Bool → Buffered → List ℕ → Type 0
NoneYet true held pending = IsPending held pending
NoneYet false held pending = pending ≢ []

line_is_some : (end : LineEnd) (ended : Bool) (pending line after : List ℕ) → IsFirstLine end ended pending line after
    → pending ≢ []
line_is_some LineFeed ended pending line after h none =
    absurd (let a = h [] in let b = lines_nothing in let c = append-nil pending in cc)
line_is_some ReturnAndLineFeed ended pending line after h none =
    absurd (let a = h [] in let b = lines_nothing in let c = append-nil pending in cc)
line_is_some EndOfInput ended pending line after h none = absurd (let a = h.2 in let b = lines_nothing in cc)

pub some_line : (none : Bool) (old new : Buffered) (pending : List ℕ) (end : LineEnd) → NoneYet none old pending
    → ((now : List ℕ) → IsPending old now → Gives new now (Line end)) → pending ≢ []
some_line true old new pending end yet gives =
    let hands = (gives pending yet).0 in line_is_some end new.ended pending new.line hands.after hands.first
some_line false old new pending end yet gives = yet

pub some_long_line : (none : Bool) (old new : Buffered) (pending : List ℕ) → NoneYet none old pending
    → ((now : List ℕ) → IsPending old now → Gives new now TooLong) → pending ≢ []
some_long_line true old new pending yet gives =
    let given = gives pending yet in line_is_some given.1 new.ended pending given.0 given.2.after given.2.first
some_long_line false old new pending yet gives = yet

pub no_line : (none : Bool) (old new : Buffered) (pending : List ℕ) → NoneYet none old pending
    → ((now : List ℕ) → IsPending old now → Gives new now End) → TellsNone none pending
no_line true old new pending yet gives = (gives pending yet).0
no_line false old new pending yet gives = yet

pub no_line_yet : (none : Bool) (old new : Buffered) (pending : List ℕ) → NoneYet none old pending → new.ended ≡ true
    → ((now : List ℕ) → IsPending old now → Gives new now Ask) → TellsNone none pending
no_line_yet true old new pending yet ended gives = absurd (let a = (gives pending yet).3 in cc)
no_line_yet false old new pending yet ended gives = yet

-- ---- what the Boolean says

pub told_cut : (ends out : Bool) (input : List ℕ) → ends ≡ false → TellsEnd ends out input → ¬ (EndsWithFeed input)
told_cut true out input is told = absurd (let q = is in cc)
told_cut false out input is told = told

pub told_whole : (ends out : Bool) (input : List ℕ) → ends ≡ true → TellsEnd ends out input → out ≡ false
    → EndsWithFeed input
told_whole true out input is told works = told works
told_whole false out input is told works = absurd (let q = is in cc)
