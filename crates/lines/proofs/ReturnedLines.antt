-- The line that is returned is the first of the pending bytes.
use Rattle.lines.proofs.Words.{◌≡◌, ◌≢◌, ◌⊎◌, inl, inr, ℕ, zero, suc, ◌+◌, ◌-◌, ◌<◌, ◌≤◌, Bool, true, false, cond, List, [], ◌∷◌, ◌++◌, length, take, drop, refl, sym, ap, subst, ◌∙◌, append_assoc, append-nil, length-append, length-take, length-drop, true≢false, arith, eqb_tells, take-append-le, take-take, length-take-le, drop_all, drop-append-le, take_more, take_all, get_or-drop, between_is, drop-nil, copy_within, slice_index, lines, strip_carriage_return, IsAbsent, IsNext, Buffered, waits, HasNoFeed, IsDropped, IsPending, IsFirstLine, HandsOut, Gives, end_bytes, HasFeed, IsCut, Line, TooLong, Cut, LineEnd, LineFeed, ReturnAndLineFeed, EndOfInput}
use Rattle.lines.proofs.BytesLemmas.{HasNo, IsFirst, none_behind, first_behind, split_text, first_line, strip_length}
use Rattle.lines.proofs.Lines.{last_line, lines_line, lines_last}
use borrow.Rule.Slice.PartMut.{put_mid, post_of}

-- ---- bytes without a line feed

no_append : (a b : List ℕ) → HasNo 10 a → HasNo 10 b → HasNo 10 (a ++ b)
no_append [] b h k = k
no_append (x ∷ a) b h k = (h.0, no_append a b h.1 k)

absent : (text : List ℕ) → HasNo 10 text → (place : ℕ) → 0 ≤ place → place < length text → slice_index text place ≢ 10
absent [] h place low high = absurd (omega (arith, high))
absent (x ∷ text) h zero low high = elim (eqb_tells x 10) [
  | inl same ↦ absurd (true≢false (sym same.0 ∙ h.0))
  | inr apart ↦ apart.1
]
absent (x ∷ text) h (suc i) low high = absent text h.1 i (omega arith) (omega (arith, high))

pub has_no : (text : List ℕ) → HasNoFeed text → HasNo 10 text
has_no text h = none_behind 10 text 0 h

-- if a text has no line feed after a position, a search from there finds none
pub absent_behind : (text : List ℕ) (from : ℕ) → HasNoFeed (drop from text) → IsAbsent 10 text from (length text)
absent_behind text from h place low high =
    let there : from + (place - from) ≡ place = omega (arith, low) in
    let is : slice_index (drop from text) (place - from) ≡ slice_index text place =
    get_or-drop from text (place - from) 0 ∙ ap (slice_index text) there in
    rw (sym is) (h (place - from) (omega arith) (omega (arith, low, high, length-drop from text)))

-- ---- how a line with a line feed ends

-- the bytes before a line feed, followed by the line feed, are the line and its line ending
abbrev pub HowEnds : List ℕ → LineEnd → Type 0
HowEnds raw end = HasFeed end × (raw ++ 10 ∷ [] ≡ strip_carriage_return raw ++ end_bytes end)

how_ends : (raw : List ℕ) → (end : LineEnd) × HowEnds raw end
how_ends [] = (LineFeed, (tt, refl))
how_ends (x ∷ raw) =
    let text = x ∷ raw in
    let last = length text - 1 in
    let counted : length text ≡ last + 1 = omega arith in
    elim (eqb_tells (slice_index text last) 13) [
      | inl same ↦
          let whole : text ≡ take last text ++ 13 ∷ [] =
          sym (take_all (length text) text (omega arith)) ∙ ap (λ n. take n text) counted
          ∙ take_more text last 0 (omega arith) ∙ ap (λ c. take last text ++ c ∷ []) same.1 in (
            ReturnAndLineFeed,
            (
              tt,
              ap (λ l. l ++ 10 ∷ []) whole ∙ append_assoc (take last text) (13 ∷ []) (10 ∷ [])
                  ∙ ap (λ v. cond v (take last text) text ++ 13 ∷ 10 ∷ []) (sym same.0),
            ),
          )
      | inr apart ↦ (LineFeed, (tt, ap (λ v. cond v (take last text) text ++ 10 ∷ []) (sym apart.0)))
    ]

by_feed : (end : LineEnd) (ended : Bool) (pending line after : List ℕ) → HasFeed end → ((rest : List ℕ)
    → lines (pending ++ rest) ≡ line ∷ lines (after ++ rest)) → IsFirstLine end ended pending line after
by_feed LineFeed ended pending line after h k = k
by_feed ReturnAndLineFeed ended pending line after h k = k
by_feed EndOfInput ended pending line after h k = absurd h

-- ---- what was dropped

gone_none : (held : Buffered) (gone : List ℕ) → IsDropped held.dropped held.limit gone → HasNo 10 gone
gone_none held gone h = elim held.dropped as (λ v. IsDropped v held.limit gone → HasNo 10 gone) [
  | false ↦ λ e. subst (HasNo 10) (sym e) tt
  | true ↦ λ e. has_no gone e.0
] h

gone_empty : (held : Buffered) (gone : List ℕ) → IsDropped held.dropped held.limit gone
    → held.dropped ≡ false → gone ≡ []
gone_empty held gone h e = subst (λ v. IsDropped v held.limit gone) e h

gone_long : (held : Buffered) (gone : List ℕ) → IsDropped held.dropped held.limit gone → held.dropped ≡ true
    → held.limit + 2 ≤ length gone
gone_long held gone h e = (subst (λ v. IsDropped v held.limit gone) e h).1

holds_these : (held : Buffered) (bytes : List ℕ) → held.dropped ≡ false → bytes ≡ waits held → IsPending held bytes
holds_these held bytes clean is =
    record { gone = []; dropped = subst (λ v. IsDropped v held.limit []) (sym clean) refl; bytes = is }

-- ---- a line that ends with a line feed

hands_out : (old new : Buffered) (pending : List ℕ) (at : ℕ) (end : LineEnd) → (h : IsPending old pending)
    → IsFirst 10 (waits old) at
    → HowEnds (h.gone ++ take at (waits old)) end → new.dropped ≡ false → waits new ≡ drop (at + 1) (waits old)
    → HandsOut new pending (strip_carriage_return (h.gone ++ take at (waits old))) end
hands_out old new pending at end h first ends clean after =
    let front = take at (waits old) in
    let raw = h.gone ++ front in
    let rest = drop (at + 1) (waits old) in
    let none : HasNo 10 raw = no_append h.gone front (gone_none old h.gone h.dropped) first.before in
    let all : pending ≡ raw ++ 10 ∷ rest = h.bytes ∙ ap (λ l. h.gone ++ l) (split_text 10 (waits old) at first)
    ∙ sym (append_assoc h.gone front (10 ∷ rest)) in
    let now : pending ≡ raw ++ 10 ∷ waits new = all ∙ ap (λ l. raw ++ 10 ∷ l) (sym after) in
    record {
      after = waits new;
      holds = holds_these new (waits new) clean refl;
      bytes = now ∙ sym (append_assoc raw (10 ∷ []) (waits new)) ∙ ap (λ l. l ++ waits new) ends.1;
      first = by_feed end new.ended pending (strip_carriage_return raw) (waits new) ends.0
          (λ more. ap (λ l. lines (l ++ more)) now ∙ ap lines (append_assoc raw (10 ∷ waits new) more)
          ∙ lines_line raw (waits new ++ more) none);
    }

gives_line : (old new : Buffered) (pending : List ℕ) (at : ℕ) (end : LineEnd) → IsPending old pending
    → old.dropped ≡ false → IsFirst 10 (waits old) at
    → new.dropped ≡ false → waits new ≡ drop (at + 1) (waits old)
    → new.line ≡ strip_carriage_return (take at (waits old)) → length new.line ≤ new.limit
    → HowEnds (take at (waits old)) end → new.whole ≡ take at (waits old) ++ 10 ∷ [] → Gives new pending (Line end)
gives_line old new pending at end h undropped first clean after line fits ends whole =
    let none = gone_empty old h.gone h.dropped undropped in
    let raw : h.gone ++ take at (waits old) ≡ take at (waits old) = ap (λ l. l ++ take at (waits old)) none in
    let hands = hands_out old new pending at end h first (subst (λ l. HowEnds l end) (sym raw) ends) clean after in (
      subst (λ l. HandsOut new pending l end) (ap strip_carriage_return raw ∙ sym line) hands,
      fits,
      whole ∙ ends.1 ∙ ap (λ l. l ++ end_bytes end) (sym line),
    )

gives_too_long : (old new : Buffered) (pending : List ℕ) (at : ℕ) → IsPending old pending → IsFirst 10 (waits old) at
    → new.dropped ≡ false → waits new ≡ drop (at + 1) (waits old) → new.limit ≡ old.limit
    → (old.dropped ≡ true) ⊎ (new.limit < length (strip_carriage_return (take at (waits old)))) × (old.dropped ≡ false)
    → Gives new pending TooLong
gives_too_long old new pending at h first clean after same long =
    let raw = h.gone ++ take at (waits old) in
    let end = how_ends raw in (
      strip_carriage_return raw,
      end.0,
      hands_out old new pending at end.0 h first end.1 clean after,
      elim long [
        | inl dropped ↦ omega (
          arith,
          same,
          gone_long old h.gone h.dropped dropped,
          strip_length raw,
          length-append h.gone (take at (waits old)),
        )
        | inr more ↦ subst (λ l. new.limit < length (strip_carriage_return (l ++ take at (waits old))))
            (sym (gone_empty old h.gone h.dropped more.1)) more.0
      ],
    )

-- ---- the same, for positions in the buffer

drop_twice : (a b : ℕ) (xs : List ℕ) → drop (a + b) xs ≡ drop b (drop a xs)
drop_twice zero b xs = let e : 0 + b ≡ b = omega arith in ap (λ n. drop n xs) e
drop_twice (suc a) b [] = drop-nil (suc a + b) ∙ sym (drop-nil b)
drop_twice (suc a) b (x ∷ xs) = let e : suc a + b ≡ suc (a + b) = omega arith in rw e (drop_twice a b xs)

first_of : (waiting : List ℕ) (at : ℕ) → IsNext 10 waiting 0 at → IsFirst 10 waiting at
first_of waiting at h = let e : at - 0 ≡ at = omega arith in
    subst (IsFirst 10 waiting) e (first_behind 10 waiting 0 at h)

length_waiting : (start end : ℕ) (buffer : List ℕ) → length (drop start (take end buffer)) ≤ end - start
length_waiting start end buffer = omega (arith, length-drop start (take end buffer), length-take end buffer)

-- the first of the waiting bytes
front_of : (start end count : ℕ) (buffer : List ℕ) → count ≤ length (drop start (take end buffer))
    → drop start (take (start + count) buffer) ≡ take count (drop start (take end buffer))
front_of start end count buffer within =
    let bound : count ≤ end - start = omega (arith, within, length_waiting start end buffer) in
    let counted : start + count - start ≡ count = omega arith in
    sym (between_is buffer start (start + count)) ∙ ap (λ n. take n (drop start buffer)) counted
    ∙ sym (take-take count (end - start) (drop start buffer) bound) ∙ ap (take count) (between_is buffer start end)

-- a line buffer with these bytes and positions
abbrev pub at_places : List ℕ → ℕ → ℕ → ℕ → Bool → Bool → List ℕ → List ℕ → Buffered
at_places buffer start end limit dropped ended line whole =
    record {
      bytes = buffer;
      start = start;
      end = end;
      limit = limit;
      dropped = dropped;
      ended = ended;
      line = line;
      whole = whole;
    }

pub waits_line : (buffer : List ℕ) (start end limit : ℕ) (dropped ended : Bool) (line whole : List ℕ) (cut : Cut)
    (pending : List ℕ)
    → IsPending (at_places buffer start end limit dropped ended line whole) pending
    → IsCut (drop start (take end buffer)) cut → dropped ≡ false → cut.content ≤ limit
    → Gives (at_places buffer (start + (cut.before + 1)) end limit dropped ended (drop start (take (start + cut.content)
    buffer)) (drop start (take (start + (cut.before + 1)) buffer))) pending (Line cut.end)
waits_line buffer start end limit dropped ended line whole cut pending h is_cut undropped short =
    let waiting = drop start (take end buffer) in
    let within : cut.content ≤ length waiting = omega (arith, is_cut.within, is_cut.feed.within) in
    let front = front_of start end cut.content buffer within in
    let first = first_of waiting cut.before is_cut.feed in
    gives_line (at_places buffer start end limit dropped ended line whole) _ pending cut.before cut.end h undropped
    first undropped
    (drop_twice start (cut.before + 1) (take end buffer)) (front ∙ is_cut.content)
    (omega (arith, short, ap length front, length-take cut.content waiting)) (is_cut.has_feed, is_cut.bytes)
    (front_of start end (cut.before + 1) buffer (omega (arith, is_cut.feed.within))
    ∙ first_line waiting cut.before first)

pub waits_too_long : (buffer : List ℕ) (start end limit : ℕ) (dropped dropped_now ended : Bool)
    (line whole after whole_now : List ℕ) (cut : Cut) (pending : List ℕ)
    → IsPending (at_places buffer start end limit dropped ended line whole) pending
    → IsCut (drop start (take end buffer)) cut
    → dropped_now ≡ false → (dropped ≡ true) ⊎ (limit < cut.content) × (dropped ≡ false)
    → Gives (at_places buffer (start + (cut.before + 1)) end limit dropped_now ended after whole_now) pending TooLong
waits_too_long buffer start end limit dropped dropped_now ended line whole after whole_now cut pending h is_cut
    clean long =
    let waiting = drop start (take end buffer) in
    let within : cut.content ≤ length waiting = omega (arith, is_cut.within, is_cut.feed.within) in
    let counted : length (strip_carriage_return (take cut.before waiting)) ≡ cut.content =
    ap length (sym is_cut.content) ∙ length-take-le cut.content waiting within in
    gives_too_long (at_places buffer start end limit dropped ended line whole) _ pending cut.before h
    (first_of waiting cut.before is_cut.feed) clean (drop_twice start (cut.before + 1) (take end buffer)) refl
    (elim long [ inl before ↦ inl before | inr more ↦ inr (omega (arith, counted, more.0), more.1) ])

-- ---- the line that ends at the end of the input

lines_only : (a : List ℕ) → HasNo 10 a → 0 < length a → lines a ≡ a ∷ []
unfolding last_line
lines_only [] h some = absurd (omega (arith, some))
lines_only (x ∷ a) h some = lines_last (x ∷ a) h

all_past : (end : ℕ) (buffer : List ℕ) → drop end (take end buffer) ≡ []
all_past end buffer = drop_all end (take end buffer) (omega (arith, length-take end buffer))

hands_last : (new : Buffered) (pending : List ℕ) → HasNo 10 pending → 0 < length pending → new.dropped ≡ false
    → waits new ≡ [] → new.ended ≡ true → HandsOut new pending pending EndOfInput
hands_last new pending none some clean nothing ended = record {
  after = [];
  holds = holds_these new [] clean (sym nothing);
  bytes = sym (append-nil pending) ∙ sym (append-nil (pending ++ []));
  first = (ended, refl, lines_only pending none some);
}

none_pending : (held : Buffered) (pending : List ℕ) → IsPending held pending → HasNoFeed (waits held) → HasNo 10 pending
none_pending held pending h none = subst (HasNo 10) (sym h.bytes)
    (no_append h.gone (waits held) (gone_none held h.gone h.dropped) (has_no (waits held) none))

counted : (held : Buffered) (pending : List ℕ) → (h : IsPending held pending)
    → length pending ≡ length h.gone + length (waits held)
counted held pending h = ap length h.bytes ∙ length-append h.gone (waits held)

pub ends_line : (buffer : List ℕ) (start end limit : ℕ) (dropped ended : Bool) (line whole : List ℕ) (pending : List ℕ)
    → IsPending (at_places buffer start end limit dropped ended line whole) pending
    → HasNoFeed (drop start (take end buffer)) → dropped ≡ false → ended ≡ true
    → 0 < end - start → end ≤ length buffer → end - start ≤ limit
    → Gives (at_places buffer end end limit dropped ended (drop start (take end buffer)) (drop start (take end buffer)))
    pending (Line EndOfInput)
ends_line buffer start end limit dropped ended line whole pending h none clean at_end some within short =
    let old = at_places buffer start end limit dropped ended line whole in
    let waiting = drop start (take end buffer) in
    let new = at_places buffer end end limit dropped ended waiting waiting in
    let size : length waiting ≡ end - start =
    omega (arith, within, length-drop start (take end buffer), length-take end buffer) in
    let all : pending ≡ waiting = h.bytes ∙ ap (λ l. l ++ waiting) (gone_empty old h.gone h.dropped clean) in (
      subst (λ l. HandsOut new pending l EndOfInput) all
          (hands_last new pending (none_pending old pending h none) (omega (arith, ap length all, size, some)) clean
          (all_past end buffer) at_end),
      omega (arith, size, short),
      sym (append-nil waiting),
    )

pub ends_too_long : (buffer : List ℕ) (start end limit : ℕ) (dropped dropped_now ended : Bool)
    (line whole after whole_now : List ℕ) (pending : List ℕ)
    → IsPending (at_places buffer start end limit dropped ended line whole) pending
    → HasNoFeed (drop start (take end buffer)) → dropped_now ≡ false → ended ≡ true
    → end ≤ length buffer → (dropped ≡ true) ⊎ (limit < end - start) × (dropped ≡ false)
    → Gives (at_places buffer end end limit dropped_now ended after whole_now) pending TooLong
ends_too_long buffer start end limit dropped dropped_now ended line whole after whole_now pending h none clean at_end
    within long =
    let old = at_places buffer start end limit dropped ended line whole in
    let size : length (waits old) ≡ end - start =
    omega (arith, within, length-drop start (take end buffer), length-take end buffer) in
    let more : limit < length pending =
    elim long [
      | inl before ↦ omega (arith, counted old pending h, gone_long old h.gone h.dropped before)
      | inr big ↦ omega (arith, counted old pending h, size, big.0)
    ] in (
      pending,
      EndOfInput,
      hands_last _ pending (none_pending old pending h none) (omega (arith, more)) clean
          (all_past end buffer) at_end,
      more,
    )

-- ---- more room, and more bytes

pub kept_front : (old new : List ℕ) (start end : ℕ) → start ≤ end → end ≤ length old → new ≡ copy_within old start end 0
    → take (end - start) new ≡ drop start (take end old)
kept_front old new start end order within e =
    let part = drop start old in
    let count = end - start in
    let size = length-take-le count part (omega (arith, order, within, length-drop start old)) in
    ap (take count) e ∙ take-append-le count (take count part) (drop (0 + count) old) (omega (arith, size))
    ∙ take-take count count part (omega arith) ∙ between_is old start end

pub all_dropped : (old new : Buffered) (pending : List ℕ) → IsPending old pending → HasNoFeed (waits old)
    → old.limit + 2 ≤ length (waits old)
    → new.dropped ≡ true → new.limit ≡ old.limit → waits new ≡ [] → IsPending new pending
all_dropped old new pending h none long dropped same nothing = record {
  gone = pending;
  dropped = subst (λ v. IsDropped v new.limit pending) (sym dropped)
      (absent pending (none_pending old pending h none), omega (arith, counted old pending h, long, same));
  bytes = sym (append-nil pending) ∙ ap (λ l. pending ++ l) (sym nothing);
}

pub holds_more : (old new : Buffered) (chunk pending : List ℕ) → IsPending old pending → new.dropped ≡ old.dropped
    → new.limit ≡ old.limit → waits new ≡ waits old ++ chunk → IsPending new (pending ++ chunk)
holds_more old new chunk pending h dropped limit more = record {
  gone = h.gone;
  dropped = subst (λ n. IsDropped new.dropped n h.gone) (sym limit)
      (subst (λ v. IsDropped v old.limit h.gone) (sym dropped) h.dropped);
  bytes = ap (λ l. l ++ chunk) h.bytes ∙ append_assoc h.gone (waits old) chunk ∙ ap (λ l. h.gone ++ l) (sym more);
}

-- bytes are still pending if the same bytes wait as before
pub holds_still : (old new : Buffered) (pending : List ℕ) → IsPending old pending → new.dropped ≡ old.dropped
    → new.limit ≡ old.limit → waits new ≡ waits old → IsPending new pending
holds_still old new pending h dropped limit same = record {
  gone = h.gone;
  dropped = subst (λ n. IsDropped new.dropped n h.gone) (sym limit)
      (subst (λ v. IsDropped v old.limit h.gone) (sym dropped) h.dropped);
  bytes = h.bytes ∙ ap (λ l. h.gone ++ l) (sym same);
}

take_past : (front text : List ℕ) (count all : ℕ) → all ≡ length front + count → take all (front ++ text) ≡ front
    ++ take count text
take_past [] text count all e = ap (λ n. take n text) (omega (arith, e))
take_past (x ∷ front) text count zero e = absurd (omega (arith, e))
take_past (x ∷ front) text count (suc all) e = ap (λ t. x ∷ t) (take_past front text count all (omega (arith, e)))

-- a read that puts bytes after those that wait
pub waits_more : (start end count room : ℕ) (buffer part : List ℕ) → start ≤ end → end ≤ length buffer
    → count ≤ length part
    → drop start (take (end + count) (put_mid end room buffer part)) ≡ drop start (take end buffer) ++ take count part
waits_more start end count room buffer part order within bound =
    let front = take end buffer in
    let past = post_of end room buffer in
    let size : length front ≡ end = length-take-le end buffer (omega (arith, within)) in
    ap (drop start) (take_past front (part ++ past) count (end + count) (omega (arith, size))
    ∙ ap (λ t. front ++ t) (take-append-le count part past bound))
    ∙ drop-append-le start front (take count part) (omega (arith, size, order))

-- a read that failed, whatever it wrote after the waiting bytes
pub waits_still : (start end room : ℕ) (buffer part : List ℕ) → end ≤ length buffer
    → drop start (take end (put_mid end room buffer part)) ≡ drop start (take end buffer)
waits_still start end room buffer part within =
    let front = take end buffer in
    let size : length front ≡ end = length-take-le end buffer within in
    ap (drop start) (take_past front (part ++ post_of end room buffer) 0 end (omega (arith, size)) ∙ append-nil front)
