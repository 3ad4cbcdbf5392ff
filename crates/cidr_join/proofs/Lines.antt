-- What a line of a log gives.
use Rattle.cidr_join.proofs.Words.{◌≡◌, ◌∙◌, ◌≤◌, ◌<◌, ◌||◌, ℕ, Bool, true, false, List, [], inl, inr, refl, sym, ap, subst, arith, length, true≢false, nat_tests, Option, None, Some, if◌then◌else◌, is_some, IpNetwork, with_line, with_long, is_stopped, LogStats, WithoutAddress, Finds, GivesLine, asked_in, is_left_out, is_long, is_refused, mark_of, network_in, seen_with, shown_in, shown_of, Found, Join}

short_is : (line : List ℕ) → length line ≤ 1048576 → is_long line ≡ false
short_is line e = grind (arith, nat_tests)

long_is : (line : List ℕ) → 1048576 < length line → is_long line ≡ true
long_is line e = grind (arith, nat_tests)

-- only a line without an address is left out
pub left_none : (bad : WithoutAddress) (asked : Option IpNetwork) → is_left_out bad asked ≡ true → asked ≡ None
left_none bad None e = refl
left_none bad (Some asked) e = absurd (true≢false (sym e))

module _ (join : Join) (was : LogStats) (line text : List ℕ) where
  abbrev network : Option IpNetwork
  network = network_in join was.lines line

  asked_if : (long : Bool) → is_long line ≡ long → asked_in join was.lines line ≡ (if long then None else network)
  asked_if long e = ap (λ (l : Bool). if l then None else network) e

  seen_if : (long : Bool) → is_long line ≡ long
      → seen_with join was line ≡ (if long then with_long was else with_line was (is_some network))
  seen_if long e = ap (λ (l : Bool). if l then with_long was else with_line was (is_some network)) e

  -- a line within the limit, with this network, or with none
  module _ (within : length line ≤ 1048576) (asked : Option IpNetwork) (is : asked ≡ network) where
    here : asked_in join was.lines line ≡ asked
    here = asked_if false (short_is line within) ∙ sym is

    pub shown_here : (found : Found) → shown_in join asked found line text
        ≡ (if is_left_out join.bad asked then [] else shown_of join.last (mark_of found) line text)
    shown_here found = ap (λ (l : Bool). if l || is_left_out join.bad asked then [] else shown_of join.last
        (mark_of found) line text) (short_is line within)

    pub line_refused : {A : Type 0} (of : Join → Option IpNetwork → Found → List ℕ → List ℕ → List A)
        → is_refused join.bad asked ≡ true → GivesLine of join was line text [] None
    line_refused of e = inl (ap (is_refused join.bad) here ∙ e, (refl, refl))

    pub line_gives : {A : Type 0} (of : Join → Option IpNetwork → Found → List ℕ → List ℕ → List A) (now : LogStats)
        (found : Found) → is_refused join.bad asked ≡ false → Finds join asked found
        → now ≡ with_line was (is_some asked)
        → GivesLine of join was line text (of join asked found line text) (Some now)
    line_gives of now found passes finds adds = inr (
      ap (is_refused join.bad) here ∙ passes,
      found,
      subst (λ (a : Option IpNetwork). Finds join a found) (sym here) finds,
      ap (λ (a : Option IpNetwork). of join a found line text) (sym here),
      ap Some (adds ∙ ap (λ (a : Option IpNetwork). with_line was (is_some a)) is ∙ sym
          (seen_if false (short_is line within))),
    )

  -- a line that is too long
  module _ (long : 1048576 < length line) where
    asked_long : asked_in join was.lines line ≡ None
    asked_long = asked_if true (long_is line long)

    pub shown_long : (found : Found) → shown_in join None found line text ≡ []
    shown_long found = ap (λ (l : Bool). if l || is_left_out join.bad None then [] else shown_of join.last
        (mark_of found) line text) (long_is line long)

    pub long_refused : {A : Type 0} (of : Join → Option IpNetwork → Found → List ℕ → List ℕ → List A)
        → is_stopped join.bad ≡ true → GivesLine of join was line text [] None
    long_refused of e = inl (ap (is_refused join.bad) asked_long ∙ e, (refl, refl))

    pub long_gives : {A : Type 0} (of : Join → Option IpNetwork → Found → List ℕ → List ℕ → List A) (now : LogStats)
        (found : Found) (given : List A) → is_stopped join.bad ≡ false → Finds join None found → now ≡ with_long was
        → given ≡ of join None found line text → GivesLine of join was line text given (Some now)
    long_gives of now found given passes finds adds is = inr (
      ap (is_refused join.bad) asked_long ∙ passes,
      found,
      subst (λ (a : Option IpNetwork). Finds join a found) (sym asked_long) finds,
      is ∙ ap (λ (a : Option IpNetwork). of join a found line text) (sym asked_long),
      ap Some (adds ∙ sym (seen_if true (long_is line long))),
    )
