-- The address before a port.
use Rattle.line_addresses.proofs.Words.{◌≡◌, ℕ, ◌-◌, ◌<◌, ◌≤◌, ◌&&◌, Bool, true, false, cond, not, List, length, length-take, take, get_or, Option, None, Some, ap, sym, ◌∙◌, arith, reverse, is_ascii_digit, position_or_len_is, cases_lt, inl, inr, take-take, MatchOption, IpAddr, Spelled, address_of, with_text, spelled, before_digits, before_port, digits_at_end, has_dot, is_port, Shows}
use Rattle.std.proofs.lemmas.List.{get_or-reverse, length-reverse}

-- ---- the digits that end a text

counted : (text : List ℕ) (size : ℕ) → size ≤ length text
    → ((k : ℕ) → length text - size ≤ k → k < length text → is_ascii_digit (get_or text k 0) ≡ true)
    → (size < length text → is_ascii_digit (get_or text (length text - 1 - size) 0) ≡ false)
    → digits_at_end text ≡ size
counted text size within digits other =
    position_or_len_is (λ byte. not (is_ascii_digit byte)) (reverse text) size 0
    (omega (arith, length-reverse text, within))
    (λ k below. ap (λ b. not (is_ascii_digit b)) (get_or-reverse text k 0 (omega (arith, below, within)))
    ∙ ap not (digits (length text - 1 - k) (omega (arith, below, within)) (omega (arith, below, within))))
    (λ below. let before : size < length text = omega (arith, below, length-reverse text) in
    ap (λ b. not (is_ascii_digit b)) (get_or-reverse text size 0 before) ∙ ap not (other before))

-- the same, by the index at which the digits begin
pub counted_from : (text : List ℕ) (at : ℕ) → at ≤ length text
    → ((k : ℕ) → at ≤ k → k < length text → is_ascii_digit (get_or text k 0) ≡ true)
    → (0 < at → is_ascii_digit (get_or text (at - 1) 0) ≡ false) → length text - at ≡ digits_at_end text
counted_from text at within digits other =
    sym (counted text (length text - at) (omega (arith, within))
    (λ k from below. digits k (omega (arith, from, within)) below) (λ some.
    let before : at - 1 ≡ length text - 1 - (length text - at) = omega (arith, some, within) in
    ap (λ i. is_ascii_digit (get_or text i 0)) (sym before) ∙ other (omega (arith, some, within))))

-- one digit more
pub one_more : (text : List ℕ) (at : ℕ) → 0 < at → is_ascii_digit (get_or text (at - 1) 0) ≡ true
    → ((k : ℕ) → at ≤ k → k < length text → is_ascii_digit (get_or text k 0) ≡ true) → (k : ℕ) → at - 1 ≤ k
    → k < length text → is_ascii_digit (get_or text k 0) ≡ true
one_more text at some here digits k from below = elim (cases_lt k at) [
  | inl before ↦ let same : at - 1 ≡ k = omega (arith, from, before, some) in
      ap (λ i. is_ascii_digit (get_or text i 0)) (sym same) ∙ here
  | inr behind ↦ digits k behind below
]

-- no digit
pub uncounted : (text : List ℕ) → is_ascii_digit (get_or text (length text - 1) 0) ≡ false → 0 ≡ digits_at_end text
uncounted text other =
    let none : length text - length text ≡ 0 = omega arith in
    sym none ∙ counted_from text (length text) (omega arith) (λ k from below. absurd (omega (arith, from, below)))
    (λ some. other)

-- ---- the address before a port

module _ (run : List ℕ) (size : ℕ) (is : size ≡ digits_at_end run) where
  by_size : before_port run ≡ before_digits size run
  unfolding before_port
  by_size = ap (λ n. before_digits n run) (sym is)

  abbrev rest : List ℕ
  rest = take (length run - size - 1) run

  pub no_port : is_port size run ≡ false → before_port run ≡ None
  no_port none = by_size ∙ ap (λ b. cond (b && has_dot rest) (spelled rest) None) none

  module _ (port : is_port size run ≡ true) where
    ends : before_port run ≡ cond (has_dot rest) (spelled rest) None
    ends = by_size ∙ ap (λ b. cond (b && has_dot rest) (spelled rest) None) port

    pub no_dot : has_dot rest ≡ false → before_port run ≡ None
    no_dot none = ends ∙ ap (λ b. cond b (spelled rest) None) none

    module _ (dotted : has_dot rest ≡ true) where
      named : before_port run ≡ with_text rest (address_of rest)
      named = ends ∙ ap (λ b. cond b (spelled rest) None) dotted

      pub ported : (address : IpAddr) → address_of rest ≡ Some address
          → Shows (before_port run) run address (length run - size - 1)
      ported address one = record {
        within = omega arith;
        is = named ∙ ap (with_text rest) one;
      }

      pub no_address : address_of rest ≡ None → before_port run ≡ None
      no_address none = named ∙ ap (with_text rest) none

-- ---- what is shown in a beginning of a run is shown in the run

shown_within : (found : Option Spelled) (run : List ℕ) (end : ℕ) (address : IpAddr) (size : ℕ) → end ≤ length run
    → Shows found (take end run) address size → Shows found run address size
shown_within found run end address size within shows =
    let fits : size ≤ end = omega (arith, shows.within, length-take end run) in
    record {
      within = omega (arith, fits, within);
      is = shows.is ∙ ap (λ text. Some (record { text = text; address = address })) (take-take size end run fits);
    }

pub shown_in : (found : Option Spelled) (run : List ℕ) (end : ℕ) (result : Option (IpAddr × ℕ)) → end ≤ length run
    → MatchOption result (found ≡ None) (λ shown. Shows found (take end run) shown.0 shown.1)
    → MatchOption result (found ≡ None) (λ shown. Shows found run shown.0 shown.1)
shown_in found run end None within none = none
shown_in found run end (Some (address, size)) within shows = shown_within found run end address size within shows
