-- A run without a `.` or `:`.
use Rattle.line_addresses.proofs.Words.{◌≡◌, ◌↔◌, ℕ, zero, suc, ◌-◌, ◌==◌, ◌++◌, ◌||◌, Bool, true, false, cond, List, [], ◌∷◌, length, take, get_or, None, Some, refl, sym, ap, ◌∙◌, true≢false, list_any, colon_first, NamesIp, NamesV4, NamesV6, IsAbsent, IpAddr, V4, V6, address_of, address_in, before_port, begun_by, digits_at_end, has_dot, is_mark, is_port}
use Rattle.line_addresses.proofs.AfterWord.{no_colon_behind}
use Rattle.line_addresses.proofs.FirstBytes.{none_named}
use Rattle.line_addresses.proofs.Ports.{no_dot, no_port}
use Rattle.line_addresses.proofs.Shown.{left_unmarked, not_begun, nothing_at_rest}

abbrev IsUnmarked : List ℕ → Type 0
IsUnmarked text = list_any (λ byte. is_mark byte) text ≡ false

neither : (a b : Bool) → (a || b) ≡ false → (a ≡ false) × (b ≡ false)
neither true b e = absurd (true≢false e)
neither false b e = (refl, e)

module _ (byte : ℕ) (text : List ℕ) (none : IsUnmarked (byte ∷ text)) where
  here : is_mark byte ≡ false
  here = (neither (is_mark byte) (list_any (λ one. is_mark one) text) none).0

  others : IsUnmarked text
  others = (neither (is_mark byte) (list_any (λ one. is_mark one) text) none).1

  not_dot : (byte == 46) ≡ false
  not_dot = (neither (byte == 46) (byte == 58) here).0

  not_colon : (byte == 58) ≡ false
  not_colon = (neither (byte == 46) (byte == 58) here).1

unmarked_at : (text : List ℕ) (i : ℕ) → IsUnmarked text → is_mark (get_or text i 0) ≡ false
unmarked_at [] i none = refl
unmarked_at (byte ∷ text) zero none = here byte text none
unmarked_at (byte ∷ text) (suc i) none = unmarked_at text i (others byte text none)

no_dot_in : (count : ℕ) (text : List ℕ) → IsUnmarked text → has_dot (take count text) ≡ false
no_dot_in zero text none = refl
no_dot_in (suc count) [] none = refl
no_dot_in (suc count) (byte ∷ text) none =
    ap (λ b. b || has_dot (take count text)) (not_dot byte text none) ∙ no_dot_in count text (others byte text none)

-- the first mark is that of what follows
first_behind : (text rest : List ℕ) → IsUnmarked text → colon_first (text ++ rest) ≡ colon_first rest
first_behind [] rest none = refl
first_behind (byte ∷ text) rest none =
    ap (λ b. cond b true (cond (byte == 46) false (colon_first (text ++ rest)))) (not_colon byte text none)
    ∙ ap (λ b. cond b false (colon_first (text ++ rest))) (not_dot byte text none)
    ∙ first_behind text rest (others byte text none)

no_colon : (text : List ℕ) → IsUnmarked text → IsAbsent 58 text 0 (length text)
no_colon text none position from below is = true≢false (sym (ap is_mark is) ∙ unmarked_at text position none)

by_port : (run : List ℕ) (b : Bool) → is_port (digits_at_end run) run ≡ b → IsUnmarked run → before_port run ≡ None
by_port run true port none =
    no_dot run (digits_at_end run) refl port (no_dot_in (length run - digits_at_end run - 1) run none)
by_port run false port none = no_port run (digits_at_end run) refl port

module _ (named : (text : List ℕ) (address : IpAddr) → NamesIp text address ↔ (address_of text ≡ Some address))
    (v4 : (text rest : List ℕ) (address : ℕ) → NamesV4 text address → colon_first (text ++ rest) ≡ false)
    (v6 : (text rest : List ℕ) (address : ℕ) → NamesV6 text address → colon_first (text ++ rest) ≡ true) where
  -- a `:` after an IPv4 text would not be the first mark, and an IPv6 text has a `:`
  names_nothing : (text : List ℕ) (address : IpAddr) → IsUnmarked text → ¬ (NamesIp text address)
  names_nothing text (V4 address) none names =
      true≢false (sym (first_behind text (58 ∷ []) none) ∙ v4 text (58 ∷ []) address names)
  names_nothing text (V6 address) none names =
      true≢false (sym (v6 text [] address names) ∙ first_behind text [] none)

  no_address_of : (text : List ℕ) → IsUnmarked text → address_of text ≡ None
  no_address_of text none =
      none_named (address_of text) (λ address e. names_nothing text address none ((named text address).1 e))

  none_begun : (run : List ℕ) → IsUnmarked run → begun_by run ≡ None
  none_begun run none =
      left_unmarked run (no_address_of run none) (unmarked_at run (length run - 1) none)
      ∙ by_port run (is_port (digits_at_end run) run) refl none

  pub none_unmarked : (run : List ℕ) → IsUnmarked run → address_in run ≡ None
  none_unmarked run none =
      not_begun run (none_begun run none)
      ∙ nothing_at_rest run (length run) (no_colon_behind run (no_colon run none)) refl
