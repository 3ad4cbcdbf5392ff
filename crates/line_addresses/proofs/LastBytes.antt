-- A run whose last byte occurs in no address text.
use Rattle.line_addresses.proofs.Words.{◌≡◌, ◌↔◌, ℕ, ◌+◌, ◌-◌, ◌<◌, ◌&&◌, Bool, true, false, cond, List, [], ◌∷◌, length, length-drop, take, drop, get_or, get_or-drop, Option, None, Some, refl, sym, ap, ◌∙◌, arith, true≢false, list_all, is_ascii_digit, AllByRecursion, position_or_len, NamesIp, NamesV4, NamesV6, IsAddressByte, IpAddr, address_of, address_in, behind_word, begun_by, before_port, ends_with_mark, is_address_byte, is_colon, is_mark, is_word}
use Rattle.line_addresses.proofs.ByteKinds.{digit_passes, mark_passes, passes}
use Rattle.line_addresses.proofs.FirstBytes.{bytes, none_named}
use Rattle.line_addresses.proofs.Ports.{no_port, uncounted}
use Rattle.line_addresses.proofs.Shown.{left_unmarked, not_begun, nothing_begun}
use Rattle.std.proofs.lemmas.List.Folds.{list_all_at}

abbrev last : List ℕ → ℕ
last text = get_or text (length text - 1) 0

not_true : (b : Bool) → ¬ (b ≡ true) → b ≡ false
not_true true none = absurd (none refl)
not_true false none = refl

-- a byte that occurs in no address text is no mark and no digit
no_mark_byte : (byte : ℕ) → is_address_byte byte ≡ false → is_mark byte ≡ false
no_mark_byte byte other = not_true (is_mark byte) (λ e. true≢false (sym (mark_passes byte e) ∙ other))

no_digit : (byte : ℕ) → is_address_byte byte ≡ false → is_ascii_digit byte ≡ false
no_digit byte other = not_true (is_ascii_digit byte) (λ e. true≢false (sym (digit_passes byte e) ∙ other))

all_pass : (text : List ℕ) → AllByRecursion IsAddressByte text → list_all is_address_byte text ≡ true
all_pass [] h = refl
all_pass (byte ∷ text) h =
    ap (λ b. b && list_all is_address_byte text) (passes byte h.0) ∙ all_pass text h.1

-- the last byte of what is left of a text
last_left : (text : List ℕ) (count : ℕ) → 0 < length (drop count text) → last (drop count text) ≡ last text
last_left text count some =
    let same : count + (length (drop count text) - 1) ≡ length text - 1 =
    omega (arith, some, length-drop count text) in
    get_or-drop count text (length (drop count text) - 1) 0 ∙ ap (λ i. get_or text i 0) same

-- no digit ends the text
no_port_before : (text : List ℕ) → is_address_byte (last text) ≡ false → before_port text ≡ None
no_port_before text other = no_port text 0 (uncounted text (no_digit (last text) other)) refl

module _ (named : (text : List ℕ) (address : IpAddr) → NamesIp text address ↔ (address_of text ≡ Some address))
    (v4_bytes : (text : List ℕ) (address : ℕ) → NamesV4 text address → AllByRecursion IsAddressByte text)
    (v6_bytes : (text : List ℕ) (address : ℕ) → NamesV6 text address → AllByRecursion IsAddressByte text) where
  none_named_by : (text : List ℕ) → 0 < length text → is_address_byte (last text) ≡ false → address_of text ≡ None
  none_named_by text some other = none_named (address_of text) (λ address e.
      true≢false (sym (all_pass text (bytes named v4_bytes v6_bytes text address ((named text address).1 e)))
      ∙ list_all_at is_address_byte text (length text - 1) 0 (omega (arith, some)) other))

  none_begun_by : (text : List ℕ) → (0 < length text → is_address_byte (last text) ≡ false) → begun_by text ≡ None
  none_begun_by [] other = nothing_begun
  none_begun_by (byte ∷ rest) other =
      let text = byte ∷ rest in
      let ends = other (omega arith) in
      left_unmarked text (none_named_by text (omega arith) ends) (no_mark_byte (last text) ends)
      ∙ no_port_before text ends

  none_behind : (b : Bool) (rest : List ℕ) → begun_by rest ≡ None → begun_by (cond b rest []) ≡ None
  none_behind true rest none = none
  none_behind false rest none = nothing_begun

  pub none_ending : (run : List ℕ) → 0 < length run → is_address_byte (last run) ≡ false → address_in run ≡ None
  unfolding behind_word
  none_ending run some other =
      let count = position_or_len is_colon run + 1 in
      not_begun run (none_begun_by run (λ _. other))
      ∙ none_behind (is_word (take (position_or_len is_colon run) run)) (drop count run)
      (none_begun_by (drop count run) (λ more. ap is_address_byte (last_left run count more) ∙ other))
