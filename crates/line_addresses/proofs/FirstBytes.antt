-- The address of a text, by the laws of address texts.
use Rattle.line_addresses.proofs.Words.{◌≡◌, ◌↔◌, ℕ, zero, suc, ◌-◌, ◌&&◌, Bool, true, false, cond, List, ◌∷◌, length, take, Option, None, Some, refl, ap, ◌∙◌, Ok, AllByRecursion, answer_from, NamesIp, NamesV4, NamesV6, IsAddressByte, IpAddr, V4, V6, address_of, with_text, spelled, digits_at_end, ends_with_mark, has_dot, is_port, before_port, begun_by}
use Rattle.line_addresses.proofs.Shown.{nothing_named, no_rest, left}

-- what the reader returns is what the text names
pub named_by_answer : {E : Type 0} (error : E) (found : Option IpAddr) (address : IpAddr)
    → Ok address ≡ answer_from error found → found ≡ Some address
named_by_answer error None address e = cc
named_by_answer error (Some other) address e = cc

-- a text that names no address has none
pub none_named : (found : Option IpAddr) → ((address : IpAddr) → ¬ (found ≡ Some address)) → found ≡ None
none_named None other = refl
none_named (Some address) other = absurd (other address refl)

module _ (named : (text : List ℕ) (address : IpAddr) → NamesIp text address ↔ (address_of text ≡ Some address))
    (v4_bytes : (text : List ℕ) (address : ℕ) → NamesV4 text address → AllByRecursion IsAddressByte text)
    (v6_bytes : (text : List ℕ) (address : ℕ) → NamesV6 text address → AllByRecursion IsAddressByte text) where
  pub bytes : (text : List ℕ) (address : IpAddr) → NamesIp text address → AllByRecursion IsAddressByte text
  bytes text (V4 address) h = v4_bytes text address h
  bytes text (V6 address) h = v6_bytes text address h

  none_begun : (byte : ℕ) (text : List ℕ) → ¬ (IsAddressByte byte) → address_of (byte ∷ text) ≡ None
  none_begun byte text other = none_named (address_of (byte ∷ text))
      (λ address e. other ((bytes (byte ∷ text) address ((named (byte ∷ text) address).1 e)).0))

  none_taken : (count : ℕ) (byte : ℕ) (text : List ℕ) → ¬ (IsAddressByte byte)
      → address_of (take count (byte ∷ text)) ≡ None
  none_taken zero byte text other = nothing_named
  none_taken (suc count) byte text other = none_begun byte (take count text) other

  none_taken_twice : (count others byte : ℕ) (text : List ℕ) → ¬ (IsAddressByte byte)
      → address_of (take count (take others (byte ∷ text))) ≡ None
  none_taken_twice zero others byte text other = nothing_named
  none_taken_twice (suc count) zero byte text other = nothing_named
  none_taken_twice (suc count) (suc others) byte text other = none_begun byte (take count (take others text)) other

  none_if : (b : Bool) (text : List ℕ) → address_of text ≡ None → cond b (spelled text) None ≡ None
  none_if true text none = ap (with_text text) none
  none_if false text none = refl

  none_before_port : (run : List ℕ) → ((count : ℕ) → address_of (take count run) ≡ None) → before_port run ≡ None
  unfolding before_port
  none_before_port run none =
      let end = length run - digits_at_end run - 1 in
      none_if (is_port (digits_at_end run) run && has_dot (take end run)) (take end run) (none end)

  none_unmarked : (b : Bool) (byte : ℕ) (run : List ℕ) → ¬ (IsAddressByte byte)
      → before_port (cond b (take (length (byte ∷ run) - 1) (byte ∷ run)) (byte ∷ run)) ≡ None
  none_unmarked true byte run other =
      none_before_port (take (length (byte ∷ run) - 1) (byte ∷ run))
      (λ count. none_taken_twice count (length (byte ∷ run) - 1) byte run other)
  none_unmarked false byte run other = none_before_port (byte ∷ run) (λ count. none_taken count byte run other)

  pub none_in : (byte : ℕ) (run : List ℕ) → ¬ (IsAddressByte byte) → begun_by (byte ∷ run) ≡ None
  none_in byte run other =
      left (byte ∷ run) (none_begun byte run other)
      (no_rest (byte ∷ run) (none_taken (length (byte ∷ run) - 1) byte run other))
      ∙ none_unmarked (ends_with_mark (byte ∷ run)) byte run other
