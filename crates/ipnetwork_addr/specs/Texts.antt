-- Texts made of parts. A text is a list of bytes.
use Rattle.std.specs.Prelude.{◌≡◌, ℕ, ◌≤◌, List, [], ◌∷◌, ◌==◌, Bool, true, false, if◌then◌else◌}
use Rattle.std.specs.List.{join_with_byte, AllZip}

-- the byte `.`
abbrev pub dot : ℕ
dot = 46

-- the byte `:`
abbrev pub colon : ℕ
colon = 58

-- the text is parts joined by the byte, and each part names the value at its position
pub record IsJoined (byte : ℕ) (Names : List ℕ → ℕ → Type 0) (text values : List ℕ) : Type 0 where
  pub parts : List (List ℕ)
  pub spelled : text ≡ join_with_byte byte parts
  pub named : AllZip Names parts values

-- a hex digit of either case, `.` or `:`
pub data IsAddressByte (byte : ℕ) : Type 0 where
  Digit : 48 ≤ byte → byte ≤ 57 → IsAddressByte byte
  UpperHex : 65 ≤ byte → byte ≤ 70 → IsAddressByte byte
  LowerHex : 97 ≤ byte → byte ≤ 102 → IsAddressByte byte
  Dot : byte ≡ dot → IsAddressByte byte
  Colon : byte ≡ colon → IsAddressByte byte

-- whether the first dot or colon of a text is a colon
abbrev pub colon_first : List ℕ → Bool
colon_first [] = false
colon_first (byte ∷ text) = if byte == colon then true else (if byte == dot then false else colon_first text)
