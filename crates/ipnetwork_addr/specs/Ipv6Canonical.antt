-- The canonical text of an IPv6 address: RFC 5952, sections 4.1 to 4.3, and section 5 for IPv4-mapped addresses only.
use Rattle.std.specs.Prelude.{◌≡◌, false, ℕ, ◌+◌, ◌/◌, ◌%◌, ◌^◌, ◌<◌, ◌≤◌, List, ◌++◌, length, slice_index, take, drop}
use Rattle.std.specs.Prelude.{map, codes}
use Rattle.std.specs.List.{join_with_byte}
use Rattle.std.specs.Fmt.{digits}
use Rattle.ipnetwork_addr.specs.Digits.{segments_of}
use Rattle.ipnetwork_addr.specs.Ipv4Text.{canonical_v4}
use Rattle.ipnetwork_addr.specs.Texts.{colon}

-- the shortest lower-case hex of a group
abbrev pub hex : ℕ → List ℕ
hex group = digits 16 false group

-- groups in hex, joined by colons
abbrev pub hex_groups : List ℕ → List ℕ
hex_groups groups = join_with_byte colon (map hex groups)

-- the address is in `::ffff:0:0/96`, so that it holds an IPv4 address in its low 32 bits (RFC 4291, section 2.5.5.2)
abbrev pub IsMapped : ℕ → Type 0
IsMapped address = address / 2 ^ 32 ≡ 0xffff

-- the n groups from index i on exist and are 0
pub record IsZeroRun (groups : List ℕ) (i n : ℕ) : Type 0 where
  pub there : i + n ≤ length groups
  pub zero_groups : (position : ℕ) → i ≤ position → position < i + n → slice_index groups position ≡ 0

-- the run of zero groups that is printed as `::`: no run is longer, and none of the same length begins earlier
pub record IsGap (groups : List ℕ) (i n : ℕ) : Type 0 where
  pub several : 2 ≤ n
  pub zeros : IsZeroRun groups i n
  pub longest : (j m : ℕ) → IsZeroRun groups j m → m ≤ n
  pub leftmost : (j : ℕ) → IsZeroRun groups j n → i ≤ j

-- the text is the canonical text of the address: `::ffff:` and an IPv4 text if the address is mapped, else its groups
-- in hex, with `::` in place of the gap if there is one
pub data IsCanonicalV6 (text : List ℕ) (address : ℕ) : Type 0 where
  Mapped : IsMapped address → text ≡ codes "::ffff:" ++ canonical_v4 (address % 2 ^ 32) → IsCanonicalV6 text address
  Gap : ¬ (IsMapped address) → (i n : ℕ) → IsGap (segments_of address) i n
      → text ≡ hex_groups (take i (segments_of address)) ++ codes "::"
      ++ hex_groups (drop (i + n) (segments_of address)) → IsCanonicalV6 text address
  Whole : ¬ (IsMapped address) → ((i n : ℕ) → ¬ (IsGap (segments_of address) i n))
      → text ≡ hex_groups (segments_of address) → IsCanonicalV6 text address
