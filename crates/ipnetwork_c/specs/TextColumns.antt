-- Columns of texts: the bytes of all texts, one after the other, and the offsets at which each text begins and the last
-- one ends.
use Rattle.std.specs.Prelude.{ℕ, ◌+◌, ◌-◌, ◌<◌, ◌≤◌, List, length, get_or, slice_range}
use Rattle.ipnetwork_family.specs.Ipv4NetworkText.{ReadsV4Network}
use Rattle.ipnetwork_family.specs.Ipv6NetworkText.{ReadsV6Network}
use Rattle.ipnetwork.specs.IpNetworkText.{ReadsIpNetwork}
use Rattle.ipnetwork_c.specs.declared.structs.Ipv4InC.{Ipv4InC}
use Rattle.ipnetwork_c.specs.declared.structs.Ipv6InC.{Ipv6InC}
use Rattle.ipnetwork_c.specs.declared.structs.IpInC.{IpInC}
use Rattle.ipnetwork_c.specs.declared.structs.IpWithCauseInC.{IpWithCauseInC}
use Rattle.ipnetwork_c.specs.Numbers.{short_buffer, no_offsets}
use Rattle.ipnetwork_c.specs.Held.{HoldsV4, HoldsV6}
use Rattle.ipnetwork_c.specs.Outcomes.{Writes, Needs}
use Rattle.ipnetwork_c.specs.Answers.{ReadsInto}
use Rattle.ipnetwork_c.specs.Columns.{AnswersEach}
use Rattle.ipnetwork_c.specs.Either.{HoldsIp, ReadsWithCause}

-- the number of texts: one less than offsets
abbrev pub row_count : List ℕ → ℕ
row_count offsets = length offsets - 1

-- the bytes of the text in this row
abbrev pub row_text : List ℕ → List ℕ → ℕ → List ℕ
row_text texts offsets row = slice_range texts (get_or offsets row 0) (get_or offsets (row + 1) 0)

-- no offset is past the end of the texts, and none is less than the one before
pub record AreOffsets (texts offsets : List ℕ) : Type 0 where
  pub within : (i : ℕ) → i < length offsets → get_or offsets i 0 ≤ length texts
  pub rising : (i : ℕ) → i + 1 < length offsets → get_or offsets i 0 ≤ get_or offsets (i + 1) 0

-- each of the first texts is read into the row of the same number, as the call for one text reads it
abbrev pub ReadsRows : {R : Type 0} → (List ℕ → R → R → ℕ → Type 0) → List ℕ → List ℕ → ℕ → List R → List R → List ℕ
    → List ℕ → Type 0
ReadsRows Reads texts offsets = AnswersEach (λ i. Reads (row_text texts offsets i))

-- the column is read row by row, if its offsets are valid for the texts and there is room for as many rows and faults
abbrev pub ReadsColumn : {R : Type 0} → (List ℕ → R → R → ℕ → Type 0) → List ℕ → List ℕ → List R × List ℕ → List R
    × List ℕ → ℕ → Type 0
ReadsColumn Reads texts offsets before =
    Needs (AreOffsets texts offsets) no_offsets
    (Needs ((row_count offsets ≤ length before.0) × (row_count offsets ≤ length before.1)) short_buffer
    (Writes (λ after. ReadsRows Reads texts offsets (row_count offsets) before.0 after.0 before.1 after.1))) before

-- what the call for one text leaves and returns
abbrev pub v4_reads : List ℕ → Ipv4InC → Ipv4InC → ℕ → Type 0
v4_reads = ReadsInto ReadsV4Network HoldsV4

abbrev pub v6_reads : List ℕ → Ipv6InC → Ipv6InC → ℕ → Type 0
v6_reads = ReadsInto ReadsV6Network HoldsV6

abbrev pub ip_reads : List ℕ → IpInC → IpInC → ℕ → Type 0
ip_reads = ReadsInto ReadsIpNetwork HoldsIp

abbrev pub ip_reads_with_cause : List ℕ → IpWithCauseInC → IpWithCauseInC → ℕ → Type 0
ip_reads_with_cause = ReadsInto ReadsWithCause (λ row. HoldsIp row.held)
