-- The result of an operation, and how it is printed.
use Rattle.std.specs.Prelude.{ℕ, List, [], ◌∷◌, ◌++◌, map, nat_lt, if◌then◌else◌, codes, decimal}
use Rattle.std.specs.Prelude.{length, ◌≡◌}
use Rattle.std.specs.List.{flat_map}
use Rattle.ipnetwork_family.specs.Network.{Network}
use Rattle.ipnetwork_family.specs.Family.{Family, text_of, v4_family, v6_family}
use Rattle.ipnetwork_blocks.specs.Aggregate.{InUnion}
use Rattle.ipnetwork_blocks.specs.LeastList.{IsLeastList}
use Rattle.ipnetwork_sets.specs.Counts.{HasCount}
use Rattle.ipnetwork_sets.specs.RangeLists.{IsRangeList}
use Rattle.ipnetwork_sets.specs.Sets.{InBoth, InFirstAlone}
use Rattle.cidr_merge.specs.declared.command_line.Operation.{Operation}
use Rattle.cidr_merge.specs.declared.command_line.Operation.TheVariants.{Union, Common, Minus}
use Rattle.cidr_merge.specs.declared.command_line.Operation.TheVariants.{Differ}
use Rattle.cidr_merge.specs.declared.command_line.Form.{Form}
use Rattle.cidr_merge.specs.declared.command_line.Form.TheVariants.{Blocks, Ranges, Counts}
use Rattle.cidr_merge.specs.declared.command_line.Form.TheVariants.{Exported}
use Rattle.cidr_merge.specs.declared.exports.Export.{Export}
use Rattle.cidr_merge.specs.Exports.{export_text}
use Rattle.cidr_merge.specs.SetNames.{Names, line_of}
use Rattle.cidr_merge.specs.declared.reading.Sets.{Sets}
use Rattle.cidr_merge.specs.declared.merge_join.Side.{Side}
use Rattle.cidr_merge.specs.declared.merge_join.Side.TheVariants.{First, Second}

-- x is an address of the first side that is in the result of the operation
abbrev pub IsLeft : Operation → ℕ → List Network → List Network → ℕ → Type 0
IsLeft Union w first second x = InUnion w first x
IsLeft Common w first second x = InBoth w first second x
IsLeft Minus w first second x = InFirstAlone w first second x
IsLeft Differ w first second x = InFirstAlone w first second x

-- x is an address of the second side that is in the result: only `differ` prints such addresses separately
abbrev pub IsLeftOfSecond : Operation → ℕ → List Network → List Network → ℕ → Type 0
IsLeftOfSecond Union w first second x = ⊥
IsLeftOfSecond Common w first second x = ⊥
IsLeftOfSecond Minus w first second x = ⊥
IsLeftOfSecond Differ w first second x = InFirstAlone w second first x

-- a block or a range, with the side it belongs to
pub record Sided (X : Type 0) : Type 0 where
  pub side : Side
  pub part : X

-- the merge of a part of the first side, and of the parts after it (which `rest` merges), with the parts of the second
-- side
abbrev pub before : {X : Type 0} → (X → ℕ) → X → (List X → List (Sided X)) → List X → List (Sided X)
before begin part rest [] = record { side = First; part = part } ∷ rest []
before begin part rest (other ∷ others) =
    if nat_lt (begin part) (begin other)
    then record { side = First; part = part } ∷ rest (other ∷ others)
    else record { side = Second; part = other } ∷ before begin part rest others

-- the parts of both sides in one list, in ascending order of the first addresses if both lists are in that order
abbrev pub merged_by : {X : Type 0} → (X → ℕ) → List X → List X → List (Sided X)
merged_by begin [] others = map (λ other. record { side = Second; part = other }) others
merged_by begin (part ∷ parts) others = before begin part (merged_by begin parts) others

-- a block begins at its address, and a range at its first address
abbrev pub merged : List Network → List Network → List (Sided Network)
merged = merged_by (λ block. block.address)

abbrev pub merged_ranges : List (ℕ × ℕ) → List (ℕ × ℕ) → List (Sided (ℕ × ℕ))
merged_ranges = merged_by (λ range. range.0)

-- the text before a block or a range: empty, except that `differ` marks the side it belongs to
abbrev pub sign_of : Operation → Side → List ℕ
sign_of Union side = []
sign_of Common side = []
sign_of Minus side = []
sign_of Differ First = codes "< "
sign_of Differ Second = codes "> "

-- the line of a block: its canonical text
abbrev pub block_line : {w : ℕ} → Names → Operation → Family w → Sided Network → List ℕ
block_line names operation family sided =
    sign_of operation sided.side ++ line_of names (text_of family sided.part ∷ [])

-- the line of a range: the canonical texts of its first and last address
abbrev pub range_line : {w : ℕ} → Names → Operation → Family w → Sided (ℕ × ℕ) → List ℕ
range_line names operation family sided =
    sign_of operation sided.side ++ line_of names
    (family.canonical sided.part.0 ∷ codes " - " ∷ family.canonical sided.part.1 ∷ [])

-- the text has the result of the operation on two sets of a family, one line for each block
abbrev pub AreBlockLines : {w : ℕ} → Names → Operation → Family w → List Network → List Network → List ℕ
    → Type 0
AreBlockLines {w} names operation family first second text =
    (firsts seconds : List Network) × IsLeastList w (IsLeft operation w first second) firsts
    × IsLeastList w (IsLeftOfSecond operation w first second) seconds
    × (text ≡ flat_map (block_line names operation family) (merged firsts seconds))

-- the text has that result, one line for each range
abbrev pub AreRangeLines : {w : ℕ} → Names → Operation → Family w → List Network → List Network → List ℕ
    → Type 0
AreRangeLines {w} names operation family first second text =
    (firsts seconds : List (ℕ × ℕ)) × IsRangeList (IsLeft operation w first second) firsts
    × IsRangeList (IsLeftOfSecond operation w first second) seconds
    × (text ≡ flat_map (range_line names operation family) (merged_ranges firsts seconds))

-- the counts of a set: the number of blocks of its least list, and the number of its addresses
abbrev pub IsCount : ℕ → (ℕ → Type 0) → List ℕ → Type 0
IsCount w set text =
    (blocks : List Network) × (addresses : ℕ) × IsLeastList w set blocks × HasCount set addresses
    × (text ≡ decimal (length blocks) ++ codes " " ++ decimal addresses)

-- the line with counts, after the given name
abbrev pub count_line : List ℕ → List ℕ → List ℕ
count_line name counts = name ++ counts ++ 10 ∷ []

abbrev pub IsCountLine : ℕ → List ℕ → (ℕ → Type 0) → List ℕ → Type 0
IsCountLine w name set text = (counts : List ℕ) × IsCount w set counts × (text ≡ count_line name counts)

-- the text is a text for IPv4, followed by one for IPv6
abbrev pub AreBoth : (List ℕ → Type 0) → (List ℕ → Type 0) → List ℕ → Type 0
AreBoth IsV4 IsV6 text = (v4 v6 : List ℕ) × IsV4 v4 × IsV6 v6 × (text ≡ v4 ++ v6)

-- the text has the line with the counts of an IPv4 set and that of an IPv6 set, each after the sign
abbrev pub AreCountLines : List ℕ → (ℕ → Type 0) → (ℕ → Type 0) → List ℕ → Type 0
AreCountLines sign set4 set6 =
    AreBoth (IsCountLine 32 (sign ++ codes "v4 ") set4) (IsCountLine 128 (sign ++ codes "v6 ") set6)

-- the text has the counts of the first side's addresses in the result, for each family, each after the sign
abbrev pub AreCountsLeft : Operation → List ℕ → Sets → Sets → List ℕ → Type 0
AreCountsLeft operation sign first second =
    AreCountLines sign (IsLeft operation 32 first.v4 second.v4)
    (IsLeft operation 128 first.v6 second.v6)

-- the text has the counts of the result; for `differ`, first those of the addresses only in the first side, then those
-- of the addresses only in the second
abbrev pub AreCounts : Operation → Sets → Sets → List ℕ → Type 0
AreCounts Union first second text = AreCountsLeft Union [] first second text
AreCounts Common first second text = AreCountsLeft Common [] first second text
AreCounts Minus first second text = AreCountsLeft Minus [] first second text
AreCounts Differ first second text =
    (firsts seconds : List ℕ) × AreCountsLeft Differ (codes "< ") first second firsts
    × AreCountLines (codes "> ") (IsLeftOfSecond Differ 32 first.v4 second.v4)
    (IsLeftOfSecond Differ 128 first.v6 second.v6) seconds × (text ≡ firsts ++ seconds)

-- the text is the result of the operation, as blocks in an export form
abbrev pub IsExport : Names → Operation → Export → Sets → Sets → List ℕ → Type 0
IsExport names operation export first second text =
    (v4 v6 : List Network) × IsLeastList 32 (IsLeft operation 32 first.v4 second.v4) v4
    × IsLeastList 128 (IsLeft operation 128 first.v6 second.v6) v6
    × (text ≡ export_text names export v4 v6)

-- the text is the result of the operation in this form
abbrev pub IsAnswer : Names → Operation → Form → Sets → Sets → List ℕ → Type 0
IsAnswer names operation Blocks first second text =
    AreBoth (AreBlockLines names operation v4_family first.v4 second.v4)
    (AreBlockLines names operation v6_family first.v6 second.v6) text
IsAnswer names operation Ranges first second text =
    AreBoth (AreRangeLines names operation v4_family first.v4 second.v4)
    (AreRangeLines names operation v6_family first.v6 second.v6) text
IsAnswer names operation Counts first second text = AreCounts operation first second text
IsAnswer names operation (Exported export) first second text = IsExport names operation export first second text
