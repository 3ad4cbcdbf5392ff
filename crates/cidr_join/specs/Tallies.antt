-- The counts of texts.
use Rattle.std.specs.Prelude.{◌≡◌, ℕ, ◌-◌, ◌^◌, min, List, [], ◌∷◌, ◌++◌, map, if◌then◌else◌, decimal}
use Rattle.std.specs.Cmp.Lexicographic.{slice_cmp}
use Rattle.std.specs.FinMap.{entries}
use Rattle.std.specs.List.{count_by, sum_by}
use Rattle.std.specs.List.Sorted.{IsSorted}
use Rattle.std.specs.Ordering.{nat_cmp, ordering_then}
use Rattle.std.specs.declared.cmp.Ordering.{Ordering}
use Rattle.std.specs.Str.{bytes_eq}
use Rattle.ipnetwork.specs.IpNetworkText.{ip_network_text}
use Rattle.ipnetwork.specs.declared.ip_network.IpNetwork.TheVariants as families
use Rattle.cidr_join.specs.declared.answers.Answers.{Answers}
use Rattle.cidr_join.specs.declared.answers.Answers.TheVariants as answers
use Rattle.cidr_join.specs.declared.join.Join.{Join}

-- how often a text is among these, at most 2^64 - 1
abbrev pub count_of : List ℕ → List (List ℕ) → ℕ
count_of text marks = min (count_by (bytes_eq text) marks) (2 ^ 64 - 1)

-- a text with its count
pub record Row : Type 0 where
  pub count : ℕ
  pub text : List ℕ

-- the count of a text in the rows, and how many rows have that text
abbrev pub counted_by : List Row → List ℕ → ℕ
counted_by rows text = sum_by (λ row. if bytes_eq text row.text then row.count else 0) rows

abbrev pub rows_of : List Row → List ℕ → ℕ
rows_of rows text = count_by (λ row. bytes_eq text row.text) rows

-- the row with the greater count comes first; rows with the same count are in the order of the bytes of their texts
abbrev pub row_cmp : Row → Row → Ordering
row_cmp first second = ordering_then (nat_cmp second.count first.count) (slice_cmp nat_cmp first.text second.text)

-- the rows count how often each text is among the marks, with one row for each text among the marks or the named texts,
-- in that order
pub record IsTally (named marks : List (List ℕ)) (rows : List Row) : Type 0 where
  pub counts : (text : List ℕ) → counted_by rows text ≡ count_of text marks
  pub once : (text : List ℕ) → rows_of rows text ≡ min (count_by (bytes_eq text) (named ++ marks)) 1
  pub ordered : IsSorted row_cmp rows

-- a row as it is printed: the count in decimal, a tab, the text and a line feed
abbrev pub row_text : Row → List ℕ
row_text row = decimal row.count ++ 9 ∷ (row.text ++ 10 ∷ [])

abbrev pub rows_text : List Row → List ℕ
rows_text [] = []
rows_text (row ∷ rows) = row_text row ++ rows_text rows

-- the texts that the list can give addresses, whether or not a line has one: the value of each of its networks, or the
-- network
abbrev pub named : Answers → List (List ℕ)
named (answers.Values routes) = map (λ e. e.1.bytes.now) (entries routes.v4)
    ++ map (λ e. e.1.bytes.now) (entries routes.v6)
named (answers.Networks routes) = map (λ e. ip_network_text (families.V4 e.0)) (entries routes.v4)
    ++ map (λ e. ip_network_text (families.V6 e.0)) (entries routes.v6)
named (answers.Blocks lengths) = []

-- the texts that a tally has even if they were never counted: with `--zero`, those
abbrev pub named_in : Join → List (List ℕ)
named_in join = if join.zeros then named join.answers else []
