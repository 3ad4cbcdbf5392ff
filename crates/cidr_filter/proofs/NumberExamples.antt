-- Lines that are numbered.
use Rattle.cidr_filter.proofs.Words.{◌≡◌, ℕ, List, [], ◌∷◌, true, false, inl, inr, refl, sym, true≢false, none-some, codes, None, Some, digits, v6_of, gap_below, address_of, before_port, begun_by, behind_word, address_in, IsVerdict, number_head, Filters, fresh, tally_with, Filter, Blocks, Tables, LogLine, ended}
use Rattle.cidr_filter.specs.declared.filter.OutputMode.TheVariants as shows
use Rattle.cidr_filter.specs.declared.filter.Verdict.TheVariants as verdicts
use Rattle.log_programs.specs.declared.without_address.WithoutAddress.TheVariants as without
use Rattle.cidr_filter.proofs.Examples.{by, addresses_of_ten, output_of}

abbrev numbering : Filter
numbering = record (by false without.Drop) { numbered = true }

pub line_numbered : output_of numbering 7 (verdicts.Inside None) (ended (codes "a")) ≡ codes "7:a\n"
unfolding digits
line_numbered = refl

-- the number follows the name of the log and precedes the longest network
pub number_behind_the_name : (tables : Tables) → output_of
    (record numbering { listed = Blocks tables; bad = without.Keep; name = codes "log" }) 12 verdicts.NoAddress
    (ended (codes "a")) ≡ codes "log:12:-\ta\n"
unfolding digits
number_behind_the_name tables = refl

-- the number precedes each address of its line
pub addresses_numbered : output_of (record addresses_of_ten { numbered = true }) 2 (verdicts.Inside None)
    (ended (codes "10.0.0.1 10.0.0.2")) ≡ codes "2:10.0.0.1\n2:10.0.0.2\n"
unfolding address_in behind_word begun_by before_port address_of digits v6_of gap_below
addresses_numbered = refl

pub no_number_of_a_count : output_of (record numbering { shows = shows.Count }) 7 (verdicts.Inside None)
    (ended (codes "a")) ≡ []
no_number_of_a_count = refl

pub no_number_of_a_name : output_of (record numbering { shows = shows.Names; name = codes "log" }) 7
    (verdicts.Inside None) (ended (codes "a")) ≡ codes "log\n"
no_number_of_a_name = refl

-- the greatest number is 2^64 - 1
pub no_greater_number : number_head true 18446744073709551616 ≡ codes "18446744073709551615:"
unfolding digits
no_greater_number = refl

pub no_number_unasked : (number : ℕ) → number_head false number ≡ []
no_number_unasked number = refl

-- every line has a number, selected or not
pub second_line : IsVerdict numbering 0 (codes "11.0.0.1") verdicts.Outside
    → IsVerdict numbering 1 (codes "10.0.0.1") (verdicts.Inside None)
    → Filters false numbering fresh (ended (codes "11.0.0.1") ∷ ended (codes "10.0.0.1") ∷ []) (codes "2:10.0.0.1\n")
    (Some (tally_with numbering (tally_with numbering fresh verdicts.Outside) (verdicts.Inside None)))
unfolding digits
second_line outside inside = inr (inr (
  refl,
  [],
  codes "2:10.0.0.1\n",
  Some (tally_with numbering fresh verdicts.Outside),
  (verdicts.Outside, outside, inr (refl, refl, refl)),
  refl,
  inr (inr (
    refl,
    codes "2:10.0.0.1\n",
    [],
    Some (tally_with numbering (tally_with numbering fresh verdicts.Outside) (verdicts.Inside None)),
    (verdicts.Inside None, inside, inr (refl, refl, refl)),
    refl,
    inl (refl, refl),
  )),
))

-- ---- a log that is left

-- with `-m 1` nothing is looked at after the first selected line
pub left_at_one : (line : LogLine) (lines : List LogLine)
    → IsVerdict (record numbering { most = Some 1 }) 0 (codes "10.0.0.1") (verdicts.Inside None)
    → Filters false (record numbering { most = Some 1 }) fresh (ended (codes "10.0.0.1") ∷ line ∷ lines)
    (codes "1:10.0.0.1\n")
    (Some (tally_with numbering fresh (verdicts.Inside None)))
unfolding digits
left_at_one line lines inside = inr (inr (
  refl,
  codes "1:10.0.0.1\n",
  [],
  Some (tally_with numbering fresh (verdicts.Inside None)),
  (verdicts.Inside None, inside, inr (refl, refl, refl)),
  refl,
  inl (refl, (refl, refl)),
))

-- a line that ends the run prints nothing, nor does one after it
pub ends_the_run : (lines : List LogLine) → IsVerdict (record numbering { bad = without.Stop }) 0 (codes "x")
    verdicts.NoAddress
    → Filters false (record numbering { bad = without.Stop }) fresh (ended (codes "x") ∷ lines) [] None
ends_the_run lines none = inr (inr (
  refl,
  [],
  [],
  None,
  (verdicts.NoAddress, none, inl (refl, (refl, refl))),
  refl,
  (refl, refl),
))

-- a log with a device that failed may end before any line, and then ends the run; another may not
pub cut_before_a_line : (lines : List LogLine) → Filters true numbering fresh lines [] None
cut_before_a_line [] = inr (refl, (refl, refl))
cut_before_a_line (line ∷ lines) = inr (inl (refl, (refl, refl)))

pub not_cut_at_the_end : ¬ (Filters false numbering fresh [] [] None)
not_cut_at_the_end (inl h) = absurd (none-some _ h.1)
not_cut_at_the_end (inr h) = absurd (true≢false (sym h.0))
