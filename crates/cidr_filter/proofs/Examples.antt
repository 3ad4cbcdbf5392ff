-- Values at which a misreading of the definitions would show.
use Rattle.cidr_filter.proofs.Words.{◌≡◌, ℕ, ◌-◌, length, List, [], ◌∷◌, ◌++◌, Bool, true, false, inl, inr, refl, ap, append-nil, arith, codes, map, bytes_eq, Some, None, digits, v6_of, gap_below, IpAddr, Spelled, address_of, before_port, begun_by, behind_word, address_in, IpMember, V4, V6, field_of, named_network, network_begun_by, network_in, IsListed, IsVerdict, addresses_in, is_selected, is_refused, mark_of, shown, shown_of, LogLine, log_lines, ended_lines, content, printed, ended, unended, IsStored, IsLongestBlock, asked, covers_named, label_of, WithoutAddress, Filter, OutputMode, Area, whole, anywhere, after, Verdict, Addresses, Networks, Blocks, Sets, Tables}
use Rattle.ipnetwork_addr.specs.declared.ip.IpAddr.TheVariants as addresses
use Rattle.log_programs.specs.LogStats.{nothing}
use Rattle.log_programs.specs.declared.without_address.WithoutAddress.TheVariants as without
use Rattle.cidr_filter.specs.declared.filter.Family.TheVariants as families
use Rattle.cidr_filter.specs.declared.filter.OutputMode.TheVariants as shows
use Rattle.line_addresses.specs.declared.area.Part.TheVariants as parts
use Rattle.line_addresses.specs.declared.place.Place.TheVariants as places
use Rattle.cidr_filter.specs.declared.filter.Verdict.TheVariants as verdicts

-- ---- fields, cut at each comma (44) or blank (32)

pub second_field : field_of 2 44 (codes "a,10.0.0.1,c") ≡ Some (codes "10.0.0.1")
second_field = refl

pub empty_field : field_of 2 44 (codes "a,,c") ≡ Some []
empty_field = refl

pub last_field : field_of 3 44 (codes "a,,c") ≡ Some (codes "c")
last_field = refl

pub no_such_field : field_of 4 44 (codes "a,,c") ≡ None
no_such_field = refl

pub field_before_a_blank : field_of 1 32 (codes " x") ≡ Some []
field_before_a_blank = refl

-- ---- lines

pub lines_of_a_log : log_lines (codes "a\n\nb") ≡ ended (codes "a") ∷ ended [] ∷ unended (codes "b") ∷ []
lines_of_a_log = refl

pub no_line_behind_the_last : log_lines (codes "a\n") ≡ ended (codes "a") ∷ []
no_line_behind_the_last = refl

pub ended_lines_of_a_log : ended_lines (codes "a\nb") ≡ ended (codes "a") ∷ []
ended_lines_of_a_log = refl

pub one_return_is_the_end : content (ended (codes "a\r\r")) ≡ codes "a\r"
one_return_is_the_end = refl

pub return_that_nothing_follows : content (unended (codes "a\r")) ≡ codes "a\r"
return_that_nothing_follows = refl

pub printed_as_it_was : printed (ended (codes "a\r")) ≡ codes "a\r\n"
printed_as_it_was = refl

pub printed_with_an_end : printed (unended (codes "a")) ≡ codes "a\n"
printed_with_an_end = refl

-- ---- the verdict on a line

-- the first field, cut at a blank
abbrev pub first_field : Area
first_field = whole (parts.Field (places.Number 1) 32)

abbrev pub by : Bool → WithoutAddress → Filter
by inverts bad = record {
  listed = Addresses (record { v4 = []; v6 = [] });
  area = first_field;
  mapped = false;
  family =
      families.Either;
  inverts = inverts;
  bad = bad;
  most = None;
  shows = shows.Lines;
  named = false;
  numbered =
      false;
  nul = false;
  name = [];
}

-- a filter that only counts
abbrev pub counting : WithoutAddress → Filter
counting bad = record (by false bad) { shows = shows.Count }

-- a filter that searches this area
abbrev pub looking : Area → Bool → Filter
looking area mapped = record (by false without.Drop) { area = area; mapped = mapped }

-- the address 10.0.0.1 with its text
abbrev pub ten : Spelled
ten = record { text = codes "10.0.0.1"; address = addresses.V4 0x0a000001 }

-- the addresses that are looked up in the lists
abbrev pub asked_in : Filter → List ℕ → List IpAddr
asked_in filter line = map (λ found. asked filter.mapped found.address) (addresses_in filter line)

-- what is written for the line with this number
abbrev pub output_of : Filter → ℕ → Verdict → LogLine → List ℕ
output_of filter number verdict line = shown filter
    (record { selected = 0; seen = record nothing { lines = number - 1 } }) verdict (content line) (printed line)

pub line_inside : IsListed (by false without.Drop) ten
    → IsVerdict (by false without.Drop) 0 (codes "10.0.0.1 x") (verdicts.Inside None)
unfolding address_of digits v6_of gap_below
line_inside listed = (omega arith, inl (listed, refl))

pub line_outside : ¬ (IsListed (by true without.Drop) ten)
    → IsVerdict (by true without.Drop) 0 (codes "10.0.0.1 x") verdicts.Outside
unfolding address_of digits v6_of gap_below
line_outside not = (omega arith, (omega arith, (not, tt)))

pub address_in_another_field : IsVerdict (by false without.Drop) 0 (codes "x 10.0.0.1") verdicts.NoAddress
unfolding address_of digits v6_of gap_below
address_in_another_field = (omega arith, refl)

-- the second word, after two blanks
abbrev pub second_word : Area
second_word = whole (parts.Word (places.Number 2))

pub address_in_a_word : asked_in (looking second_word false) (codes "a  10.0.0.1 b") ≡ addresses.V4 0x0a000001 ∷ []
unfolding address_of digits v6_of gap_below
address_in_a_word = refl

pub addresses_anywhere : asked_in (looking anywhere false) (codes "a=10.0.0.1:80 [10.0.0.2]") ≡ addresses.V4 0x0a000001
    ∷ addresses.V4 0x0a000002 ∷ []
unfolding address_in behind_word begun_by before_port address_of digits v6_of gap_below
addresses_anywhere = refl

-- only the first address after the first occurrence of a text
pub address_after : asked_in (looking (after (codes "SRC=")) false) (codes "DST=10.0.0.9 SRC=10.0.0.1 SRC=10.0.0.2")
    ≡ addresses.V4 0x0a000001 ∷ []
unfolding address_in behind_word begun_by before_port address_of digits v6_of gap_below
address_after = refl

pub no_text : asked_in (looking (after (codes "SRC=")) false) (codes "DST=10.0.0.9") ≡ []
no_text = refl

-- an IPv4-mapped address counts as its IPv4 address only with `--mapped`
pub mapped_address : asked_in (looking first_field true) (codes "::ffff:10.0.0.1 x") ≡ addresses.V4 0x0a000001 ∷ []
unfolding address_of digits v6_of gap_below
mapped_address = refl

pub address_as_it_is : asked_in (looking first_field false) (codes "::ffff:10.0.0.1 x") ≡ addresses.V6 0xffff0a000001 ∷ []
unfolding address_of digits v6_of gap_below
address_as_it_is = refl

-- with `-4` or `-6`, the addresses of one family
pub one_family : (asked_in (record (looking anywhere false) { family = families.V4 })
    (codes "::1 10.0.0.1") ≡ addresses.V4 0x0a000001 ∷ [])
    × (asked_in (record (looking anywhere false) { family = families.V6 }) (codes "::1 10.0.0.1") ≡ addresses.V6 1 ∷ [])
unfolding address_in behind_word begun_by before_port address_of digits v6_of gap_below
one_family = (refl, refl)

-- with `--networks`, a network is found with its text; without it, only its address
pub network_found : addresses_in (record (looking anywhere false) { listed = Networks [] })
    (codes "to 10.0.0.1/24.") ≡ record { text = codes "10.0.0.1/24"; address = addresses.V4 0x0a000001 } ∷ []
unfolding network_in network_begun_by named_network address_in behind_word begun_by before_port address_of digits v6_of gap_below
network_found = refl

pub address_of_a_network : addresses_in (looking anywhere false) (codes "to 10.0.0.1/24.") ≡ ten ∷ []
unfolding address_in behind_word begun_by before_port address_of digits v6_of gap_below
address_of_a_network = refl

-- a network within the block of a list is in the list, with or without host bits; a larger network, one next to the
-- block, and a text that is not a network are not
pub networks_covered : map (covers_named (V4 (record { address = 0x0a000000; prefix = 9 }) ∷ []) false)
    (codes "10.1.2.3/9" ∷ codes "10.0.0.0/8" ∷ codes "10.128.0.0/9" ∷ codes "10.0.0.7" ∷ codes "x" ∷ [])
    ≡ true ∷ false ∷ false ∷ true ∷ false ∷ []
unfolding digits v6_of gap_below
networks_covered = refl

-- the second of two addresses is in the lists
pub second_address_inside : ¬ (IsListed (looking anywhere false) ten)
    → IsListed (looking anywhere false) (record { text = codes "10.0.0.2"; address = addresses.V4 0x0a000002 })
    → IsVerdict (looking anywhere false) 0 (codes "10.0.0.1 10.0.0.2") (verdicts.Inside None)
unfolding address_in behind_word begun_by before_port address_of digits v6_of gap_below
second_address_inside not listed = (omega arith, inr (not, inl (listed, refl)))

-- a line of 1,048,576 bytes is not too long, and one of a byte more is
pub longest_line : (line : List ℕ) → length line ≡ 1048576 → IsVerdict (by false without.Drop) 0 line verdicts.TooLong → ⊥
longest_line line e long = omega (arith, e, long)

pub line_too_long : (line : List ℕ) → length line ≡ 1048577 → IsVerdict (by false without.Drop) 0 line verdicts.TooLong
line_too_long line e = omega (arith, e)

pub too_long_whatever_is_in_it : (line : List ℕ) → length line ≡ 1048577
    → IsVerdict (by false without.Drop) 0 line verdicts.NoAddress → ⊥
too_long_whatever_is_in_it line e bad = omega (arith, e, bad.0)

-- if the block of length 8 is reported, the one of length 16 does not contain the address
pub no_longer_block : (tables : Tables) (address : IpAddr) → let wide =
    V4 (record { address = 167772160; prefix = 8 }) in let narrow = V4 (record { address = 167772160; prefix = 16 }) in
    IsLongestBlock tables address wide → IsStored tables narrow → IpMember narrow address → ⊥
no_longer_block tables address longest stored member =
    omega (arith, longest.longest (V4 (record { address = 167772160; prefix = 16 })) stored member)

pub inside_is_selected : (bad : WithoutAddress) → is_selected (by false bad) (verdicts.Inside None) ≡ true
inside_is_selected bad = refl

pub outside_is_not : (bad : WithoutAddress) → is_selected (by false bad) verdicts.Outside ≡ false
outside_is_not bad = refl

pub outside_of_none : (bad : WithoutAddress) → is_selected (by true bad) verdicts.Outside ≡ true
outside_of_none bad = refl

-- lines without an address, or that are too long, are dropped, with or without `-v`, or kept, or end the run
pub selected_without_an_address : (is_selected (by true without.Drop) verdicts.NoAddress ≡ false) × (is_selected
    (by false without.Keep) verdicts.NoAddress ≡ true) × (is_selected (by false without.Keep) verdicts.TooLong ≡ false)
selected_without_an_address = (refl, refl, refl)

pub refused_without_an_address : (is_refused (by true without.Stop) verdicts.NoAddress ≡ true)
    × (is_refused (by true without.Keep) verdicts.NoAddress ≡ false)
    × (is_refused (by false without.Keep) verdicts.TooLong ≡ false)
    × (is_refused (by false without.Stop) verdicts.TooLong ≡ true)
refused_without_an_address = (refl, refl, refl, refl)

-- the longest network and a tab, or a minus sign
pub block_before_a_line : (tables : Tables) → mark_of (Blocks tables)
    (verdicts.Inside (Some (V4 (record { address = 167772160; prefix = 8 })))) ≡ codes "10.0.0.0/8\t"
unfolding digits
block_before_a_line tables = refl

pub no_block : (tables : Tables) → mark_of (Blocks tables) verdicts.NoAddress ≡ codes "-\t"
no_block tables = refl

pub block_of_ipv6 : (tables : Tables)
    → mark_of (Blocks tables) (verdicts.Inside (Some (V6 (record { address = 0; prefix = 0 })))) ≡ codes "::/0\t"
unfolding digits
block_of_ipv6 tables = refl

pub no_mark : (sets : Sets) (verdict : Verdict) → mark_of (Addresses sets) verdict ≡ []
no_mark sets verdict = refl

-- the line follows the head and its mark as it was read; a name or nothing is printed in place of them
pub what_is_shown : (tables : Tables)
    → let filter = record (by false without.Keep) { listed = Blocks tables; name = codes "log" } in
    map (λ (shown : OutputMode). shown_of (record filter { shows = shown }) (codes "log:7:") verdicts.NoAddress
    (codes "a") (codes "a\r\n")) (shows.Lines ∷ shows.Count ∷ shows.Names ∷ shows.Nothing ∷ [])
    ≡ codes "log:7:-\ta\r\n" ∷ [] ∷ codes "log\n" ∷ [] ∷ []
what_is_shown tables = refl

pub line_selected : output_of (by false without.Drop) 1 (verdicts.Inside None) (ended (codes "a\r")) ≡ codes "a\r\n"
line_selected = refl

pub line_counted : output_of (counting without.Drop) 1 (verdicts.Inside None) (ended (codes "a")) ≡ []
line_counted = refl

-- with `-H`, the name of the log comes first, whatever it is; without it, nothing does
pub line_named : (byte : ℕ) (name : List ℕ) → output_of (record (by false without.Drop) { name = byte ∷ name }) 1
    (verdicts.Inside None) (ended (codes "a")) ≡ (byte ∷ name ++ codes ":") ++ codes "a\n"
line_named byte name = ap (λ (h : List ℕ). h ++ codes "a\n") (append-nil (byte ∷ name ++ codes ":"))

-- with `-Z`, NUL follows the name, in place of the colon, and in place of the line feed of `-l`; without a name it is
-- nowhere
pub name_before_nul : (byte : ℕ) (name : List ℕ)
    → output_of (record (by false without.Drop) { nul = true; name = byte ∷ name }) 1
    (verdicts.Inside None) (ended (codes "a")) ≡ (byte ∷ name ++ 0 ∷ []) ++ codes "a\n"
name_before_nul byte name = ap (λ (h : List ℕ). h ++ codes "a\n") (append-nil (byte ∷ name ++ 0 ∷ []))

pub names_before_nul : let filter = record (by false without.Drop)
    { nul = true; numbered = true; name = codes "log" } in
    map (λ (f : Filter). output_of f 7 (verdicts.Inside None) (ended (codes "a")))
    (filter ∷ record filter { shows = shows.Names } ∷ record filter { name = [] } ∷ [])
    ≡ (codes "log" ++ 0 ∷ codes "7:a\n") ∷ (codes "log" ++ 0 ∷ []) ∷ codes "7:a\n" ∷ []
unfolding digits
names_before_nul = refl

pub longest_named : (tables : Tables) → output_of (record (by false without.Keep)
    { listed = Blocks tables; name = codes "log" }) 1 verdicts.NoAddress (ended (codes "a")) ≡ codes "log:-\ta\n"
longest_named tables = refl

pub standard_input_named : label_of true (codes "-") ≡ codes "(standard input)"
standard_input_named = refl

pub any_log_named : (name : List ℕ) → bytes_eq name (codes "-") ≡ false → label_of true name ≡ name
any_log_named name other = rw other

pub no_log_named : (name : List ℕ) → label_of false name ≡ []
no_log_named name = refl

-- with `-o`, only the addresses that are in the lists, whatever is around them: 10.0.0.0/8 contains the first and third
abbrev pub addresses_of_ten : Filter
addresses_of_ten = record (looking anywhere false) {
  listed = Addresses (record { v4 = record { address = 0x0a000000; prefix = 8 } ∷ []; v6 = [] });
  shows = shows.Addresses;
}

pub addresses_selected : output_of addresses_of_ten 1 (verdicts.Inside None)
    (ended (codes "a=10.0.0.1:80 b=11.0.0.1,10.0.0.2.")) ≡ codes "10.0.0.1\n10.0.0.2\n"
unfolding address_in behind_word begun_by before_port address_of digits v6_of gap_below
addresses_selected = refl

pub addresses_named : output_of (record addresses_of_ten { name = codes "log" }) 1 (verdicts.Inside None)
    (ended (codes "10.0.0.1 10.0.0.2")) ≡ codes "log:10.0.0.1\nlog:10.0.0.2\n"
unfolding address_in behind_word begun_by before_port address_of digits v6_of gap_below
addresses_named = refl

pub no_addresses_counted : output_of (record addresses_of_ten { shows = shows.Count }) 1 (verdicts.Inside None)
    (ended (codes "10.0.0.1")) ≡ []
no_addresses_counted = refl
