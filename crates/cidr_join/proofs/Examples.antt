-- Values at which a misreading of the definitions would show.
use Rattle.cidr_join.proofs.Words.{◌≡◌, ◌^◌, ◌+◌, ◌∷◌, [], map, Bool, true, false, refl, codes, None, digits, only, WithoutAddress, block_in, is_left_out, is_refused, mark_of, shown_of, entries, pairs, lacks_tally, are_cut, lacks_feed, row_text, are_right_by, free_items, free_mode, rows_of, pairs_of, Value}
use Rattle.cidr_join.proofs.Words.{ℕ, Some, inl, inr, Finds, FindsEither, Found, IpNetwork, Join, Routes}
use Rattle.std.specs.Prelude.{List}
use Rattle.line_addresses.proofs.Areas.{anywhere}
use Rattle.cidr_join.specs.Routes.{IsLongestRoute, NoRouteHolds}
use Rattle.cidr_join.specs.declared.answers.Answers.TheVariants as answers
use Rattle.ipnetwork_addr.specs.declared.ip.IpAddr.TheVariants as addresses
use Rattle.ipnetwork.specs.declared.ip_network.IpNetwork.TheVariants as families
use Rattle.log_programs.specs.declared.without_address.WithoutAddress.TheVariants as without
use Rattle.options.specs.declared.items.Item.TheVariants as says
use Rattle.options.specs.declared.items.Mode.TheVariants as modes
use Rattle.options.specs.declared.table.Row.{Row}
use Rattle.cidr_join.specs.declared.found.Found.TheVariants as founds

-- which lines without an address end the run, and which are left out
pub lines_without : map {B = Bool × Bool} (λ (bad : WithoutAddress). (is_refused bad None, is_left_out bad None))
    (without.Unsaid ∷ without.Drop ∷ without.Keep ∷ without.Stop ∷ without.Report ∷ [])
    ≡ (false, false) ∷ (false, true) ∷ (false, false) ∷ (true, false) ∷ (false, false) ∷ []
lines_without = refl

-- ---- the words of a command line

abbrev rows : List Row
rows = rows_of entries

pub letters_and_values : map (free_items rows) (codes "-wk1" ∷ codes "-flist" ∷ codes "-awd" ∷ codes "--tally"
    ∷ codes "-wxk1" ∷ codes "--group=24,64" ∷ [])
    ≡ (says.Flag 1 ∷ says.Value 2 (codes "1") ∷ []) ∷ (says.Joined 6 (codes "list") (codes "-flist") ∷ [])
    ∷ (says.Flag 0 ∷ says.Flag 1 ∷ [])
    ∷ (says.Flag 13 ∷ []) ∷ (says.Flag 1 ∷ says.Unknown (codes "-wxk1") ∷ [])
    ∷ (says.Joined 14 (codes "24,64") (codes "--group=24,64") ∷ []) ∷ []
letters_and_values = refl

pub next_words : map (free_mode rows) (codes "-wf" ∷ codes "-wf1" ∷ codes "--group" ∷ codes "--last" ∷ []) ≡ modes.Value
    6 ∷ modes.Free ∷ modes.Value 14 ∷ modes.Free ∷ []
next_words = refl

-- wrong words, and right ones that may not be given together
pub wrong_words : map (are_right_by rows (pairs_of pairs) (6 ∷ 14 ∷ []))
    ((says.Joined 2 (codes "0") (codes "-k0") ∷ says.Unknown (codes "--lastwins") ∷ [])
    ∷ (says.Value 14 (codes "33,0") ∷ says.Unknown (codes "--lastwins") ∷ [])
    ∷ (says.Value 6 (codes "a") ∷ says.Value 6 (codes "a") ∷ []) ∷ (says.Value 14 (codes "0,0") ∷ says.Flag 11 ∷ [])
    ∷ (says.Flag 10 ∷ says.Flag 13 ∷ []) ∷ [] ∷ (says.Value 6 (codes "a") ∷ says.Flag 10 ∷ []) ∷ [])
    ≡ false ∷ false ∷ true ∷ false ∷ false ∷ false ∷ true ∷ []
wrong_words = refl

-- `--zero` without `--tally`, both, and `--tally` without `--zero`
pub zeros_of_a_tally : map lacks_tally ((says.Flag 16 ∷ []) ∷ (says.Flag 16 ∷ says.Flag 13 ∷ []) ∷ (says.Flag 13 ∷ [])
    ∷ []) ≡ true ∷ false ∷ false ∷ []
zeros_of_a_tally = refl

-- ---- blocks of two lengths

-- 10.1.2.3 is in 10.1.2.0/24
pub block_of_v4 : block_in (record { v4 = 24; v6 = 64 }) (only (addresses.V4 167838211)) ≡ founds.Network
    (families.V4 (record { address = 167838208; prefix = 24 }))
block_of_v4 = refl

-- 1::1 is in 1::/16
pub block_of_v6 : block_in (record { v4 = 24; v6 = 16 }) (only (addresses.V6 (2 ^ 112 + 1))) ≡ founds.Network
    (families.V6 (record { address = 2 ^ 112; prefix = 16 }))
block_of_v6 = refl

-- so is 10.1.2.3/24, and no such block contains 10.1.2.3/23
pub block_of_networks : map (λ prefix. block_in (record { v4 = 24; v6 = 64 })
    (families.V4 (record { address = 167838211; prefix = prefix }))) (24 ∷ 23 ∷ [])
    ≡ founds.Network (families.V4 (record { address = 167838208; prefix = 24 })) ∷ founds.Nothing ∷ []
block_of_networks = refl

-- ---- with `--mapped`, what is found for a network of IPv4-mapped addresses

-- the block of its IPv4 addresses, in blocks of 16 and 48 bits, or, if none contains that, that of the network itself;
-- that of a network of other addresses too
abbrev grouping : Bool → Join
grouping mapped = record {
  answers = answers.Blocks (record { v4 = 16; v6 = 48 });
  area = anywhere;
  networks = true;
  mapped = mapped;
  last = false;
  bad = without.Unsaid;
  zeros = false;
}

abbrev mapped_network : ℕ → IpNetwork
mapped_network prefix = families.V6 (record { address = 0xffff0a010000; prefix = prefix })

abbrev lowest_block : Found
lowest_block = founds.Network (families.V6 (record { address = 0; prefix = 48 }))

abbrev v4_block : Found
v4_block = founds.Network (families.V4 (record { address = 0x0a010000; prefix = 16 }))

pub block_of_ipv4_first : Finds (grouping true) (Some (mapped_network 112)) v4_block
    × Finds (grouping true) (Some (mapped_network 128)) v4_block
    × Finds (grouping true) (Some (mapped_network 96)) lowest_block
    × Finds (grouping true) (Some (mapped_network 95)) lowest_block
    × Finds (grouping false) (Some (mapped_network 112)) lowest_block
block_of_ipv4_first = (
  inl (refl, refl),
  inl (refl, refl),
  inr (refl, refl),
  inl (refl, refl),
  inl (refl, refl),
)

-- of the values of a list, that of the IPv4 addresses, if a network of the list contains these
pub value_of_ipv4_first : (routes : Routes) (first second : IpNetwork) (value : Value)
    → FindsEither (answers.Values routes) first second (founds.Value value) → ¬ (NoRouteHolds routes first)
    → (network : IpNetwork) × IsLongestRoute routes first network value
value_of_ipv4_first routes first second value (inl finds) some = finds.0
value_of_ipv4_first routes first second value (inr finds) some = absurd (some finds.0)

-- ---- lists that may have been cut

pub cut_lists : map lacks_feed (codes "" ∷ codes "10.0.0.0/8 inne" ∷ codes "\na" ∷ codes "a\n" ∷ codes "a\r\n" ∷ codes "\n" ∷ [])
    ≡ true ∷ true ∷ true ∷ false ∷ false ∷ false ∷ []
cut_lists = refl

-- one of several is enough, and only `--whole` (row 21) asks
pub cut_if_asked : map (λ items. are_cut items (codes "a\n" ∷ codes "b" ∷ codes "c\n" ∷ []))
    ((says.Flag 21 ∷ []) ∷ (says.Flag 20 ∷ []) ∷ []) ≡ true ∷ false ∷ []
cut_if_asked = refl

pub whole_lists : are_cut (says.Flag 21 ∷ []) (codes "a\n" ∷ codes "\n" ∷ []) ≡ false
whole_lists = refl

-- ---- what is printed

pub marks : (value : Value) → map mark_of (founds.Network (families.V4 (record { address = 167772160; prefix = 8 }))
    ∷ founds.Network (families.V6 (record { address = 0; prefix = 0 })) ∷ founds.Value value ∷ founds.Nothing ∷ [])
    ≡ codes "10.0.0.0/8" ∷ codes "::/0" ∷ value.bytes.now ∷ codes "-" ∷ []
unfolding digits
marks value = refl

-- the value is printed before the line or, with `--last`, after it and before its end
pub before_and_behind : map (λ last. shown_of last (codes "inner") (codes "10.0.0.1 a") (codes "10.0.0.1 a\r\n"))
    (false ∷ true ∷ []) ≡ codes "inner\t10.0.0.1 a\r\n" ∷ codes "10.0.0.1 a\tinner\r\n" ∷ []
before_and_behind = refl

pub a_row : row_text (record { count = 12; text = codes "inner" }) ≡ codes "12\tinner\n"
unfolding digits
a_row = refl
