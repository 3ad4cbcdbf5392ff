-- What was found in a line is in the lists exactly if the test of `-o` says so.
use Rattle.cidr_filter.proofs.Words.{◌≡◌, ◌↔◌, ℕ, List, [], ◌∷◌, Bool, true, false, inl, inr, refl, sym, subst, arith, codes, map, digits, V4, V6, v6_of, gap_below, MembershipComputed, Spelled, IsListed, is_listed, is_of_family, IsIn, IsStored, IsToldBlock, covers_named, has_form, anywhere, Filter, Matcher, Addresses, Blocks, Networks, Sets, Tables}
use Rattle.ipnetwork_addr.specs.declared.ip.IpAddr.TheVariants as addresses
use Rattle.cidr_filter.specs.declared.filter.Family.TheVariants as families
use Rattle.cidr_filter.proofs.Among.{form_told}
use Rattle.cidr_filter.proofs.Examples.{addresses_of_ten, looking, ten}

-- for every address of every line
pub listed_by_test : MembershipComputed → (filter : Filter) (found : Spelled) (sets : Sets)
    → filter.listed ≡ Addresses sets → (is_listed filter.listed filter.mapped found ≡ true) ↔ IsListed filter found
listed_by_test computed filter found sets is =
    subst (λ (l : Matcher). (is_listed l filter.mapped found ≡ true) ↔ IsIn l filter.mapped found) (sym is)
    (form_told computed sets filter.mapped found.address)

-- an IPv4-mapped address, with and without `--mapped`
abbrev mapped : Spelled
mapped = record { text = codes "::ffff:10.0.0.1"; address = addresses.V6 0xffff0a000001 }

pub addresses_listed : is_listed addresses_of_ten.listed true mapped ∷ is_listed addresses_of_ten.listed false mapped
    ∷ is_listed addresses_of_ten.listed false ten ∷ is_listed addresses_of_ten.listed true ten ∷ []
    ≡ true ∷ false ∷ true ∷ true ∷ []
addresses_listed = refl

-- `--mapped` only adds: what is in the lists without it is in them with it
pub only_adds : (listed : Matcher) (found : Spelled) → IsIn listed false found → IsIn listed true found
only_adds (Addresses sets) found (inl has) = inr has
only_adds (Addresses sets) found (inr has) = inr has
only_adds (Networks set) found (network, names, inl lies) = (network, names, inr lies)
only_adds (Networks set) found (network, names, inr lies) = (network, names, inr lies)
only_adds (Blocks tables) found (block, stored, inl holds) = (block, stored, inr holds)
only_adds (Blocks tables) found (block, stored, inr holds) = (block, stored, inr holds)

-- a list that has one network
abbrev one_v4 : ℕ → ℕ → Sets
one_v4 address prefix = record { v4 = record { address = address; prefix = prefix } ∷ []; v6 = [] }

abbrev one_v6 : ℕ → ℕ → Sets
one_v6 address prefix = record { v4 = []; v6 = record { address = address; prefix = prefix } ∷ [] }

-- of `::/0`, `::ffff:0:0/96`, `0.0.0.0/0` and `255.255.255.255`, those that have `::ffff:255.255.255.255`, with
-- `--mapped` and without it; those that have `255.255.255.255`, and `::fffe:ffff:ffff`, with it
abbrev four_lists : List Sets
four_lists = one_v6 0 0 ∷ one_v6 0xffff00000000 96 ∷ one_v4 0 0 ∷ one_v4 0xffffffff 32 ∷ []

pub forms_listed :
    (map (λ (sets : Sets). has_form sets true (addresses.V6 0xffffffffffff)) four_lists
    ≡ true ∷ true ∷ true ∷ true ∷ [])
    × (map (λ (sets : Sets). has_form sets false (addresses.V6 0xffffffffffff)) four_lists
    ≡ true ∷ true ∷ false ∷ false ∷ [])
    × (map (λ (sets : Sets). has_form sets true (addresses.V4 0xffffffff)) four_lists
    ≡ false ∷ false ∷ true ∷ true ∷ [])
    × (map (λ (sets : Sets). has_form sets true (addresses.V6 0xfffeffffffff)) four_lists
    ≡ true ∷ false ∷ false ∷ false ∷ [])
forms_listed = (refl, refl, refl, refl)

-- with `--mapped`, the networks of prefix length 95, 96 and 128 that `::/0` covers; those that `0.0.0.0/0` covers, and
-- those that it covers without the option
abbrev mapped_texts : List (List ℕ)
mapped_texts = codes "::ffff:0:0/95" ∷ codes "::ffff:0:0/96" ∷ codes "::ffff:255.255.255.255/128" ∷ []

pub forms_covered :
    (map (covers_named (V6 (record { address = 0; prefix = 0 }) ∷ []) true) mapped_texts ≡ true ∷ true ∷ true ∷ [])
    × (map (covers_named (V4 (record { address = 0; prefix = 0 }) ∷ []) true) mapped_texts
    ≡ false ∷ true ∷ true ∷ [])
    × (map (covers_named (V4 (record { address = 0; prefix = 0 }) ∷ []) false) mapped_texts
    ≡ false ∷ false ∷ false ∷ [])
unfolding digits v6_of gap_below
forms_covered = (refl, refl, refl)

-- with `-4`, a network counts if all its addresses are IPv4 or, with `--mapped`, IPv4-mapped; without `--networks`, its
-- address decides
abbrev v4_only : Matcher → Bool → Filter
v4_only listed mapped = record (looking anywhere mapped) { listed = listed; family = families.V4 }

abbrev counts : Filter → List ℕ → Bool
counts filter text = is_of_family filter (record { text = text; address = addresses.V6 0xffff0a0000ba })

pub networks_of_v4 :
    (map (counts (v4_only (Networks []) true)) (codes "::ffff:10.0.0.186/41" ∷ codes "::ffff:10.0.0.186/95"
    ∷ codes "::ffff:10.0.0.186/96" ∷ codes "::ffff:10.0.0.186/128" ∷ []) ≡ false ∷ false ∷ true ∷ true ∷ [])
    × (counts (v4_only (Networks []) false) (codes "::ffff:10.0.0.186/96") ≡ false)
    × (counts (v4_only (Addresses (one_v6 0 0)) true) (codes "::ffff:10.0.0.186") ≡ true)
unfolding digits v6_of gap_below
networks_of_v4 = (refl, refl, refl)

-- with `-6`, an IPv4-mapped one counts whether `--mapped` is given or not
pub mapped_of_v6 : map (λ mapped. counts (record (v4_only (Addresses (one_v6 0 0)) mapped) { family = families.V6 })
    (codes "::ffff:10.0.0.186")) (true ∷ false ∷ []) ≡ true ∷ true ∷ []
mapped_of_v6 = refl

-- if `::/0` is reported for `::ffff:10.0.0.1`, the list does not have `10.0.0.0/8`
pub v4_block_first : (tables : Tables)
    → IsToldBlock tables true (addresses.V6 0xffff0a000001) (V6 (record { address = 0; prefix = 0 }))
    → IsStored tables (V4 (record { address = 0x0a000000; prefix = 8 })) → ⊥
v4_block_first tables (inl longest) stored = absurd longest.holds
v4_block_first tables (inr second) stored = second.0 (V4 (record { address = 0x0a000000; prefix = 8 })) stored (omega arith, refl)

-- a network is tested by its text, and not by its address
pub network_listed : map (is_listed (Networks (V4 (record { address = 0x0a000000; prefix = 9 }) ∷ [])) false)
    (ten ∷ record ten { text = codes "10.0.0.0/8" } ∷ []) ≡ true ∷ false ∷ []
unfolding digits v6_of gap_below
network_listed = refl
