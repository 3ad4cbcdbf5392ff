-- Lines in the forms of other programs at which a misreading of their definitions would show. Each of these computes.
use Rattle.lists.proofs.Words.{◌≡◌, ◌++◌, ◌∷◌, [], ℕ, List, false, true, filter, map, range_with_len, codes, refl, None, Some, csv_head, csv_line, digits, fits, ipset_part, is_comma, is_command, is_name_byte, is_nft_frame, is_some, nft_part, second_field, without_comma}
use Rattle.ipnetwork.specs.declared.ip_network.IpNetwork.TheVariants.{V4, V6}

-- ---- bytes

pub bytes_of_names : filter is_name_byte (range_with_len 0 256)
    ≡ codes "-." ++ range_with_len 48 10 ++ range_with_len 65 26 ++ codes "_" ++ range_with_len 97 26
bytes_of_names = refl

pub commas : filter is_comma (range_with_len 0 256) ≡ codes ","
commas = refl

-- the only byte before an element of nftables is a tab
pub bytes_before_elements : filter (λ byte. is_some (nft_part (byte ∷ codes "::"))) (range_with_len 0 256) ≡ 9 ∷ []
bytes_before_elements = refl

-- ---- comma-separated values

pub lines_of_networks : (csv_line (V4 (record { address = 0; prefix = 0 })) ≡ codes "IPv4,0.0.0.0/0,0.0.0.0,255.255.255.255")
    × (csv_line (V4 (record { address = 0x0a000005; prefix = 8 })) ≡ codes "IPv4,10.0.0.5/8,10.0.0.0,10.255.255.255")
    × (csv_line (V4 (record { address = 0xffffffff; prefix = 32 }))
    ≡ codes "IPv4,255.255.255.255/32,255.255.255.255,255.255.255.255")
    × (csv_line (V6 (record { address = 0; prefix = 127 })) ≡ codes "IPv6,::/127,::,::1")
unfolding digits
lines_of_networks = (refl, refl, refl, refl)

pub second_fields : map second_field (csv_head ∷ codes "a,b" ∷ codes "a" ∷ codes ",,b" ∷ [] ∷ [])
    ≡ codes "network" ∷ codes "b" ∷ [] ∷ [] ∷ [] ∷ []
second_fields = refl

-- ---- ipset

pub commands : map is_command (codes "create" ∷ codes "flush" ∷ codes "swap" ∷ codes "destroy" ∷ codes "add" ∷ codes "del"
    ∷ codes "Flush" ∷ codes "flushs" ∷ [] ∷ []) ≡ true ∷ true ∷ true ∷ true ∷ false ∷ false ∷ false ∷ false ∷ false ∷ []
commands = refl

pub what_follows_a_set : map ipset_part (codes "add s ::/0" ∷ codes "add\ts  ::/0 x " ∷ codes "add s" ∷ codes " add s ::/0"
    ∷ codes "ADD s ::/0" ∷ codes "s ::/0" ∷ [] ∷ [])
    ≡ Some (codes "::/0") ∷ Some (codes "::/0 x") ∷ Some [] ∷ None ∷ None ∷ None ∷ None ∷ []
what_follows_a_set = refl

-- ---- nftables

-- a name ends where no more bytes of names are, and has at least one
pub names_in_patterns : map (fits (codes "a * {")) (codes "a b {" ∷ codes "a b-c.9_ {" ∷ codes "a  {" ∷ codes "a b c {"
    ∷ codes "a * {" ∷ codes "a b{" ∷ codes "a b {x" ∷ codes "a b " ∷ codes " a b {" ∷ [] ∷ [])
    ≡ true ∷ true ∷ false ∷ false ∷ false ∷ false ∷ false ∷ false ∷ false ∷ false ∷ []
names_in_patterns = refl

pub frames : map is_nft_frame (codes "add table inet t" ∷ codes "add set inet t s { type ipv4_addr; flags interval; }"
    ∷ codes "add set inet t s { type ipv6_addr; flags interval; }" ∷ codes "flush set inet t s" ∷ codes "add element inet t s {"
    ∷ codes "}" ∷ []) ≡ true ∷ true ∷ true ∷ true ∷ true ∷ true ∷ []
frames = refl

pub no_frames : map is_nft_frame (codes "add table ip t" ∷ codes "add set inet t s { type ether_addr; flags interval; }"
    ∷ codes "delete set inet t s" ∷ codes "add element inet t s { ::/0 }" ∷ codes "}}" ∷ codes "table inet t {" ∷ [] ∷ [])
    ≡ false ∷ false ∷ false ∷ false ∷ false ∷ false ∷ false ∷ []
no_frames = refl

pub one_comma : map without_comma (codes "a," ∷ codes "a" ∷ codes "a,," ∷ codes ",a" ∷ codes "," ∷ [] ∷ [])
    ≡ codes "a" ∷ codes "a" ∷ codes "a," ∷ codes ",a" ∷ [] ∷ [] ∷ []
one_comma = refl

pub elements : map nft_part (codes "\t::/0," ∷ codes "\t::/0" ∷ codes "\t\t::/0" ∷ codes "\t" ∷ codes "::/0" ∷ codes " ::/0"
    ∷ [] ∷ []) ≡ Some (codes "::/0") ∷ Some (codes "::/0") ∷ Some (codes "\t::/0") ∷ Some [] ∷ None ∷ None ∷ None ∷ []
elements = refl
