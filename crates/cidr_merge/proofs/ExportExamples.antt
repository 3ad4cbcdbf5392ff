-- Whole exports of small lists. Each of these computes.
use Rattle.cidr_merge.proofs.Words.{◌≡◌, ℕ, List, [], ◌∷◌, ◌++◌, true, false, map, refl, digits, Network, count_up, export_text, Names, usual_names, is_set_name, is_limit, Netmask, Wildcard, Csv, Nft, Ipset, Json, Addresses}
use Rattle.std.specs.Prelude.{None, Some}
use Rattle.cidr_merge.specs.declared.exports.Version.TheVariants.{V4, V6}
use Rattle.std.proofs.Common.{codes}
use Rattle.cidr_merge.proofs.Examples.{ten}

-- 192.0.2.7/32, and ::/1
abbrev one : Network
one = record { address = 3221225991; prefix = 32 }

abbrev half : Network
half = record { address = 0; prefix = 1 }

pub lines_with_masks : (export_text usual_names Netmask (ten ∷ one ∷ []) (half ∷ [])
    ≡ codes "10.0.0.0 255.0.0.0\n192.0.2.7 255.255.255.255\n::/1\n")
    × (export_text usual_names Wildcard (ten ∷ one ∷ []) []
    ≡ codes "10.0.0.0 0.255.255.255\n192.0.2.7 0.0.0.0\n")
unfolding digits
lines_with_masks = (refl, refl)

pub values : (export_text usual_names Csv [] [] ≡ codes "family,network,first,last\n")
    × (export_text usual_names Csv (ten ∷ []) (half ∷ [])
    ≡ codes "family,network,first,last\nIPv4,10.0.0.0/8,10.0.0.0,10.255.255.255\n"
    ++ codes "IPv6,::/1,::,7fff:ffff:ffff:ffff:ffff:ffff:ffff:ffff\n")
unfolding digits
values = (refl, refl)

-- the input for `nft -f`, and that for `ipset restore` with the block of all IPv6 addresses
abbrev blocked : Names
blocked = record {
  only = None;
  table = codes "fw";
  set = codes "blocked";
  limit = codes "65536";
  before = codes "deny ";
  after = codes ";";
  fields = [];
  hosts = [];
}

pub sets : (export_text blocked Nft (ten ∷ one ∷ []) []
    ≡ codes "add table inet fw\n"
    ++ codes "add set inet fw blocked_ipv4 { type ipv4_addr; flags interval; }\nflush set inet fw blocked_ipv4\n"
    ++ codes "add element inet fw blocked_ipv4 {\n\t10.0.0.0/8,\n\t192.0.2.7/32\n}\n"
    ++ codes "add set inet fw blocked_ipv6 { type ipv6_addr; flags interval; }\nflush set inet fw blocked_ipv6\n")
    × (export_text usual_names Ipset (ten ∷ []) (record { address = 0; prefix = 0 } ∷ [])
    ≡ codes "create cidr_merge_ipv4 hash:net family inet maxelem 4294967295 -exist\n"
    ++ codes "create cidr_merge_ipv4_new hash:net family inet maxelem 4294967295 -exist\n"
    ++ codes "create cidr_merge_ipv6 hash:net family inet6 maxelem 4294967295 -exist\n"
    ++ codes "create cidr_merge_ipv6_new hash:net family inet6 maxelem 4294967295 -exist\n"
    ++ codes "flush cidr_merge_ipv4_new\nadd cidr_merge_ipv4_new 10.0.0.0/8\n"
    ++ codes "flush cidr_merge_ipv6_new\nadd cidr_merge_ipv6_new ::/1\nadd cidr_merge_ipv6_new 8000::/1\n"
    ++ codes "swap cidr_merge_ipv6_new cidr_merge_ipv6\nswap cidr_merge_ipv4_new cidr_merge_ipv4\n"
    ++ codes "destroy cidr_merge_ipv4_new\ndestroy cidr_merge_ipv6_new\n")
    × (export_text blocked Ipset [] []
    ≡ codes "create blocked_ipv4 hash:net family inet maxelem 65536 -exist\n"
    ++ codes "create blocked_ipv4_new hash:net family inet maxelem 65536 -exist\n"
    ++ codes "create blocked_ipv6 hash:net family inet6 maxelem 65536 -exist\n"
    ++ codes "create blocked_ipv6_new hash:net family inet6 maxelem 65536 -exist\n"
    ++ codes "flush blocked_ipv4_new\nflush blocked_ipv6_new\n"
    ++ codes "swap blocked_ipv6_new blocked_ipv6\nswap blocked_ipv4_new blocked_ipv4\n"
    ++ codes "destroy blocked_ipv4_new\ndestroy blocked_ipv6_new\n")
unfolding digits
sets = (refl, refl, refl)

-- one family alone: the set of the other is in no line
abbrev of_v4 : Names
of_v4 = record blocked { only = Some V4 }

abbrev of_v6 : Names
of_v6 = record blocked { only = Some V6 }

pub sets_of_one_family : (export_text of_v4 Nft (one ∷ []) []
    ≡ codes "add table inet fw\n"
    ++ codes "add set inet fw blocked_ipv4 { type ipv4_addr; flags interval; }\nflush set inet fw blocked_ipv4\n"
    ++ codes "add element inet fw blocked_ipv4 {\n\t192.0.2.7/32\n}\n")
    × (export_text of_v6 Nft [] []
    ≡ codes "add table inet fw\n"
    ++ codes "add set inet fw blocked_ipv6 { type ipv6_addr; flags interval; }\nflush set inet fw blocked_ipv6\n")
    × (export_text of_v4 Ipset (one ∷ []) []
    ≡ codes "create blocked_ipv4 hash:net family inet maxelem 65536 -exist\n"
    ++ codes "create blocked_ipv4_new hash:net family inet maxelem 65536 -exist\n"
    ++ codes "flush blocked_ipv4_new\nadd blocked_ipv4_new 192.0.2.7/32\n"
    ++ codes "swap blocked_ipv4_new blocked_ipv4\ndestroy blocked_ipv4_new\n")
    × (export_text of_v6 Ipset [] (half ∷ [])
    ≡ codes "create blocked_ipv6 hash:net family inet6 maxelem 65536 -exist\n"
    ++ codes "create blocked_ipv6_new hash:net family inet6 maxelem 65536 -exist\n"
    ++ codes "flush blocked_ipv6_new\nadd blocked_ipv6_new ::/1\n"
    ++ codes "swap blocked_ipv6_new blocked_ipv6\ndestroy blocked_ipv6_new\n")
unfolding digits
sets_of_one_family = (refl, refl, refl, refl)

-- names of 1 and of 22 bytes are valid; one of 23 bytes and others are not
abbrev twenty_two : List ℕ
twenty_two = codes "abcdefghijklmnopqrstuv"

pub names_of_sets : (map is_set_name (codes "b" ∷ codes "Z-9_.a" ∷ twenty_two ∷ []) ≡ true ∷ true ∷ true ∷ [])
    × (map is_set_name ([] ∷ codes "9a" ∷ codes "_a" ∷ codes "a b" ∷ codes "a;" ∷ (twenty_two ++ codes "w") ∷ [])
    ≡ false ∷ false ∷ false ∷ false ∷ false ∷ false ∷ [])
names_of_sets = (refl, refl)

-- numbers of elements: not 0, none with a zero in front, none above 2^32 - 1, none above 2^64, nothing but digits
pub limits : (map is_limit (codes "1" ∷ codes "65536" ∷ codes "4294967295" ∷ []) ≡ true ∷ true ∷ true ∷ [])
    × (map is_limit ([] ∷ codes "0" ∷ codes "01" ∷ codes "4294967296" ∷ codes "18446744073709551617" ∷ codes "+1"
    ∷ codes "1 " ∷ codes "x" ∷ []) ≡ false ∷ false ∷ false ∷ false ∷ false ∷ false ∷ false ∷ false ∷ [])
limits = (refl, refl)

-- JSON arrays with blocks of both families, of one, and of neither
pub arrays : (export_text usual_names Json (ten ∷ one ∷ []) (half ∷ [])
    ≡ codes "[\n\"10.0.0.0/8\",\n\"192.0.2.7/32\",\n\"::/1\"\n]\n")
    × (export_text usual_names Json [] (half ∷ []) ≡ codes "[\n\"::/1\"\n]\n")
    × (export_text usual_names Json [] [] ≡ codes "[\n]\n")
unfolding digits
arrays = (refl, refl, refl)

pub each_address : export_text usual_names Addresses (one ∷ record {
  address = 167772160;
  prefix =
      31;
} ∷ []) [] ≡ codes "192.0.2.7\n10.0.0.0\n10.0.0.1\n"
unfolding digits count_up
each_address = refl
