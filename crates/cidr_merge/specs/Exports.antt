-- The forms that other programs read: the texts before, between and after the blocks, and how each block is written.
use Rattle.std.specs.Prelude.{ℕ, ◌-◌, ◌==◌, Bool, true, false, List, [], ◌∷◌, ◌++◌, Option, None, Some, if◌then◌else◌}
use Rattle.std.specs.Prelude.{codes}
use Rattle.std.specs.List.{concat, flat_map}
use Rattle.ipnetwork_family.specs.Network.{Network, block_size, mask_of, low, high, members}
use Rattle.ipnetwork_family.specs.Family.{Family, text_of, v4_family, v6_family}
use Rattle.cidr_merge.specs.Families.{looks_at}
use Rattle.cidr_merge.specs.SetNames.{Names, line_of}
use Rattle.cidr_merge.specs.declared.exports.Export.{Export}
use Rattle.cidr_merge.specs.declared.exports.Export.TheVariants.{Netmask, Wildcard, Csv, Nft, Ipset}
use Rattle.cidr_merge.specs.declared.exports.Export.TheVariants.{Json, Addresses}
use Rattle.cidr_merge.specs.declared.exports.Frame.{Frame}
use Rattle.cidr_merge.specs.declared.exports.Frame.TheVariants.{Head, FamilyHead, Opening, FamilyFoot, Foot}
use Rattle.cidr_merge.specs.declared.exports.Version.{Version}
use Rattle.cidr_merge.specs.declared.exports.Version.TheVariants.{V4, V6}

-- for a family: the suffix of its set's name, and the type of the nftables set
abbrev pub family_word : Version → List ℕ
family_word V4 = codes "_ipv4"
family_word V6 = codes "_ipv6"

abbrev pub address_type : Version → List ℕ
address_type V4 = codes "ipv4_addr"
address_type V6 = codes "ipv6_addr"

abbrev pub inet_word : Version → List ℕ
inet_word V4 = codes "inet"
inet_word V6 = codes "inet6"

-- texts of a family; none if the family is not looked at
abbrev pub if_looked_at : Names → Version → List (List ℕ) → List ℕ
if_looked_at names version texts = if looks_at names.only version then concat texts else []

-- the lines for ipset that create the set of a family and a new one, unless they exist, that put the new one in the
-- place of the old, and that destroy it
abbrev pub created_texts : List ℕ → List ℕ → List ℕ → List ℕ → List (List ℕ)
created_texts set word inet limit =
    codes "create " ∷ set ∷ word ∷ codes " hash:net family " ∷ inet ∷ codes " maxelem " ∷ limit
    ∷ codes " -exist\ncreate " ∷ set ∷ word ∷ codes "_new hash:net family " ∷ inet ∷ codes " maxelem " ∷ limit
    ∷ codes " -exist\n" ∷ []

abbrev pub created : Names → Version → List (List ℕ)
created names version = created_texts names.set (family_word version) (inet_word version) names.limit

abbrev pub swapped : Names → Version → List (List ℕ)
swapped names version =
    codes "swap " ∷ names.set ∷ family_word version ∷ codes "_new " ∷ names.set ∷ family_word version ∷ codes "\n" ∷ []

abbrev pub destroyed : Names → Version → List (List ℕ)
destroyed names version = codes "destroy " ∷ names.set ∷ family_word version ∷ codes "_new\n" ∷ []

-- the lines for ipset before and after all others, for a family alone or for both
abbrev pub ipset_head : Names → Option Version → List (List ℕ)
ipset_head names (Some version) = created names version
ipset_head names None = created names V4 ++ created names V6

abbrev pub ipset_foot : Names → Option Version → List (List ℕ)
ipset_foot names (Some version) = swapped names version ++ destroyed names version
ipset_foot names None = swapped names V6 ++ swapped names V4 ++ destroyed names V4 ++ destroyed names V6

-- the lines that create a set of nftables, unless it exists, and empty it; and the line that empties a new set of ipset
abbrev pub nft_set : Names → Version → List (List ℕ)
nft_set names version =
    codes "add set inet " ∷ names.table ∷ codes " " ∷ names.set ∷ family_word version ∷ codes " { type "
    ∷ address_type version ∷ codes "; flags interval; }\nflush set inet " ∷ names.table ∷ codes " " ∷ names.set
    ∷ family_word version ∷ codes "\n" ∷ []

abbrev pub flushed : Names → Version → List (List ℕ)
flushed names version = codes "flush " ∷ names.set ∷ family_word version ∷ codes "_new\n" ∷ []

-- the text at a place around the blocks; empty in all cases not listed. For nftables, it creates the table and the sets
-- if they do not exist, and flushes the sets before elements are added. For ipset, it creates the sets of both families
-- if they do not exist, and new sets, which replace the old ones once both are filled, that of IPv6 first: ipset does
-- not see before the swap that a set without `family inet6` has its name. The set of a family that is not looked at is
-- in none of these lines. An `Opening` has `true` if blocks of the other family come before it
abbrev pub frame_text : Names → Export → Frame → List ℕ
frame_text names Csv Head = codes "family,network,first,last\n"
frame_text names Json Head = codes "["
frame_text names Json (Opening version true) = codes ",\n"
frame_text names Json (Opening version false) = codes "\n"
frame_text names Json Foot = codes "\n]\n"
frame_text names Nft Head = concat (codes "add table inet " ∷ names.table ∷ codes "\n" ∷ [])
frame_text names Nft (FamilyHead version) = if_looked_at names version (nft_set names version)
frame_text names Nft (Opening version follows) = concat
    (codes "add element inet " ∷ names.table ∷ codes " " ∷ names.set ∷ family_word version ∷ codes " {\n\t" ∷ [])
frame_text names Ipset Head = concat (ipset_head names names.only)
frame_text names Ipset (FamilyHead version) = if_looked_at names version (flushed names version)
frame_text names Ipset Foot = concat (ipset_foot names names.only)
frame_text names _ _ = []

-- the text between two blocks of a family
abbrev pub separator : Export → List ℕ
separator Nft = codes ",\n\t"
separator Json = codes ",\n"
separator _ = []

-- the text after the last block of a family
abbrev pub closing : Export → List ℕ
closing Nft = codes "\n}\n"
closing _ = []

-- ---- a block

-- a line with the address of an IPv4 block and a mask; an IPv6 block is written as its text, since IPv6 does not use
-- masks
abbrev pub with_mask : {w : ℕ} → Names → Version → Family w → Network → ℕ → List ℕ
with_mask names V4 family block mask =
    line_of names (family.canonical block.address ∷ codes " " ∷ family.canonical mask ∷ [])
with_mask names V6 family block mask = line_of names (text_of family block ∷ [])

abbrev pub family_name : Version → List ℕ
family_name V4 = codes "IPv4"
family_name V6 = codes "IPv6"

-- a line of comma-separated values: the family, the block, its first and its last address
abbrev pub csv_line : {w : ℕ} → Version → Family w → Network → List ℕ
csv_line {w} version family block =
    family_name version ++ codes "," ++ text_of family block ++ codes ","
    ++ family.canonical (low w block) ++ codes "," ++ family.canonical (high w block) ++ codes "\n"

-- the two halves of the block of all addresses: ipset sets accept these, but not the whole block
abbrev pub half_blocks : Version → List ℕ × List ℕ
half_blocks V4 = (codes "0.0.0.0/1", codes "128.0.0.0/1")
half_blocks V6 = (codes "::/1", codes "8000::/1")

-- the line that adds a network to the new set, and the lines that add the two halves
abbrev pub ipset_line : List ℕ → List ℕ → List ℕ → List ℕ
ipset_line set word network =
    concat (codes "add " ∷ set ∷ word ∷ codes "_new " ∷ network ∷ codes "\n" ∷ [])

abbrev pub ipset_halves : List ℕ → List ℕ → List ℕ × List ℕ → List ℕ
ipset_halves set word halves = concat
    (codes "add " ∷ set ∷ word ∷ codes "_new " ∷ halves.0
    ∷ codes "\nadd " ∷ set ∷ word ∷ codes "_new " ∷ halves.1 ∷ codes "\n" ∷ [])

abbrev pub ipset_lines : {w : ℕ} → List ℕ → Version → Family w → Network → List ℕ
ipset_lines set version family block =
    if block.prefix == 0 then ipset_halves set (family_word version) (half_blocks version)
    else ipset_line set (family_word version) (text_of family block)

-- the line of an address
abbrev pub address_line : {w : ℕ} → Names → Family w → ℕ → List ℕ
address_line names family address = line_of names (family.canonical address ∷ [])

-- the text of a block; a wildcard mask is the complement of the mask
abbrev pub element : {w : ℕ} → Names → Export → Version → Family w → Network → List ℕ
element {w} names Netmask version family block = with_mask names version family block (mask_of w block.prefix)
element {w} names Wildcard version family block =
    with_mask names version family block (block_size w block.prefix - 1)
element names Csv version family block = csv_line version family block
element names Nft version family block = text_of family block
element names Ipset version family block = ipset_lines names.set version family block
element names Json version family block = concat (codes "\"" ∷ text_of family block ∷ codes "\"" ∷ [])
element {w} names Addresses version family block = flat_map (address_line names family) (members w block)

-- ---- all blocks

-- a block that follows another of its family, with the separator between them
abbrev pub following : {w : ℕ} → Names → Export → Version → Family w → Network → List ℕ
following names export version family block = separator export ++ element names export version family block

-- the blocks of a family, with the texts that are written only if there is a block
abbrev pub listed : {w : ℕ} → Names → Export → Version → Family w → Bool → List Network → List ℕ
listed names export version family follows [] = []
listed names export version family follows (block ∷ blocks) =
    frame_text names export (Opening version follows) ++ element names export version family block
    ++ flat_map (following names export version family) blocks ++ closing export

-- the same, with the texts that are written even if there is no block
abbrev pub family_text : {w : ℕ} → Names → Export → Version → Family w → Bool → List Network → List ℕ
family_text names export version family follows blocks =
    frame_text names export (FamilyHead version) ++ listed names export version family follows blocks
    ++ frame_text names export (FamilyFoot version)

abbrev pub is_any : {X : Type 0} → List X → Bool
is_any [] = false
is_any (x ∷ xs) = true

-- the blocks of both families
abbrev pub export_text : Names → Export → List Network → List Network → List ℕ
export_text names export v4 v6 =
    frame_text names export Head ++ family_text names export V4 v4_family false v4
    ++ family_text names export V6 v6_family (is_any v4) v6
    ++ frame_text names export Foot
