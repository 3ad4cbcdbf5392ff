-- The numbers of faults and orders in C. The header has a name for each fault.
use Rattle.std.specs.Prelude.{ℕ, ℤ, pos, negsuc, List, [], ◌∷◌, get_or, codes}
use Rattle.std.specs.declared.cmp.Ordering.{Ordering}
use Rattle.std.specs.declared.cmp.Ordering.TheVariants.{Less, Equal, Greater}
use Rattle.ipnetwork_family.specs.declared.error.CidrFault.{CidrFault}
use Rattle.ipnetwork_family.specs.declared.error.CidrFault.TheVariants.{Format, Addr, Prefix}

-- no fault
abbrev pub ok : ℕ
ok = 0

-- a text with two or more `/`
abbrev pub format : ℕ
format = 1

-- the part before the `/` is not an address, or the text is not that of the address or network that is wanted
abbrev pub address : ℕ
address = 2

-- a value that is not a prefix length of the family
abbrev pub prefix : ℕ
prefix = 3

-- a buffer without room for the text and a zero byte after it, or for all rows, places, blocks or numbers
abbrev pub short_buffer : ℕ
short_buffer = 4

-- an address that is not a mask
abbrev pub no_mask : ℕ
no_mask = 5

-- a member number that the network does not have, an address that no network has, or one that is not IPv4-mapped
abbrev pub no_member : ℕ
no_member = 6

-- a family that is neither IPv4 nor IPv6
abbrev pub no_family : ℕ
no_family = 7

-- offsets of a column that decrease or exceed the length of its texts
abbrev pub no_offsets : ℕ
no_offsets = 8

-- a range whose first address comes after its last
abbrev pub no_range : ℕ
no_range = 9

-- a list that is not the list of a set
abbrev pub no_set : ℕ
no_set = 10

-- the number of the cause why a text is refused
abbrev pub fault_number : CidrFault → ℕ
fault_number Format = format
fault_number Addr = address
fault_number Prefix = prefix

-- the texts of the faults, in the order of their numbers, as bytes
abbrev pub fault_texts : List (List ℕ)
fault_texts =
    codes "no fault"
    ∷ codes "more than one slash"
    ∷ codes "no address"
    ∷ codes "no prefix length of the family"
    ∷ codes "no room for the answer"
    ∷ codes "no mask"
    ∷ codes "no such member or network"
    ∷ codes "no family"
    ∷ codes "no offsets of the column"
    ∷ codes "no range"
    ∷ codes "no list of a set"
    ∷ []

-- the text of a fault; a number that is not a fault has a text too
abbrev pub fault_text : ℕ → List ℕ
fault_text fault = get_or fault_texts fault (codes "unknown fault")

-- the number of an order: -1 for less, 0 for equal, 1 for greater
abbrev pub order_number : Ordering → ℤ
order_number Less = negsuc 0
order_number Equal = pos 0
order_number Greater = pos 1
