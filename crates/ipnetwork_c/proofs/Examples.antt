-- Values that would expose a misreading of the definitions.
use Rattle.ipnetwork_c.proofs.Words.{◌≡◌, [], ◌∷◌, map, get_or, arith, refl, Some, None, negsuc, codes, Less, Prefix, fault_number, fault_texts, order_number, PrefixFits, number_of_octets, v4_in, StandsIn, address_in, ip_in}
use Rattle.ipnetwork_addr.specs.declared.ip.IpAddr.TheVariants.{V4}

pub first_octet_highest : number_of_octets (192 ∷ 0 ∷ 2 ∷ 1 ∷ []) ≡ 0xc0000201
first_octet_highest = refl

pub struct_of_a_network : v4_in (record { address = 10 ∷ 0 ∷ 0 ∷ 1 ∷ []; prefix = 200 })
    ≡ record { address = 0x0a000001; prefix = 200 }
struct_of_a_network = refl

pub full_width_fits : PrefixFits 32 (record { address = 0; prefix = 32 })
full_width_fits = omega arith

pub zero_byte_behind : StandsIn (49 ∷ 48 ∷ []) (7 ∷ 7 ∷ 7 ∷ 7 ∷ []) (49 ∷ 48 ∷ 0 ∷ 7 ∷ [])
zero_byte_behind = refl

pub prefix_is_three : fault_number Prefix ≡ 3
prefix_is_three = refl

-- by the numbers in the header, 0 to 10
pub fault_texts_stand_at_their_numbers : map (λ n. get_or fault_texts n []) (0 ∷ 3 ∷ 8 ∷ 10 ∷ 11 ∷ []) ≡ codes
    "no fault" ∷ codes "no prefix length of the family" ∷ codes "no offsets of the column"
    ∷ codes "no list of a set" ∷ [] ∷ []
fault_texts_stand_at_their_numbers = refl

pub less_is_minus_one : order_number Less ≡ negsuc 0
less_is_minus_one = refl

pub four_octets_are_ipv4 : address_in (1 ∷ 2 ∷ 3 ∷ 4 ∷ []) ≡ Some (V4 0x01020304)
four_octets_are_ipv4 = refl

pub five_octets_are_no_address : address_in (1 ∷ 2 ∷ 3 ∷ 4 ∷ 5 ∷ []) ≡ None
five_octets_are_no_address = refl

pub family_of_five_is_none : ip_in
    (record
    { family = 5; v4 = record { address = 0 ∷ 0 ∷ 0 ∷ 0 ∷ []; prefix = 0 }; v6 = record { address = []; prefix = 0 } })
    ≡ None
family_of_five_is_none = refl
