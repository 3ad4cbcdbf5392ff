-- Texts that would expose a misreading of the definitions of networks. Each of these computes.
use Rattle.line_addresses.proofs.Words.{◌≡◌, List, [], ◌∷◌, refl, codes, map, filter, range_with_len, digits, v6_of, gap_below, V4, V6, Spelled, address_of, before_port, begun_by, behind_word, address_in, is_stretch_byte, named_network, network_begun_by, network_in, networks_of}

-- 10.1.1.1 with a prefix length, and without one
abbrev net : List Spelled
net = record { text = codes "10.1.1.1/24"; address = V4 0x0a010101 } ∷ []

abbrev ten : List Spelled
ten = record { text = codes "10.1.1.1"; address = V4 0x0a010101 } ∷ []

pub networks : map networks_of (codes "10.1.1.1/24" ∷ codes "[10.1.1.1/24]" ∷ codes "SRC=10.1.1.1/24 x"
    ∷ codes "to 10.1.1.1/24." ∷ codes "10.1.1.1/24: no" ∷ []) ≡ net ∷ net ∷ net ∷ net ∷ net ∷ []
unfolding network_in network_begun_by named_network address_in behind_word begun_by before_port address_of digits v6_of gap_below
networks = refl

-- a text that is no network has its addresses, and the mask of a network is no address
pub addresses : map networks_of (codes "10.1.1.1" ∷ codes "10.1.1.1:80" ∷ codes "10.1.1.1/33" ∷ codes "10.1.1.1/"
    ∷ codes "x/10.1.1.1/24" ∷ codes "/10.1.1.1" ∷ codes "10.1.1.1/24/7" ∷ codes "10.1.1.1/24:80" ∷ [])
    ≡ ten ∷ ten ∷ ten ∷ ten ∷ ten ∷ ten ∷ ten ∷ ten ∷ []
unfolding network_in network_begun_by named_network address_in behind_word begun_by before_port address_of digits v6_of gap_below
addresses = refl

-- after a word and a colon; a word has no `/`
pub behind_words : map networks_of (codes "ip4:10.1.1.1/24" ∷ codes "net:10.1.1.1/24." ∷ codes "x/net:10.1.1.1/24" ∷
    codes "ip4:10.1.1.1/99" ∷ codes "dad:10.1.1.1/24" ∷ []) ≡ net ∷ net ∷ ten ∷ ten ∷ [] ∷ []
unfolding network_in network_begun_by named_network address_in behind_word begun_by before_port address_of digits v6_of
    gap_below
behind_words = refl

pub mask : networks_of (codes "10.1.1.1/255.0.0.0, ::/0") ≡ record
    { text = codes "10.1.1.1/255.0.0.0"; address = V4 0x0a010101 } ∷ record { text = codes "::/0"; address = V6 0 } ∷ []
unfolding network_in network_begun_by named_network address_in behind_word begun_by before_port address_of digits v6_of gap_below
    lib.Count.count_leading_zeros
mask = refl

pub stretch_bytes : filter is_stretch_byte (range_with_len 0 256) ≡ codes
    "./0123456789:ABCDEFGHIJKLMNOPQRSTUVWXYZ_abcdefghijklmnopqrstuvwxyz"
stretch_bytes = refl
