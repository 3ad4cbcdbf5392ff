-- The networks and addresses of a line.
use Rattle.std.specs.Prelude.{ℕ, ◌-◌, ◌==◌, ◌||◌, ◌&&◌, Bool, not, List, [], ◌∷◌, Option, None, Some, Result, Ok, Err}
use Rattle.std.specs.Prelude.{length, take, flat_map, nat_lt, if◌then◌else◌}
use Rattle.std.specs.List.{slice_split, position_or_len}
use Rattle.ipnetwork_addr.specs.declared.ip.IpAddr.{IpAddr}
use Rattle.ipnetwork_family.specs.declared.error.CidrFault.{CidrFault}
use Rattle.ipnetwork.specs.IpNetworks as networks
use Rattle.ipnetwork.specs.Computed.IpNetworkText.{ip_network_of}
use Rattle.ipnetwork.specs.declared.ip_network.IpNetwork.{IpNetwork}
use Rattle.line_addresses.specs.Addresses.{Spelled, addresses_of, behind_word, ends_with_mark, or_else, with_text}
use Rattle.line_addresses.specs.LineRuns.{is_run_byte}

-- the byte is a `/`; the byte is a stretch byte: a run byte or a `/`
abbrev pub is_slash : ℕ → Bool
is_slash byte = byte == 47

abbrev pub is_stretch_byte : ℕ → Bool
is_stretch_byte byte = is_run_byte byte || is_slash byte

-- the stretches of a line, split at each byte that is not a stretch byte. One between two adjacent such bytes is empty
abbrev pub stretches_of : List ℕ → List (List ℕ)
stretches_of line = slice_split (λ byte. not (is_stretch_byte byte)) line

-- the text has a `/` and does not begin with one
abbrev pub has_slash : List ℕ → Bool
has_slash text = let place = position_or_len is_slash text in nat_lt 0 place && nat_lt place (length text)

-- the address of the network that a text names, host bits kept, if it names one
abbrev pub address_read : Result IpNetwork CidrFault → Option IpAddr
address_read (Ok network) = Some (networks.address_of network)
address_read (Err fault) = None

unfoldable pub named_network : List ℕ → Option IpAddr
named_network text = address_read (ip_network_of text)

-- the address of the network that a text names, together with the text
abbrev pub spelled_network : List ℕ → Option Spelled
spelled_network text = with_text text (named_network text)

-- the network before the mark that ends a stretch
abbrev pub network_before_mark : List ℕ → Option Spelled
network_before_mark stretch =
    if ends_with_mark stretch then spelled_network (take (length stretch - 1) stretch) else None

-- the network that begins a stretch: the one that the whole stretch names, else the one before a mark at its end
unfoldable pub network_begun_by : List ℕ → Option Spelled
network_begun_by stretch = or_else (spelled_network stretch) (network_before_mark stretch)

-- the network of a stretch that has a `/`: the one that begins it, else the one that begins what follows a word and a
-- `:`
unfoldable pub network_in : List ℕ → Option Spelled
network_in stretch =
    if has_slash stretch then or_else (network_begun_by stretch) (network_begun_by (behind_word stretch)) else None

-- the network of a stretch, or the addresses of the stretch if it has no network
abbrev pub or_addresses : Option Spelled → List ℕ → List Spelled
or_addresses (Some network) stretch = network ∷ []
or_addresses None stretch = addresses_of stretch

abbrev pub networks_in : List ℕ → List Spelled
networks_in stretch = or_addresses (network_in stretch) stretch

-- the networks and addresses of a line: those of its stretches, in order
abbrev pub networks_of : List ℕ → List Spelled
networks_of line = flat_map networks_in (stretches_of line)

-- the networks and addresses of a line, or only the addresses
abbrev pub found_of : Bool → List ℕ → List Spelled
found_of networks line = if networks then networks_of line else addresses_of line
