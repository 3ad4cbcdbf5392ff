-- What a line requests. A line is the list of its bytes, without its line ending.
use Rattle.std.specs.Prelude.{ℕ, nat_le, nat_lt, if◌then◌else◌, List, [], ◌∷◌, Option, None, Some, Result, Ok, Err}
use Rattle.std.specs.Prelude.{length, codes, bytes_eq}
use Rattle.ipnetwork_addr.specs.Computed.Either.{ip_of}
use Rattle.ipnetwork_addr.specs.declared.ip.IpAddr.{IpAddr}
use Rattle.ipnetwork_family.specs.Computed.PrefixNumber.{prefix_number_of}
use Rattle.ipnetwork_family.specs.declared.error.CidrFault.{CidrFault}
use Rattle.ipnetwork.specs.Computed.IpNetworkText.{ip_network_of}
use Rattle.ipnetwork.specs.declared.ip_network.IpNetwork.{IpNetwork}
use Rattle.cidr.specs.Commands.{refused, read_answer, read4_answer, read6_answer, ends_answer, has_answer, has4_answer}
use Rattle.cidr.specs.Commands.{rel_answer}
use Rattle.cidr.specs.Words.{words}

-- what a line requests
pub data Request : Type 0 where
  -- give the network's block the number
  Add : (network : IpNetwork) (number : ℕ) → Request
  -- remove the number of the network's block
  Drop : (network : IpNetwork) → Request
  -- find the longest block that contains the address
  Find : (address : IpAddr) → Request
  -- reply with this answer, whatever the routes are
  Plain : (answer : List ℕ) → Request

-- the number that a text names, if it fits in 32 bits: an optional `+` and decimal digits
abbrev pub within_32_bits : Option ℕ → Option ℕ
within_32_bits None = None
within_32_bits (Some number) = if nat_le number 4294967295 then Some number else None

unfoldable pub route_number_of : List ℕ → Option ℕ
route_number_of text = within_32_bits (prefix_number_of text)

-- `add T N` gives the block of the network that T names the number that N names. T is checked first
abbrev pub adding : Result IpNetwork CidrFault → Option ℕ → Request
adding (Err fault) number = Plain refused
adding (Ok network) None = Plain refused
adding (Ok network) (Some number) = Add network number

-- `drop T` removes the number of the block of the network that T names
abbrev pub dropping : Result IpNetwork CidrFault → Request
dropping (Err fault) = Plain refused
dropping (Ok network) = Drop network

-- `find A` finds the longest block that contains the address that A names
abbrev pub finding : Option IpAddr → Request
finding None = Plain refused
finding (Some address) = Find address

-- ---- the ten commands

-- any other line
abbrev pub unknown : Request
unknown = Plain (codes "unknown command")

-- a line of more than 1,024 bytes
abbrev pub too_long : Request
too_long = Plain (codes "line too long")

-- the commands that take one word; the last two use the routes
unfoldable pub one_word_request : List ℕ → List ℕ → Request
one_word_request command word =
    if bytes_eq command (codes "read") then Plain (read_answer word)
    else (if bytes_eq command (codes "ends") then Plain (ends_answer word)
    else (if bytes_eq command (codes "read4") then Plain (read4_answer word)
    else (if bytes_eq command (codes "read6") then Plain (read6_answer word)
    else (if bytes_eq command (codes "drop") then dropping (ip_network_of word)
    else (if bytes_eq command (codes "find") then finding (ip_of word) else unknown)))))

-- the commands that take two words; the last uses the routes
unfoldable pub two_words_request : List ℕ → List ℕ → List ℕ → Request
two_words_request command first second =
    if bytes_eq command (codes "has") then Plain (has_answer first second)
    else (if bytes_eq command (codes "rel") then Plain (rel_answer first second)
    else (if bytes_eq command (codes "has4") then Plain (has4_answer first second)
    else (if bytes_eq command (codes "add") then adding (ip_network_of first) (route_number_of second) else unknown)))

-- what the words of a line request, depending on how many there are
unfoldable pub request_in : List (List ℕ) → Request
request_in (command ∷ word ∷ []) = one_word_request command word
request_in (command ∷ first ∷ second ∷ []) = two_words_request command first second
request_in _ = unknown

-- what a line requests. A line of more than 1,024 bytes is too long, whatever its words are
unfoldable pub request_of : List ℕ → Request
request_of line = if nat_lt 1024 (length line) then too_long else request_in (words line)
