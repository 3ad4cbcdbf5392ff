-- The addresses and networks in lists of them, one on a line.
use Rattle.std.specs.Prelude.{ℕ, Bool, true, false, List, [], ◌∷◌, Result, Ok, Err, if◌then◌else◌}
use Rattle.std.specs.List.{flat_map, list_any}
use Rattle.ipnetwork_family.specs.declared.error.CidrFault.{CidrFault}
use Rattle.ipnetwork.specs.Computed.IpNetworkText.{ip_network_of}
use Rattle.ipnetwork.specs.declared.ip_network.IpNetwork.{IpNetwork}
use Rattle.lists.specs.Lines.{trimmed}
use Rattle.lists.specs.Rules.{has_host_bits}
use Rattle.lists.specs.declared.entry.Entry.TheVariants.{Network}
use Rattle.lists.specs.declared.entry.EntryFault.{EntryFault}
use Rattle.lists.specs.declared.entry.EntryFault.TheVariants as causes
use Rattle.cidr_merge.specs.NumberedLines.{NumberedLine, numbered_lines}

-- the network that is sought for a text, by the result of reading it: it may have no host bits
abbrev pub without_host_bits : Result IpNetwork CidrFault → Result IpNetwork EntryFault
without_host_bits (Ok n) = if has_host_bits (Network n) then Err causes.HostBits else Ok n
without_host_bits (Err fault) = Err causes.Address

-- the network that is sought for a text, which is its address or network, or why none is
abbrev pub network_in : List ℕ → Result IpNetwork EntryFault
network_in text = without_host_bits (ip_network_of text)

-- a text with its network, if it has one
abbrev pub sought_by : List ℕ → Result IpNetwork EntryFault → List (List ℕ × IpNetwork)
sought_by text (Ok network) = (text, network) ∷ []
sought_by text (Err fault) = []

-- the network in a line, without the blanks around it, and the networks in all lines of lists with these bytes
abbrev pub sought_of : List ℕ → List (List ℕ × IpNetwork)
sought_of line = sought_by (trimmed line) (network_in (trimmed line))

abbrev pub line_sought : NumberedLine → List (List ℕ × IpNetwork)
line_sought line = sought_of line.text

abbrev pub lists_sought : List (List ℕ) → List (List ℕ × IpNetwork)
lists_sought texts = flat_map line_sought (numbered_lines 0 texts)

-- whether a text is not empty and no network is sought for it
abbrev pub is_other : List ℕ → Result IpNetwork EntryFault → Bool
is_other text (Ok network) = false
is_other [] (Err fault) = false
is_other (byte ∷ text) (Err fault) = true

-- whether a line has such a text, without the blanks around it
abbrev pub is_other_line : List ℕ → Bool
is_other_line line = is_other (trimmed line) (network_in (trimmed line))

abbrev pub line_is_other : NumberedLine → Bool
line_is_other line = is_other_line line.text

-- whether a line of the lists of these bytes has such a text
abbrev pub has_other : List (List ℕ) → Bool
has_other texts = list_any line_is_other (numbered_lines 0 texts)
