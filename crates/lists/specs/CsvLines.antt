-- Lines of comma-separated values, as they are printed for networks.
use Rattle.std.specs.Prelude.{◌≡◌, ◌≢◌, ◌==◌, ℕ, Bool, List, [], ◌++◌, codes, Option, None, Some, Result, Ok, Err, MatchBool, bytes_eq}
use Rattle.std.specs.List.{after_first, before_first}
use Rattle.ipnetwork_family.specs.Family.{Family, text_of, v4_family, v6_family}
use Rattle.ipnetwork_family.specs.Network.{Network, high, low}
use Rattle.ipnetwork.specs.IpNetworkText.{NamesIpNetwork}
use Rattle.ipnetwork.specs.declared.ip_network.IpNetwork.{IpNetwork}
use Rattle.ipnetwork.specs.declared.ip_network.IpNetwork.TheVariants.{V4, V6}
use Rattle.lists.specs.Encodings.{encoding_of}
use Rattle.lists.specs.Entries.{told_cause}
use Rattle.lists.specs.declared.entry.Entry.{Entry}
use Rattle.lists.specs.declared.entry.Entry.TheVariants as entries
use Rattle.lists.specs.declared.entry.EntryFault.{EntryFault}
use Rattle.lists.specs.declared.entry.EntryFault.TheVariants as faults

-- the line before all others, which says nothing
abbrev pub csv_head : List ℕ
csv_head = codes "family,network,first,last"

-- the line of a network: its family, which is given with a comma, the network, its first and its last address
abbrev pub csv_fields : {w : ℕ} → List ℕ → Family w → Network → List ℕ
csv_fields {w} name family n =
    name ++ text_of family n ++ codes "," ++ family.canonical (low w n) ++ codes "," ++ family.canonical (high w n)

abbrev pub csv_line : IpNetwork → List ℕ
csv_line (V4 n) = csv_fields (codes "IPv4,") v4_family n
csv_line (V6 n) = csv_fields (codes "IPv6,") v6_family n

-- the byte is a comma (44)
abbrev pub is_comma : ℕ → Bool
is_comma byte = byte == 44

-- what is between the first comma of a line and the next
abbrev pub second_field : List ℕ → List ℕ
second_field line = before_first is_comma (after_first is_comma line)

-- the line is exactly what is printed for the network that its second field names
abbrev pub IsLineOf : List ℕ → IpNetwork → Type 0
IsLineOf line n = NamesIpNetwork (second_field line) n × (line ≡ csv_line n)

-- reading the line, which is not the first one, gives this result
abbrev pub ReadsCsvNetwork : List ℕ → Result (Option Entry) EntryFault → Type 0
ReadsCsvNetwork line (Ok None) = ⊥
ReadsCsvNetwork line (Ok (Some (entries.Network n))) = IsLineOf line n
ReadsCsvNetwork line (Ok (Some (entries.Range first last))) = ⊥
ReadsCsvNetwork line (Err fault) = (fault ≡ told_cause (encoding_of line) faults.Format)
    × ((n : IpNetwork) → ¬ (IsLineOf line n))

-- reading the line gives this result
abbrev pub ReadsCsv : List ℕ → Result (Option Entry) EntryFault → Type 0
ReadsCsv line result = MatchBool (bytes_eq line csv_head) (result ≡ Ok None) (ReadsCsvNetwork line result)
