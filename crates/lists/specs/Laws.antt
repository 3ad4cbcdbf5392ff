-- What follows from the definitions of entries.
use Rattle.std.specs.Prelude.{◌≡◌, ℕ, false, List, [], ◌∷◌, ◌++◌, codes, Some, Ok}
use Rattle.std.specs.List.{AllByRecursion}
use Rattle.ipnetwork.specs.IpNetworkText.{NamesIpNetwork, ip_network_text}
use Rattle.ipnetwork.specs.IpNetworks.{IsIpNetwork}
use Rattle.ipnetwork.specs.declared.ip_network.IpNetwork.{IpNetwork}
use Rattle.lists.specs.CsvLines.{ReadsCsv, csv_line}
use Rattle.lists.specs.Entries.{ReadsEntry}
use Rattle.lists.specs.LineForms.{ReadsIpset, ReadsNft}
use Rattle.lists.specs.Lines.{is_blank}
use Rattle.lists.specs.declared.entry.Entry.TheVariants as entries

-- a line that is exactly the text of a network names that network
abbrev pub NetworkTextsAreEntries : Type 0
NetworkTextsAreEntries = (text : List ℕ) (n : IpNetwork) → NamesIpNetwork text n
    → ReadsEntry text (Ok (Some (entries.Network n)))

-- a line that is printed for a network is read as this network: of comma-separated values; of a set of nftables, without
-- a comma (44) and with one; and of a set of ipset, whose name is one byte or more without a blank
abbrev pub PrintedLinesAreRead : Type 0
PrintedLinesAreRead = (n : IpNetwork) → IsIpNetwork n
    → ReadsCsv (csv_line n) (Ok (Some (entries.Network n)))
    × ReadsNft (9 ∷ ip_network_text n) (Ok (Some (entries.Network n)))
    × ReadsNft (9 ∷ (ip_network_text n ++ 44 ∷ [])) (Ok (Some (entries.Network n)))
    × ((byte : ℕ) (name : List ℕ) → AllByRecursion (λ x. is_blank x ≡ false) (byte ∷ name)
    → ReadsIpset (codes "add " ++ (byte ∷ name) ++ codes " " ++ ip_network_text n) (Ok (Some (entries.Network n))))
