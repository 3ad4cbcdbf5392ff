-- What the words of a command line and the lines of standard input say.
use Rattle.std.specs.Prelude.{ℕ, ◌==◌, Bool, true, false, List, [], ◌∷◌, Option, None, Some, Result, Ok, Err}
use Rattle.std.specs.Prelude.{if◌then◌else◌, codes, bytes_eq}
use Rattle.std.specs.List.{flat_map, list_any}
use Rattle.std.specs.Str.Lines.{lines}
use Rattle.ipnetwork.specs.Computed.IpNetworkText.{ip_network_of}
use Rattle.ipnetwork.specs.declared.ip_network.IpNetwork.{IpNetwork}
use Rattle.ipnetwork_family.specs.declared.error.CidrFault.{CidrFault}
use Rattle.lists.specs.Lines.{trimmed}
use Rattle.options.specs.declared.items.Item.{Item}
use Rattle.options.specs.declared.items.Item.TheVariants as says

-- the network that was read, or none if reading failed
abbrev pub if_read : Result IpNetwork CidrFault → Option IpNetwork
if_read (Ok network) = Some network
if_read (Err fault) = None

-- the network that a text names, if it names one
abbrev pub network_in : List ℕ → Option IpNetwork
network_in text = if_read (ip_network_of text)

-- a text without the blanks around it is skipped if it is empty or begins with `#` (byte 35)
abbrev pub is_skipped : List ℕ → Bool
is_skipped [] = true
is_skipped (byte ∷ rest) = byte == 35

-- what a line says: the network that its text without the blanks around it names, if that names one; nothing if that is
-- empty or a comment
abbrev pub line_said : List ℕ → List (Option IpNetwork)
line_said bytes =
    if is_skipped (trimmed bytes) then [] else network_in (trimmed bytes) ∷ []

-- what lines say, one after another
abbrev pub lines_said : List (List ℕ) → List (Option IpNetwork)
lines_said lines = flat_map line_said lines

-- the item is the word `-`, which stands for standard input
abbrev pub is_input : Item → Bool
is_input (says.File name) = bytes_eq name (codes "-")
is_input item = false

-- one of the items is the word `-`, which stands for standard input
abbrev pub reads_input : List Item → Bool
reads_input items = list_any is_input items

-- what a word says: the network that it names, if it names one; `-` stands for the lines of `input`, which end as those
-- of lists; an option says nothing
abbrev pub word_said : List ℕ → Item → List (Option IpNetwork)
word_said input (says.File name) =
    if bytes_eq name (codes "-") then lines_said (lines input)
    else network_in name ∷ []
word_said input item = []

-- what all the words say, in their order, where `-` stands for the lines of `input`
abbrev pub words_said : List ℕ → List Item → List (Option IpNetwork)
words_said input items = flat_map (word_said input) items

-- the network alone, or nothing if there is none
abbrev pub if_some : Option IpNetwork → List IpNetwork
if_some None = []
if_some (Some network) = network ∷ []

-- the networks that are there, in their order
abbrev pub networks_in : List (Option IpNetwork) → List IpNetwork
networks_in all = flat_map if_some all
