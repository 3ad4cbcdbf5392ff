-- How networks are printed.
use Rattle.std.specs.Prelude.{ℕ, ◌+◌, ◌-◌, ◌==◌, Bool, true, false, List, [], ◌∷◌, ◌++◌, length, codes, replicate}
use Rattle.std.specs.List.{flat_map, range_with_len}
use Rattle.ipnetwork.specs.declared.ip_network.IpNetwork.{IpNetwork}
use Rattle.cidr_info.specs.Fields.{fields, count_of, value_of}
use Rattle.cidr_info.specs.declared.field.Field.{Field}
use Rattle.cidr_info.specs.declared.field.Field.TheVariants as says
use Rattle.cidr_info.specs.declared.field.Form.{Form}
use Rattle.cidr_info.specs.declared.field.Form.TheVariants as forms

-- the name of a field in JSON
abbrev pub name_of : Field → List ℕ
name_of says.Address = codes "address"
name_of says.Network = codes "network"
name_of says.Mask = codes "mask"
name_of says.Wildcard = codes "wildcard"
name_of says.First = codes "first"
name_of says.Last = codes "last"
name_of says.Hosts = codes "hosts"
name_of says.Addresses = codes "addresses"
name_of says.Reverse = codes "reverse"
name_of says.Zones = codes "zones"
name_of says.Integer = codes "integer"
name_of says.Hexadecimal = codes "hexadecimal"

-- the name of a field on a line, padded with spaces (byte 32) to 13 bytes; the zones have that of the one of whole octets
abbrev pub padded_name : Field → List ℕ
padded_name says.Zones = codes "reverse" ++ replicate 6 32
padded_name field = name_of field ++ replicate (13 - length (name_of field)) 32

-- what comes before a member of a JSON object: `{` before the first one, and a comma before each other
abbrev pub opening : Field → List ℕ
opening says.Address = codes "{"
opening field = codes ","

-- what comes before the value of a member of a JSON object: `[` if it is an array, that of the zones
abbrev pub bracket : Field → List ℕ
bracket says.Zones = codes "["
bracket field = []

-- what comes before a string in a JSON object: before the first of a field its name as a string and a colon, before
-- each other a comma; and a quote
abbrev pub before_string : Field → Bool → List ℕ
before_string field true = opening field ++ codes "\"" ++ name_of field ++ codes "\":" ++ bracket field ++ codes "\""
before_string field false = codes ",\""

-- what follows a string in a JSON object: a quote; after the last zone also `]`, and after the last field `}` and a line
-- feed
abbrev pub closing : Field → Bool → List ℕ
closing says.Zones true = codes "\"]"
closing says.Hexadecimal is_last = codes "\"}\n"
closing field is_last = codes "\""

-- what comes before a value of a field: the name of the field, unless zones are printed alone; or what opens a string
abbrev pub before_value : Form → Field → Bool → List ℕ
before_value forms.Lines field is_first = padded_name field
before_value forms.Json field is_first = before_string field is_first
before_value forms.Zones field is_first = []

-- what follows a value of a field: a line feed, or what closes a string
abbrev pub behind_value : Form → Field → Bool → List ℕ
behind_value forms.Json field is_last = closing field is_last
behind_value form field is_last = codes "\n"

-- a value of a field as it is printed: what comes before it, the value, and what follows it
abbrev pub value_text : Form → IpNetwork → Field → ℕ → Bool → List ℕ
value_text form network field place is_last =
    before_value form field (place == 0) ++ value_of field network place ++ behind_value form field is_last

-- a field as it is printed: its values, one after another
abbrev pub row_text : Form → IpNetwork → Field → List ℕ
row_text form network field =
    flat_map (λ place. value_text form network field place (place + 1 == count_of form field network))
    (range_with_len 0 (count_of form field network))

-- a network as it is printed: on lines of its own, or as a JSON object on one line
unfoldable pub info_text : Form → IpNetwork → List ℕ
info_text form network = flat_map (row_text form network) fields

-- what comes before a network: an empty line before the lines of each but the first
abbrev pub separator : Bool → Form → List ℕ
separator false forms.Lines = codes "\n"
separator is_first form = []

-- several networks as they are printed, where `is_first` says whether the first of them is the first that is printed
abbrev pub infos_from : Bool → Form → List IpNetwork → List ℕ
infos_from is_first form [] = []
infos_from is_first form (network ∷ networks) =
    (separator is_first form ++ info_text form network) ++ infos_from false form networks

-- several networks as they are printed
abbrev pub infos_text : Form → List IpNetwork → List ℕ
infos_text form networks = infos_from true form networks
