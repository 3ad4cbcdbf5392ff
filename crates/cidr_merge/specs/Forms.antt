-- The meaning of the options for the output form, the input format, the prefix length of a `split` or a `free`, the least
-- number of networks of a result and the greatest of a `reduce`.
use Rattle.std.specs.Prelude.{ℕ, zero, suc, ◌==◌, List, [], ◌∷◌, false, Option, None, Some, if◌then◌else◌, codes, bytes_eq}
use Rattle.std.specs.Option.{unwrap_or}
use Rattle.lists.specs.declared.forms.LineForm.{LineForm}
use Rattle.lists.specs.declared.forms.LineForm.TheVariants as lines
use Rattle.lists.specs.declared.rules.Rules.{Rules}
use Rattle.options.specs.Given.{is_given, value_of}
use Rattle.options.specs.Values.{length_in, number_in}
use Rattle.options.specs.declared.items.Item.{Item}
use Rattle.cidr_merge.specs.Options as own
use Rattle.cidr_merge.specs.declared.command_line.Form.{Form}
use Rattle.cidr_merge.specs.declared.command_line.Form.TheVariants.{Blocks, Ranges, Counts, Exported}
use Rattle.cidr_merge.specs.declared.exports.Export.TheVariants.{Netmask, Wildcard, Csv, Nft, Ipset, Json, Addresses}
use Rattle.cidr_merge.specs.declared.shapes.Shape.{Shape}
use Rattle.cidr_merge.specs.declared.shapes.Shape.TheVariants as shapes

-- the form that `--format` names
abbrev pub form_called : List ℕ → Option Form
form_called text =
    if bytes_eq text (codes "plain") then Some Blocks
    else if bytes_eq text (codes "range") then Some Ranges
    else if bytes_eq text (codes "netmask") then Some (Exported Netmask)
    else if bytes_eq text (codes "wildcard") then Some (Exported Wildcard)
    else if bytes_eq text (codes "csv") then Some (Exported Csv)
    else if bytes_eq text (codes "nft") then Some (Exported Nft)
    else if bytes_eq text (codes "ipset") then Some (Exported Ipset)
    else if bytes_eq text (codes "json") then Some (Exported Json)
    else if bytes_eq text (codes "addresses") then Some (Exported Addresses)
    else None

-- the form in which to print: the one that the options give, else the usual one
abbrev pub form_of : Form → List Item → Form
form_of usual items =
    if is_given items own.ranges then Ranges
    else if is_given items own.count then Counts
    else unwrap_or (form_called (value_of items own.format)) usual

-- the form of another program that `--read` names
abbrev pub line_form_called : List ℕ → Option LineForm
line_form_called text =
    if bytes_eq text (codes "csv") then Some lines.Csv
    else if bytes_eq text (codes "ipset") then Some lines.Ipset
    else if bytes_eq text (codes "nft") then Some lines.Nft
    else None

-- the rules of lists of lines: with `--strict` host bits are refused, with `--whole` lists that do not end with a line
-- feed, with `--masks` a mask or wildcard may be a second word, and with `--read` lines are in the form that it names
abbrev pub rules_by : List Item → Rules
rules_by items = record {
  refuses_host_bits = is_given items own.strict;
  is_whole = is_given items own.whole;
  takes_masks = is_given items own.masks;
  form = unwrap_or (line_form_called (value_of items own.read)) lines.Plain;
}

-- the rules of a `check`: with `--strict` it reports host bits itself, so that no entry is refused for them
abbrev pub check_rules : List Item → Rules
check_rules items = record (rules_by items) { refuses_host_bits = false }

-- the format in which lists are written
abbrev pub shape_of : List Item → Shape
shape_of items =
    if is_given items own.json_field then if is_given items own.strict then shapes.StrictFields else shapes.Fields
    else if is_given items own.json then if is_given items own.strict then shapes.StrictJson else shapes.Json
    else shapes.Lines (rules_by items)

-- the prefix length that a text names: a number up to 128, which may have a `+` (byte 43) before it
abbrev pub without_plus : List ℕ → List ℕ
without_plus [] = []
without_plus (byte ∷ text) = if byte == 43 then text else byte ∷ text

abbrev pub prefix_in : List ℕ → Option ℕ
prefix_in text = length_in 128 (without_plus text)

-- the prefix length of a `split` or a `free`: 0 if no option gives one
abbrev pub length_of : List Item → ℕ
length_of items = unwrap_or (prefix_in (value_of items own.prefix)) 0

-- the number that a text names, if it is not 0
abbrev pub not_zero : Option ℕ → Option ℕ
not_zero None = None
not_zero (Some zero) = None
not_zero (Some (suc less)) = Some (suc less)

abbrev pub most_in : List ℕ → Option ℕ
most_in text = not_zero (number_in text)

-- the least number of networks of a result that is printed: 0 if no option gives one
abbrev pub at_least_of : List Item → ℕ
at_least_of items = unwrap_or (most_in (value_of items own.at_least)) 0

-- the greatest number of networks of a family, whose option has this row, after a `reduce`: that of `--most` if it has
-- none of its own, and 0 if no option gives one
abbrev pub most_of : List Item → ℕ → ℕ
most_of items row =
    unwrap_or (most_in (value_of items row)) (unwrap_or (most_in (value_of items own.most)) 0)
