-- Values at which a wrong definition would show. Each of these computes.
use Rattle.cidr_merge.proofs.Words.{◌≡◌, ◌++◌, ℕ, List, ◌∷◌, [], true, false, refl, map, filter, codes, String, Some, None, is_some, digits, Network, v4_family, InUnion, flat_map, line_form_called, range_with_len, pair_fault, free_items, Row, rows_of, pairs_of, is, lists_of, text_in, IsLeft, IsLeftOfSecond, AreBoth, merged, merged_ranges, block_line, range_line, are_wrong_files, are_wrong_sides, files_among, takes, form_called, form_of, most_in, shape_of, fields_of, prefix_in, entries, pairs, Names, is_set_name, usual_names, before_dashes, behind_dashes, task_called, answer_status, Union, Common, Minus, Differ, Blocks, Ranges, Counts, Exported, Csv, Sets, First, Second, Any, Operation, Request, lenient}
use Rattle.options.specs.declared.items.Item.TheVariants as says
use Rattle.cidr_merge.specs.declared.command_line.Form.{Form}
use Rattle.cidr_merge.specs.declared.exports.Export.TheVariants as exports
use Rattle.cidr_merge.specs.declared.shapes.Shape.TheVariants as shapes
use Rattle.cidr_merge.specs.declared.tasks.Task.TheVariants as tasks
use Rattle.lists.specs.declared.forms.LineForm.TheVariants as lines

-- a merge of one list on the first side, with no option but that of its form
abbrev pub plain_merge : Operation → Form → Request
plain_merge operation form = record {
  operation = operation;
  form = form;
  skips_bad = false;
  shape = shapes.Lines lenient;
  allows_empty = false;
  at_least = 0;
  max_change = Any;
  middle = 1;
}

-- ---- what is printed

-- 10.0.0.0/8
abbrev pub ten : Network
ten = record { address = 167772160; prefix = 8 }

-- `[` before each line, and `;` after it
abbrev pub around : Names
around = record { only = None; table = []; set = []; limit = []; before = codes "["; after = codes ";"; fields = []; hosts = [] }

pub block_of_a_union : block_line usual_names Union v4_family
    (record { side = First; part = ten }) ≡ codes "10.0.0.0/8\n"
unfolding digits
block_of_a_union = refl

pub block_of_the_first_alone : block_line around Differ v4_family
    (record { side = First; part = ten }) ≡ codes "< [10.0.0.0/8;\n"
unfolding digits
block_of_the_first_alone = refl

pub range_of_the_second_alone : range_line around Differ v4_family
    (record { side = Second; part = (167772160, 184549375) })
    ≡ codes "> [10.0.0.0 - 10.255.255.255;\n"
unfolding digits
range_of_the_second_alone = refl

pub range_of_a_difference : range_line usual_names Minus v4_family
    (record { side = First; part = (0, 4294967295) }) ≡ codes "0.0.0.0 - 255.255.255.255\n"
unfolding digits
range_of_a_difference = refl

-- 10.1.0.0/16 and 11.0.0.0/8
abbrev pub part : Network
part = record { address = 167837696; prefix = 16 }

abbrev pub eleven : Network
eleven = record { address = 184549376; prefix = 8 }

-- the parts are in ascending order, whichever side they belong to
pub sides_in_order : merged (part ∷ []) (ten ∷ eleven ∷ [])
    ≡ record { side = Second; part = ten } ∷ record { side = First; part = part }
    ∷ record { side = Second; part = eleven } ∷ []
sides_in_order = refl

pub ranges_in_order : merged_ranges ((0, 1) ∷ (4, 5) ∷ []) ((2, 3) ∷ [])
    ≡ record { side = First; part = (0, 1) } ∷ record { side = Second; part = (2, 3) }
    ∷ record { side = First; part = (4, 5) } ∷ []
ranges_in_order = refl

-- ---- what an operation leaves

pub common_is_of_both : (w x : ℕ) (first second : List Network) → InUnion w first x
    → InUnion w second x → IsLeft Common w first second x
common_is_of_both w x first second a b = (a, b)

pub union_is_of_the_first : (w x : ℕ) (first second : List Network) → InUnion w first x
    → IsLeft Union w first second x
union_is_of_the_first w x first second a = a

pub minus_is_of_the_first_alone : (w x : ℕ) (first second : List Network) → InUnion w first x
    → ¬ (InUnion w second x) → IsLeft Minus w first second x
minus_is_of_the_first_alone w x first second a b = (a, b)

pub differ_is_of_the_first_alone : (w x : ℕ) (first second : List Network) → InUnion w first x
    → ¬ (InUnion w second x) → IsLeft Differ w first second x
differ_is_of_the_first_alone w x first second a b = (a, b)

pub differ_is_of_the_second_alone : (w x : ℕ) (first second : List Network) → ¬ (InUnion w first x)
    → InUnion w second x → IsLeftOfSecond Differ w first second x
differ_is_of_the_second_alone w x first second a b = (b, a)

-- IPv4 first
pub ipv4_before_ipv6 : AreBoth (λ v4. v4 ≡ codes "1.2.3.4/32\n") (λ v6. v6 ≡ codes "::/0\n")
    (codes "1.2.3.4/32\n::/0\n")
ipv4_before_ipv6 = (codes "1.2.3.4/32\n", codes "::/0\n", refl, refl, refl)

-- ---- the exit status

abbrev pub none : Sets
none = record { v4 = []; v6 = [] }

abbrev pub one : Sets
one = record { v4 = ten ∷ []; v6 = [] }

abbrev pub one6 : Sets
one6 = record { v4 = []; v6 = ten ∷ [] }

pub unequal_sides : (answer_status Differ false one one ≡ 0)
    × (answer_status Differ false one none ≡ 1) × (answer_status Differ false none one6 ≡ 1)
    × (answer_status Minus false one none ≡ 0)
unequal_sides = (refl, refl, refl, refl)

-- the status for skipped lines takes precedence, whatever the sides are
pub skipped_lines : (answer_status Differ true one none ≡ 3)
    × (answer_status Differ true none none ≡ 3) × (answer_status Union true one none ≡ 3)
skipped_lines = (refl, refl, refl)

-- ---- the command line

abbrev pub rows : List Row
rows = rows_of entries

-- the eleven words that name a task, and words that are close to one
pub tasks_called : map task_called (codes "union" ∷ codes "common" ∷ codes "minus" ∷ codes "differ" ∷ codes "list"
    ∷ codes "split" ∷ codes "reduce" ∷ codes "check" ∷ codes "overlaps" ∷ codes "find" ∷ codes "free" ∷ [])
    ≡ map Some (tasks.Merge Union ∷ tasks.Merge Common ∷ tasks.Merge Minus ∷ tasks.Merge Differ ∷ tasks.List
    ∷ tasks.Split
    ∷ tasks.Reduce ∷ tasks.Check ∷ tasks.Overlaps ∷ tasks.Find ∷ tasks.Free ∷ [])
tasks_called = refl

pub no_tasks : map task_called (codes "Union" ∷ codes "diff" ∷ codes "COMMON" ∷ codes "overlap" ∷ codes "lists"
    ∷ codes "union " ∷ codes "--check" ∷ [] ∷ []) ≡ None ∷ None ∷ None ∷ None ∷ None ∷ None ∷ None ∷ None ∷ []
no_tasks = refl

-- the nine words that name a form, and words that are close to one
pub forms_called : map form_called (codes "plain" ∷ codes "range" ∷ codes "netmask" ∷ codes "wildcard" ∷ codes "csv"
    ∷ codes "nft" ∷ codes "ipset" ∷ codes "json" ∷ codes "addresses" ∷ [])
    ≡ Some Blocks ∷ Some Ranges ∷ map (λ export. Some (Exported export)) (exports.Netmask ∷ exports.Wildcard
    ∷ exports.Csv
    ∷ exports.Nft ∷ exports.Ipset ∷ exports.Json ∷ exports.Addresses ∷ [])
forms_called = refl

pub no_forms : map form_called (codes "ranges" ∷ codes "JSON" ∷ codes "address" ∷ codes "count"
    ∷ codes "csv," ∷ [] ∷ [])
    ≡ None ∷ None ∷ None ∷ None ∷ None ∷ None ∷ []
no_forms = refl

-- the items of each word by itself; `--format` by itself has none, since its value is the next word
pub what_words_say : map (free_items rows) (codes "--skip-bad" ∷ codes "--format" ∷ codes "--format=csv" ∷ codes "-x"
    ∷ codes "-" ∷ codes "a" ∷ [] ∷ [])
    ≡ (says.Flag 3 ∷ []) ∷ [] ∷ (says.Joined 2 (codes "csv") (codes "--format=csv") ∷ [])
    ∷ (says.Unknown (codes "-x") ∷ []) ∷ (says.File (codes "-") ∷ [])
    ∷ (says.File (codes "a") ∷ []) ∷ (says.File [] ∷ []) ∷ []
what_words_say = refl

-- the TEXTs of `-e` are among the FILEs, and can be distinguished from them
pub what_lists : lists_of (flat_map (free_items rows) (codes "a" ∷ codes "-ex" ∷ codes "--json" ∷ codes "-" ∷ []))
    ≡ codes "a" ∷ codes "-e x" ∷ codes "-" ∷ []
what_lists = refl

pub what_texts : map text_in (codes "-e 10.0.0.0/8" ∷ codes "-e " ∷ codes "-" ∷ codes "-e" ∷ codes "-f x"
    ∷ codes "./-e x" ∷ [])
    ≡ Some (codes "10.0.0.0/8") ∷ Some [] ∷ None ∷ None ∷ None ∷ None ∷ []
what_texts = refl

-- a path that begins with a dot and standard input are valid names; standard input twice and an empty name are not
pub wrong_names : map are_wrong_files ((codes "./-x" ∷ codes "-" ∷ []) ∷ (codes "-" ∷ codes "a" ∷ codes "-" ∷ [])
    ∷ (codes "a" ∷ [] ∷ []) ∷ [] ∷ []) ≡ false ∷ true ∷ true ∷ false ∷ []
wrong_names = refl

-- of one side: a `--`, no FILE; of two: no `--`, two of them, nothing before or after it
pub wrong_sides : map (λ task. are_wrong_sides task 0 1 0 ∷ are_wrong_sides task 1 1 1 ∷ are_wrong_sides task 0 0 0
    ∷ are_wrong_sides task 2 1 1 ∷ are_wrong_sides task 1 0 1 ∷ are_wrong_sides task 1 1 0 ∷ [])
    (tasks.Merge Union ∷ tasks.Merge Minus ∷ tasks.List ∷ tasks.Find ∷ tasks.Overlaps ∷ tasks.Free ∷ [])
    ≡ (false ∷ true ∷ true ∷ true ∷ true ∷ true ∷ []) ∷ (true ∷ false ∷ true ∷ true ∷ true ∷ true ∷ [])
    ∷ (false ∷ true ∷ true ∷ true ∷ true ∷ true ∷ []) ∷ (true ∷ false ∷ true ∷ true ∷ true ∷ true ∷ [])
    ∷ (false ∷ true ∷ true ∷ true ∷ true ∷ true ∷ []) ∷ (true ∷ false ∷ true ∷ true ∷ true ∷ true ∷ []) ∷ []
wrong_sides = refl

-- the words before the `--` of a `find` name no files
pub no_files : (files_among tasks.Find 2 (codes "-" ∷ [] ∷ codes "-" ∷ []) ≡ codes "-" ∷ [])
    × (files_among tasks.Check 2 (codes "-" ∷ [] ∷ codes "-" ∷ []) ≡ codes "-" ∷ [] ∷ codes "-" ∷ [])
no_files = (refl, refl)

-- the options that each task takes, by their rows: `--prefix` is row 10, `--from` 11, `-e` 12, `--most` 13, `--maxelem`
-- 14, `--ipv4` 15, `--ipv6` 16, `--max-others` 17, `--allow-empty` 18, `--at-least` 19, `--max-change` 20, `--json-field` 21,
-- `--whole` 22, `--masks` 23, `--all` 24, `-4` 25, `-6` 26, `--read` 27, `--hosts` 28, `--usage` 29; rows 30 to 32 are
-- `--help`, `--version` and `--quiet`
pub options_of_tasks : map (λ task. filter (takes task) (range_with_len 0 33)) (tasks.Merge Union ∷ tasks.Merge Differ
    ∷ tasks.List ∷ tasks.Split ∷ tasks.Reduce ∷ tasks.Check ∷ tasks.Overlaps ∷ tasks.Find ∷ tasks.Free ∷ [])
    ≡ (range_with_len 0 10 ++ 12 ∷ 14 ∷ 18 ∷ 19 ∷ 21 ∷ 22 ∷ 23 ∷ 25 ∷ 26 ∷ 27 ∷ [])
    ∷ (range_with_len 0 10 ++ 12 ∷ 14 ∷ 18 ∷ 19 ∷ 20 ∷ 21 ∷ 22 ∷ 23 ∷ 25 ∷ 26 ∷ 27 ∷ [])
    ∷ (range_with_len 0 10 ++ 12 ∷ 14 ∷ 18 ∷ 19 ∷ 21 ∷ 22 ∷ 23 ∷ 25 ∷ 26 ∷ 27 ∷ [])
    ∷ (3 ∷ 4 ∷ 5 ∷ 8 ∷ 9 ∷ 10 ∷ 12 ∷ 19 ∷ 21 ∷ 22 ∷ 23 ∷ 25 ∷ 26 ∷ 27 ∷ [])
    ∷ (range_with_len 0 10 ++ range_with_len 12 8 ++ 21 ∷ 22 ∷ 23 ∷ 25 ∷ 26 ∷ 27 ∷ [])
    ∷ (5 ∷ 12 ∷ 22 ∷ 23 ∷ 27 ∷ []) ∷ (5 ∷ 12 ∷ 22 ∷ 23 ∷ 27 ∷ []) ∷ (5 ∷ 11 ∷ 12 ∷ 22 ∷ 23 ∷ 27 ∷ [])
    ∷ (3 ∷ 4 ∷ 5 ∷ 8 ∷ 9 ∷ 10 ∷ 12 ∷ 18 ∷ range_with_len 21 9) ∷ []
options_of_tasks = refl

-- of all bytes, those that a set's name may begin with, and those that it may have after its first
pub first_bytes_of_names : filter (λ byte. is_set_name (byte ∷ codes "x")) (range_with_len 0 256)
    ≡ range_with_len 65 26 ++ range_with_len 97 26
first_bytes_of_names = refl

pub other_bytes_of_names : filter (λ byte. is_set_name (codes "x" ++ byte ∷ [])) (range_with_len 0 256)
    ≡ codes "-." ++ range_with_len 48 10 ++ range_with_len 65 26 ++ codes "_" ++ range_with_len 97 26
other_bytes_of_names = refl

-- two output forms, the same one twice, `--format` given twice, also without a value, and two prefix lengths
pub ways_to_print : map (λ items. is_some (pair_fault items (pairs_of pairs)))
    ((says.Flag 0 ∷ says.Flag 1 ∷ []) ∷ (says.Flag 1 ∷ says.Flag 1 ∷ []) ∷ (says.Value 2 (codes "csv") ∷ [])
    ∷ (says.Value 2 (codes "csv") ∷ says.Lacks 2 ∷ [])
    ∷ (says.Value 2 (codes "csv") ∷ says.Flag 1 ∷ []) ∷ (says.Value 2 (codes "csv") ∷ says.Flag 0 ∷ [])
    ∷ (says.Value 10 (codes "8") ∷ says.Joined 10 (codes "9") (codes "--prefix=9") ∷ []) ∷ []) ≡ true ∷ false ∷ false
    ∷ true ∷ true ∷ true ∷ true ∷ []
ways_to_print = refl

pub forms_said : map (form_of Blocks) ((says.Flag 3 ∷ says.Flag 1 ∷ [])
    ∷ (says.Flag 3 ∷ says.Value 2 (codes "csv") ∷ []) ∷ [] ∷ (says.Flag 0 ∷ []) ∷ [])
    ≡ Counts ∷ Exported Csv ∷ Blocks ∷ Ranges ∷ []
forms_said = refl

pub usual_form : form_of (Exported Csv) (says.Flag 3 ∷ []) ≡ Exported Csv
usual_form = refl

pub shapes_said : map shape_of ((says.Flag 4 ∷ []) ∷ (says.Flag 4 ∷ says.Flag 5 ∷ []) ∷ (says.Flag 3 ∷ [])
    ∷ (says.Flag 5 ∷ []) ∷ (says.Flag 22 ∷ []) ∷ (says.Flag 23 ∷ says.Flag 5 ∷ [])
    ∷ (says.Value 27 (codes "nft") ∷ []) ∷ [])
    ≡ shapes.Json ∷ shapes.StrictJson ∷ shapes.Lines lenient ∷ shapes.Lines (record lenient { refuses_host_bits = true })
    ∷ shapes.Lines (record lenient { is_whole = true })
    ∷ shapes.Lines (record lenient { refuses_host_bits = true; takes_masks = true })
    ∷ shapes.Lines (record lenient { form = lines.Nft }) ∷ []
shapes_said = refl

-- three forms are read, by these names
pub forms_read : map line_form_called (codes "csv" ∷ codes "ipset" ∷ codes "nft" ∷ codes "plain" ∷ codes "json" ∷ codes "NFT"
    ∷ codes "nft " ∷ [] ∷ []) ≡ Some lines.Csv ∷ Some lines.Ipset ∷ Some lines.Nft ∷ None ∷ None ∷ None ∷ None ∷ None ∷ []
forms_read = refl

-- the name of a field implies documents
pub shapes_of_fields : map shape_of ((says.Value 21 (codes "a") ∷ []) ∷ (says.Flag 4 ∷ says.Joined 21 (codes "a")
    (codes "--json-field=a") ∷ []) ∷ (says.Value 21 (codes "a") ∷ says.Flag 5 ∷ []) ∷ [])
    ≡ shapes.Fields ∷ shapes.Fields ∷ shapes.StrictFields ∷ []
shapes_of_fields = refl

-- all names, in their order
pub fields_said : fields_of (says.Value 21 (codes "b") ∷ says.Flag 4 ∷ says.Value 12 (codes "c")
    ∷ says.Joined 21 (codes "a") (codes "--json-field=a") ∷ says.File (codes "d") ∷ []) ≡ codes "b" ∷ codes "a" ∷ []
fields_said = refl

-- a prefix length may have a `+` before it, and leading zeros
pub prefix_lengths : map prefix_in (codes "24" ∷ codes "+024" ∷ codes "128" ∷ codes "129" ∷ codes "++8" ∷ codes "+" ∷ []
    ∷ codes "-1" ∷ codes "8 " ∷ [])
    ≡ Some 24 ∷ Some 24 ∷ Some 128 ∷ None ∷ None ∷ None ∷ None ∷ None ∷ None ∷ []
prefix_lengths = refl

-- a number of networks may have leading zeros, and is not 0
pub numbers_of_networks : map most_in (codes "07" ∷ codes "1" ∷ codes "0" ∷ codes "00" ∷ codes "1k"
    ∷ codes "+1" ∷ [] ∷ [])
    ≡ Some 7 ∷ Some 1 ∷ None ∷ None ∷ None ∷ None ∷ None ∷ []
numbers_of_networks = refl

-- the sides are split at the first `--`, which belongs to neither
pub two_sides : {Z : Type 0} (list dashes other : String Z)
    → is (codes "--") list ≡ false → is (codes "--") dashes ≡ true
    → (before_dashes (list ∷ dashes ∷ other ∷ []) ≡ list ∷ [])
    × (behind_dashes (list ∷ dashes ∷ other ∷ []) ≡ other ∷ [])
two_sides list dashes other l d = (rw (l, d), rw (l, d))
