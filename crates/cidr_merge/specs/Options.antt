-- The options of the command line, and which of them each task takes.
use Rattle.std.specs.Prelude.{ℕ, true, List, [], ◌∷◌, codes}
use Rattle.options.specs.Table.{Entry, IsTable, flag, long_flag, alone, long, valued}
use Rattle.options.specs.declared.table.Kind.TheVariants as kinds
use Rattle.options.specs.declared.table.Table.{Table}
use Rattle.cidr_merge.specs.declared.command_line.Operation.TheVariants as operations
use Rattle.cidr_merge.specs.declared.tasks.Task.{Task}
use Rattle.cidr_merge.specs.declared.tasks.Task.TheVariants as tasks

-- the indices of the options' rows in the table
abbrev pub ranges : ℕ
ranges = 0

abbrev pub count : ℕ
count = 1

abbrev pub format : ℕ
format = 2

abbrev pub skip_bad : ℕ
skip_bad = 3

abbrev pub json : ℕ
json = 4

abbrev pub strict : ℕ
strict = 5

abbrev pub set : ℕ
set = 6

abbrev pub table : ℕ
table = 7

abbrev pub before : ℕ
before = 8

abbrev pub after : ℕ
after = 9

abbrev pub prefix : ℕ
prefix = 10

abbrev pub from : ℕ
from = 11

abbrev pub text : ℕ
text = 12

abbrev pub most : ℕ
most = 13

abbrev pub maxelem : ℕ
maxelem = 14

abbrev pub ipv4 : ℕ
ipv4 = 15

abbrev pub ipv6 : ℕ
ipv6 = 16

abbrev pub max_others : ℕ
max_others = 17

abbrev pub allow_empty : ℕ
allow_empty = 18

abbrev pub at_least : ℕ
at_least = 19

abbrev pub max_change : ℕ
max_change = 20

abbrev pub json_field : ℕ
json_field = 21

abbrev pub whole : ℕ
whole = 22

abbrev pub masks : ℕ
masks = 23

abbrev pub all : ℕ
all = 24

abbrev pub only_v4 : ℕ
only_v4 = 25

abbrev pub only_v6 : ℕ
only_v6 = 26

abbrev pub read : ℕ
read = 27

abbrev pub hosts : ℕ
hosts = 28

abbrev pub usage : ℕ
usage = 29

-- the options, in the order of their rows
abbrev pub entries : List Entry
entries =
    long_flag (codes "--ranges") ∷ long_flag (codes "--count") ∷ long (codes "--format") kinds.Text true
    ∷ long_flag (codes "--skip-bad") ∷ long_flag (codes "--json") ∷ long_flag (codes "--strict")
    ∷ long (codes "--set") kinds.Text true ∷ long (codes "--table") kinds.Text true
    ∷ long (codes "--line-prefix") kinds.Text true ∷ long (codes "--line-suffix") kinds.Text true
    ∷ long (codes "--prefix") kinds.Text true ∷ long (codes "--from") kinds.File true ∷ valued (codes "e") kinds.Text
    ∷ long (codes "--most") kinds.Number true ∷ long (codes "--maxelem") kinds.Number true
    ∷ long (codes "--ipv4") kinds.Number true ∷ long (codes "--ipv6") kinds.Number true
    ∷ long (codes "--max-others") kinds.Text true ∷ long_flag (codes "--allow-empty")
    ∷ long (codes "--at-least") kinds.Number true ∷ long (codes "--max-change") kinds.Text true
    ∷ long (codes "--json-field") kinds.Text true ∷ long_flag (codes "--whole") ∷ long_flag (codes "--masks")
    ∷ long_flag (codes "--all") ∷ flag (codes "4") ∷ flag (codes "6") ∷ long (codes "--read") kinds.Text true
    ∷ long (codes "--hosts") kinds.Text true ∷ long_flag (codes "--usage")
    ∷ alone (codes "--help") ∷ alone (codes "--version") ∷ alone (codes "--quiet") ∷ []

-- the pairs of options that exclude each other: two output forms, a number for one family and one for each, a least
-- number of networks and none, documents and what is asked of lines, a family alone and the other or its number,
-- lines of another program and plain ones, two ways to say what is free, or an option that is given twice
abbrev pub pairs : List (ℕ × ℕ)
pairs =
    (ranges, count) ∷ (format, format) ∷ (format, ranges) ∷ (format, count) ∷ (prefix, prefix) ∷ (set, set)
    ∷ (table, table) ∷ (before, before) ∷ (after, after) ∷ (from, from) ∷ (most, most) ∷ (maxelem, maxelem)
    ∷ (most, ipv4) ∷ (most, ipv6) ∷ (ipv4, ipv4) ∷ (ipv6, ipv6) ∷ (max_others, max_others)
    ∷ (at_least, at_least) ∷ (max_change, max_change) ∷ (allow_empty, at_least) ∷ (json, whole) ∷ (json, masks)
    ∷ (json_field, whole) ∷ (json_field, masks) ∷ (only_v4, only_v4) ∷ (only_v6, only_v6)
    ∷ (only_v4, only_v6) ∷ (only_v4, ipv6) ∷ (only_v6, ipv4) ∷ (read, read) ∷ (json, read)
    ∷ (json_field, read) ∷ (masks, read) ∷ (text, read)
    ∷ (hosts, hosts) ∷ (hosts, prefix) ∷ (hosts, all) ∷ (hosts, usage) ∷ (usage, prefix) ∷ (usage, all) ∷ []

-- the table has these options and pairs
abbrev pub IsOptions : Table → Type 0
IsOptions options = IsTable options entries pairs []

-- the options that a task takes, by the indices of their rows
abbrev pub taken : Task → List ℕ
taken (tasks.Merge operations.Differ) =
    text ∷ ranges ∷ count ∷ format ∷ set ∷ table ∷ maxelem ∷ before ∷ after ∷ skip_bad ∷ json ∷ json_field ∷ strict
    ∷ whole ∷ masks ∷ read ∷ allow_empty ∷ at_least ∷ max_change ∷ only_v4 ∷ only_v6 ∷ []
taken (tasks.Merge operation) =
    text ∷ ranges ∷ count ∷ format ∷ set ∷ table ∷ maxelem ∷ before ∷ after ∷ skip_bad ∷ json ∷ json_field ∷ strict
    ∷ whole ∷ masks ∷ read ∷ allow_empty ∷ at_least ∷ only_v4 ∷ only_v6 ∷ []
taken tasks.List =
    text ∷ ranges ∷ count ∷ format ∷ set ∷ table ∷ maxelem ∷ before ∷ after ∷ skip_bad ∷ json ∷ json_field ∷ strict
    ∷ whole ∷ masks ∷ read ∷ allow_empty ∷ at_least ∷ only_v4 ∷ only_v6 ∷ []
taken tasks.Split =
    text ∷ prefix ∷ before ∷ after ∷ skip_bad ∷ json ∷ json_field ∷ strict
    ∷ whole ∷ masks ∷ read ∷ at_least ∷ only_v4 ∷ only_v6 ∷ []
taken tasks.Reduce =
    text ∷ ranges ∷ count ∷ format ∷ set ∷ table ∷ maxelem ∷ before ∷ after ∷ skip_bad ∷ json ∷ json_field ∷ strict
    ∷ whole ∷ masks ∷ read ∷ allow_empty ∷ at_least ∷ most ∷ ipv4 ∷ ipv6 ∷ max_others ∷ only_v4 ∷ only_v6 ∷ []
taken tasks.Check = text ∷ strict ∷ whole ∷ masks ∷ read ∷ []
taken tasks.Overlaps = text ∷ strict ∷ whole ∷ masks ∷ read ∷ []
taken tasks.Find = text ∷ from ∷ strict ∷ whole ∷ masks ∷ read ∷ []
taken tasks.Free =
    text ∷ prefix ∷ all ∷ hosts ∷ usage ∷ before ∷ after ∷ skip_bad ∷ json ∷ json_field ∷ strict ∷ whole ∷ masks ∷ read
    ∷ allow_empty ∷ only_v4 ∷ only_v6 ∷ []
