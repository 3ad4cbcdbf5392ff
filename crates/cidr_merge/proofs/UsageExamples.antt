-- Words at which a wrong definition of what they ask for would show. Each of these computes.
use Rattle.cidr_merge.proofs.Words.{◌≡◌, ℕ, List, ◌∷◌, ◌++◌, [], refl, codes, lenient, String, Some, None, string_bytes, Table, rows_of, pairs_of, command_of, entries, pairs, spelled_out, Command, Blocks, Ranges, Union, Minus, Differ, Percent}
use Rattle.std.specs.Prelude.{false, map, true}
use Rattle.cidr_merge.proofs.Examples.{plain_merge}
use Rattle.cidr_merge.specs.declared.command_line.Command.TheVariants as commands
use Rattle.cidr_merge.specs.declared.command_line.Inspection.TheVariants as inspections
use Rattle.cidr_merge.specs.declared.free_task.FreeTask.TheVariants as free_tasks
use Rattle.cidr_merge.specs.declared.shapes.Shape.TheVariants as shapes
use Rattle.lists.specs.declared.forms.LineForm.TheVariants as line_forms

abbrev pub table : Table
table =
    record {
      rows = record { ref_ptr = (0, 0); now = rows_of entries };
      pairs =
          record { ref_ptr = (0, 0); now = pairs_of pairs };
      needs = record { ref_ptr = (0, 0); now = [] };
      lacking =
          record { ref_ptr = (0, 0); now = [] };
    }

-- ---- words that are wrong

-- words of these bytes, after others, ask for nothing
abbrev Behind : (Z : Type 0) → List (String Z) → List (List ℕ) → Type 0
Behind Z words [] = command_of table words ≡ None
Behind Z words (bytes ∷ others) = (word : String Z) → string_bytes word ≡ bytes → Behind Z (words ++ word ∷ []) others

abbrev Wrong : (Z : Type 0) → List (List ℕ) → Type 0
Wrong Z words = Behind Z [] words

-- options that are not taken, go together with others that they exclude, or lack their value or the option they need
pub wrong_options : {Z : Type 0} → Wrong Z (codes "union" ∷ codes "a" ∷ codes "-x" ∷ [])
    × Wrong Z (codes "minus" ∷ codes "a" ∷ codes "--" ∷ codes "b" ∷ codes "--most=1" ∷ [])
    × Wrong Z (codes "union" ∷ codes "--count" ∷ codes "--ranges" ∷ codes "a" ∷ [])
    × Wrong Z (codes "union" ∷ codes "--ranges" ∷ codes "--format=csv" ∷ codes "a" ∷ [])
    × Wrong Z (codes "union" ∷ codes "a" ∷ codes "--format" ∷ [])
    × Wrong Z (codes "split" ∷ codes "a" ∷ codes "--skip-bad" ∷ [])
    × Wrong Z (codes "split" ∷ codes "a" ∷ codes "--prefix=129" ∷ [])
    × Wrong Z (codes "free" ∷ codes "a" ∷ codes "--" ∷ codes "b" ∷ codes "--all" ∷ [])
    × Wrong Z (codes "free" ∷ codes "a" ∷ codes "--hosts=0" ∷ codes "--" ∷ codes "b" ∷ [])
    × Wrong Z (codes "free" ∷ codes "a" ∷ codes "--hosts=1" ∷ codes "--all" ∷ codes "--" ∷ codes "b" ∷ [])
    × Wrong Z (codes "free" ∷ codes "a" ∷ codes "--usage" ∷ codes "--prefix=9" ∷ codes "--" ∷ codes "b" ∷ [])
    × Wrong Z (codes "reduce" ∷ codes "a" ∷ codes "--most=0" ∷ [])
    × Wrong Z (codes "reduce" ∷ codes "a" ∷ codes "--max-others=1" ∷ [])
    × Wrong Z (codes "reduce" ∷ codes "a" ∷ codes "--most=1" ∷ codes "--ipv6=1" ∷ [])
    × Wrong Z (codes "reduce" ∷ codes "a" ∷ codes "--ipv4=1" ∷ codes "--max-others=%" ∷ [])
    × Wrong Z (codes "union" ∷ codes "a" ∷ codes "--at-least=0" ∷ [])
    × Wrong Z (codes "union" ∷ codes "a" ∷ codes "--max-change=1" ∷ [])
    × Wrong Z (codes "union" ∷ codes "a" ∷ codes "--at-least=1" ∷ codes "--allow-empty" ∷ [])
wrong_options = (
  (λ _ o _ a _ b. simp (o, a, b)),
  (λ _ o _ a _ b _ c _ d. simp (o, a, b, c, d)),
  (λ _ o _ a _ b _ c. simp (o, a, b, c)),
  (λ _ o _ a _ b _ c. simp (o, a, b, c)),
  (λ _ o _ a _ b. simp (o, a, b)),
  (λ _ o _ a _ b. simp (o, a, b)),
  (λ _ o _ a _ b. simp (o, a, b)),
  (λ _ o _ a _ b _ c _ d. simp (o, a, b, c, d)),
  (λ _ o _ a _ b _ c _ d. simp (o, a, b, c, d)),
  (λ _ o _ a _ b _ c _ d _ e. simp (o, a, b, c, d, e)),
  (λ _ o _ a _ b _ c _ d _ e. simp (o, a, b, c, d, e)),
  (λ _ o _ a _ b. simp (o, a, b)),
  (λ _ o _ a _ b. simp (o, a, b)),
  (λ _ o _ a _ b _ c. simp (o, a, b, c)),
  (λ _ o _ a _ b _ c. simp (o, a, b, c)),
  (λ _ o _ a _ b. simp (o, a, b)),
  (λ _ o _ a _ b. simp (o, a, b)),
  (λ _ o _ a _ b _ c. simp (o, a, b, c)),
)

-- sides and names that are not taken
pub wrong_lists : {Z : Type 0} → Wrong Z (codes "union" ∷ codes "-" ∷ codes "-" ∷ [])
    × Wrong Z (codes "minus" ∷ codes "-" ∷ codes "--" ∷ codes "-" ∷ [])
    × Wrong Z (codes "union" ∷ codes "a" ∷ codes "--" ∷ codes "b" ∷ [])
    × Wrong Z (codes "find" ∷ codes "--" ∷ codes "a" ∷ []) × Wrong Z (codes "unions" ∷ codes "a" ∷ []) × Wrong Z []
wrong_lists = (
  (λ _ o _ a _ b. simp (o, a, b)),
  (λ _ o _ a _ b _ c. simp (o, a, b, c)),
  (λ _ o _ a _ b _ c. simp (o, a, b, c)),
  (λ _ o _ a _ b. simp (o, a, b)),
  (λ _ o _ a. simp (o, a)),
  refl,
)

-- ---- words that are right

abbrev BehindAsked : (Z : Type 0) → List (String Z) → List (List ℕ) → Command → List (List ℕ) → Type 0
BehindAsked Z words [] command names = command_of table words ≡ Some (command, names)
BehindAsked Z words (bytes ∷ others) command names = (word : String Z) → string_bytes word ≡ bytes
    → BehindAsked Z (words ++ word ∷ []) others command names

abbrev Ask : (Z : Type 0) → List (List ℕ) → Command → List (List ℕ) → Type 0
Ask Z words command names = BehindAsked Z [] words command names

-- an option after the lists of the second side, one before the `--`, and a value in the option's word or after it
pub options_anywhere : {Z : Type 0}
    → Ask Z (codes "minus" ∷ codes "a" ∷ codes "--" ∷ codes "b" ∷ codes "--ranges" ∷ [])
    (commands.Merge (plain_merge Minus Ranges))
    (codes "a" ∷ codes "b" ∷ [])
    × Ask Z (codes "differ" ∷ codes "a" ∷ codes "--max-change=20%" ∷ codes "--" ∷ codes "b" ∷ codes "--at-least=7" ∷ [])
    (commands.Merge (record {
      operation = Differ;
      form = Blocks;
      skips_bad = false;
      shape = shapes.Lines lenient;
      allows_empty = false;
      at_least = 7;
      max_change = Percent 20;
      middle = 1;
    }))
    (codes "a" ∷ codes "b" ∷ [])
    × Ask Z (codes "split" ∷ codes "a" ∷ codes "--prefix=+9" ∷ codes "--skip-bad" ∷ [])
    (commands.Split (record { length = 9; skips_bad = true; shape = shapes.Lines lenient; at_least = 0 })) (codes "a" ∷ [])
    × Ask Z (codes "free" ∷ codes "a" ∷ codes "--prefix=26" ∷ codes "--" ∷ codes "b" ∷ codes "--all" ∷ [])
    (commands.Free (record { task = free_tasks.Blocks; length = 26; all = true; merge = plain_merge Minus Blocks }))
    (codes "a" ∷ codes "b" ∷ [])
    × Ask Z (codes "free" ∷ codes "a" ∷ codes "--hosts=9,5" ∷ codes "--" ∷ codes "b" ∷ [])
    (commands.Free (record { task = free_tasks.Places; length = 0; all = false; merge = plain_merge Minus Blocks }))
    (codes "a" ∷ codes "b" ∷ [])
    × Ask Z (codes "free" ∷ codes "a" ∷ codes "--" ∷ codes "b" ∷ codes "--usage" ∷ [])
    (commands.Free (record { task = free_tasks.Usage; length = 0; all = false; merge = plain_merge Minus Blocks }))
    (codes "a" ∷ codes "b" ∷ [])
    × Ask Z (codes "reduce" ∷ codes "a" ∷ codes "--most=18446744073709551616" ∷ codes "--ranges" ∷ [])
    (commands.Reduce (record {
      v4 = 18446744073709551615;
      v6 = 18446744073709551615;
      is_of_one = true;
      bound = Percent 100;
      merge = plain_merge Union Ranges;
    }))
    (codes "a" ∷ [])
    × Ask Z (codes "reduce" ∷ codes "a" ∷ codes "--ipv6=7" ∷ codes "--max-others=10%" ∷ [])
    (commands.Reduce (record {
      v4 = 0;
      v6 = 7;
      is_of_one = false;
      bound = Percent 10;
      merge = plain_merge Union Blocks;
    }))
    (codes "a" ∷ [])
    × Ask Z (codes "check" ∷ codes "a" ∷ codes "--strict" ∷ []) (commands.Inspect inspections.Strict lenient) (codes "a" ∷ [])
    × Ask Z (codes "find" ∷ codes "::1" ∷ codes "-" ∷ codes "--" ∷ codes "-" ∷ []) (commands.Find 2 0 lenient)
    (codes "::1" ∷ codes "-" ∷ codes "-" ∷ [])
    × Ask Z (codes "find" ∷ codes "--from" ∷ codes "-e x" ∷ codes "--" ∷ codes "--whole" ∷ codes "a" ∷ []) (commands.Find 0 1 (record lenient { is_whole = true }))
    (codes "./-e x" ∷ codes "a" ∷ [])
    × Ask Z (codes "overlaps" ∷ codes "a" ∷ codes "--strict" ∷ []) (commands.Inspect inspections.Overlaps (record lenient { refuses_host_bits = true })) (codes "a" ∷ [])
    × Ask Z (codes "find" ∷ codes "::1" ∷ codes "--strict" ∷ codes "--" ∷ codes "a" ∷ []) (commands.Find 1 0 (record lenient { refuses_host_bits = true }))
    (codes "::1" ∷ codes "a" ∷ [])
    × Ask Z (codes "overlaps" ∷ codes "--read=ipset" ∷ codes "a" ∷ []) (commands.Inspect inspections.Overlaps (record lenient { form = line_forms.Ipset }))
    (codes "a" ∷ [])
    × Ask Z (codes "find" ∷ codes "::1" ∷ codes "--masks" ∷ codes "--" ∷ codes "a" ∷ []) (commands.Find 1 0 (record lenient { takes_masks = true }))
    (codes "::1" ∷ codes "a" ∷ [])
options_anywhere = (
  (λ _ o _ a _ b _ c _ d. simp (o, a, b, c, d)),
  (λ _ o _ a _ b _ c _ d _ e. simp (o, a, b, c, d, e)),
  (λ _ o _ a _ b _ c. simp (o, a, b, c)),
  (λ _ o _ a _ b _ c _ d _ e. simp (o, a, b, c, d, e)),
  (λ _ o _ a _ b _ c _ d. simp (o, a, b, c, d)),
  (λ _ o _ a _ b _ c _ d. simp (o, a, b, c, d)),
  (λ _ o _ a _ b _ c. simp (o, a, b, c)),
  (λ _ o _ a _ b _ c. simp (o, a, b, c)),
  (λ _ o _ a _ b. simp (o, a, b)),
  (λ _ o _ a _ b _ c _ d. simp (o, a, b, c, d)),
  (λ _ o _ a _ b _ c _ d _ e. simp (o, a, b, c, d, e)),
  (λ _ o _ a _ b. simp (o, a, b)),
  (λ _ o _ a _ b _ c _ d. simp (o, a, b, c, d)),
  (λ _ o _ a _ b. simp (o, a, b)),
  (λ _ o _ a _ b _ c _ d. simp (o, a, b, c, d)),
)

-- a number after `reduce` is that of `--most`; a FILE and what comes after another operation are not
pub reduce_with_its_number : spelled_out (codes "reduce" ∷ codes "1000" ∷ codes "f" ∷ []) ≡ codes "reduce"
    ∷ codes "--most" ∷ codes "1000" ∷ codes "f" ∷ []
reduce_with_its_number = refl

pub words_as_they_are : map spelled_out ((codes "reduce" ∷ codes "1k" ∷ codes "f" ∷ [])
    ∷ (codes "reduce" ∷ codes "f" ∷ []) ∷ (codes "union" ∷ codes "1000" ∷ []) ∷ (codes "reduce" ∷ []) ∷ [])
    ≡ (codes "reduce" ∷ codes "1k" ∷ codes "f" ∷ []) ∷ (codes "reduce" ∷ codes "f" ∷ [])
    ∷ (codes "union" ∷ codes "1000" ∷ []) ∷ (codes "reduce" ∷ []) ∷ []
words_as_they_are = refl
