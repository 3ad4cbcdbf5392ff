-- Numbers of hosts in a text, one after another.
use Rattle.cidr_merge.proofs.Words.{◌≡◌, ◌+◌, ◌<◌, ◌∷◌, ◌++◌, ◌∙◌, ℕ, List, [], Bool, true, false, ◌&&◌, sym, refl, ap, subst, arith, length, map, take, drop, append_assoc, length-drop}
use Rattle.std.proofs.Common.{ap₂}
use Rattle.std.specs.Prelude.{◌==◌}
use Rattle.std.specs.List.{after_first, before_first, list_all, position_or_len}
use Rattle.std.proofs.lemmas.List.Splits.{slice_split_first, slice_split_none}
use Rattle.std.proofs.lemmas.List.Sums.{fails_before_first}
use Rattle.cidr_merge.specs.Bounds.{large_number}
use Rattle.cidr_merge.specs.Hosts.{are_hosts, hosts_in, is_host_number, parts}

-- the part before the first comma, and the parts of what comes after it
pub first_part : (text first others : List ℕ) → first ≡ before_first (λ byte. byte == 44) text
    → others ≡ after_first (λ byte. byte == 44) text → position_or_len (λ byte. byte == 44) text < length text
    → parts text ≡ first ∷ parts others
first_part text first others e f l =
    slice_split_first (λ byte. byte == 44) text 0 l ∙ ap₂ (λ a b. a ∷ parts b) (sym e) (sym f)

-- a text without a comma is one part
pub one_part : (text : List ℕ) → position_or_len (λ byte. byte == 44) text ≡ length text → parts text ≡ text ∷ []
one_part text e =
    slice_split_none (λ byte. byte == 44) text
    (λ k d l. fails_before_first (λ byte. byte == 44) text k d (omega (arith, l, e)))

-- one more number is a number of hosts, or it is none
pub all_with_first : (text first others : List ℕ) → parts text ≡ first ∷ parts others → is_host_number first ≡ true
    → are_hosts text ≡ are_hosts others
all_with_first text first others e h = ap (list_all is_host_number) e ∙ ap (λ b. b && are_hosts others) h

pub none_with_first : (text first others : List ℕ) → parts text ≡ first ∷ parts others → is_host_number first ≡ false
    → are_hosts text ≡ false
none_with_first text first others e h = ap (list_all is_host_number) e ∙ ap (λ b. b && are_hosts others) h

pub all_with_last : (text : List ℕ) → parts text ≡ text ∷ [] → are_hosts text ≡ is_host_number text
all_with_last text e = ap (list_all is_host_number) e ∙ go (is_host_number text)
  where
    go : (b : Bool) → (b && true) ≡ b
    go true = refl
    go false = refl

-- one more number is read
pub read_first : (numbers text first others all : List ℕ) → parts text ≡ first ∷ parts others
    → numbers ++ hosts_in text ≡ all → (numbers ++ large_number first ∷ []) ++ hosts_in others ≡ all
read_first numbers text first others all e h =
    append_assoc numbers (large_number first ∷ []) (hosts_in others)
    ∙ sym (ap (λ l. numbers ++ map large_number l) e) ∙ h

pub read_last : (numbers text all : List ℕ) → parts text ≡ text ∷ [] → numbers ++ hosts_in text ≡ all
    → numbers ++ large_number text ∷ [] ≡ all
read_last numbers text all e h = sym (ap (λ l. numbers ++ map large_number l) e) ∙ h
