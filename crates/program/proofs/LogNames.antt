-- What was read of a log.
use Rattle.program.proofs.Words.{◌≡◌, ◌+◌, ◌++◌, ◌∙◌, ℕ, List, true, refl, sym, ap, append-nil, Option, None, Some, Consumes, IsAtEnd, none-some, IsBeginning, KnownLists, IsAllOf, IsFirstOf, LogFault}
use Rattle.program.specs.declared.log_fault.LogFault.TheVariants as faults

same_some : (a b : List ℕ) (o : Option (List ℕ)) → o ≡ Some a → o ≡ Some b → a ≡ b
same_some a b o e f = cc

pub known_first : (remained remains : Option (List ℕ)) (read input : List ℕ) → remained ≡ Some input
    → Consumes remained remains read → IsBeginning read input
known_first None remains read input e h = absurd (none-some input e)
known_first (Some xs) None read input e h = absurd h
known_first (Some xs) (Some ys) read input e h = (ys, same_some input xs (Some xs) e refl ∙ h)

pub known_all : (remained remains : Option (List ℕ)) (read input : List ℕ) → remained ≡ Some input
    → Consumes remained remains read → IsAtEnd remains → read ≡ input
known_all None remains read input e h end = absurd (none-some input e)
known_all (Some xs) None read input e h end = absurd h
known_all (Some xs) (Some ys) read input e h end =
    sym (same_some input xs (Some xs) e refl ∙ h ∙ ap (λ t. read ++ t) end ∙ append-nil read)

module _ (known : KnownLists) (name : List ℕ) (remained remains : Option (List ℕ)) (has : (input : List ℕ)
    → known.bytes_of name ≡ Some input → remained ≡ Some input) where
  pub all_of : known.may_open name true → (read : List ℕ) → Consumes remained remains read → IsAtEnd remains
      → IsAllOf known name read
  all_of opened read took end = (opened, λ input e. known_all remained remains read input (has input e) took end)

  pub first_of : (read : List ℕ) → Consumes remained remains read → IsFirstOf known name read
  first_of read took = λ input e. known_first remained remains read input (has input e) took
