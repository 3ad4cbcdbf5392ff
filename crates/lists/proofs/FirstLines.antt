-- The first lines of a list.
use Rattle.lists.proofs.Words.{◌≡◌, ℕ, List, [], ◌++◌, ◌∙◌, sym, ap, append_assoc, Option, None, Some, Consumes, lines, complete_part, IsBeginning, Read, InputTooLong, lines_from, pending_from, last_line, lines_split, lines-append, lines_complete, ReadLists, TakesLines, TakesBefore}

-- the lines that a beginning of a list completes are its first
complete_first : (a b : List ℕ) → (others : List (List ℕ)) × (lines (a ++ b) ≡ lines (complete_part a) ++ others)
complete_first a b =
    let last = last_line (pending_from [] (a ++ b)) in
    let more = lines_from (pending_from [] a) b in (
      more ++ last,
      lines_split [] (a ++ b) tt ∙ ap (λ ls. ls ++ last) (lines-append [] a b)
          ∙ append_assoc (lines_from [] a) more last ∙ ap (λ ls. ls ++ (more ++ last)) (sym (lines_complete [] a tt)),
    )

given_first : (input read : List ℕ) (rest : Option (List ℕ)) → Consumes (Some input) rest read
    → (others : List (List ℕ)) × (lines input ≡ lines (complete_part read) ++ others)
given_first input read None h = absurd h
given_first input read (Some left) h = let p = complete_first read left in (p.0, ap lines h ∙ p.1)

part_first : (input read first : List ℕ) (rest : Option (List ℕ)) → Consumes (Some input) rest read
    → IsBeginning first read
    → (others : List (List ℕ)) × (lines input ≡ lines (complete_part first) ++ others)
part_first input read first None h b = absurd h
part_first input read first (Some left) h b =
    let p = complete_first first (b.0 ++ left) in
    (p.0, ap lines (h ∙ ap (λ l. l ++ left) b.1 ∙ append_assoc first b.0 left) ∙ p.1)

-- what is taken before the reading stops are first lines
pub first_taken : (input : List ℕ) (rest : Option (List ℕ)) (start after : ReadLists)
    → TakesBefore (Some input) rest Read start after
    → (first : List (List ℕ)) × (others : List (List ℕ)) × (lines input ≡ first ++ others)
    × TakesLines start first after
first_taken input rest start after h = let p = given_first input h.0 rest h.1 in
    (lines (complete_part h.0), p.0, p.1, h.2)

pub first_taken_of_too_many : (input : List ℕ) (rest : Option (List ℕ)) (start after : ReadLists)
    → TakesBefore (Some input) rest InputTooLong start after
    → (first : List (List ℕ)) × (others : List (List ℕ)) × (lines input ≡ first ++ others)
    × TakesLines start first after
first_taken_of_too_many input rest start after h = let p = part_first input h.0 h.1 rest h.2 h.4 in
    (lines (complete_part h.1), p.0, p.1, h.5)
