-- An answer `out of memory` is a line of the output.
use Rattle.cidr.proofs.Words.{◌≡◌, ◌≢◌, ℕ, List, [], ◌∷◌, ◌++◌, refl, ap, ◌∙◌, subst, AllByRecursion, lines, out_of_memory, reply, replies, UnrefusedIsComputed, UnrefusedLinesAreComputed}
use Rattle.cidr.proofs.Splits.{lines_of_both}

abbrev AreOther : List (List ℕ) → Type 0
AreOther ls = AllByRecursion (λ line. line ≢ out_of_memory) ls

-- what holds for all lines holds for the later ones
those_other : (these those : List (List ℕ)) → AreOther (these ++ those) → AreOther those
those_other [] those all = all
those_other (line ∷ these) those all = those_other these those all.1

one_line : lines (reply out_of_memory) ≡ out_of_memory ∷ []
one_line = refl

-- the first line of a reply `out of memory` is `out of memory`
no_first : (answer : List ℕ) (more : List (List ℕ)) → AreOther (lines (reply answer) ++ more) → answer ≢ out_of_memory
no_first answer more all same =
    (subst (λ (ls : List (List ℕ)). AreOther (ls ++ more)) (ap (λ a. lines (reply a)) same ∙ one_line) all).0 refl

answers_other : (answers : List (List ℕ)) → AreOther (lines (replies answers)) → AreOther answers
answers_other [] all = tt
answers_other (answer ∷ answers) all =
    let both = subst AreOther (lines_of_both (reply answer) (replies answers) (answer, refl)) all in (
      no_first answer (lines (replies answers)) both,
      answers_other answers (those_other (lines (reply answer)) (lines (replies answers)) both),
    )

pub unrefused_lines : UnrefusedIsComputed → UnrefusedLinesAreComputed
unrefused_lines computed input output h all =
    computed input output
    (h.1.0, h.0, h.1.1, h.1.2, answers_other h.1.0 (subst (λ (o : List ℕ). AreOther (lines o)) h.1.2 all))
