-- The answer to a line, depending on its words.
use Rattle.cidr.proofs.Words.{◌≡◌, ℕ, List, ◌∷◌, Option, None, Some, refl, ap, ◌∙◌, subst, Filled, Adds, IsLastWord, IsWordBefore, unknown, request_in, one_word_request, two_words_request, words}
use Rattle.cidr.proofs.Cuts.{words_cons}

pub one_word_line : (line : List ℕ) → IsLastWord line → request_in (words line) ≡ unknown
unfolding request_in
one_word_line line e = ap request_in e

pub two_word_line : (line command word : List ℕ) → IsWordBefore line command word → IsLastWord word
    → request_in (words line) ≡ one_word_request command word
unfolding request_in
two_word_line line command word e f = ap request_in (e ∙ ap (λ ws. command ∷ ws) f)

pub three_word_line : (line command rest first second : List ℕ) → IsWordBefore line command rest
    → IsWordBefore rest first second → IsLastWord second
    → request_in (words line) ≡ two_words_request command first second
unfolding request_in
three_word_line line command rest first second e f g =
    ap request_in (e ∙ ap (λ ws. command ∷ ws) (f ∙ ap (λ ws. first ∷ ws) g))

-- a line of more than three words
pub longer_line : (line command rest first more second last : List ℕ) → IsWordBefore line command rest
    → IsWordBefore rest first more → IsWordBefore more second last
    → request_in (words line) ≡ unknown
unfolding request_in
longer_line line command rest first more second last e f g =
    let (word, later, h) = words_cons last in
    ap request_in (e ∙ ap (λ ws. command ∷ ws) (f ∙ ap (λ ws. first ∷ ws) (g ∙ ap (λ ws. second ∷ ws) h)))

-- an option is `None` if each of its values is ruled out
pub gives_none : {A : Type 0} (o : Option A) → ((x : A) → ¬ (o ≡ Some x)) → o ≡ None
gives_none None h = refl
gives_none (Some x) h = absurd (h x refl)

-- an answer that was added is an equal answer that was added
pub adds : (old new : Filled) (x y : List ℕ) → Adds old new x → x ≡ y → Adds old new y
adds old new x y added same = subst (λ (answer : List ℕ). Adds old new answer) same added
