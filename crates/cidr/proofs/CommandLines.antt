-- What the words of a line request.
use Rattle.cidr.proofs.Words.{◌≡◌, ℕ, Bool, false, cond, List, [], ◌∷◌, codes, refl, sym, ap, ◌∙◌, subst, arith, inl, HasWords, IsAnswered, IsCommand, UnknownLaw, LongLaw, MayGet, Request, Plain, unknown, one_word_request, two_words_request, request_in, request_of, words}
use Rattle.cidr.proofs.LongLines.{request_long, request_short}
use Rattle.cidr.proofs.PlainLines.{differs, plain_gets}

-- a line that does not use the routes has one answer
pub answered : (line text : List ℕ) → request_of line ≡ Plain text → IsAnswered line text
answered line text asks before after answer = (
  λ gets. plain_gets text answer before after (subst (λ (q : Request). MayGet before q answer after) asks gets),
  λ is. subst (λ (q : Request). MayGet before q answer after) (sym asks) (inl is),
)

-- what a line requests is computed from its words
pub asks : (line : List ℕ) (these : List (List ℕ)) → HasWords line these → request_of line ≡ request_in these
asks line these h = request_short line h.1 ∙ ap request_in h.0

-- ---- all other lines

-- a test that fails, and the rest after it
passed : (test : Bool) (x y z : Request) → test ≡ false → y ≡ z → cond test x y ≡ z
passed test x y z fails rest = ap (λ b. cond b x y) fails ∙ rest

no_one_word : (name word : List ℕ) → ¬ (IsCommand (name ∷ word ∷ [])) → one_word_request name word ≡ unknown
unfolding one_word_request
no_one_word name word other =
    passed _ _ _ _ (differs name (codes "read") (λ is. other (0, omega arith, sym is)))
    (passed _ _ _ _ (differs name (codes "ends") (λ is. other (3, omega arith, sym is)))
    (passed _ _ _ _ (differs name (codes "read4") (λ is. other (1, omega arith, sym is)))
    (passed _ _ _ _ (differs name (codes "read6") (λ is. other (2, omega arith, sym is)))
    (passed _ _ _ _ (differs name (codes "drop") (λ is. other (4, omega arith, sym is)))
    (passed _ _ _ _ (differs name (codes "find") (λ is. other (5, omega arith, sym is))) refl)))))

no_two_words : (name first second : List ℕ) → ¬ (IsCommand (name ∷ first ∷ second ∷ []))
    → two_words_request name first second ≡ unknown
unfolding two_words_request
no_two_words name first second other =
    passed _ _ _ _ (differs name (codes "has") (λ is. other (0, omega arith, sym is)))
    (passed _ _ _ _ (differs name (codes "rel") (λ is. other (2, omega arith, sym is)))
    (passed _ _ _ _ (differs name (codes "has4") (λ is. other (1, omega arith, sym is)))
    (passed _ _ _ _ (differs name (codes "add") (λ is. other (3, omega arith, sym is))) refl)))

no_command : (these : List (List ℕ)) → ¬ (IsCommand these) → request_in these ≡ unknown
unfolding request_in
no_command [] other = refl
no_command (name ∷ []) other = refl
no_command (name ∷ word ∷ []) other = no_one_word name word other
no_command (name ∷ first ∷ second ∷ []) other = no_two_words name first second other
no_command (name ∷ first ∷ second ∷ third ∷ more) other = refl

pub unknown_lines : UnknownLaw
unknown_lines line short other = answered line _ (request_short line short ∙ no_command (words line) other)

pub long_lines : LongLaw
long_lines line long = answered line _ (request_long line long)
