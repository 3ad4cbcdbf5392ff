-- Lines that do not use the routes.
use Rattle.cidr.proofs.Words.{◌≡◌, ◌≢◌, ℕ, Bool, inl, inr, true, false, cond, List, [], ◌∷◌, ◌++◌, length, codes, refl, sym, ap, ap₂, ◌∙◌, subst, ◌<◌, arith, flat_map, AllByRecursion, bytes_eq, nat_lt, Contains, slice_index_or, lines, false_from_ne_true, bytes_eq-Decides, ip_of, ip_network_of, read_answer, read4_answer, read6_answer, ends_answer, has_answer, has4_answer, rel_answer, request_answer, answer_of, MayGet, MayAnswer, reply, replies, IsPlainLine, OthersAreRouting, PlainLinesAskNothing, PlainInputsHaveOneOutput, Request, Plain, too_long, unknown, adding, dropping, finding, route_number_of, one_word_request, two_words_request, request_in, request_of, Routes, no_routes, words}
use Rattle.cidr.proofs.Cuts.{words_cons}

no_truth : false ≡ true → ⊥
no_truth e = cc

-- bytes that a test shows to differ
apart : (xs ys : List ℕ) → bytes_eq xs ys ≡ false → xs ≢ ys
apart xs ys differ same = no_truth (sym differ ∙ (bytes_eq-Decides xs ys).1 same)

-- the line's first word is `add`, `drop` or `find`
abbrev Named : List ℕ → Type 0
Named line = (command : List ℕ) × (others : List (List ℕ)) × (words line ≡ command ∷ others)
    × Contains (codes "add" ∷ codes "drop" ∷ codes "find" ∷ []) command

pub differs : (xs ys : List ℕ) → xs ≢ ys → bytes_eq xs ys ≡ false
differs xs ys apart = false_from_ne_true (bytes_eq xs ys) (λ e. apart ((bytes_eq-Decides xs ys).0 e))

-- the request does not use the routes
abbrev IsPlain : Request → Type 0
IsPlain request = request ≡ Plain (request_answer no_routes request)

-- a request chosen from two such requests
one_of_plain : (test : Bool) (x y : Request) → IsPlain x → IsPlain y → IsPlain (cond test x y)
one_of_plain true x y first second = first
one_of_plain false x y first second = second

-- if a test fails, the second request is chosen
second_plain : (test : Bool) (x y : Request) → test ≡ false → IsPlain y → IsPlain (cond test x y)
second_plain test x y fails plain = subst (λ (b : Bool). IsPlain (cond b x y)) (sym fails) plain

one_word : (command word : List ℕ) → command ≢ codes "drop" → command ≢ codes "find"
    → IsPlain (one_word_request command word)
unfolding one_word_request
one_word command word no_drop no_find =
    one_of_plain (bytes_eq command (codes "read")) (Plain (read_answer word)) _ refl
    (one_of_plain (bytes_eq command (codes "ends")) (Plain (ends_answer word)) _ refl
    (one_of_plain (bytes_eq command (codes "read4")) (Plain (read4_answer word)) _ refl
    (one_of_plain (bytes_eq command (codes "read6")) (Plain (read6_answer word)) _ refl
    (second_plain _ (dropping (ip_network_of word)) _ (differs command (codes "drop") no_drop)
    (second_plain _ (finding (ip_of word)) unknown (differs command (codes "find") no_find) refl)))))

two_words : (command first second : List ℕ) → command ≢ codes "add" → IsPlain (two_words_request command first second)
unfolding two_words_request
two_words command first second no_add =
    one_of_plain (bytes_eq command (codes "has")) (Plain (has_answer first second)) _ refl
    (one_of_plain (bytes_eq command (codes "rel")) (Plain (rel_answer first second)) _ refl
    (one_of_plain (bytes_eq command (codes "has4")) (Plain (has4_answer first second)) _ refl
    (second_plain _ (adding (ip_network_of first) (route_number_of second)) unknown
    (differs command (codes "add") no_add) refl)))

plain_words : (command : List ℕ) (others : List (List ℕ)) → command ≢ codes "add" → command ≢ codes "drop"
    → command ≢ codes "find" → IsPlain (request_in (command ∷ others))
unfolding request_in
plain_words command [] no_add no_drop no_find = refl
plain_words command (word ∷ []) no_add no_drop no_find = one_word command word no_drop no_find
plain_words command (first ∷ second ∷ []) no_add no_drop no_find = two_words command first second no_add
plain_words command (first ∷ second ∷ third ∷ others) no_add no_drop no_find = refl

plain_request : (line : List ℕ) → IsPlainLine line → IsPlain (request_of line)
unfolding request_of
plain_request line h =
    one_of_plain (nat_lt 1024 (length line)) too_long (request_in (words line)) refl
    (subst (λ (these : List (List ℕ)). IsPlain (request_in these)) (sym h.asking.cut)
    (plain_words h.asking.command h.asking.others h.asking.no_add h.asking.no_drop h.no_find))

pub plain_gets : (text answer : List ℕ) (before after : Routes) → MayGet before (Plain text) answer after
    → (answer ≡ text) × (after ≡ before)
plain_gets text answer before after (inl gets) = gets
plain_gets text answer before after (inr out) = absurd out

pub asks_nothing : PlainLinesAskNothing
asks_nothing line answer before after plain = (
  λ gets. plain_gets (answer_of line) answer before after
      (subst (λ (q : Request). MayGet before q answer after) (plain_request line plain) gets),
  λ is. subst (λ (q : Request). MayGet before q answer after) (sym (plain_request line plain)) (inl is),
)

-- every other line begins with one of the three commands
pub others_routing : OthersAreRouting
others_routing line routing =
    let (command, others, cut) = words_cons line in
    let here : (k : ℕ) → k < 3 → slice_index_or (codes "add" ∷ codes "drop" ∷ codes "find" ∷ []) k command ≡ command
    → Named line = λ k within is. (command, others, cut, (k, within, is)) in
    elim (bytes_eq command (codes "add")) as (λ b. bytes_eq command (codes "add") ≡ b → Named line) [
      | true ↦ λ add. here 0 (omega arith) (sym ((bytes_eq-Decides command (codes "add")).0 add))
      | false ↦ λ no_add. elim (bytes_eq command (codes "drop")) as (λ b. bytes_eq command (codes "drop") ≡ b
          → Named line) [
            | true ↦ λ drop. here 1 (omega arith) (sym ((bytes_eq-Decides command (codes "drop")).0 drop))
            | false ↦ λ no_drop. elim (bytes_eq command (codes "find")) as (λ b. bytes_eq command (codes "find") ≡ b
                → Named line) [
                  | true ↦ λ find. here 2 (omega arith) (sym ((bytes_eq-Decides command (codes "find")).0 find))
                  | false ↦ λ no_find. absurd (routing (record {
                    asking =
                        record {
                          command = command;
                          others = others;
                          cut = cut;
                          no_add = apart command (codes "add") no_add;
                          no_drop =
                              apart command (codes "drop") no_drop;
                        };
                    no_find = apart command (codes "find") no_find;
                  }))
                ] refl
          ] refl
    ] refl

-- ---- inputs of such lines only

abbrev answers_of : List (List ℕ) → List ℕ
answers_of ls = flat_map (λ line. reply (answer_of line)) ls

pub plain_turns : (r s : Routes) (ls xs : List (List ℕ)) → AllByRecursion IsPlainLine ls → MayAnswer r ls xs s
    → (replies xs ≡ answers_of ls) × (s ≡ r)
plain_turns r s [] [] plain turns = (refl, turns)
plain_turns r s [] (x ∷ xs) plain turns = absurd turns
plain_turns r s (l ∷ ls) [] plain turns = absurd turns
plain_turns r s (l ∷ ls) (x ∷ xs) plain turns =
    let first = (asks_nothing l x r turns.0 plain.0).0 turns.1 in
    let rest = plain_turns turns.0 s ls xs plain.1 turns.2 in
    (ap₂ (λ a b. reply a ++ b) first.0 rest.0, rest.1 ∙ first.1)

plain_answered : (r : Routes) (ls : List (List ℕ)) → AllByRecursion IsPlainLine ls
    → (xs : List (List ℕ)) × MayAnswer r ls xs r × (replies xs ≡ answers_of ls)
plain_answered r [] plain = ([], refl, refl)
plain_answered r (l ∷ ls) plain =
    let rest = plain_answered r ls plain.1 in (
      answer_of l ∷ rest.0,
      (r, (asks_nothing l (answer_of l) r r plain.0).1 (refl, refl), rest.1),
      ap (λ b. reply (answer_of l) ++ b) rest.2,
    )

pub one_output : PlainInputsHaveOneOutput
one_output input output plain = (
  λ h. h.1.2 ∙ (plain_turns no_routes h.0 (lines input) h.1.0 plain h.1.1).0,
  λ is. let some = plain_answered no_routes (lines input) plain in (no_routes, (some.0, some.1, is ∙ sym some.2)),
)
