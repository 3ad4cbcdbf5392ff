-- Parts of an input that do not change the routes.
use Rattle.cidr.proofs.Words.{◌≡◌, ◌≢◌, ℕ, Bool, true, false, cond, List, [], ◌∷◌, ◌++◌, length, drop, codes, refl, sym, ap, ap₂, ◌∙◌, subst, append_assoc, AllByRecursion, bytes_eq, nat_lt, lines, drop-append_seam, ip_of, IpAddr, ip_network_of, read_answer, read4_answer, read6_answer, ends_answer, has_answer, has4_answer, rel_answer, next_routes, answers_from, request_answer, replies, EndsALine, IsAskingLine, AskingPartsRunAfterRoutes, Request, Plain, too_long, unknown, adding, dropping, finding, route_number_of, one_word_request, two_words_request, request_in, request_of, Routes, no_routes, words}
use Rattle.std.specs.Prelude.{Option, None, Some}
use Rattle.cidr.proofs.Computed.{routes_after}
use Rattle.cidr.proofs.PlainLines.{differs}
use Rattle.cidr.proofs.Splits.{lines_of_both}
use Rattle.cidr.proofs.Turns.{replies-append}

-- the request does not change the routes
abbrev Leaves : Request → Type 0
Leaves request = (routes : Routes) → next_routes routes request ≡ routes

one_of : (test : Bool) (x y : Request) → Leaves x → Leaves y → Leaves (cond test x y)
one_of true x y first second = first
one_of false x y first second = second

-- if a test fails, the second request is chosen
second_of : (test : Bool) (x y : Request) → test ≡ false → Leaves y → Leaves (cond test x y)
second_of test x y fails leaves = subst (λ (b : Bool). Leaves (cond b x y)) (sym fails) leaves

finding_leaves : (found : Option IpAddr) → Leaves (finding found)
finding_leaves None routes = refl
finding_leaves (Some address) routes = refl

one_word : (command word : List ℕ) → command ≢ codes "drop" → Leaves (one_word_request command word)
unfolding one_word_request
one_word command word no_drop =
    one_of (bytes_eq command (codes "read")) (Plain (read_answer word)) _ (λ routes. refl)
    (one_of (bytes_eq command (codes "ends")) (Plain (ends_answer word)) _ (λ routes. refl)
    (one_of (bytes_eq command (codes "read4")) (Plain (read4_answer word)) _ (λ routes. refl)
    (one_of (bytes_eq command (codes "read6")) (Plain (read6_answer word)) _ (λ routes. refl)
    (second_of _ (dropping (ip_network_of word)) _ (differs command (codes "drop") no_drop)
    (one_of (bytes_eq command (codes "find")) (finding (ip_of word)) unknown (finding_leaves (ip_of word))
    (λ routes. refl))))))

two_words : (command first second : List ℕ) → command ≢ codes "add" → Leaves (two_words_request command first second)
unfolding two_words_request
two_words command first second no_add =
    one_of (bytes_eq command (codes "has")) (Plain (has_answer first second)) _ (λ routes. refl)
    (one_of (bytes_eq command (codes "rel")) (Plain (rel_answer first second)) _ (λ routes. refl)
    (one_of (bytes_eq command (codes "has4")) (Plain (has4_answer first second)) _ (λ routes. refl)
    (second_of _ (adding (ip_network_of first) (route_number_of second)) unknown (differs command (codes "add") no_add)
    (λ routes. refl))))

asking_words : (command : List ℕ) (others : List (List ℕ)) → command ≢ codes "add" → command ≢ codes "drop"
    → Leaves (request_in (command ∷ others))
unfolding request_in
asking_words command [] no_add no_drop = λ routes. refl
asking_words command (word ∷ []) no_add no_drop = one_word command word no_drop
asking_words command (first ∷ second ∷ []) no_add no_drop = two_words command first second no_add
asking_words command (first ∷ second ∷ third ∷ others) no_add no_drop = λ routes. refl

asking_leaves : (line : List ℕ) → IsAskingLine line → Leaves (request_of line)
unfolding request_of
asking_leaves line h =
    one_of (nat_lt 1024 (length line)) too_long (request_in (words line)) (λ routes. refl)
    (subst (λ (these : List (List ℕ)). Leaves (request_in these)) (sym h.cut)
    (asking_words h.command h.others h.no_add h.no_drop))

-- ---- the routes that lines leave

asking_after : (routes : Routes) (ls : List (List ℕ)) → AllByRecursion IsAskingLine ls → routes_after routes ls ≡ routes
asking_after routes [] asking = refl
asking_after routes (line ∷ ls) asking = ap (λ r. routes_after r ls) (asking_leaves line asking.0 routes)
    ∙ asking_after routes ls asking.1

answers-append : (routes : Routes) (ls ms : List (List ℕ)) → answers_from routes (ls ++ ms) ≡ answers_from routes ls
    ++ answers_from (routes_after routes ls) ms
answers-append routes [] ms = refl
answers-append routes (line ∷ ls) ms =
    ap (λ answers. request_answer routes (request_of line) ∷ answers)
    (answers-append (next_routes routes (request_of line)) ls ms)

-- ---- parts

abbrev output_from : Routes → List ℕ → List ℕ
output_from routes input = replies (answers_from routes (lines input))

output_of_both : (routes : Routes) (front back : List ℕ) → EndsALine front → output_from routes
    (front ++ back) ≡ output_from routes front ++ output_from (routes_after routes (lines front)) back
output_of_both routes front back ends =
    ap (λ ls. replies (answers_from routes ls)) (lines_of_both front back ends)
    ∙ ap replies (answers-append routes (lines front) (lines back))
    ∙ replies-append (answers_from routes (lines front)) (answers_from (routes_after routes (lines front)) (lines back))

pub parts_after_routes : AskingPartsRunAfterRoutes
parts_after_routes routes front back ends front_ends asking =
    let after = routes_after no_routes (lines routes) in
    let first = output_from no_routes routes in
    let one = output_from after front in
    let two = output_from after back in
    let whole : output_from no_routes (routes ++ (front ++ back)) ≡ first ++ (one ++ two) =
    output_of_both no_routes routes (front ++ back) ends
    ∙ ap (λ o. first ++ o) (output_of_both after front back front_ends
    ∙ ap (λ r. one ++ output_from r back) (asking_after after (lines front) asking)) in
    let rest : drop (length first) (output_from no_routes (routes ++ back)) ≡ two =
    ap (drop (length first)) (output_of_both no_routes routes back ends) ∙ drop-append_seam first two in
    whole ∙ sym (append_assoc first one two)
    ∙ ap₂ (λ a b. a ++ b) (sym (output_of_both no_routes routes front ends)) (sym rest)
