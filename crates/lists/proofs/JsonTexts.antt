-- The documents of lines.
use Rattle.lists.proofs.Words.{◌≡◌, ◌<◌, ◌+◌, ◌∙◌, ℕ, suc, List, [], ◌∷◌, ◌++◌, refl, sym, ap, subst, arith, length, append-nil, append_assoc, take, drop, drop-cons, get_or, take-append-drop, Option, Some, None, option_and_then, option_map, Data, Result, Ok, Err, is_err, is_ok, if◌then◌else◌, true≢false, false, map, map_push, read, lines, document_of_line, documents_of_lines, if_any, FailsLine, FailsLines, are_documents_of_lines, serde_json_on_literals}
use Rattle.lists.specs.declared.json_texts.LinesFault.{LinesFault}
use Rattle.lists.specs.declared.json_texts.LinesFault.TheVariants as unread

-- some documents, and others after them
abbrev with_others : Option (List Data) → Option (List Data) → Option (List Data)
with_others some others = option_and_then (λ first. option_map (λ more. first ++ more) others) some

none_with_others : (some : Option (List Data)) → with_others some None ≡ None
none_with_others None = refl
none_with_others (Some first) = refl

others_alone : (others : Option (List Data)) → others ≡ with_others (Some []) others
others_alone None = refl
others_alone (Some more) = refl

with_more_others : (one two three : Option (List Data))
    → with_others one (with_others two three) ≡ with_others (with_others one two) three
with_more_others None two three = refl
with_more_others (Some first) None three = refl
with_more_others (Some first) (Some second) None = refl
with_more_others (Some first) (Some second) (Some third) = ap Some (sym (append_assoc first second third))

lines_joined : (front others : List (List ℕ))
    → documents_of_lines (front ++ others) ≡ with_others (documents_of_lines front) (documents_of_lines others)
lines_joined [] others = others_alone (documents_of_lines others)
lines_joined (line ∷ front) others = ap (with_others (document_of_line line)) (lines_joined front others)
    ∙ with_more_others (document_of_line line) (documents_of_lines front) (documents_of_lines others)

-- a line more
pub line_added : {X : Type 0} (now : X → List ℕ) (done : List X) (line : X) (before some after : List Data)
    → documents_of_lines (map now done) ≡ Some before → document_of_line (now line) ≡ Some some → after ≡ before ++ some
    → documents_of_lines (map now (done ++ line ∷ [])) ≡ Some after
line_added now done line before some after read one same = ap documents_of_lines (map_push now done line)
    ∙ lines_joined (map now done) (now line ∷ [])
    ∙ ap (λ (o : Option (List Data)). with_others o (with_others (document_of_line (now line)) (Some []))) read
    ∙ ap (λ (o : Option (List Data)). with_others (Some before) (with_others o (Some []))) one
    ∙ ap (λ (o : List Data). Some (before ++ o)) (append-nil some) ∙ ap Some (sym same)

-- a value that was pushed is the last
pub pushed_last : {A T E : Type 0} (result : Result T E) (before after : List A) (x : A) → is_err result ≡ false
    → after ≡ (if is_ok result then before ++ x ∷ [] else before) → after ≡ before ++ x ∷ []
pushed_last (Ok done) before after x works e = e
pushed_last (Err fault) before after x works e = absurd (true≢false works)

-- a line that is no document
pub line_fails : (all front : List (List ℕ)) (line one : List ℕ) (n : ℕ) → front ≡ take n all → n < length all
    → line ≡ get_or all n one → document_of_line line ≡ None → documents_of_lines all ≡ None
line_fails all front line one n first within here fails =
    let others = drop (suc n) all in
    let cut : drop n all ≡ line ∷ others = drop-cons all n one within ∙ ap (λ (l : List ℕ). l ∷ others) (sym here) in
    ap documents_of_lines (sym (take-append-drop n all)) ∙ lines_joined (take n all) (drop n all)
    ∙ ap (λ (ls : List (List ℕ)). with_others (documents_of_lines (take n all)) (documents_of_lines ls)) cut
    ∙ ap (λ (o : Option (List Data)). with_others (documents_of_lines (take n all)) (with_others o (documents_of_lines others))) fails
    ∙ none_with_others (documents_of_lines (take n all))

-- a text with a line is not empty
pub line_has_text : (text : List ℕ) (n : ℕ) → n < length (lines text) → 0 < length text
line_has_text [] n h = absurd (omega (arith, h))
line_has_text (byte ∷ text) n h = omega arith

-- the reading stops at a line
pub stops_at_line : (text : List ℕ) (front : List (List ℕ)) (line one : List ℕ) (n : ℕ) → front ≡ take n (lines text)
    → (n < length (lines text)) × (line ≡ get_or (lines text) n one) → (fault : LinesFault) → FailsLine line fault
    → FailsLines text fault
stops_at_line text front line one n first here (unread.NotJson told) fails =
    ap if_any (line_fails (lines text) front line one n first here.0 here.1 fails)
stops_at_line text front line one n first here unread.OutOfMemory fails = line_has_text text n here.0

-- all lines were read: none was a document, or some were
pub none_read : (text : List ℕ) (all : List (List ℕ)) (documents : List Data) → all ≡ lines text
    → documents_of_lines all ≡ Some documents → length documents ≡ 0 → are_documents_of_lines text ≡ None
none_read text all [] whole done none =
    ap (λ (ls : List (List ℕ)). if_any (documents_of_lines ls)) (sym whole) ∙ ap if_any done
none_read text all (first ∷ others) whole done none = absurd (omega (arith, none))

pub some_read : (text : List ℕ) (all : List (List ℕ)) (documents : List Data) → all ≡ lines text
    → documents_of_lines all ≡ Some documents → 0 < length documents → are_documents_of_lines text ≡ Some documents
some_read text all [] whole done some = absurd (omega (arith, some))
some_read text all (first ∷ others) whole done some =
    ap (λ (ls : List (List ℕ)). if_any (documents_of_lines ls)) (sym whole) ∙ ap if_any done

-- nor is a document
pub document_has_text : (text : List ℕ) (document : Data) → read text ≡ Some document → 0 < length text
unfolding serde_json_on_literals
document_has_text [] document h = absurd (let e : None ≡ Some document = h in cc)
document_has_text (byte ∷ text) document h = omega arith
