use Rattle.lists.proofs.Known.{◌≡◌, ◌∙◌, ℕ, Ok, Option, GivesLength, ap, subst, take, drop, NamesV4, trimmed, after_word, first_word, no_address, no_length, no_number, rest_of}
use Rattle.lists.proofs.masks.read_masked.Goals as goal

pub returns-in_default : goal.returns-in_default
returns-in_default c =
    let text = c.args.text.now in
    let len = c.front_len-count.ensures.len in
    let second : c.trim.result.now ≡ after_word text = c.trim.ensures
    ∙ ap trimmed (rest_of text c.front_len-count.result) ∙ ap (λ n. trimmed (drop n text)) len in
    no_number text (λ m. subst (λ t. ¬ (NamesV4 t m)) second (c.in_default.ensures.1 m))

pub returns-in_default-read_bytes : goal.returns-in_default-read_bytes
returns-in_default-read_bytes c =
    let text = c.args.text.now in
    no_address text (λ a. subst (λ n. ¬ (NamesV4 (take n text) a)) c.front_len-count.ensures.len
    (c.in_default-read_bytes.ensures.1 a))

pub returns-in-Ok-None : goal.returns-in-Ok-None
returns-in-Ok-None c =
    let text = c.args.text.now in
    let len = c.front_len-count.ensures.len in
    let second : c.trim.result.now ≡ after_word text = c.trim.ensures
    ∙ ap trimmed (rest_of text c.front_len-count.result) ∙ ap (λ n. trimmed (drop n text)) len in
    let none = subst (λ (o : Option ℕ). GivesLength c.in-Ok-read_bytes.address c.in-Ok.number (Ok o))
    c.in-Ok-None.field-0-is c.in-Ok-None.ensures in
    no_length c.v4_text_names_one.ensures text c.in-Ok-read_bytes.address c.in-Ok.number
    (subst (λ n. NamesV4 (take n text) c.in-Ok-read_bytes.address) len c.in-Ok-read_bytes.ensures)
    (subst (λ t. NamesV4 t c.in-Ok.number) second c.in-Ok.ensures) none.0 none.1
