use Rattle.lists.proofs.Known.{◌≢◌, ◌∙◌, ap, subst, inl, [], IsEntryCause, NamesEntry, Entry, trimmed, not_empty}
use Rattle.lists.proofs.entry.read_line.Goals as goal

pub returns-in-Err : goal.returns-in-Err
returns-in-Err c =
    let whole = c.trim-text.ensures ∙ ap trimmed c.without_comment.ensures in
    let refused = subst (λ text. IsEntryCause text c.in-Err.fault × ((entry : Entry) → ¬ (NamesEntry text entry))) whole
    c.in-Err.ensures in
    let some = subst (λ text. text ≢ []) whole (not_empty c.trim-text.result.now (c.if-is_empty.ensures)) in
    (some, inl (refused.0, refused.1))
