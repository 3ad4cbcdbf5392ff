-- Bytes that are added to an output, in turn.
use Rattle.lines.proofs.Words.{subst, ◌≡◌, ℕ, List, [], ◌++◌, sym, ap, ◌∙◌, append_assoc, append-nil, Option, Result, Ok, Err, OnOk, OnErr, Appends, Appends-nil, Appends-trans, Puts, AppendsBeginning}

pub on_err_any : {T E P : Type 0} (result : Result T E) → P → OnErr result P
on_err_any (Ok x) p = tt
on_err_any (Err e) p = p

pub puts_nothing : (held : Option (List ℕ)) (waits : List ℕ) → Puts held waits held waits []
puts_nothing held waits = ([], Appends-nil held, append-nil waits)

pub puts_waiting : (held : Option (List ℕ)) (waited waits added : List ℕ) → waits ≡ waited ++ added
    → Puts held waited held waits added
puts_waiting held waited waits added e = ([], Appends-nil held, sym e)

pub puts_directly : (held holds : Option (List ℕ)) (waits added : List ℕ) → waits ≡ [] → Appends held holds added
    → Puts held [] holds waits added
puts_directly held holds waits added e h = (added, h, sym (ap (λ t. added ++ t) e ∙ append-nil added))

pub put_directly_ok : {T E : Type 0} (result : Result T E) (held writer holds : Option (List ℕ)) (waits added : List ℕ)
    → held ≡ writer → waits ≡ []
    → OnOk result (Appends writer holds added) → OnOk result (Puts held [] holds waits added)
put_directly_ok (Ok x) held writer holds waits added is none h =
    puts_directly held holds waits added none (subst (λ w. Appends w holds added) (sym is) h)
put_directly_ok (Err e) held writer holds waits added is none h = tt

-- the bytes that waited are written, and none are added
pub puts_out : (held holds : Option (List ℕ)) (waited waits : List ℕ) → waits ≡ [] → Appends held holds waited
    → Puts held waited holds waits []
puts_out held holds waited waits e h =
    (waited, h, append-nil waited ∙ sym (ap (λ t. waited ++ t) e ∙ append-nil waited))

pub puts_behind : (held mid holds : Option (List ℕ)) (waited waits added : List ℕ) → Appends held mid waited
    → Puts mid [] holds waits added → Puts held waited holds waits added
puts_behind held mid holds waited waits added h p = (
  waited ++ p.0,
  Appends-trans held mid holds waited p.0 h p.1,
  ap (λ t. waited ++ t) p.2
      ∙ sym (append_assoc waited p.0 waits),
)

pub puts_more : (held mid holds : Option (List ℕ)) (waited between waits first second : List ℕ)
    → Puts held waited mid between first → Puts mid between holds waits second
    → Puts held waited holds waits (first ++ second)
puts_more held mid holds waited between waits first second p q = (
  p.0 ++ q.0,
  Appends-trans held mid holds p.0 q.0 p.1 q.1,
  sym (append_assoc waited first second) ∙ ap (λ t. t ++ second) p.2 ∙ append_assoc p.0 between second
      ∙ ap (λ t. p.0 ++ t) q.2 ∙ sym (append_assoc p.0 q.0 waits),
)

pub put_behind_ok : {T E : Type 0} (result : Result T E) (held mid holds : Option (List ℕ))
    (waited waits added : List ℕ) → Appends held mid waited
    → OnOk result (Puts mid [] holds waits added) → OnOk result (Puts held waited holds waits added)
put_behind_ok (Ok x) held mid holds waited waits added h p = puts_behind held mid holds waited waits added h p
put_behind_ok (Err e) held mid holds waited waits added h p = tt

-- ---- a writer that failed

pub begins_within : (held holds : Option (List ℕ)) (bytes more : List ℕ) → AppendsBeginning held holds bytes
    → AppendsBeginning held holds (bytes ++ more)
begins_within held holds bytes more b =
    (b.0, b.1, (b.2.0 ++ more, ap (λ t. t ++ more) b.2.1 ∙ append_assoc b.0 b.2.0 more))

pub begins_behind : (held mid holds : Option (List ℕ)) (front bytes : List ℕ) → Appends held mid front
    → AppendsBeginning mid holds bytes → AppendsBeginning held holds (front ++ bytes)
begins_behind held mid holds front bytes h b = (
  front ++ b.0,
  Appends-trans held mid holds front b.0 h b.1,
  (b.2.0, ap (λ t. front ++ t) b.2.1 ∙ sym (append_assoc front b.0 b.2.0)),
)

-- a writer that failed after some bytes were added
pub begins_after_puts : (held mid holds : Option (List ℕ)) (waited between first second : List ℕ)
    → Puts held waited mid between first → AppendsBeginning mid holds (between ++ second)
    → AppendsBeginning held holds (waited ++ (first ++ second))
begins_after_puts held mid holds waited between first second p b = (
  p.0 ++ b.0,
  Appends-trans held mid holds p.0 b.0 p.1 b.1,
  (
    b.2.0,
    sym (append_assoc waited first second) ∙ ap (λ t. t ++ second) p.2 ∙ append_assoc p.0 between second
        ∙ ap (λ t. p.0 ++ t) b.2.1 ∙ sym (append_assoc p.0 b.0 b.2.0),
  ),
)

pub begins_behind_err : {T E : Type 0} (result : Result T E) (held mid holds : Option (List ℕ)) (front bytes : List ℕ)
    → Appends held mid front
    → OnErr result (AppendsBeginning mid holds bytes) → OnErr result (AppendsBeginning held holds (front ++ bytes))
begins_behind_err (Ok x) held mid holds front bytes h b = tt
begins_behind_err (Err e) held mid holds front bytes h b = begins_behind held mid holds front bytes h b
