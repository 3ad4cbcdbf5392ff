-- What is written where a log stops, and what was put and then written.
use Rattle.program.proofs.Words.{◌≡◌, ◌++◌, ◌∙◌, ℕ, List, inl, inr, refl, sym, ap, subst, append_assoc, append-nil, Option, IsTrue, Appends, Appends-trans, Written, Puts, AppendsBeginning, Wrote, StopsBy, LogFault, []}
use Rattle.program.specs.declared.log_fault.LogFault.TheVariants as faults

-- ---- what is written

pub stops_else : {W : Type 0} (fault : LogFault) (old new : Written W) → ¬ (fault ≡ faults.Write) → Wrote old new []
    → StopsBy fault old new
stops_else faults.Read old new not h = h
stops_else faults.Write old new not h = absurd (not refl)
stops_else faults.Address old new not h = h
stops_else faults.Length old new not h = h
stops_else faults.Endless old new not h = h

pub stops_failed : {W : Type 0} (fault : LogFault) (old new : Written W) → fault ≡ faults.Write → new ≡ old
    → StopsBy fault old new
stops_failed fault old new is same = subst (λ (f : LogFault). StopsBy f old new) (sym is) same

pub handed_all : {W : Type 0} (old new : Written W) → Appends old.holds new.holds old.waits → Wrote old new []
handed_all old new h = inl (subst (Appends old.holds new.holds) (sym (append-nil old.waits)) h)

pub handed_some : {W : Type 0} (old new : Written W) → IsTrue new.failed
    → AppendsBeginning old.holds new.holds old.waits → Wrote old new []
handed_some old new failed h =
    inr (failed, subst (AppendsBeginning old.holds new.holds) (sym (append-nil old.waits)) h)

-- ---- what was put and then written

-- what waited after some bytes were put was written, and more
pub puts_then_all : (held mid holds : Option (List ℕ)) (waited between added more : List ℕ)
    → Puts held waited mid between added → Appends mid holds (between ++ more)
    → Appends held holds (waited ++ (added ++ more))
puts_then_all held mid holds waited between added more p h =
    subst (Appends held holds)
    (sym (append_assoc p.0 between more) ∙ ap (λ t. t ++ more) (sym p.2) ∙ append_assoc waited added more)
    (Appends-trans held mid holds p.0 (between ++ more) p.1 h)
