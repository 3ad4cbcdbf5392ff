use Rattle.lists.proofs.Known.{◌≡◌, ◌∙◌, ◌||◌, ℕ, Bool, List, true, false, codes, fits, creates, sym, or_first, or_later}
use Rattle.lists.proofs.set_lines.creates.Goals as goal
use Rattle.lists.proofs.set_lines.creates.Goals.{then-fits, else-fits}

abbrev table : List ℕ → Bool
table line = fits (codes "add table inet *") line

abbrev v4_set : List ℕ → Bool
v4_set line = fits (codes "add set inet * * { type ipv4_addr; flags interval; }") line

abbrev v6_set : List ℕ → Bool
v6_set line = fits (codes "add set inet * * { type ipv6_addr; flags interval; }") line

pub returns-then-fits-2 : goal.returns-then-fits-2
returns-then-fits-2 c =
    let line = c.args.line.now in
    let value = c.if-fits.value in
    let joined : value ≡ (table line || v4_set line) = elim c.if-fits.branch [
      | then-fits w ↦ or_first value (table line) (v4_set line) c.if-fits-2.true (sym c.fits.ensures ∙ w.if-fits.true)
      | else-fits w ↦ or_later value (table line) (v4_set line) (sym c.fits.ensures ∙ w.if-fits.false)
          (w.value-is ∙ w.fits-else-fits.ensures)
    ] in
    or_first value (table line || v4_set line) (v6_set line) c.if-fits-2.true (sym joined ∙ c.if-fits-2.true)

pub returns-else-fits-2 : goal.returns-else-fits-2
returns-else-fits-2 c =
    let line = c.args.line.now in
    let value = c.if-fits.value in
    let joined : value ≡ (table line || v4_set line) = elim c.if-fits.branch [
      | then-fits w ↦ or_first value (table line) (v4_set line) (w.value-is ∙ w.if-fits.true)
          (sym c.fits.ensures ∙ w.if-fits.true)
      | else-fits w ↦ or_later value (table line) (v4_set line) (sym c.fits.ensures ∙ w.if-fits.false)
          (w.value-is ∙ w.fits-else-fits.ensures)
    ] in
    or_later c.fits-else-fits-2.result (table line || v4_set line) (v6_set line) (sym joined ∙ c.if-fits-2.false)
    c.fits-else-fits-2.ensures
