use Rattle.lists.proofs.Known.{◌≡◌, ◌∙◌, ◌||◌, ℕ, Bool, List, true, false, codes, bytes_eq, fits, creates, is_nft_frame, sym, ap, or_first, or_later}
use Rattle.lists.proofs.set_lines.is_nft_frame.Goals as goal
use Rattle.lists.proofs.set_lines.is_nft_frame.Goals.{then-creates, else-creates, then-fits, else-fits}

abbrev flush : List ℕ → Bool
flush line = fits (codes "flush set inet * *") line

abbrev element : List ℕ → Bool
element line = fits (codes "add element inet * * {") line

abbrev end : List ℕ → Bool
end line = bytes_eq line (codes "}")

pub returns-then-fits-2 : goal.returns-then-fits-2
returns-then-fits-2 c =
    let line = c.args.line.now in
    let before : c.if-creates.value ≡ (creates line || flush line) = elim c.if-creates.branch [
      | then-creates v ↦ or_first c.if-creates.value (creates line) (flush line) (v.value-is ∙ v.if-creates.true)
          (sym c.creates.ensures ∙ v.if-creates.true)
      | else-creates v ↦ or_later c.if-creates.value (creates line) (flush line)
          (sym c.creates.ensures ∙ v.if-creates.false) (v.value-is ∙ v.fits.ensures)
    ] in
    let value = c.if-fits.value in
    let joined : value ≡ (creates line || flush line || element line) = elim c.if-fits.branch [
      | then-fits w ↦ or_first value (creates line || flush line) (element line) (w.value-is ∙ w.if-fits.true)
          (sym before ∙ w.if-fits.true)
      | else-fits w ↦ or_later value (creates line || flush line) (element line) (sym before ∙ w.if-fits.false)
          (w.value-is ∙ w.fits-else-fits.ensures)
    ] in
    or_first value (creates line || flush line || element line) (end line) c.if-fits-2.true
    (sym joined ∙ c.if-fits-2.true)

pub returns-else-fits-2 : goal.returns-else-fits-2
returns-else-fits-2 c =
    let line = c.args.line.now in
    let before : c.if-creates.value ≡ (creates line || flush line) = elim c.if-creates.branch [
      | then-creates v ↦ or_first c.if-creates.value (creates line) (flush line) (v.value-is ∙ v.if-creates.true)
          (sym c.creates.ensures ∙ v.if-creates.true)
      | else-creates v ↦ or_later c.if-creates.value (creates line) (flush line)
          (sym c.creates.ensures ∙ v.if-creates.false) (v.value-is ∙ v.fits.ensures)
    ] in
    let joined : c.if-fits.value ≡ (creates line || flush line || element line) = elim c.if-fits.branch [
      | then-fits w ↦ or_first c.if-fits.value (creates line || flush line) (element line)
          (w.value-is ∙ w.if-fits.true) (sym before ∙ w.if-fits.true)
      | else-fits w ↦ or_later c.if-fits.value (creates line || flush line) (element line)
          (sym before ∙ w.if-fits.false) (w.value-is ∙ w.fits-else-fits.ensures)
    ] in
    or_later c.eq.result (creates line || flush line || element line) (end line) (sym joined ∙ c.if-fits-2.false)
    (c.eq.ensures ∙ ap (bytes_eq line) c.as_slice.ensures)
