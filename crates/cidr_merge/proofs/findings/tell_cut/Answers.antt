use Rattle.cidr_merge.proofs.Known.{◌≡◌, ◌++◌, ◌∙◌, ℕ, List, [], ap, append-nil, append_assoc, place_text, tells_same}
use Rattle.std.specs.Prelude.{codes}
use Rattle.program.specs.Escapes.{escaped}
use Rattle.cidr_merge.proofs.findings.tell_cut.Goals as goal

one_text : (place what next line end : List ℕ)
    → ((((place ++ what) ++ []) ++ next) ++ line) ++ end ≡ ((place ++ (what ++ next)) ++ line) ++ end
one_text place what next line end =
    ap (λ text. (text ++ line) ++ end)
    (ap (λ text. text ++ next) (append-nil (place ++ what)) ∙ append_assoc place what next)

pub returns : goal.returns
returns g c =
    let line = c.args.line.now in
    tells_same c.args.output.now c.tell_line.new.output _ _
    (one_text (place_text line.name.now line.number) (codes ": no line feed at the end") (codes ": may be cut off: ")
    (escaped line.text.now) (codes "\n")) c.tell_line.ensures
