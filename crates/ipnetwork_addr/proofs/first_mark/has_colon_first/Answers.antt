use Rattle.ipnetwork_addr.proofs.Known.{◌≡◌, ℕ, ◌<◌, true, false, sym, ap, ◌∙◌, take-append-drop, take, drop, arith, colon_first, first_is}
use Rattle.ipnetwork_addr.proofs.first_mark.has_colon_first.Goals as goal

-- one number is less than another if numbers equal to them are
less_by : {a b x y : ℕ} → a ≡ x → b ≡ y → a < b → x < y
less_by left right less = omega (arith, left, right, less)

pub returns-then-colon-dot : goal.returns-then-colon-dot
returns-then-colon-dot c =
    let text = c.args.text.now in
    let less : c.lanes_before-colon.result < c.lanes_before-dot.result = omega arith in
    sym (ap colon_first (sym (take-append-drop 8 text)) ∙ first_is true (take 8 text) (drop 8 text)
    (less_by c.lanes_before-colon.ensures c.lanes_before-dot.ensures less))

pub returns-then-dot-colon : goal.returns-then-dot-colon
returns-then-dot-colon c =
    let text = c.args.text.now in
    let less : c.lanes_before-dot.result < c.lanes_before-colon.result = omega arith in
    sym (ap colon_first (sym (take-append-drop 8 text)) ∙ first_is false (take 8 text) (drop 8 text)
    (less_by c.lanes_before-dot.ensures c.lanes_before-colon.ensures less))
