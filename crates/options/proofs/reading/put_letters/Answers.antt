use Rattle.options.proofs.Known.{◌≡◌, ◌≢◌, ◌∙◌, ℕ, ◌∷◌, ◌<◌, [], List, Bool, false, refl, sym, arith, length, ◌==◌, true≢false, letters, letters_mode, Row}
use Rattle.std.proofs.Common.{nat_lt}
use Rattle.options.specs.declared.items.Item.TheVariants as says
use Rattle.options.specs.declared.items.Mode.TheVariants as modes
use Rattle.options.proofs.reading.put_letters.Goals as goal

-- after the letters comes no character of ASCII
module _ (rows : List Row) (first : Bool) (word : List ℕ) where
  stuck : (text : List ℕ) → ((letter : ℕ) (rest : List ℕ) → letter < 128 → text ≢ letter ∷ rest)
      → (length text == 0) ≡ false
      → (letters rows first word text ≡ says.Unknown word ∷ []) × (letters_mode rows text ≡ modes.Free)
  stuck [] none some = absurd (true≢false some)
  stuck (letter ∷ text) none some =
      let large : nat_lt letter 128 ≡ false = grind (arith, none letter text) in
      (rw large refl, rw large refl)

pub returns-in_ok-push-3-clause-items : goal.returns-in_ok-push-3-clause-items
returns-in_ok-push-3-clause-items c =
    let end = stuck c.args.rows.now c.letters.first c.args.word.now c.letters.text.now c.in_default.ensures.text
    (sym c.is_empty.ensures ∙ c.if-not-is_empty.true) in
    let word = c.new-then-not-is_empty.ensures in
    let pushed = c.in_ok-push-3.ensures.items in
    let same = rw end.0 at c.letters.invariant.items in
    let text = c.behind_dash-text.ensures in
    cc

pub returns-in_ok-push-3-clause-mode : goal.returns-in_ok-push-3-clause-mode
returns-in_ok-push-3-clause-mode c =
    let end = stuck c.args.rows.now c.letters.first c.args.word.now c.letters.text.now c.in_default.ensures.text
    (sym c.is_empty.ensures ∙ c.if-not-is_empty.true) in
    let same = c.letters.invariant.mode in
    let text = c.behind_dash-text.ensures in
    cc
