use Rattle.options.proofs.Known.{◌≡◌, ℕ, ◌∷◌, [], List, true, drop, arith, codes, begins}
use Rattle.options.proofs.reading.behind_dash.Goals as goal

dash : (word : List ℕ) → begins (codes "-") word ≡ true → word ≡ 45 ∷ drop 1 word
dash [] h = grind (arith, h)
dash (byte ∷ text) h = grind (arith, h)

pub returns-in-None : goal.returns-in-None
returns-in-None c = absurd (c.in-None.ensures.text 45 (drop 1 c.args.word.now) (omega arith)
    (dash c.args.word.now c.requires))
