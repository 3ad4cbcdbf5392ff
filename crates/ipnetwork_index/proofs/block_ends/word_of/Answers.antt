use Rattle.ipnetwork_index.proofs.Known.{◌≡◌, ℕ, ◌+◌, ◌*◌, ◌/◌, ◌%◌, ◌^◌, ◌<◌, ◌≤◌, get_or, arith, refl, subst, sym, pow_mono, IsScanned, scanned_more, told_all}
use Rattle.ipnetwork_index.proofs.block_ends.word_of.Goals as goal
use Rattle.ipnetwork_index.proofs.block_ends.word_of.Goals.{then-loop-at-test+else-lasts-at, else-loop-at-test}

pub loop-at-preserved : goal.loop-at-preserved
loop-at-preserved c =
    let block : ℕ = get_or c.args.lasts.now c.loop-at.at 0 / 256 % 32 in
    let short : block < 32 = omega arith in
    let least : block ≤ 32 = omega (arith, short) in
    let up : 2 ^ block ≤ 2 ^ 32 = pow_mono least in
    let bit : 1 * 2 ^ block % 18446744073709551616 ≡ 2 ^ block = omega (arith, up) in
    subst (λ (n : ℕ). IsScanned c.args.lasts.now c.args.part c.args.start (c.loop-at.ends + n)
    (block + 1) (c.loop-at.at + 1)) (sym bit)
    (scanned_more _ _ _ _ _ _ c.loop-at.invariant c.loop-at-test.true _ block refl
    c.if-lasts-at.true c.if-block-part.false c.if-lasts-at-lt255.false refl)

pub returns : goal.returns
returns c = λ some. elim c.loop-at-test.branch [
  | then-loop-at-test+else-lasts-at w ↦
      told_all _ _ _ _ _ _ c.loop-at.invariant w.loop-at-test.true _ w.if-lasts-at.false
      (omega (arith, c.requires.within, c.requires.few))
  | else-loop-at-test w ↦ absurd (omega (arith, w.loop-at-test.false, c.if-at-lasts.false, c.loop-at.invariant.within))
]
