use Rattle.line_addresses.proofs.Known.{ap, arith, ◌∙◌, slice_get, behind_blank, word_first, no_words, first_word, later_word}
use Rattle.line_addresses.proofs.word.word_of.Goals as goal

pub words-preserved-then-end-at : goal.words-preserved-then-end-at
words-preserved-then-end-at c = record {
  within = omega (arith, c.words-test.true);
  same = c.words.invariant.same ∙ ap (λ l. slice_get l c.words.more) (behind_blank c.args.line.now c.words.at
      c.word_end-end.result c.words-test.true c.word_end-end.ensures c.if-end-at.true);
}

pub words-preserved : goal.words-preserved
words-preserved c = record {
  within = c.word_end-end.ensures.within;
  same = c.words.invariant.same ∙ later_word _ _ _ c.words.more (omega (arith, c.if-more-eq0.false))
      (word_first c.args.line.now c.words.at c.word_end-end.result c.word_end-end.ensures c.if-end-at.false);
}

pub returns-then-more-eq0 : goal.returns-then-more-eq0
returns-then-more-eq0 c =
    c.words.invariant.same ∙ first_word _ _ _ c.words.more c.if-more-eq0.true
    (word_first c.args.line.now c.words.at c.word_end-end.result c.word_end-end.ensures c.if-end-at.false)

pub returns : goal.returns
returns c = c.words.invariant.same
    ∙ ap (λ l. slice_get l c.words.more) (no_words c.args.line.now c.words.at c.words-test.false)
