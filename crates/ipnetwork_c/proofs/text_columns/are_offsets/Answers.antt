use Rattle.ipnetwork_c.proofs.Known.{◌≡◌, ◌∙◌, ℕ, ◌+◌, sym, subst, length, arith, leb-true, le-leb, no_true, IsLast, last_here, rise_on, fall_on, fall_here, are_where_last_fits}
use Rattle.ipnetwork_c.proofs.Offsets.{last_fits}
use Rattle.ipnetwork_c.proofs.text_columns.are_offsets.Goals as goal
use Rattle.ipnetwork_c.proofs.text_columns.are_offsets.Goals.{then-offset-last, else-offset-last}

pub loop-offset-preserved : goal.loop-offset-preserved
loop-offset-preserved c =
    let offsets = c.args.offsets.now in
    let count = c.loop-offset.offset-index in
    let last = c.loop-offset.last in
    let known = c.loop-offset.invariant in
    elim c.if-offset-last.branch [
      | then-offset-last w ↦ record {
        rise = λ calm. absurd (no_true (sym calm ∙ w.falls-is));
        fall = λ _. fall_here offsets count last known.last w.if-offset-last.true;
        last = subst (λ (n : ℕ). IsLast offsets (count + 1) n) (sym w.last-is) (last_here offsets count);
      }
      | else-offset-last w ↦ record {
        rise = λ calm. rise_on offsets count last (known.rise (sym w.falls-is ∙ calm)) known.last
            w.if-offset-last.false;
        fall = λ fell. fall_on offsets count (known.fall (sym w.falls-is ∙ fell));
        last = subst (λ (n : ℕ). IsLast offsets (count + 1) n) (sym w.last-is) (last_here offsets count);
      }
    ]

pub returns : goal.returns
returns c =
    let texts = c.args.texts.now in
    let offsets = c.args.offsets.now in
    let count = c.loop-offset.offset-index in
    let last = c.loop-offset.last in
    let known = c.loop-offset.invariant in
    let all : count ≡ length offsets = omega arith in (
      (λ fits. are_where_last_fits texts offsets count last all (known.rise c.if-falls.false) known.last
          (leb-true last (length texts) fits)),
      (λ are. le-leb last (length texts) (last_fits texts offsets count last all known.last are)),
    )
