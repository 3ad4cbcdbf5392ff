use Rattle.cidr_join.proofs.Known.{◌≡◌, ◌∙◌, ◌++◌, ℕ, Bool, List, [], refl, sym, ap, subst, if◌then◌else◌, Option, FailsIn, Prints, puts_nothing, IpNetwork, feed_behind, failed_now, Finds, mark_of, shown_in, shown_of, left_none, line_gives, line_refused, shown_here}
use Rattle.cidr_join.specs.declared.found.Found.TheVariants as founds
use Rattle.cidr_join.proofs.log.join_line.Goals as goal

pub returns-then-refuses-clause-err : goal.returns-then-refuses-clause-err
returns-then-refuses-clause-err g c = (
  line_refused c.args.join.now c.args.seen.now c.args.line.now (c.args.whole.now ++ feed_behind c.args.end)
      c.requires.short c.network_in-asked.result c.network_in-asked.ensures shown_in
      (sym c.refuses.ensures ∙ c.if-refuses.true),
  refl,
)

pub returns-then-leaves_out-clause-ok : goal.returns-then-leaves_out-clause-ok
returns-then-leaves_out-clause-ok g c =
    let join = c.args.join.now in
    let asked = c.network_in-asked.result in
    let line = c.args.line.now in
    let text = c.args.whole.now ++ feed_behind c.args.end in
    let left = sym c.leaves_out.ensures ∙ c.if-leaves_out.true in
    let nothing : [] ≡ shown_in join asked founds.Nothing line text =
    sym (shown_here join c.args.seen.now line text c.requires.short asked c.network_in-asked.ensures founds.Nothing
    ∙ ap (λ (b : Bool). if b then [] else shown_of join.last (mark_of founds.Nothing) line text) left) in (
      shown_in join asked founds.Nothing line text,
      line_gives join c.args.seen.now line text c.requires.short asked c.network_in-asked.ensures shown_in
          c.add.new.self founds.Nothing
          (sym c.refuses.ensures ∙ c.if-refuses.false)
          (subst (λ (a : Option IpNetwork). Finds join a founds.Nothing) (sym (left_none join.bad asked left)) refl)
          (rw c.is_some.ensures at c.add.ensures),
      subst (λ (t : List ℕ). Prints c.args.output.now c.args.output.now t) nothing (puts_nothing _ _),
    )

pub returns-in-Ok-clause-ok : goal.returns-in-Ok-clause-ok
returns-in-Ok-clause-ok g c =
    let join = c.args.join.now in
    let asked = c.network_in-asked.result in
    let line = c.args.line.now in
    let text = c.args.whole.now ++ feed_behind c.args.end in
    let found = c.find-found.result in
    let stays = sym c.leaves_out.ensures ∙ c.if-leaves_out.false in
    let shown = shown_here join c.args.seen.now line text c.requires.short asked c.network_in-asked.ensures found
    ∙ ap (λ (b : Bool). if b then [] else shown_of join.last (mark_of found) line text) stays in (
      shown_in join asked found line text,
      line_gives join c.args.seen.now line text c.requires.short asked c.network_in-asked.ensures shown_in
          c.add.new.self found
          (sym c.refuses.ensures ∙ c.if-refuses.false)
          c.find-found.ensures (rw c.is_some.ensures at c.add.ensures),
      subst (λ (t : List ℕ). Prints c.args.output.now c.print_line.new.output t) (sym shown) c.in-Ok.ensures.ok,
    )

pub returns-in-Err-clause-err : goal.returns-in-Err-clause-err
returns-in-Err-clause-err g c =
    let join = c.args.join.now in
    let asked = c.network_in-asked.result in
    let line = c.args.line.now in
    let text = c.args.whole.now ++ feed_behind c.args.end in
    let found = c.find-found.result in
    let stays = sym c.leaves_out.ensures ∙ c.if-leaves_out.false in
    let shown = shown_here join c.args.seen.now line text c.requires.short asked c.network_in-asked.ensures found
    ∙ ap (λ (b : Bool). if b then [] else shown_of join.last (mark_of found) line text) stays in (
      failed_now c.print_line.new.output.failed c.args.output.now.failed c.in-Err.ensures.failed,
      shown_in join asked found line text,
      c.add.new.self,
      line_gives join c.args.seen.now line text c.requires.short asked c.network_in-asked.ensures shown_in
          c.add.new.self found
          (sym c.refuses.ensures ∙ c.if-refuses.false)
          c.find-found.ensures (rw c.is_some.ensures at c.add.ensures),
      subst (λ (t : List ℕ). FailsIn c.args.output.now c.print_line.new.output t) (sym shown)
          c.in-Err.ensures.beginning,
    )
