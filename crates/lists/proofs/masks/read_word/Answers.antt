use Rattle.lists.proofs.Known.{Entry, Ok, Option, ReadsEntry, inl, inr, refl, subst, SaysSome}
use Rattle.lists.proofs.masks.read_word.Goals as goal

pub returns-in-Ok-Some : goal.returns-in-Ok-Some
returns-in-Ok-Some c =
    let reads = subst (λ (o : Option Entry). ReadsEntry c.args.line.now (Ok o)) c.in-Ok-Some.field-0-is
    c.in-Ok-Some.ensures in (
      c.requires.some,
      inr (inl (
        c.in-Ok-Some.field-0-0,
        inl reads.1,
        subst SaysSome c.requires.comment c.if-says_some.ensures,
        refl,
      )),
    )
