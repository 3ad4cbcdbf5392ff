use Rattle.cidr.proofs.Known.{sym, subst, ap, ◌∷◌, [], Filled, MayGet, routes_of, Request, request_of, request_short, on_err_any, one_answer, fails_at_once}
use Rattle.cidr.proofs.answering.Answering.answer_line.Goals as goal

pub returns-in_err-make_room-clause-err : goal.returns-in_err-make_room-clause-err
returns-in_err-make_room-clause-err g c =
    on_err_any c.from_residual.result (fails_at_once _ _ (c.args.line.now ∷ []) c.in_err-make_room.ensures.err)

pub returns-clause-ok : goal.returns-clause-ok
returns-clause-ok g c =
    let line = c.args.line.now in
    let added = c.answer.ensures in
    let gets : MayGet (routes_of c.make_room.new.self.routes) (request_of line) added.0
    (routes_of c.answer.new.routes) =
    subst (λ (q : Request). MayGet (routes_of c.make_room.new.self.routes) q added.0 (routes_of c.answer.new.routes))
    (sym (request_short line c.requires.short)) added.1 in
    one_answer _ _ _ line added.0 _ c.in_ok-make_room.ensures.ok gets (ap (λ (b : Filled). b.items) added.2)
