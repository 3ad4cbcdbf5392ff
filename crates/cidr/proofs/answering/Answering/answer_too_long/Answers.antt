use Rattle.cidr.proofs.Known.{codes, inl, refl, sym, subst, ap, ◌∷◌, [], Filled, MayGet, routes_of, Request, request_of, request_long, on_err_any, one_answer, fails_at_once}
use Rattle.cidr.proofs.answering.Answering.answer_too_long.Goals as goal

pub returns-in_err-make_room-clause-err : goal.returns-in_err-make_room-clause-err
returns-in_err-make_room-clause-err g c =
    λ line. on_err_any c.from_residual.result (fails_at_once _ _ (line ∷ []) c.in_err-make_room.ensures.err)

pub returns-clause-ok : goal.returns-clause-ok
returns-clause-ok g c = λ line long.
    let routes = routes_of c.make_room.new.self.routes in
    let answer = codes "line too long" in
    let gets : MayGet routes (request_of line) answer routes =
    subst (λ (q : Request). MayGet routes q answer routes) (sym (request_long line long)) (inl (refl, refl)) in
    one_answer _ _ _ line answer _ c.in_ok-make_room.ensures.ok gets (ap (λ (b : Filled). b.items) c.reply.ensures)
