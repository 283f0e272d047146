use Rattle.std.proofs.Common.{subst}
use Rattle.std.proofs.lemmas.Result.{err_from_is_err_and}
use Rattle.fz_service.specs.Workers.{ExtendEach}
use Rattle.fz_service.proofs.Seated.{come_back, lacks_memory}
use Rattle.fz_service.proofs.beside.open_and_run.Goals as goal

pub returns-in_err-end-clause-refused : goal.returns-in_err-end-clause-refused
returns-in_err-end-clause-refused g c =
    let back = subst (λ seats. ExtendEach seats c.run_beside-seats.result.0.items) c.in_ok-service.ensures.seats c.run_beside-seats.ensures.seats in
    let each = come_back g.O.Opening.origin.line g.O.Opening.origin.workers _ back in
    let p = err_from_is_err_and c.from_residual-in_err-end.result c.from_residual-in_err-end.ensures.1 in
    rw (p.1, p.2) (lacks_memory _ _ _ each c.in_err-end.ensures.refused)
