use Rattle.std.proofs.Common.{List, length, ap, ◌∙◌, arith}
use Rattle.fz_line.specs.States.{SeatState}
use Rattle.fz_line.proofs.Seats.{length-new_seats}
use Rattle.fz_service.specs.States.{Origin}
use Rattle.fz_service.proofs.service.Service.open.Goals as goal

pub into_service-requires-clause-room : goal.into_service-requires-clause-room
into_service-requires-clause-room g c =
    let w = c.prepared.inside in
    let count = ap (λ (seats : List SeatState). length seats) c.prepared.invariant.1 ∙ length-new_seats w.owner.line w.owner.seats ∙ ap (λ (o : Origin). o.workers) c.prepared.view_is in
    let len = c.len.ensures in
    let room = c.in_ok-room.ensures.1 in
    (c.in_ok-room.ensures.0, omega (arith, count, len, room))
