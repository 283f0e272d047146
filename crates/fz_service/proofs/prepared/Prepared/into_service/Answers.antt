use Rattle.std.proofs.Common.{◌≤◌, List, length, sym, ap, ◌∙◌, subst, vec_capacity}
use Rattle.std.specs.List.{AllByRecursion}
use Rattle.fz_line.specs.States.{SeatState}
use Rattle.fz_line.proofs.Seats.{length-new_seats}
use Rattle.fz_service.specs.States.{Origin, IsNewAt}
use Rattle.fz_service.proofs.Seated.{all_new}
use Rattle.fz_service.proofs.prepared.Prepared.into_service.Goals as goal

pub share_out-seats-requires-clause-seats : goal.share_out-seats-requires-clause-seats
share_out-seats-requires-clause-seats g c =
    let line = ap (λ (o : Origin). o.line) c.self.view_is ∙ ap (λ (o : Origin). o.line) c.requires.origin in
    subst (AllByRecursion (IsNewAt g.O.Opening.origin.line)) (sym c.self.invariant.1) (all_new _ _ c.self.inside.owner.seats line)

pub share_out-seats-requires-clause-room : goal.share_out-seats-requires-clause-room
share_out-seats-requires-clause-room g c =
    let count = ap (λ (seats : List SeatState). length seats) c.self.invariant.1 ∙ length-new_seats c.self.inside.owner.line c.self.inside.owner.seats ∙ ap (λ (o : Origin). o.workers) c.self.view_is in
    (c.requires.room.0, subst (λ n. n ≤ vec_capacity c.args.room) (sym count) c.requires.room.1)

pub share_out-seats-requires-clause-all : goal.share_out-seats-requires-clause-all
share_out-seats-requires-clause-all g c =
    let count = ap (λ (seats : List SeatState). length seats) c.self.invariant.1 ∙ length-new_seats c.self.inside.owner.line c.self.inside.owner.seats ∙ ap (λ (o : Origin). o.workers) c.self.view_is in
    (c.open-book.ensures.parts ∙ sym (ap (λ (o : Origin). o.workers) c.requires.origin) ∙ sym count, c.open-book.ensures.amount)
