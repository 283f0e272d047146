use Rattle.std.proofs.Common.{◌-◌, ap, length, arith}
use Rattle.crossbeam_deque.specs.Handles.{worker_view}
use Rattle.fz_line.specs.declared.protocol.View.{View}
use Rattle.fz_line.specs.States.{OwnerState, SeatState}
use Rattle.fz_model.specs.declared.limits.TheConstants.{MAX_WORKERS}
use Rattle.fz_line.proofs.Draining.{popped_rest, taken_first, length_flat}
use Rattle.fz_line.proofs.owner.Owner.drain.Goals as goal

pub returns-clause-rest : goal.returns-clause-rest
returns-clause-rest c =
    popped_rest (worker_view c.self.inside.worker) (MAX_WORKERS - c.self.inside.seats) c.args.seats.now c.args.self.now.sent _
    (ap (λ (o : OwnerState). o.sent) c.self.view_is)
    (ap (λ (v : View). v.lists) c.self.invariant.0.1)
    c.gather.ensures.rest

pub returns-clause-first : goal.returns-clause-first
returns-clause-first c =
    taken_first (worker_view c.self.inside.worker) (MAX_WORKERS - c.self.inside.seats) c.args.seats.now c.args.self.now.sent c.gather.new.out.items
    (ap (λ (o : OwnerState). o.sent) c.self.view_is)
    (ap (λ (v : View). v.lists) c.self.invariant.0.1)
    c.gather.ensures.whole
    (returns-clause-rest c)

pub gather-requires-clause-room : goal.gather-requires-clause-room
gather-requires-clause-room c =
    let same = ap (λ (o : OwnerState). length o.sent) c.self.view_is in
    let took = length_flat (λ (s : SeatState). s.took) c.args.seats.now in
    (c.requires.room.0, omega (arith, c.requires.room.1, same, took))
