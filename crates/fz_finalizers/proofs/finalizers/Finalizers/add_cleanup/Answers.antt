use Rattle.std.proofs.Common.{◌+◌, ◌≤◌, arith, ap}
use Rattle.std.specs.FinMap.{len}
use Rattle.fz_table.specs.Registered.{Registered}
use Rattle.fz_finalizers.specs.States.{View}
use Rattle.fz_finalizers.proofs.Fitting.{added_fits, can_add}
use Rattle.fz_finalizers.proofs.Counting.{len_grown}
use Rattle.fz_finalizers.proofs.Roomy.{entry_used}
use Rattle.fz_finalizers.proofs.finalizers.Finalizers.add_cleanup.Goals as goal

pub invariant_of-self-2 : goal.invariant_of-self-2
invariant_of-self-2 c =
    let i = c.self.inside in
    let room : len i.table.registrations + len i.cleanups.cleanups + 1 ≤ c.reserve.new.self.room = omega (arith, c.len.ensures.count, c.len-2.ensures.count, c.in_ok-reserve.ensures.room) in (
      added_fits i.table.content i.cleanups.cleanups i.ready c.self.invariant.0 c.take_number.new.self.content c.add.new.self.cleanups c.reserve.new.self c.next_number-number.result (record { object = c.args.object; cleanup = c.args.cleanup })
          (λ j. record { registered = c.take_number.ensures.taken j; late = c.take_number.ensures.late j }) c.in_ok-add.ensures.added c.reserve.ensures.same.0 room (can_add i.cleanups.cleanups i.table.next_number c.args.object c.in_ok-check.ensures).0,
      c.self.invariant.1,
    )

pub returns-clause-room : goal.returns-clause-room
returns-clause-room c =
    let i = c.self.inside in
    let count = ap len c.in_ok-add.ensures.added in
    let grown = len_grown i.cleanups.cleanups c.next_number-number.result (record { object = c.args.object; cleanup = c.args.cleanup }) in
    let registered = ap (λ (t : Registered). len t.registrations) c.take_number.ensures.taken in
    entry_used i c.args.self.now.rooms (ap (λ (v : View). v.rooms) c.self.view_is) c.take_number.new.self c.add.new.self c.reserve.new.self
    (omega (arith, c.take_number.ensures.room)) c.add.ensures.room (omega (arith, count, grown, registered, c.reserve.ensures.kept))
