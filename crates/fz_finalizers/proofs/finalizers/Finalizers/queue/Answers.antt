use Rattle.std.proofs.Common.{◌∙◌, length, length-append, sym, ap, is_some, arith}
use Rattle.std.specs.FinMap.{len}
use Rattle.fz_table.specs.Registered.{Registered}
use Rattle.fz_finalizers.specs.Fits.{state_of}
use Rattle.fz_finalizers.specs.Follows.{queued_object}
use Rattle.fz_finalizers.specs.States.{View}
use Rattle.fz_finalizers.proofs.Fitting.{has_room, removed_fits, taken_fits}
use Rattle.fz_finalizers.proofs.OneQueued.{none_queued}
use Rattle.fz_finalizers.proofs.Counting.{len_gone, len_less}
use Rattle.fz_finalizers.proofs.Roomy.{entries_kept}
use Rattle.fz_finalizers.proofs.finalizers.Finalizers.queue.Goals as goal

pub invariant_of-self : goal.invariant_of-self
invariant_of-self c =
    (removed_fits c.self.inside.table.content c.self.inside.cleanups.cleanups c.self.inside.ready c.self.invariant.0 _ c.args.object (λ i. record { registered = c.take.ensures.removed i; late = c.take.ensures.late i }), c.self.invariant.1)

pub returns-in_default-clause-follows : goal.returns-in_default-clause-follows
returns-in_default-clause-follows c =
    let s = state_of c.self.inside.table.content c.self.inside.short c.self.inside.long c.self.inside.ephemerons.ephemerons c.self.inside.cleanups.cleanups c.self.inside.ready c.self.inside.passes in
    (λ i. record s { registrations = (c.take.ensures.removed i).registrations; next_number = (c.take.ensures.removed i).next_number; late = c.take.ensures.late i })
    ∙ none_queued s c.args.object c.self.invariant.0.flags (sym c.take.ensures.answer ∙ c.in_default.is) ∙ ap (λ (v : View). queued_object v.state c.args.object) c.self.view_is

pub push-requires-clause-room : goal.push-requires-clause-room
push-requires-clause-room c = has_room c.self.inside.table.content c.self.inside.cleanups.cleanups c.self.inside.ready c.self.invariant.0 c.args.object c.in-Some.registration (sym c.take.ensures.answer ∙ c.in-Some.is)

pub invariant_of-self-2 : goal.invariant_of-self-2
invariant_of-self-2 c = (
  taken_fits c.self.inside.table.content c.self.inside.cleanups.cleanups c.self.inside.ready c.self.invariant.0 c.args.object c.in-Some.registration (sym c.take.ensures.answer ∙ c.in-Some.is) _ c.push.new.self (λ i. record { registered = c.take.ensures.removed i; late = c.take.ensures.late i })
      (ap length c.push.ensures.queue ∙ length-append c.self.inside.ready.queue _) c.push.ensures.room,
  c.self.invariant.1,
)

pub returns-in_default-clause-room : goal.returns-in_default-clause-room
returns-in_default-clause-room c =
    let i = c.self.inside in
    let less = len_less i.table.registrations c.args.object in
    let count = ap (λ (t : Registered). len t.registrations) c.take.ensures.removed in
    entries_kept i c.args.self.now.rooms (ap (λ (v : View). v.rooms) c.self.view_is) c.take.new.self i.cleanups i.ready
    c.take.ensures.room (omega arith) (omega (arith, less, count))

pub returns-clause-room : goal.returns-clause-room
returns-clause-room c =
    let i = c.self.inside in
    let less = len_gone i.table.registrations c.args.object (ap is_some (sym c.take.ensures.answer ∙ c.in-Some.is)) in
    let count = ap (λ (t : Registered). len t.registrations) c.take.ensures.removed in
    entries_kept i c.args.self.now.rooms (ap (λ (v : View). v.rooms) c.self.view_is) c.take.new.self i.cleanups c.push.new.self
    c.take.ensures.room (omega arith) (omega (arith, less, count, c.push.ensures.room))
