use Rattle.std.proofs.Common.{◌∙◌, sym, ap, is_some, arith}
use Rattle.std.specs.FinMap.{len}
use Rattle.fz_finalizers.specs.Fits.{state_of}
use Rattle.fz_finalizers.specs.Follows.{queued_cleanup}
use Rattle.fz_finalizers.specs.States.{View}
use Rattle.fz_finalizers.proofs.Fitting.{cancelled_fits}
use Rattle.fz_finalizers.proofs.OneQueued.{no_cleanup_queued}
use Rattle.fz_finalizers.proofs.Counting.{len_gone, len_less}
use Rattle.fz_finalizers.proofs.Roomy.{entries_kept}
use Rattle.fz_finalizers.proofs.finalizers.Finalizers.queue_cleanup.Goals as goal

pub invariant_of-self : goal.invariant_of-self
invariant_of-self c =
    (cancelled_fits c.self.inside.table.content c.self.inside.cleanups.cleanups c.self.inside.ready c.self.invariant.0 c.remove.new.self.cleanups c.args.number c.remove.ensures.removed, c.self.invariant.1)

pub returns-in_default-clause-follows : goal.returns-in_default-clause-follows
returns-in_default-clause-follows c =
    let s = state_of c.self.inside.table.content c.self.inside.short c.self.inside.long c.self.inside.ephemerons.ephemerons c.self.inside.cleanups.cleanups c.self.inside.ready c.self.inside.passes in
    (λ i. record s { cleanups = c.remove.ensures.removed i }) ∙ no_cleanup_queued s c.args.number (sym c.remove.ensures.answer ∙ c.in_default.is) ∙ ap (λ (v : View). queued_cleanup v.state c.args.number) c.self.view_is

pub returns-in_default-clause-room : goal.returns-in_default-clause-room
returns-in_default-clause-room c =
    let i = c.self.inside in
    let less = len_less i.cleanups.cleanups c.args.number in
    let count = ap len c.remove.ensures.removed in
    entries_kept i c.args.self.now.rooms (ap (λ (v : View). v.rooms) c.self.view_is) i.table c.remove.new.self i.ready
    (omega arith) c.remove.ensures.room (omega (arith, less, count))

pub returns-clause-room : goal.returns-clause-room
returns-clause-room c =
    let i = c.self.inside in
    let less = len_gone i.cleanups.cleanups c.args.number (ap is_some (sym c.remove.ensures.answer ∙ c.in-Some.is)) in
    let count = ap len c.remove.ensures.removed in
    entries_kept i c.args.self.now.rooms (ap (λ (v : View). v.rooms) c.self.view_is) i.table c.remove.new.self c.push.new.self
    (omega arith) c.remove.ensures.room (omega (arith, less, count, c.push.ensures.room))
