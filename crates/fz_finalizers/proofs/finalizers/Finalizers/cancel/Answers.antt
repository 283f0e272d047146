use Rattle.std.proofs.Common.{ap, arith}
use Rattle.std.specs.FinMap.{len}
use Rattle.fz_finalizers.specs.States.{View}
use Rattle.fz_finalizers.proofs.Fitting.{cancelled_fits}
use Rattle.fz_finalizers.proofs.Counting.{len_less}
use Rattle.fz_finalizers.proofs.Roomy.{entries_kept}
use Rattle.fz_finalizers.proofs.finalizers.Finalizers.cancel.Goals as goal

pub invariant_of-self : goal.invariant_of-self
invariant_of-self c =
    (cancelled_fits c.self.inside.table.content c.self.inside.cleanups.cleanups c.self.inside.ready c.self.invariant.0 c.remove.new.self.cleanups c.args.number c.remove.ensures.removed, c.self.invariant.1)

pub returns-clause-room : goal.returns-clause-room
returns-clause-room c =
    let i = c.self.inside in
    let less = len_less i.cleanups.cleanups c.args.number in
    let count = ap len c.remove.ensures.removed in
    entries_kept i c.args.self.now.rooms (ap (λ (v : View). v.rooms) c.self.view_is) i.table c.remove.new.self i.ready
    (omega arith) c.remove.ensures.room (omega (arith, less, count))
