use Rattle.std.proofs.Common.{ap, arith}
use Rattle.std.specs.FinMap.{len}
use Rattle.fz_table.specs.Registered.{Registered}
use Rattle.fz_finalizers.specs.States.{View}
use Rattle.fz_finalizers.proofs.Fitting.{removed_fits}
use Rattle.fz_finalizers.proofs.Counting.{len_less}
use Rattle.fz_finalizers.proofs.Roomy.{entries_kept}
use Rattle.fz_finalizers.proofs.finalizers.Finalizers.unregister.Goals as goal

pub invariant_of-self : goal.invariant_of-self
invariant_of-self c =
    (removed_fits c.self.inside.table.content c.self.inside.cleanups.cleanups c.self.inside.ready c.self.invariant.0 _ c.args.object (λ i. record { registered = c.remove.ensures.removed i; late = c.remove.ensures.late i }), c.self.invariant.1)

pub returns-clause-room : goal.returns-clause-room
returns-clause-room c =
    let i = c.self.inside in
    let less = len_less i.table.registrations c.args.object in
    let count = ap (λ (t : Registered). len t.registrations) c.remove.ensures.removed in
    entries_kept i c.args.self.now.rooms (ap (λ (v : View). v.rooms) c.self.view_is) c.remove.new.self i.cleanups i.ready
    c.remove.ensures.room (omega arith) (omega (arith, less, count))
