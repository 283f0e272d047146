use Rattle.std.proofs.Common.{arith, ap}
use Rattle.fz_finalizers.specs.States.{View}
use Rattle.fz_finalizers.proofs.Fitting.{registered_fits}
use Rattle.fz_finalizers.proofs.Roomy.{registered_room}
use Rattle.fz_finalizers.proofs.finalizers.Finalizers.register.Goals as goal

pub invariant_of-self : goal.invariant_of-self
invariant_of-self c =
    let e = c.register.ensures in (
      registered_fits c.self.inside.table.content c.self.inside.cleanups.cleanups c.self.inside.ready c.self.invariant.0 c.register.new.table.content c.register.new.ready c.args.object c.args.finalizer e.same e.kept c.register.result e.judged e.unchanged e.registered e.late (let count = c.len-cleanups.ensures.count in omega (arith, count, e.room)),
      c.self.invariant.1,
    )

pub returns-clause-room : goal.returns-clause-room
returns-clause-room c =
    let i = c.self.inside in
    let e = c.register.ensures in
    registered_room i c.args.self.now.rooms (ap (λ (v : View). v.rooms) c.self.view_is) c.register.new.table c.register.new.ready c.args.object c.args.finalizer c.register.result
    e.kept e.roomier e.spared e.unchanged e.registered
