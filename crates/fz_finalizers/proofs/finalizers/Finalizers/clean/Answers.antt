use Rattle.std.proofs.Common.{Bool, subst, ap, arith}
use Rattle.fz_finalizers.specs.declared.cleanups.Attached.{Attached}
use Rattle.fz_finalizers.specs.Cleanups.{is_due}
use Rattle.fz_finalizers.specs.Fits.{state_of}
use Rattle.fz_finalizers.specs.Follows.{Cleans}
use Rattle.fz_finalizers.specs.States.{View, KeepsWindow}
use Rattle.fz_finalizers.proofs.Fitting.{cleaned_fits}
use Rattle.fz_finalizers.proofs.Roomy.{entries_kept}
use Rattle.fz_finalizers.proofs.finalizers.Finalizers.clean.Goals as goal

pub invariant_of-self : goal.invariant_of-self
invariant_of-self g c =
    (cleaned_fits c.self.inside.table.content c.self.inside.cleanups.cleanups c.self.inside.ready c.self.invariant.0 c.clean.new.cleanups.cleanups c.clean.new.self c.clean.ensures.count c.clean.ensures.room, c.self.invariant.1)

pub returns-clause-cleaned : goal.returns-clause-cleaned
returns-clause-cleaned g c =
    let i = c.self.inside in
    let e = c.clean.ensures in
    let test : Attached → Bool = is_due c.args.when (g.H.Host.marked c.args.host.now) in
    let old = state_of i.table.content i.short i.long i.ephemerons.ephemerons i.cleanups.cleanups i.ready i.passes in
    let new = state_of i.table.content i.short i.long i.ephemerons.ephemerons c.clean.new.cleanups.cleanups c.clean.new.self i.passes in
    subst (λ (v : View). Cleans c.args.pass test v.state new) c.self.view_is
    (e.cleaned.0, e.cleaned.1, (λ j. record old { queue = e.cleaned.3 j; cleanups = e.cleaned.2 j; taken = e.taken j; held = e.held j }))

pub returns-clause-memory : goal.returns-clause-memory
returns-clause-memory g c = subst (λ (v : View). KeepsWindow v.memory c.clean.new.self.memory) c.self.view_is c.clean.ensures.memory

pub returns-clause-room : goal.returns-clause-room
returns-clause-room g c =
    let i = c.self.inside in
    entries_kept i c.args.self.now.rooms (ap (λ (v : View). v.rooms) c.self.view_is) i.table c.clean.new.cleanups c.clean.new.self
    (omega arith) c.clean.ensures.places (omega (arith, c.clean.ensures.room))
