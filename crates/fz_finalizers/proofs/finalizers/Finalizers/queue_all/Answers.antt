use Rattle.std.proofs.Common.{◌∙◌, refl, nat_cmp, ap, sym, subst, arith}
use Rattle.std.specs.FinMap.{len, len-empty}
use Rattle.fz_model.specs.declared.answers.Registration.{Registration}
use Rattle.fz_table.specs.Registered.{Registered}
use Rattle.fz_pass.proofs.Emptied.{all_left}
use Rattle.fz_finalizers.specs.Fits.{state_of}
use Rattle.fz_finalizers.specs.Follows.{Queues}
use Rattle.fz_finalizers.specs.States.{View}
use Rattle.fz_finalizers.proofs.Fitting.{queued_fits}
use Rattle.fz_finalizers.proofs.Flags.{flags_none}
use Rattle.fz_finalizers.proofs.Following.{all_queues}
use Rattle.fz_finalizers.proofs.finalizers.Finalizers.queue_all.Goals as goal

pub invariant_of-self : goal.invariant_of-self
invariant_of-self c =
    let e = c.queue_all.ensures in
    let q = e.queued.0 in
    let table = c.self.inside.table.content in
    let none = ap (λ (t : Registered). len t.registrations) e.table ∙ len-empty nat_cmp Registration in (
      queued_fits table c.self.inside.cleanups.cleanups c.self.inside.ready c.self.invariant.0 c.queue_all.new.table.content c.queue_all.new.self q.picks
          (λ i. record { registered = record { registrations = (ap (λ (t : Registered). t.registrations) e.table ∙ sym (all_left table.registrations q.picks q.whole)) i; next_number = ap (λ (t : Registered). t.next_number) e.table i }; late = e.queued.1 i })
          (omega (arith, none, e.count)) (omega (arith, none, e.room)),
      c.self.invariant.1,
    )

pub returns-clause-follows : goal.returns-clause-follows
returns-clause-follows c =
    let e = c.queue_all.ensures in
    let new = state_of c.queue_all.new.table.content c.self.inside.short c.self.inside.long c.self.inside.ephemerons.ephemerons c.self.inside.cleanups.cleanups c.queue_all.new.self c.self.inside.passes in
    let old = state_of c.self.inside.table.content c.self.inside.short c.self.inside.long c.self.inside.ephemerons.ephemerons c.self.inside.cleanups.cleanups c.self.inside.ready c.self.inside.passes in
    let none = ap (λ (t : Registered). t.registrations) e.table in
    let queues = all_queues old new e.queued.0 e.queued.1 none e.taken e.held (ap (λ (t : Registered). t.next_number) e.table) refl in
    let none_late = flags_none old new queues none c.self.invariant.0.flags in
    (subst (λ (v : View). Queues 0 v.state new) c.self.view_is queues, none, none_late, ap (λ (v : View). v.short) c.self.view_is, ap (λ (v : View). v.long) c.self.view_is, ap (λ (v : View). v.passes) c.self.view_is, ap (λ (v : View). v.ephemerons) c.self.view_is)
