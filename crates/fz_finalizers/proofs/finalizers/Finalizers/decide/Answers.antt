use Rattle.std.proofs.Common.{◌∙◌, refl, ap, sym, subst, arith, IsTrue}
use Rattle.std.specs.FinMap.{get}
use Rattle.fz_pass.specs.Decides.{Parts}
use Rattle.fz_table.specs.Registered.{Registered}
use Rattle.fz_finalizers.specs.Fits.{state_of}
use Rattle.fz_finalizers.specs.Follows.{OnlyGo, Queues, next_pass}
use Rattle.fz_finalizers.specs.States.{State, View, Memory}
use Rattle.fz_finalizers.proofs.Counting.{len_within}
use Rattle.fz_finalizers.proofs.Fitting.{queued_fits, roomier_fits}
use Rattle.fz_finalizers.proofs.Following.{only_go, whole_queues}
use Rattle.fz_finalizers.proofs.finalizers.Finalizers.decide.Goals as goal

pub pass-requires-clause-registered : goal.pass-requires-clause-registered
pass-requires-clause-registered g c a r here = c.requires.registered a r (ap (λ (v : View). get v.registrations a) (sym c.self.view_is) ∙ here)

pub invariant_of-self : goal.invariant_of-self
invariant_of-self g c =
    let e = c.pass.ensures in
    let d = e.decided in
    let moves = c.self.invariant.1 in
    let table = c.self.inside.table.content in
    let old_short = c.self.inside.short.links in
    let old_long = c.self.inside.long.links in (
      queued_fits table c.self.inside.cleanups.cleanups c.reuse.new.self (roomier_fits table c.self.inside.cleanups.cleanups c.self.inside.ready c.self.invariant.0 c.reuse.new.self c.reuse.ensures.same c.reuse.ensures.room) c.pass.new.table.content c.pass.new.self d.0.picks
          (λ i. record { registered = record { registrations = ap (λ (p : Parts). p.registrations) d.0.is i; next_number = ap (λ (t : Registered). t.next_number) e.table i }; late = d.1 i }) e.count e.room,
      record {
        none = moves.none;
        few_short = let within = len_within old_short c.pass.new.short.links _ (ap (λ (p : Parts). p.short) d.0.is) in omega (arith, within, moves.few_short);
        few_long = let within = len_within old_long c.pass.new.long.links _ (ap (λ (p : Parts). p.long) d.0.is) in omega (arith, within, moves.few_long);
      },
    )

pub returns-clause-follows : goal.returns-clause-follows
returns-clause-follows g c =
    let t = g.H.Host in
    let e = c.pass.ensures in
    let new = state_of c.pass.new.table.content c.pass.new.short c.pass.new.long c.pass.new.ephemerons.ephemerons c.self.inside.cleanups.cleanups c.pass.new.self c.saturating_add-pass.result in
    let old = state_of c.self.inside.table.content c.self.inside.short c.self.inside.long c.self.inside.ephemerons.ephemerons c.self.inside.cleanups.cleanups c.reuse.new.self c.self.inside.passes in
    let same = (λ i. record old { queue = c.reuse.ensures.same.0 i; taken = c.reuse.ensures.same.1 i; held = c.reuse.ensures.same.2 i }) ∙ ap (λ (v : View). v.state) c.self.view_is in
    let queues =
    whole_queues t.is_exact t.place g.H.Values.value c.saturating_add-pass.result (t.objects c.args.host.now) _ (t.marked c.args.host.now) old new e.decided e.taken e.held
    (ap (λ (t : Registered). t.next_number) e.table) refl in
    let number = c.saturating_add-pass.ensures ∙ ap (λ (v : View). next_pass v.passes) c.self.view_is in (
      subst (λ (s : State). Queues (next_pass s.passes) s new) same (subst (λ n. Queues n old new) c.saturating_add-pass.ensures queues),
      number,
      subst (λ (s : State). OnlyGo s.ephemerons new.ephemerons) same (only_go t.is_exact t.place g.H.Values.value _ _ _ _ old.ephemerons (t.marked c.args.host.now) _ new.ephemerons _ _ e.decided.0),
    )

pub returns-clause-memory : goal.returns-clause-memory
returns-clause-memory g c = λ whole.
    let kept = c.reuse.ensures.memory (subst (λ (v : View). IsTrue v.memory.whole) (sym c.self.view_is) whole) in
    c.pass.ensures.memory ∙ ap (λ (m : Memory). record m { remembered = c.pass.new.self.memory.remembered }) (kept ∙ ap (λ (v : View). v.memory) c.self.view_is)
