use Rattle.std.proofs.Common.{ap, ◌∙◌, List, subst}
use Rattle.fz_finalizers.specs.Ready.{Ready, DecidesKeyed}
use Rattle.fz_model.specs.declared.answers.Entry.{Entry}
use Rattle.fz_pass.specs.Decides.{parts_of, parts_left}
use Rattle.fz_finalizers.proofs.Taking.{gains, held_still}
use Rattle.fz_finalizers.proofs.ready.Ready.pass.Goals as goal

pub invariant_of-self : goal.invariant_of-self
invariant_of-self g c = gains c.self.inside.queue _ c.self.inside.taken c.self.invariant c.args.number _ c.pass.ensures.gained.1

pub returns-clause-held : goal.returns-clause-held
returns-clause-held g c = held_still c.self.inside.queue _ c.self.inside.taken c.self.invariant c.args.number _ c.pass.ensures.gained.1 ∙ ap (λ (r : Ready). r.held) c.self.view_is

pub returns-clause-decided : goal.returns-clause-decided
returns-clause-decided g c =
    let t = g.H.Host in
    let new = c.pass.new in
    subst
    (λ (es : List Entry).
    DecidesKeyed t.is_exact t.place g.H.Values.value c.args.number c.args.table.now.late new.table.late (parts_of (t.objects c.args.host.now) c.args.table.now c.args.short.now c.args.long.now) c.args.ephemerons.now.ephemerons (t.marked c.args.host.now)
    (parts_left (t.objects new.host) (t.marked new.host) new.table new.short new.long) new.ephemerons.ephemerons es new.self.queue)
    (ap (λ (r : Ready). r.queue) c.self.view_is) c.pass.ensures.decided
