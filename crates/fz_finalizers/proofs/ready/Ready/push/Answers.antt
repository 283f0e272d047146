use Rattle.std.proofs.Common.{ap, ◌∙◌}
use Rattle.fz_finalizers.specs.Ready.{Ready}
use Rattle.fz_finalizers.proofs.Taking.{gains, held_still}
use Rattle.fz_finalizers.proofs.ready.Ready.push.Goals as goal

pub invariant_of-self : goal.invariant_of-self
invariant_of-self c = gains c.self.inside.queue _ c.self.inside.taken c.self.invariant c.args.pass _ c.push.ensures.pushed

pub returns-clause-held : goal.returns-clause-held
returns-clause-held c = held_still c.self.inside.queue _ c.self.inside.taken c.self.invariant c.args.pass _ c.push.ensures.pushed ∙ ap (λ (r : Ready). r.held) c.self.view_is
