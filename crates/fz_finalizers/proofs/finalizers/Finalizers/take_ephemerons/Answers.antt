use Rattle.std.proofs.Common.{subst}
use Rattle.fz_finalizers.specs.States.{View, AreFlags}
use Rattle.fz_finalizers.proofs.finalizers.Finalizers.take_ephemerons.Goals as goal

pub returns-clause-flags : goal.returns-clause-flags
returns-clause-flags c = subst (λ (v : View). AreFlags v.registrations v.late) c.self.view_is c.self.invariant.0.flags
