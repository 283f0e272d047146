use Rattle.std.proofs.Common.{ap}
use Rattle.fz_finalizers.specs.States.{State}
use Rattle.fz_finalizers.proofs.Cleaned.{none_left}
use Rattle.fz_finalizers.proofs.finalizers.Finalizers.queue_cleanups.Goals as goal

pub returns-clause-none : goal.returns-clause-none
returns-clause-none c =
    let first = c.clean.ensures.cleaned in
    let second = c.clean-2.ensures.cleaned in
    none_left c.args.self.now.state.cleanups c.clean.new.self.state.cleanups c.clean-2.new.self.state.cleanups first.0 second.0 first.1 (ap (λ (s : State). s.cleanups) first.2) second.1 (ap (λ (s : State). s.cleanups) second.2)
