use Rattle.std.proofs.Common.{subst, sym}
use Rattle.fz_service.specs.States.{IsInOrder}
use Rattle.fz_runs.proofs.Holding.{held}
use Rattle.fz_runs.proofs.threads.holds.hold_for.Goals as goal

pub returns : goal.returns
returns g c = held _ _ c.args.call _ _ _ (subst (λ s. IsInOrder g.O.Opening.origin s) (sym c.deref_mut.ensures.value) c.enter-locked.ensures) c.make.ensures.step c.is_err.ensures.value
