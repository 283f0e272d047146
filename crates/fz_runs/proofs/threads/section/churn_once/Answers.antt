use Rattle.std.proofs.Common.{subst}
use Rattle.fz_model.specs.Events.{Make}
use Rattle.fz_runs.specs.Holds.{Held}
use Rattle.fz_runs.proofs.Holding.{turn_refused, turn_taken}
use Rattle.fz_runs.proofs.threads.section.churn_once.Goals as goal

pub returns-clause-refused : goal.returns-clause-refused
returns-clause-refused g c =
    turn_taken _ _ _ _ _ _ (subst (λ b. Held g.O.Opening.origin (Make c.args.new) b) c.if-hold_for.false c.hold_for.ensures) c.hold_for-registered.ensures c.hold_for-dropped.ensures

pub returns-then-hold_for-clause-refused : goal.returns-then-hold_for-clause-refused
returns-then-hold_for-clause-refused g c = turn_refused _ _ _ _ (subst (λ b. Held g.O.Opening.origin (Make c.args.new) b) c.if-hold_for.true c.hold_for.ensures)
