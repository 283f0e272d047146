use Rattle.std.proofs.Common.{arith}
use Rattle.fz_runs.proofs.Holding.{no_turn, turns_more}
use Rattle.fz_runs.proofs.threads.section.churn.Goals as goal

pub loop-turn-init : goal.loop-turn-init
loop-turn-init g c = record { refused = no_turn _ _ _ _; few = omega arith }

pub loop-turn-preserved : goal.loop-turn-preserved
loop-turn-preserved g c =
    let few = c.loop-turn.invariant.few in
    let more = c.churn_once-refused.ensures.few in
    record { refused = turns_more _ _ _ _ _ _ _ c.loop-turn.invariant.refused c.churn_once-refused.ensures.refused; few = omega (arith, few, more) }
