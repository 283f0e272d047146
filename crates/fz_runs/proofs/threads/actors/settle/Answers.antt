use Rattle.fz_runs.proofs.Holding.{settles_first, settles_more}
use Rattle.fz_runs.proofs.threads.actors.settle.Goals as goal

pub loop-turn-init : goal.loop-turn-init
loop-turn-init g c = settles_first _ _ c.hold_for-no_cycle.ensures

pub loop-turn-preserved : goal.loop-turn-preserved
loop-turn-preserved g c = settles_more _ _ _ c.loop-turn.invariant c.hold_for-exhausted.ensures
