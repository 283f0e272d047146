use Rattle.fz_line.proofs.Steps.{takes_as}
use Rattle.fz_line.proofs.taker.DequeFront.steal.Goals as goal

pub steal_as-requires-clause-takes : goal.steal_as-requires-clause-takes
steal_as-requires-clause-takes c = takes_as _ _ _ c.taker.invariant.1
