use Rattle.fz_runs.specs.Holds.{Settles}
use Rattle.fz_runs.proofs.threads.actors.settle.Given as goal

abbrev pub invariant-loop-turn : goal.invariant-loop-turn
invariant-loop-turn g l = Settles g.O.Opening.origin l._turn
