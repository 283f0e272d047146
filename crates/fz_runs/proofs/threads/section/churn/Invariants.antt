use Rattle.std.proofs.Common.{◌≤◌, ◌*◌}
use Rattle.fz_model.specs.Events.{Make}
use Rattle.fz_runs.specs.Holds.{HasRefused, AreTurns}
use Rattle.fz_runs.proofs.threads.section.churn.Given as goal

abbrev pub invariant-loop-turn : goal.invariant-loop-turn
invariant-loop-turn g l = record {
  refused : HasRefused g.O.Opening.origin (AreTurns (Make l.new) (Make l.register) (Make l.let_go) l._turn) l.refused;
  few : l.refused ≤ 2 * l._turn;
}
