use Rattle.std.proofs.Common.{◌≡◌, ℕ, ◌<◌, true}
use Rattle.fz_service.specs.Ends.{has_index}
use Rattle.fz_service.proofs.ending.is_each_once.Given as goal

abbrev pub invariant-loop-index : goal.invariant-loop-index
invariant-loop-index g l = (k : ℕ) → k < l.index → has_index k l.seats ≡ true
