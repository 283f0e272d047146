use Rattle.std.proofs.Common.{◌≡◌, map}
use Rattle.fz_finalizers.proofs.Filled.{IsFilled}
use Rattle.fz_c.specs.MachineShows.{cleanup_told}
use Rattle.fz_c.proofs.machine.walks.fill_cleanups.Given as goal

abbrev pub invariant-loop-place : goal.invariant-loop-place
invariant-loop-place l = record {
  counted : l.filled ≡ l.place-index;
  filled : IsFilled l.place-index (map cleanup_told l.fn.walk) (map cleanup_told l.left) l.buffer;
}
