use Rattle.std.proofs.Common.{◌≡◌, map}
use Rattle.fz_finalizers.proofs.Filled.{IsFilled}
use Rattle.fz_c.specs.MachineShows.{registration_told}
use Rattle.fz_c.proofs.machine.walks.fill_registrations.Given as goal

abbrev pub invariant-loop-place : goal.invariant-loop-place
invariant-loop-place l = record {
  counted : l.filled ≡ l.place-index;
  filled : IsFilled l.place-index (map (registration_told l.shown.state) l.fn.walk) (map (registration_told l.shown.state) l.left) l.buffer;
}
