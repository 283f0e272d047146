use Rattle.std.proofs.Common.{◌≡◌, ◌≤◌, drop}
use Rattle.fz_finalizers.specs.Walks.{IsRest, somes}
use Rattle.fz_finalizers.proofs.Filled.{IsFilled}
use Rattle.fz_finalizers.proofs.roots.Roots.fill.Given as goal

abbrev pub invariant-loop-place : goal.invariant-loop-place
invariant-loop-place l = record {
  counted : l.filled ≡ l.place-index;
  filled : IsFilled l.place-index (somes l.fn.self) (somes l.self) l.buffer;
  beyond : drop l.place-index l.buffer ≡ drop l.place-index l.fn.buffer;
  rest : IsRest l.fn.self l.self;
  few : l.filled ≤ l.most;
}
