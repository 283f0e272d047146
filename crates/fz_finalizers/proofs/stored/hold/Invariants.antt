-- The numbers so far are in.
use Rattle.std.proofs.Common.{◌≡◌, ◌||◌, ℕ}
use Rattle.std.specs.FinSet.{contains}
use Rattle.fz_finalizers.specs.Queue.{is_between}
use Rattle.fz_finalizers.proofs.stored.hold.Given as goal

abbrev pub invariant-loop-number : goal.invariant-loop-number
invariant-loop-number l = record {
  size : l.held.size ≡ l.initial.held.size;
  held : (n : ℕ) → contains l.held.members n ≡ (is_between l.first l.number n || contains l.initial.held.members n);
}
