-- The due ones among the cleanups so far are listed.
use Rattle.std.proofs.Common.{◌≡◌, ◌≤◌, ◌+◌, ◌++◌, length}
use Rattle.fz_finalizers.specs.Cleanups.{is_due}
use Rattle.fz_finalizers.proofs.Cleaned.{due_in}
use Rattle.fz_finalizers.proofs.cleaning.list_due.Given as goal

abbrev pub invariant-loop-number : goal.invariant-loop-number
invariant-loop-number g l = record {
  listed : l.list.listed ≡ due_in (is_due l.when (g.H.Host.marked l.host)) l.yielded;
  few : length l.list.listed + length l.number-iterator ≤ length l.initial.number-iterator;
  grown : l.initial.list.room ≤ l.list.room;
  rest : l.yielded ++ l.number-iterator ≡ l.initial.number-iterator;
}
