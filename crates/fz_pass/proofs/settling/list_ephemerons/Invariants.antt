-- The ephemerons so far are appended.
use Rattle.std.proofs.Common.{◌≡◌, ◌≤◌, ◌++◌, vec_capacity}
use Rattle.fz_pass.proofs.settling.list_ephemerons.Given as goal

abbrev pub invariant-loop-entry : goal.invariant-loop-entry
invariant-loop-entry l = record {
  all : l.yielded ++ l.entry-iterator ≡ l.initial.entry-iterator;
  listed : l.waiting.items ≡ l.fn.waiting.items ++ l.yielded;
  capacity : vec_capacity l.fn.waiting ≤ vec_capacity l.waiting;
}
