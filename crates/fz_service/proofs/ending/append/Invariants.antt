use Rattle.std.proofs.Common.{◌≡◌, ◌++◌, take, vec_capacity}
use Rattle.fz_service.proofs.ending.append.Given as goal

abbrev pub invariant-loop-entry : goal.invariant-loop-entry
invariant-loop-entry l = (l.left.items ≡ l.initial.left.items ++ take l.entry-index l.outbox) × (vec_capacity l.left ≡ vec_capacity l.initial.left)
