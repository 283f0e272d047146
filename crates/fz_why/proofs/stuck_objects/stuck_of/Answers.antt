use Rattle.std.proofs.Common.{subst}
use Rattle.fz_why.specs.Snapshot.{AreCells, Copy, objects_of}
use Rattle.fz_why.proofs.Cells.{zero_none}
use Rattle.fz_why.proofs.stuck_objects.stuck_of.Goals as goal

pub stuck-requires-clause-zero : goal.stuck-requires-clause-zero
stuck-requires-clause-zero c = zero_none c.args.snapshot.now.cells (subst (λ (s : Copy). AreCells (objects_of s.cells) s.cells) c.snapshot.view_is c.snapshot.invariant)
