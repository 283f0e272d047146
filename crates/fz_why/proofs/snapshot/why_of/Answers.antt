use Rattle.std.proofs.Common.{subst}
use Rattle.fz_why.specs.Snapshot.{AreCells, Copy, objects_of}
use Rattle.fz_why.proofs.Cells.{zero_none}
use Rattle.fz_why.proofs.snapshot.why_of.Goals as goal

pub why-requires-clause-zero : goal.why-requires-clause-zero
why-requires-clause-zero c = zero_none c.args.snapshot.now.cells (subst (λ (s : Copy). AreCells (objects_of s.cells) s.cells) c.snapshot.view_is c.snapshot.invariant)
