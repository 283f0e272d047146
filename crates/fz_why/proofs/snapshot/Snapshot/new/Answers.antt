use Rattle.fz_why.proofs.Cells.{cells_none}
use Rattle.fz_why.proofs.snapshot.Snapshot.new.Goals as goal

pub invariant_of-result : goal.invariant_of-result
invariant_of-result c = cells_none c.with_hasher.result.entries c.with_hasher.ensures.empty
