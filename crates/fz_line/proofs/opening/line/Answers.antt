use Rattle.fz_line.proofs.Steps.{begins}
use Rattle.fz_line.proofs.opening.line.Goals as goal

pub fifo_as-requires : goal.fifo_as-requires
fifo_as-requires c = begins
