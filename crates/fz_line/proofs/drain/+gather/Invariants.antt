use Rattle.std.proofs.Common.{length}
use Rattle.fz_line.proofs.drain.+gather.Given as goal

abbrev pub decreases-gather : goal.decreases-gather
decreases-gather l = length l.seats.now
