use Rattle.std.proofs.Common.{length}
use Rattle.fz_service.proofs.ending.+count_taken.Given as goal

abbrev pub decreases-count_taken : goal.decreases-count_taken
decreases-count_taken g l = length l.seats.now
