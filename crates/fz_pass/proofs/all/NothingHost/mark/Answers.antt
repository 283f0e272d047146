use Rattle.fz_pass.proofs.Absent.{no_object}
use Rattle.fz_pass.proofs.all.NothingHost.mark.Goals as goal

pub returns-clause-marked : goal.returns-clause-marked
returns-clause-marked c = absurd (no_object c.args._object c.requires.object)
