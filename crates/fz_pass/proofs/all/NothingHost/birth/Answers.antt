use Rattle.fz_pass.proofs.Absent.{not_there}
use Rattle.fz_pass.proofs.all.NothingHost.birth.Goals as goal

pub returns : goal.returns
returns c = λ o here. absurd (not_there c.args._object o here)
