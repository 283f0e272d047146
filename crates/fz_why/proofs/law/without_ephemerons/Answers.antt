use Rattle.fz_why.proofs.Plain.{goes_by_paths}
use Rattle.fz_why.proofs.law.without_ephemerons.Goals as goal

pub returns : goal.returns
returns c = goes_by_paths
