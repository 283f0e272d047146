use Rattle.fz_pass.proofs.ByPaths.{decides_by_paths, nothing_settles}
use Rattle.fz_pass.proofs.law.passes_without_ephemerons.Goals as goal

pub returns-clause-settles : goal.returns-clause-settles
returns-clause-settles c = nothing_settles

pub returns-clause-exactly : goal.returns-clause-exactly
returns-clause-exactly c = decides_by_paths (Unit {0})

pub returns-clause-at_most : goal.returns-clause-at_most
returns-clause-at_most c = decides_by_paths ⊥
