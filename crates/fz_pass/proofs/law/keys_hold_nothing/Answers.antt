use Rattle.fz_pass.proofs.OwnKeys.{keys_hold_nothing, keys_find_nothing}
use Rattle.fz_pass.proofs.law.keys_hold_nothing.Goals as goal

pub returns-clause-hold : goal.returns-clause-hold
returns-clause-hold c = keys_hold_nothing

pub returns-clause-find : goal.returns-clause-find
returns-clause-find c = keys_find_nothing
