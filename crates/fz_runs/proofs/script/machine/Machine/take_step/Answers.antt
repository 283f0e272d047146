use Rattle.std.proofs.Common.{refl}
use Rattle.fz_runs.proofs.Machines.{asks, accepted, refuses}
use Rattle.fz_runs.proofs.Calls.{call_answers, call_refuses}
use Rattle.fz_runs.proofs.script.machine.Machine.take_step.Goals as goal

pub returns-in_err-make-in-Call : goal.returns-in_err-make-in-Call
returns-in_err-make-in-Call c = call_refuses _ _ _ c.in-Call.call _ _ c.in-Call.is c.in_err-make-in-Call.ensures.told c.from_residual.ensures.1

pub returns-in_ok-make-in-Call : goal.returns-in_ok-make-in-Call
returns-in_ok-make-in-Call c = call_answers _ _ _ c.in-Call.call _ c.in-Call.is c.in_ok-make-in-Call.ensures.told

pub returns-in_err-take-in-Take : goal.returns-in_err-take-in-Take
returns-in_err-take-in-Take c = refuses _ _ _ _ _ _ (asks c.in-Take.is refl) c.in_err-take-in-Take.ensures c.from_residual-in_err-take-in-Take.ensures.1

pub returns-in_ok-take-in-Take : goal.returns-in_ok-take-in-Take
returns-in_ok-take-in-Take c = accepted _ _ _ _ _ _ (asks c.in-Take.is refl) c.in_ok-take-in-Take.ensures refl refl refl

pub returns-in_err-hold-in-Hold : goal.returns-in_err-hold-in-Hold
returns-in_err-hold-in-Hold c = refuses _ _ _ _ _ _ (asks c.in-Hold.is refl) c.in_err-hold-in-Hold.ensures c.from_residual-in_err-hold-in-Hold.ensures.1

pub returns-in_ok-hold-in-Hold : goal.returns-in_ok-hold-in-Hold
returns-in_ok-hold-in-Hold c = accepted _ _ _ _ _ _ (asks c.in-Hold.is refl) c.in_ok-hold-in-Hold.ensures refl refl refl

pub returns-in_err-finish-in-Finish : goal.returns-in_err-finish-in-Finish
returns-in_err-finish-in-Finish c = refuses _ _ _ _ _ _ (asks c.in-Finish.is refl) c.in_err-finish-in-Finish.ensures c.from_residual-in_err-finish-in-Finish.ensures.1

pub returns-in_ok-finish-in-Finish : goal.returns-in_ok-finish-in-Finish
returns-in_ok-finish-in-Finish c = accepted _ _ _ _ _ _ (asks c.in-Finish.is refl) c.in_ok-finish-in-Finish.ensures refl refl refl

pub returns-in_err-forfeit-in-Forfeit : goal.returns-in_err-forfeit-in-Forfeit
returns-in_err-forfeit-in-Forfeit c = refuses _ _ _ _ _ _ (asks c.in-Forfeit.is refl) c.in_err-forfeit-in-Forfeit.ensures c.from_residual-in_err-forfeit-in-Forfeit.ensures.1

pub returns-in_ok-forfeit-in-Forfeit : goal.returns-in_ok-forfeit-in-Forfeit
returns-in_ok-forfeit-in-Forfeit c = accepted _ _ _ _ _ _ (asks c.in-Forfeit.is refl) c.in_ok-forfeit-in-Forfeit.ensures refl refl refl
