use Rattle.std.proofs.Common.{Err, Some, sym, ap, ◌∙◌, subst, refl}
use Rattle.fz_model.specs.Joint.{HoldOwn}
use Rattle.fz_runs.specs.Machines.{JointDoes}
use Rattle.fz_runs.proofs.Machines.{hold_missing, hold_idle, held, the_error}
use Rattle.fz_runs.proofs.script.machine.Machine.hold.Goals as goal

pub returns-in_err-entry : goal.returns-in_err-entry
returns-in_err-entry c =
    let r = the_error c.from_residual.result _ c.from_residual.ensures.1 ∙ ap Err c.in_err-entry.ensures.missing.1 in
    subst (λ r. JointDoes c.args.self.now (HoldOwn c.args.worker c.args.slot) r c.args.self.now) (sym r) (hold_missing _ _ _ c.in_err-entry.ensures.missing.0)

pub returns-in_default : goal.returns-in_default
returns-in_default c = hold_idle _ _ _ (c.in_ok-entry.ensures.found ∙ ap Some c.in_default.is)

pub returns : goal.returns
returns c = held _ _ _ _ c.in-Some.entry _ (c.in_ok-entry.ensures.found ∙ ap Some c.in-Some.is) c.hold.ensures.step refl refl
