use Rattle.std.proofs.Common.{Err, Some, None, sym, ap, ◌∙◌, subst, refl}
use Rattle.fz_model.specs.Joint.{Forfeit}
use Rattle.fz_runs.specs.Machines.{JointDoes}
use Rattle.fz_runs.proofs.Machines.{forfeit_missing, forfeit_idle, forfeited, one_written, the_error}
use Rattle.fz_runs.proofs.script.machine.Machine.forfeit.Goals as goal

pub returns-in_err-hand : goal.returns-in_err-hand
returns-in_err-hand c =
    let r = the_error c.from_residual.result _ c.from_residual.ensures.1 ∙ ap Err c.in_err-hand.ensures.missing.1 in
    subst (λ r. JointDoes c.args.self.now (Forfeit c.args.worker) r c.args.self.now) (sym r) (forfeit_missing _ _ c.in_err-hand.ensures.missing.0)

pub returns-in_default : goal.returns-in_default
returns-in_default c = forfeit_idle _ _ (c.in_ok-hand.ensures.found ∙ ap Some c.in_default.is)

pub returns : goal.returns
returns c =
    let h = c.in_ok-hand.ensures.found ∙ ap Some c.in-Some.is in
    forfeited _ _ _ c.in-Some.field-0 tt h refl refl (one_written c.args.self.now.hands.items _ c.args.worker None c.deref_mut.ensures.value)
