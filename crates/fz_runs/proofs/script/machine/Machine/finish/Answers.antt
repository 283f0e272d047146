use Rattle.std.proofs.Common.{Err, Some, None, sym, ap, ◌∙◌, subst, refl}
use Rattle.fz_model.specs.Joint.{FinishOwn}
use Rattle.fz_runs.specs.Machines.{JointDoes}
use Rattle.fz_runs.proofs.Machines.{finish_missing, finish_idle, finish_refused, finished, one_written, the_error}
use Rattle.fz_runs.proofs.script.machine.Machine.finish.Goals as goal

pub returns-in_err-entry : goal.returns-in_err-entry
returns-in_err-entry c =
    let r = the_error c.from_residual.result _ c.from_residual.ensures.1 ∙ ap Err c.in_err-entry.ensures.missing.1 in
    subst (λ r. JointDoes c.args.self.now (FinishOwn c.args.worker) r c.args.self.now) (sym r) (finish_missing _ _ c.in_err-entry.ensures.missing.0)

pub returns-in_default : goal.returns-in_default
returns-in_default c = finish_idle _ _ (c.in_ok-entry.ensures.found ∙ ap Some c.in_default.is)

pub returns-in_err-finish : goal.returns-in_err-finish
returns-in_err-finish c =
    let r = the_error c.from_residual-in_err-finish.result _ c.from_residual-in_err-finish.ensures.1 in
    subst (λ r. JointDoes c.args.self.now (FinishOwn c.args.worker) r (record c.args.self.now { world = c.finish.new.self })) (sym r)
    (finish_refused _ _ _ c.in-Some.entry c.in_err-finish.field-0.0 (c.in_ok-entry.ensures.found ∙ ap Some c.in-Some.is) c.in_err-finish.ensures.step refl refl)

pub returns : goal.returns
returns c =
    finished _ _ _ c.in-Some.entry tt (c.in_ok-entry.ensures.found ∙ ap Some c.in-Some.is) c.in_ok-finish.ensures.step refl (one_written c.args.self.now.hands.items _ c.args.worker None c.deref_mut.ensures.value)
