use Rattle.std.proofs.Common.{Err, sym, ap, ◌∙◌, subst, refl, slice_get}
use Rattle.fz_model.specs.Joint.{Take}
use Rattle.fz_runs.specs.Machines.{JointDoes}
use Rattle.fz_runs.proofs.Machines.{take_missing, take_busy, took, one_written, the_error}
use Rattle.fz_runs.proofs.script.machine.Machine.take.Goals as goal

pub returns-in_err-hand : goal.returns-in_err-hand
returns-in_err-hand c =
    let r = the_error c.from_residual.result _ c.from_residual.ensures.1 ∙ ap Err c.in_err-hand.ensures.missing.1 in
    subst (λ r. JointDoes c.args.self.now (Take c.args.worker) r c.args.self.now) (sym r) (take_missing _ _ c.in_err-hand.ensures.missing.0)

pub returns-then-is_some : goal.returns-then-is_some
returns-then-is_some c = take_busy _ _ c.in_ok-hand.hand c.in_ok-hand.ensures.found (sym c.is_some.ensures ∙ c.if-is_some.true)

pub returns : goal.returns
returns c =
    took _ _ _ c.in_ok-hand.hand c.take-entry.result c.in_ok-hand.ensures.found (sym c.is_some.ensures ∙ c.if-is_some.false)
    (c.take-entry.ensures.entry ∙ ap (λ q. slice_get q c.args.self.now.line) c.queue.ensures.queue) refl c.take-entry.ensures.counted
    (one_written c.args.self.now.hands.items _ c.args.worker c.take-entry.result c.deref_mut.ensures.value)
