-- Calls of the world, and the steps of a script that ask for them.
use Rattle.std.proofs.Common.{◌≡◌, Option, Some, Result, Ok, Err, refl, sym, ap, subst}
use Rattle.std.specs.Result.{IsErrAnd}
use Rattle.fz_model.specs.declared.call.Call.{Call}
use Rattle.fz_model.specs.declared.call.Reply.{Reply}
use Rattle.fz_model.specs.declared.refusal.Refusal.{Refusal}
use Rattle.fz_model.specs.Events.{Make, CallAnswer}
use Rattle.fz_model.specs.Joint as joint
use Rattle.fz_model.specs.Calls.{result_of}
use Rattle.fz_world.specs.Replies.{Replies}
use Rattle.fz_world.specs.declared.world.World.{World}
use Rattle.fz_script.specs.declared.step.Step.{Step}
use Rattle.fz_script.specs.declared.step.Step.TheVariants as script
use Rattle.fz_runs.specs.declared.script.machine.Machine.{Machine}
use Rattle.fz_runs.specs.declared.script.reply.StepReply.{StepReply}
use Rattle.fz_runs.specs.declared.script.reply.StepReply.TheVariants.{Called}
use Rattle.fz_runs.specs.Script.{event_of}
use Rattle.fz_runs.specs.Machines.{Tells, StepDoes, TakesStep}
use Rattle.fz_runs.proofs.Machines.{called, the_error}

-- what a call gives is what its step gives
abbrev of_step : Result Reply Refusal → Result StepReply Refusal
of_step (Ok reply) = Ok (Called reply)
of_step (Err refusal) = Err refusal

tells : (c : Call) (answer : Result (CallAnswer c) Refusal) → Tells (joint.Call (Make c)) answer (of_step (result_of c answer))
tells c (Ok answer) = record { words = refl; refused = refl; finish = refl; forfeit = refl }
tells c (Err refusal) = record { words = refl; refused = refl; finish = refl; forfeit = refl }

called_for : (m : Machine) (w : World) (step : Step) (c : Call) (result : Result Reply Refusal) → step ≡ script.Call c → Replies m.world c result w → StepDoes m step (of_step result) (record m { world = w })
called_for m w step c result is replies = record {
  event = joint.Call (Make c);
  reply = replies.answer;
  asked = ap event_of is;
  does = called m (record m { world = w }) (Make c) replies.answer refl replies.does refl refl;
  tells = subst (λ r. Tells (joint.Call (Make c)) replies.answer (of_step r)) (sym replies.told) (tells c replies.answer);
}

pub call_answers : (m : Machine) (w : World) (step : Step) (c : Call) (reply : Reply) → step ≡ script.Call c → Replies m.world c (Ok reply) w → TakesStep m step (Ok (Some (Called reply))) (record m { world = w })
call_answers m w step c reply is replies = called_for m w step c (Ok reply) is replies

pub call_refuses : (m : Machine) (w : World) (step : Step) (c : Call) (r : Refusal) (result : Result (Option StepReply) Refusal) → step ≡ script.Call c → Replies m.world c (Err r) w → IsErrAnd result (λ x. x ≡ r) → TakesStep m step result (record m { world = w })
call_refuses m w step c r result is replies error = subst (λ x. TakesStep m step x (record m { world = w })) (sym (the_error result r error)) (called_for m w step c (Err r) is replies)
