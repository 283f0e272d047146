-- What the calls of an allocation that is tried again do, each as one word.
use Rattle.std.proofs.Common.{◌≡◌, Result, Ok, Err, IsTrue, IsFalse, IfOk, OnOk, OnErr, refl, ap}
use Rattle.fz_model.specs.declared.call.Call.{Call}
use Rattle.fz_model.specs.declared.refusal.Refusal.{Refusal}
use Rattle.fz_model.specs.Calls.{result_of}
use Rattle.fz_model.specs.Events.{Make, CallAnswer}
use Rattle.fz_world.specs.Does.{Does}
use Rattle.fz_world.specs.Replies.{IsCaused, MarksAs}
use Rattle.fz_world.proofs.Replying.{made, refused}
use Rattle.fz_service.specs.States.{Origin, LockedState, KeepsLine, SendsMore, RepliesAndSends, ends_cycle}

module _ (origin : Origin) (old new : LockedState) (c : Call) where
  same_world : (answer : Result (CallAnswer c) Refusal) → OnErr answer (new ≡ old) → OnErr answer (new.world ≡ old.world)
  same_world (Ok answer) same = tt
  same_world (Err r) same = ap (λ (s : LockedState). s.world) same

  pub sends : (answer : Result (CallAnswer c) Refusal) → Does old.world (Make c) answer new.world → OnErr answer (new ≡ old) → IsCaused old.world c answer → IfOk answer (λ a. MarksAs c old.world a new.world)
      → (IsFalse (ends_cycle c) → KeepsLine old new) → (IsTrue (ends_cycle c) → OnOk answer (SendsMore origin old new)) → RepliesAndSends origin old c (result_of c answer) new
  sends (Ok answer) does same caused marks line sent = record { step = made old.world new.world c (Ok answer) does tt caused marks; line = line; sent = sent; refused = tt }
  sends (Err r) does same caused marks line sent = record { step = made old.world new.world c (Err r) does (same_world (Err r) same) caused tt; line = line; sent = λ _. tt; refused = same }

  -- a refused call, over the state that it left as it was
  pub leaves : (answer : Result (CallAnswer c) Refusal) (r : Refusal) → answer ≡ Err r → Does old.world (Make c) answer new.world → OnErr answer (new ≡ old) → IsCaused old.world c answer → RepliesAndSends origin old c (Err r) old
  leaves answer r is does same caused = record { step = refused old.world new.world c answer r is does (same_world answer same) caused; line = λ _. refl; sent = λ _. tt; refused = refl }
