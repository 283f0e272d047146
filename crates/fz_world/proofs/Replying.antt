-- A call as a value is made by the call of its name.
use Rattle.std.proofs.Common.{◌≡◌, Result, Ok, Err, IsErrAnd, IfOk, OnErr, refl, ap, subst}
use Rattle.fz_model.specs.declared.call.Call.{Call}
use Rattle.fz_model.specs.declared.call.Reply.{Reply}
use Rattle.fz_model.specs.declared.refusal.Refusal.{Refusal}
use Rattle.fz_model.specs.Events.{Make, CallAnswer}
use Rattle.fz_model.specs.Calls.{reply_of, result_of}
use Rattle.fz_world.specs.World.{WorldView}
use Rattle.fz_world.specs.Does.{Does}
use Rattle.fz_world.specs.Replies.{Replies, IsCaused, MarksAs}

pub replies : (old new : WorldView) (c : Call) (answer : CallAnswer c) (reply : Reply) → Does old (Make c) (Ok answer) new → reply ≡ reply_of c answer → IsCaused old c (Ok answer) → MarksAs c old answer new → Replies old c (Ok reply) new
replies old new c answer reply does told caused marks = record { answer = Ok answer; does = does; told = ap Ok told; kept = tt; caused = caused; marks = marks }

pub refuses : (old new : WorldView) (c : Call) (r : Refusal) (result : Result Reply Refusal) → Does old (Make c) (Err r) new → IsErrAnd result (λ x. x ≡ r) → new ≡ old → IsCaused old c (Err r) → Replies old c result new
refuses old new c r (Ok reply) does is same caused = absurd is
refuses old new c r (Err x) does is same caused = record { answer = Err r; does = does; told = ap Err is; kept = same; caused = caused; marks = tt }

-- what the contract of the call of a name says, as one word
pub made : (old new : WorldView) (c : Call) (answer : Result (CallAnswer c) Refusal) → Does old (Make c) answer new → OnErr answer (new ≡ old) → IsCaused old c answer → IfOk answer (λ a. MarksAs c old a new) → Replies old c (result_of c answer) new
made old new c (Ok answer) does kept caused marks = replies old new c answer (reply_of c answer) does refl caused marks
made old new c (Err r) does kept caused marks = refuses old new c r (Err r) does refl kept caused

-- the same of a refusal, over the state that it left as it was
pub refused : (old new : WorldView) (c : Call) (answer : Result (CallAnswer c) Refusal) (r : Refusal) → answer ≡ Err r → Does old (Make c) answer new → OnErr answer (new ≡ old) → IsCaused old c answer → Replies old c (Err r) old
refused old new c answer r is does kept caused =
    let same = subst (λ (a : Result (CallAnswer c) Refusal). OnErr a (new ≡ old)) is kept in
    subst (λ (w : WorldView). Replies old c (Err r) w) same
    (refuses old new c r (Err r) (subst (λ (a : Result (CallAnswer c) Refusal). Does old (Make c) a new) is does) refl same (subst (λ (a : Result (CallAnswer c) Refusal). IsCaused old c a) is caused))
