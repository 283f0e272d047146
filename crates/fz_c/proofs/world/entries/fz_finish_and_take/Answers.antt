-- The session finishes the entry and takes the next, and the handle gets it back.
use Rattle.std.proofs.Common.{◌≡◌, refl, sym, subst}
use Rattle.std.specs.Prelude.{Option, Result}
use Rattle.fz_model.specs.declared.answers.Entry as answers
use Rattle.fz_model.specs.declared.refusal.Refusal.{Refusal}
use Rattle.fz_c.specs.Takes.{FinishesAndTakes, IsNextTold}
use Rattle.fz_c.proofs.Told.{none_taken}
use Rattle.fz_c.proofs.Taking.{not_finished, finished_and_taken}
use Rattle.fz_c.proofs.world.entries.fz_finish_and_take.Goals as goal

pub returns-in_default : goal.returns-in_default
returns-in_default c = not_finished _ _ _ (none_taken _ c.in_default.is c.take.ensures.taken) c.take.ensures.empty refl

pub returns-in-Ok : goal.returns-in-Ok
returns-in-Ok c =
    let did = c.finish_and_take-reply.ensures in
    subst (λ (e : answers.Entry). FinishesAndTakes c.args.world.now.value e c.put.new.handle.value c.tell_entry.result c.tell_entry.new.entry (c.tell_entry.new.entry ≡ c.args.entry.now)) c.read.ensures
    (finished_and_taken _ _ _ _ _ _ _ c.finish_and_take-reply.result c.deref_mut.ensures.value c.in-Some.ensures.taken c.put.ensures did.step did.refused did.next
    (subst (λ (r : Result (Option answers.Entry) Refusal). IsNextTold r c.tell_entry.result c.tell_entry.new.entry (c.tell_entry.new.entry ≡ c.args.entry.now)) (sym c.in-Ok.is) c.tell_entry.ensures))

pub returns-in-Err : goal.returns-in-Err
returns-in-Err c =
    let did = c.finish_and_take-reply.ensures in
    subst (λ (e : answers.Entry). FinishesAndTakes c.args.world.now.value e c.put.new.handle.value c.code.result c.args.entry.now (c.args.entry.now ≡ c.args.entry.now)) c.read.ensures
    (finished_and_taken _ _ _ _ _ _ _ c.finish_and_take-reply.result c.deref_mut.ensures.value c.in-Some.ensures.taken c.put.ensures did.step did.refused did.next
    (subst (λ (r : Result (Option answers.Entry) Refusal). IsNextTold r c.code.result c.args.entry.now (c.args.entry.now ≡ c.args.entry.now)) (sym c.in-Err.is) (c.code.ensures, refl)))
