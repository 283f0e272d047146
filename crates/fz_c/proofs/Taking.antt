-- The taking of entries through a handle, from what its parts ensure.
use Rattle.std.proofs.Common.{◌≡◌, ℕ, Bool, Option, Some, None, Result, length, nat_lt, slice_get, IsFalse, refl, sym, subst}
use Rattle.std.specs.Prelude.{IfOk, OnErr}
use Rattle.std.proofs.lemmas.Bool.{both_ways}
use Rattle.fz_model.specs.declared.answers.Entry as answers
use Rattle.fz_model.specs.declared.refusal.Refusal.{Refusal}
use Rattle.fz_model.specs.Events.{Finish}
use Rattle.fz_c.specs.declared.world.codes.TheConstants.{OK, NO_WORLD}
use Rattle.fz_c.specs.declared.entry.Entry.{Entry}
use Rattle.fz_world.specs.Does.{Does}
use Rattle.fz_world.specs.World.{WorldView}
use Rattle.fz_c.specs.Next.{IsNext, TakesNext, is_held}
use Rattle.fz_c.specs.Owned.{Held}
use Rattle.fz_c.specs.Told.{IsFound}
use Rattle.fz_c.specs.Places.{TellsEntry}
use Rattle.fz_c.specs.Takes.{Finished, FinishesAndTakes, IsNextTold, Taken, Takes, Waited, Waits, finished}

-- if nothing is returned at the next place, there is nothing
pub none_next : (w : WorldView) (from place : ℕ) → IsNext w from place → ((e : answers.Entry) → slice_get w.queue place ≡ Some e → IsFalse (is_held w e)) → None ≡ slice_get w.queue place
none_next w from place next none = by (slice_get w.queue place) refl
  where
    by : (o : Option answers.Entry) → slice_get w.queue place ≡ o → None ≡ o
    by None is = refl
    by (Some e) is = absurd (both_ways (is_held w e) (none e is) (next.held e is))

pub not_taken : {old new : Option Held} (entry : Entry) (kept : Type 0) → old ≡ None → new ≡ None → kept → Takes old new NO_WORLD entry kept
unfolding Takes
not_taken {old = old} {new = new} entry kept o n k =
    subst (λ (v : Option Held). Takes v new NO_WORLD entry kept) (sym o) (subst (λ (v : Option Held). Takes None v NO_WORLD entry kept) (sym n) (refl, k))

pub taken : {old new : Option Held} (code : ℕ) (entry : Entry) (kept : Type 0) (before session after : Held) (found : Option answers.Entry)
    → session ≡ before → old ≡ Some before → new ≡ Some after → after.world ≡ session.world → TakesNext session.world session.taken found after.taken
    → IsFound found code (TellsEntry entry) kept → Takes old new code entry kept
unfolding Takes
taken {old = old} {new = new} code entry kept before session after found s o n same next told =
    subst (λ (v : Option Held). Takes v new code entry kept) (sym o) (subst (λ (v : Option Held). Takes (Some before) v code entry kept) (sym n)
    (subst (λ (b : Held). Taken b after code entry kept) s (record { same = same; found = found; next = next; told = told })))

pub not_waited : {old new : Option Held} (waiting : Bool) (kept : Type 0) → old ≡ None → new ≡ None → kept → Waits old new NO_WORLD waiting kept
unfolding Waits
not_waited {old = old} {new = new} waiting kept o n k =
    subst (λ (v : Option Held). Waits v new NO_WORLD waiting kept) (sym o) (subst (λ (v : Option Held). Waits None v NO_WORLD waiting kept) (sym n) (refl, k))

pub waited : {old new : Option Held} (waiting : Bool) (kept : Type 0) (before session after : Held)
    → session ≡ before → old ≡ Some before → new ≡ Some after → after.world ≡ session.world → IsNext session.world session.taken after.taken
    → waiting ≡ nat_lt after.taken (length session.world.queue) → Waits old new OK waiting kept
unfolding Waits
waited {old = old} {new = new} waiting kept before session after s o n same next told =
    subst (λ (v : Option Held). Waits v new OK waiting kept) (sym o) (subst (λ (v : Option Held). Waits (Some before) v OK waiting kept) (sym n)
    (subst (λ (b : Held). Waited b after OK waiting) s (record { same = same; next = next; ok = refl; told = told })))

pub not_finished : {old new : Option Held} (e : answers.Entry) (entry : Entry) (kept : Type 0) → old ≡ None → new ≡ None → kept → FinishesAndTakes old e new NO_WORLD entry kept
unfolding FinishesAndTakes
not_finished {old = old} {new = new} e entry kept o n k =
    subst (λ (v : Option Held). FinishesAndTakes v e new NO_WORLD entry kept) (sym o) (subst (λ (v : Option Held). FinishesAndTakes None e v NO_WORLD entry kept) (sym n) (refl, k))

pub finished_and_taken : {old new : Option Held} (e : answers.Entry) (code : ℕ) (entry : Entry) (kept : Type 0) (before session after : Held) (reply : Result (Option answers.Entry) Refusal)
    → session ≡ before → old ≡ Some before → new ≡ Some after → Does session.world (Finish e) (finished reply) after.world → OnErr reply (after ≡ session)
    → IfOk reply (λ found. TakesNext after.world session.taken found after.taken) → IsNextTold reply code entry kept → FinishesAndTakes old e new code entry kept
unfolding FinishesAndTakes
finished_and_taken {old = old} {new = new} e code entry kept before session after reply s o n step refused next told =
    subst (λ (v : Option Held). FinishesAndTakes v e new code entry kept) (sym o) (subst (λ (v : Option Held). FinishesAndTakes (Some before) e v code entry kept) (sym n)
    (subst (λ (b : Held). Finished b e after code entry kept) s (record { reply = reply; step = step; refused = refused; next = next; told = told })))
