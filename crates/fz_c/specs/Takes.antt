-- Taking entries: in queue order, each once, and none that is finished; also by a call that finishes the one before.
-- code: fz_c/src/world/entries.rt, session.rt
use Rattle.std.specs.Prelude.{◌≡◌, ℕ, Bool, Option, Some, None, Result, Ok, Err, IfOk, OnErr, length, nat_lt}
use Rattle.fz_model.specs.declared.answers.Entry as answers
use Rattle.fz_model.specs.declared.refusal.Refusal.{Refusal}
use Rattle.fz_model.specs.Events.{Finish}
use Rattle.fz_model.specs.Refusals.{code_of}
use Rattle.fz_world.specs.Does.{Does}
use Rattle.fz_c.specs.declared.world.codes.TheConstants.{OK, NO_WORLD}
use Rattle.fz_c.specs.declared.entry.Entry.{Entry}
use Rattle.fz_c.specs.Next.{IsNext, TakesNext}
use Rattle.fz_c.specs.Owned.{Held}
use Rattle.fz_c.specs.Told.{IsFound}
use Rattle.fz_c.specs.Places.{TellsEntry}

-- the next entry is returned, if there is one; the world is unchanged
pub record Taken (old : Held) (new : Held) (code : ℕ) (entry : Entry) (kept : Type 0) : Type 0 where
  pub same : new.world ≡ old.world
  pub found : Option answers.Entry
  pub next : TakesNext old.world old.taken found new.taken
  pub told : IsFound found code (TellsEntry entry) kept

unfoldable pub Takes : Option Held → Option Held → ℕ → Entry → Type 0 → Type 0
Takes (Some old) (Some new) code entry kept = Taken old new code entry kept
Takes None None code entry kept = (code ≡ NO_WORLD) × kept
Takes (Some old) None code entry kept = ⊥
Takes None (Some new) code entry kept = ⊥

-- whether there is a next entry; finished entries are skipped, and the world is unchanged
pub record Waited (old : Held) (new : Held) (code : ℕ) (waiting : Bool) : Type 0 where
  pub same : new.world ≡ old.world
  pub next : IsNext old.world old.taken new.taken
  pub ok : code ≡ OK
  pub told : waiting ≡ nat_lt new.taken (length old.world.queue)

unfoldable pub Waits : Option Held → Option Held → ℕ → Bool → Type 0 → Type 0
Waits (Some old) (Some new) code waiting kept = Waited old new code waiting
Waits None None code waiting kept = (code ≡ NO_WORLD) × kept
Waits (Some old) None code waiting kept = ⊥
Waits None (Some new) code waiting kept = ⊥

-- the result of finishing alone
abbrev pub finished : Result (Option answers.Entry) Refusal → Result (Unit {0}) Refusal
finished (Ok found) = Ok tt
finished (Err r) = Err r

-- an entry is finished, and the next one is returned, if there is one; or the code is that of the refusal, and C's variable is unchanged
abbrev pub IsNextTold : Result (Option answers.Entry) Refusal → ℕ → Entry → Type 0 → Type 0
IsNextTold (Ok found) code entry kept = IsFound found code (TellsEntry entry) kept
IsNextTold (Err r) code entry kept = (code ≡ code_of r) × kept

-- the entry is finished, and then the next one is taken; a refused call changes nothing
pub record Finished (old : Held) (e : answers.Entry) (new : Held) (code : ℕ) (entry : Entry) (kept : Type 0) : Type 0 where
  pub reply : Result (Option answers.Entry) Refusal
  pub step : Does old.world (Finish e) (finished reply) new.world
  pub refused : OnErr reply (new ≡ old)
  pub next : IfOk reply (λ found. TakesNext new.world old.taken found new.taken)
  pub told : IsNextTold reply code entry kept

unfoldable pub FinishesAndTakes : Option Held → answers.Entry → Option Held → ℕ → Entry → Type 0 → Type 0
FinishesAndTakes (Some old) e (Some new) code entry kept = Finished old e new code entry kept
FinishesAndTakes None e None code entry kept = (code ≡ NO_WORLD) × kept
FinishesAndTakes (Some old) e None code entry kept = ⊥
FinishesAndTakes None e (Some new) code entry kept = ⊥
