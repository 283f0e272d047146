-- What follows about a world's calls and its readers, in other words than their definitions. These laws test the definitions.
-- code: fz_world/src/law.rt
use Rattle.std.specs.Prelude.{◌≡◌, ◌≢◌, ℕ, Bool, ◌⊎◌, Result, Ok, Err, IsTrue, IsFalse}
use Rattle.std.specs.FinSet.{contains}
use Rattle.fz_model.specs.declared.call.Call.{Call}
use Rattle.fz_model.specs.declared.call.Call.TheVariants.{Collect}
use Rattle.fz_model.specs.declared.call.Reply.{Reply}
use Rattle.fz_model.specs.declared.refusal.Refusal.{Refusal}
use Rattle.fz_model.specs.declared.refusal.Refusal.TheVariants.{NoSpace}
use Rattle.fz_model.specs.Events.{Event, Answer}
use Rattle.fz_model.specs.State.{State}
use Rattle.fz_model.specs.Steps.{StepsTo, any_call}
use Rattle.fz_world.specs.Does.{Does, StandsFor}
use Rattle.fz_world.specs.Replies.{Replies}
use Rattle.fz_world.specs.Retried.{TriesTwice}
use Rattle.fz_world.specs.Shown.{IsFirstFrom}
use Rattle.fz_world.specs.World.{WorldView, MarksMade}

-- a refused call changes neither what the world shows nor which states it represents
abbrev pub RefusesWithoutEffect : WorldView → WorldView → Type 0
RefusesWithoutEffect old new = (e : Event) (r : Refusal) (s : State) → StandsFor old s → Does old e (Err r) new → (new.core ≡ old.core) × StandsFor new s

-- the worlds that calls reach
pub data Runs (old : WorldView) : WorldView → Type 0 where
  Rests : Runs old old
  Calls : {mid new : WorldView} (e : Event) (reply : Result (Answer e) Refusal) → Runs old mid → Does mid e reply new → Runs old new

-- they show a state that steps of the model reach, and have forgotten nothing
abbrev pub RunsAreSteps : WorldView → WorldView → Type 0
RunsAreSteps old new = Runs old new → (s : State) → StandsFor old s → (t : State) × StepsTo any_call s t × (new.core ≡ t.core) × (new.forgotten ≡ old.forgotten)

-- an object that is allocated in an open cycle is marked; otherwise no mark changes
abbrev pub MarksOnlyInCycle : WorldView → ℕ → WorldView → Type 0
MarksOnlyInCycle old address new =
    MarksMade old address new
    → (IsTrue old.cycle → IsTrue (contains new.marked address))
    × (IsFalse old.cycle → new.marked ≡ old.marked)
    × ((other : ℕ) → other ≢ address → contains new.marked other ≡ contains old.marked other)

-- a reader finds one address
abbrev pub FindsOne : ℕ → (ℕ → Bool) → ℕ → Type 0
FindsOne blocks has from = (a b : ℕ) → IsFirstFrom blocks has from a → IsFirstFrom blocks has from b → a ≡ b

-- an allocation that finds no space in spite of a collection was tried again after it
abbrev pub FailsAfterCollection : Call → WorldView → WorldView → Type 0
FailsAfterCollection call old new =
    TriesTwice Replies (λ collected same. same ≡ collected) call old (Err NoSpace) new
    → ((mid : WorldView) × (passed : Reply) × Replies old Collect (Ok passed) mid × Replies mid call (Err NoSpace) new) ⊎ Replies old Collect (Err NoSpace) new
