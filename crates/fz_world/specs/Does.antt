-- A world represents a state of the model, and each of its calls is a step of the model from that state.
-- code: fz_world/src/world.rt
use Rattle.std.specs.Prelude.{◌≡◌, ℕ, [], ◌∷◌, Result, IsTrue}
use Rattle.std.specs.FinSet.{contains}
use Rattle.fz_model.specs.declared.refusal.Refusal.{Refusal}
use Rattle.fz_model.specs.declared.limits.TheConstants.{MAX_BLOCKS, MAX_FRAMES}
use Rattle.fz_model.specs.State.{State}
use Rattle.fz_model.specs.Seen.{SeenIsClosed}
use Rattle.fz_model.specs.Reachability.{WasSeen}
use Rattle.fz_model.specs.Causes.{Causes, bad_count}
use Rattle.fz_model.specs.Events.{Event, Answer}
use Rattle.fz_model.specs.Steps.{Step}
use Rattle.fz_bits.specs.Flags.{Set}
use Rattle.fz_world.specs.World.{WorldView}

-- in an open cycle each marked object was seen
abbrev pub AreSeen : State → Set → Type 0
AreSeen s marked = IsTrue s.cycle → (a : ℕ) → IsTrue (contains marked a) → WasSeen s a

-- the world has the core of the state; what the state's open cycle has seen is closed under children and contains everything that is reachable or marked
pub record StandsFor (world : WorldView) (s : State) : Type 0 where
  pub core : world.core ≡ s.core
  pub seen : SeenIsClosed s
  pub marks : AreSeen s world.marked

-- from each state that the old world represents there is a step with this reply to a state that the new world represents; and no entry is forgotten
unfoldable pub Does : WorldView → (e : Event) → Result (Answer e) Refusal → WorldView → Type 0
Does old e reply new = (new.forgotten ≡ old.forgotten) × ((s : State) → StandsFor old s → (t : State) × Step s e reply t × StandsFor new t)

-- the causes for which opening a world is refused
abbrev pub open_causes : ℕ → ℕ → Causes
open_causes blocks frames = bad_count MAX_BLOCKS blocks ∷ bad_count MAX_FRAMES frames ∷ []
