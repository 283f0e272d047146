-- What `forget` does through a handle: it changes no state of the model, and returns how many entries were forgotten.
-- code: fz_c/src/world/entries.rt
use Rattle.std.specs.Prelude.{◌≡◌, ◌+◌, ◌*◌, ◌≤◌, ℕ, Option, Some, None, length}
use Rattle.fz_model.specs.State.{State}
use Rattle.fz_world.specs.Does.{StandsFor}
use Rattle.fz_c.specs.declared.world.codes.TheConstants.{OK, NO_WORLD}
use Rattle.fz_c.specs.Owned.{Held}

pub record Forgot (old new : Held) (code count : ℕ) : Type 0 where
  pub same : new.world ≡ record old.world { forgotten = new.world.forgotten; remembered = new.world.remembered }
  pub taken : new.taken ≡ old.taken
  pub stands : (s : State) → StandsFor old.world s → StandsFor new.world s
  pub few : 16 * new.world.remembered ≤ 17 * length new.world.held
  pub freed : count + new.world.remembered ≡ old.world.remembered
  pub ok : code ≡ OK

unfoldable pub Forgets : Option Held → Option Held → ℕ → ℕ → Type 0 → Type 0
Forgets (Some old) (Some new) code count kept = Forgot old new code count
Forgets None None code count kept = (code ≡ NO_WORLD) × kept
Forgets (Some old) None code count kept = ⊥
Forgets None (Some new) code count kept = ⊥
