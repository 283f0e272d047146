-- The next entry to be taken: the first held entry after those that were taken.
-- code: fz_c/src/world/session.rt
use Rattle.std.specs.Prelude.{◌≡◌, ◌+◌, ◌<◌, ◌≤◌, ◌⊎◌, ℕ, Bool, Option, Some, if◌then◌else◌, is_some, length, slice_get, IsTrue, IsFalse}
use Rattle.std.specs.List.{list_any}
use Rattle.fz_model.specs.declared.answers.Entry.{Entry}
use Rattle.fz_model.specs.Events.{same_entry}
use Rattle.fz_world.specs.World.{WorldView}

abbrev pub is_held : WorldView → Entry → Bool
is_held w e = list_any (same_entry e) w.held

-- the first index, from one on, whose entry is held, or else the end of the queue
pub record IsNext (w : WorldView) (from place : ℕ) : Type 0 where
  pub after : from ≤ place
  pub within : (place ≤ from) ⊎ (place ≤ length w.queue)
  pub finished : (k : ℕ) (e : Entry) → from ≤ k → k < place → slice_get w.queue k ≡ Some e → IsFalse (is_held w e)
  pub held : (e : Entry) → slice_get w.queue place ≡ Some e → IsTrue (is_held w e)

-- the entry at that index is taken, if there is one
pub record TakesNext (w : WorldView) (from : ℕ) (found : Option Entry) (taken : ℕ) : Type 0 where
  pub place : ℕ
  pub next : IsNext w from place
  pub entry : found ≡ slice_get w.queue place
  pub counted : taken ≡ place + (if is_some found then 1 else 0)
