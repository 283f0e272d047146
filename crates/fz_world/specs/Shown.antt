-- What the readers of a world return, by address.
-- code: fz_world/src/shown.rt
use Rattle.std.specs.Prelude.{ℕ, ◌≤◌, ◌<◌, Bool, List, length, IsTrue, IsFalse}
use Rattle.std.specs.FinMap.{contains_key}
use Rattle.fz_model.specs.State as model
use Rattle.fz_model.specs.State.{Core}
use Rattle.fz_model.specs.Extents.{IsInHeap}
use Rattle.fz_model.specs.Events.{links_of}
use Rattle.fz_model.specs.declared.answers.Entry.{Entry}
use Rattle.fz_finalizers.specs.Queue as queue
use Rattle.fz_world.specs.declared.shown.Object.{Object}
use Rattle.fz_world.specs.declared.shown.Table.{Table}
use Rattle.fz_world.specs.declared.shown.Table.TheVariants.{Objects, Registrations, Links}

-- of an object's words only their number is shown
abbrev pub shown_object : ℕ → model.Object → Object
shown_object start o = record { start = start; size = length o.words; kind = o.kind; birth = o.birth }

-- the first of these held entries with a number of at least `from`
abbrev pub IsNextHeld : List Entry → ℕ → Entry → Type 0
IsNextHeld = queue.IsNextHeld

-- the addresses at which a table has an entry
abbrev pub has_row : Core → Table → ℕ → Bool
has_row c Objects = contains_key c.objects
has_row c Registrations = contains_key c.registrations
has_row c (Links which) = contains_key (links_of c which)

-- no address of a heap of `blocks` blocks has it, from `from` on
abbrev pub HasNoneFrom : ℕ → (ℕ → Bool) → ℕ → Type 0
HasNoneFrom blocks has from = (a : ℕ) → IsInHeap blocks a → from ≤ a → IsFalse (has a)

-- the first address of the heap that has it, from `from` on
pub record IsFirstFrom (blocks : ℕ) (has : ℕ → Bool) (from first : ℕ) : Type 0 where
  pub here : IsTrue (has first)
  pub in_heap : IsInHeap blocks first
  pub after : from ≤ first
  pub before : (a : ℕ) → IsInHeap blocks a → from ≤ a → a < first → IsFalse (has a)
