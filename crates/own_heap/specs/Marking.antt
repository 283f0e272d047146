-- How the marks of records grow.
-- code: own_heap/src/marking.rt, marks.rt
use Rattle.std.specs.Prelude.{◌≡◌, ◌≢◌, ℕ, ◌+◌, ◌<◌, ◌↔◌, ◌⊎◌, Bool, false, List, not, count_by, length, slice_index_or, Some, Contains, IsTrue, IsFalse}
use Rattle.std.specs.Option.{option_map_or}
use Rattle.fz_model.specs.State.{Map, Object}
use Rattle.fz_model.specs.Memory.{points}
use Rattle.fz_model.specs.Reachability.{Child, Leads}
use Rattle.own_heap.specs.declared.marks.Marks.{Marks}
use Rattle.own_heap.specs.declared.record.Field.{Field}
use Rattle.own_heap.specs.Records.{place_of, word_of}

-- it is the address of a marked record
abbrev pub is_in : List Bool → ℕ → Bool
is_in marked a = option_map_or (λ place. slice_index_or marked place false) (place_of a) false

abbrev pub is_marked : Marks → ℕ → Bool
is_marked m a = is_in m.marked.items a

-- how many records wait, or may still come to wait
abbrev pub left : Marks → ℕ
left m = length m.waiting.items + count_by not m.marked.items

-- it is the address of one of the first records
abbrev pub IsAmong : ℕ → ℕ → Type 0
IsAmong size a = (place : ℕ) × (place_of a ≡ Some place) × (place < size)

-- these were added to the marks, and the new ones wait
pub record Gains (old new : Marks) (gained : ℕ → Type 0) : Type 0 where
  pub size : length new.marked.items ≡ length old.marked.items
  pub marked : (a : ℕ) → IsTrue (is_marked new a) ↔ (IsTrue (is_marked old a) ⊎ gained a)
  pub waiting : (a : ℕ) → Contains new.waiting.items a ↔ (Contains old.waiting.items a ⊎ (IsTrue (is_marked new a) × IsFalse (is_marked old a)))
  pub counted : left new ≡ left old

-- the field refers to it; with `but_itself` it isn't the object itself
abbrev pub IsTargetBut : Map Object → Bool → ℕ → Field → ℕ → Type 0
IsTargetBut objects but_itself object field a = (points objects (word_of field) ≡ Some a) × (IsTrue but_itself → a ≢ object)

-- the object refers to it, with the same exception
abbrev pub IsChildBut : Map Object → Bool → ℕ → ℕ → Type 0
IsChildBut objects but_itself object a = Child objects object a × (IsTrue but_itself → a ≢ object)

-- all its children are marked
abbrev pub IsRead : Map Object → Marks → ℕ → Type 0
IsRead objects m a = (b : ℕ) → Child objects a b → IsTrue (is_marked m b)

-- marked records are reached from the first ones, and each waits or has marked children
pub record IsTracing (objects : Map Object) (first now : Marks) : Type 0 where
  pub size : length now.marked.items ≡ length first.marked.items
  pub kept : (a : ℕ) → IsTrue (is_marked first a) → IsTrue (is_marked now a)
  pub led : (a : ℕ) → IsTrue (is_marked now a) → (from : ℕ) × IsTrue (is_marked first from) × Leads objects from a
  pub waiting : (a : ℕ) → Contains now.waiting.items a → IsTrue (is_marked now a)
  pub read : (a : ℕ) → IsTrue (is_marked now a) → Contains now.waiting.items a ⊎ IsRead objects now a
