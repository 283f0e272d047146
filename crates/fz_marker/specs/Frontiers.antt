-- A growing set of addresses with a mark stack: the members that wait to be scanned.
-- code: fz_marker/src/frontier.rt
use Rattle.std.specs.Prelude.{◌≡◌, ℕ, ◌+◌, ◌-◌, ◌<◌, ◌≤◌, Some, List, length, Contains, ◌↔◌, ◌⊎◌, IsTrue, IsFalse, refl}
use Rattle.std.specs.Coded.{Coded, code_by, coded×, coded_ℕ, coded_list}
use Rattle.std.specs.FinSet as sets
use Rattle.std.specs.FinSet.{contains, len}
use Rattle.fz_model.specs.declared.limits.TheConstants.{HEAP_START}
use Rattle.fz_model.specs.State.{Map, Object}
use Rattle.fz_model.specs.Memory.{points}
use Rattle.fz_bits.specs.Flags.{Set, Flagged, IsWithin}
use Rattle.fz_marker.specs.Marking.{IsLedFrom, HasChildrenIn}

pub record Frontier : Type 0 where
  pub size : ℕ
  pub members : Set
  pub waiting : List ℕ

abbrev pub frontier_code : Coded Frontier
frontier_code =
    code_by (ℕ × (Set × List ℕ)) (coded× coded_ℕ (coded× (sets.code coded_ℕ) (coded_list coded_ℕ))) (λ f. (f.size, (f.members, f.waiting))) (λ p. record { size = p.0; members = p.1.0; waiting = p.1.1 }) (λ _. refl)

-- the address is one of the first `size` addresses of the heap
abbrev pub IsAmong : ℕ → ℕ → Type 0
IsAmong size a = (HEAP_START ≤ a) × (a < HEAP_START + size)

-- no more objects wait than are members, and the mark stack has room for all that may become members
pub record HasRoom (set : Flagged) (waiting : List ℕ) (capacity : ℕ) : Type 0 where
  pub wait : length waiting ≤ len set.members
  pub few : len set.members ≤ set.size
  pub room : set.size ≤ capacity
  pub within : (a : ℕ) → Contains waiting a → IsAmong set.size a

-- some addresses became members, and the new ones wait
pub record Gains (old new : Frontier) (gained : ℕ → Type 0) : Type 0 where
  pub size : new.size ≡ old.size
  pub members : (a : ℕ) → IsTrue (contains new.members a) ↔ (IsTrue (contains old.members a) ⊎ gained a)
  pub waiting : (a : ℕ) → Contains new.waiting a ↔ (Contains old.waiting a ⊎ (IsTrue (contains new.members a) × IsFalse (contains old.members a)))
  pub counted : len new.members + length old.waiting ≡ len old.members + length new.waiting
  pub few : len new.members ≤ new.size
  pub low : (a : ℕ) → IsTrue (contains new.members a) → IsTrue (contains old.members a) ⊎ (HEAP_START ≤ a)

-- members are reached from the first ones, and each member waits or has its children among the members
pub record IsTracing (objects : Map Object) (first now : Frontier) : Type 0 where
  pub size : now.size ≡ first.size
  pub few : len now.members ≤ now.size
  pub kept : IsWithin first.members now.members
  pub led : (a : ℕ) → IsTrue (contains now.members a) → IsLedFrom objects first.members a
  pub waiting : (a : ℕ) → Contains now.waiting a → IsTrue (contains now.members a)
  pub read : (a : ℕ) → IsTrue (contains now.members a) → Contains now.waiting a ⊎ HasChildrenIn objects now.members a

-- how many objects wait or may still come to wait
abbrev pub left : Frontier → ℕ
left f = f.size - len f.members + length f.waiting

-- one of the words points to the object
pub record IsPointedAt (objects : Map Object) (words : List ℕ) (a : ℕ) : Type 0 where
  pub word : ℕ
  pub within : Contains words word
  pub pointed : points objects word ≡ Some a
