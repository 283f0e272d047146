-- On which pages an object lies.
-- code: fz_marker/src/cycle.rt
use Rattle.std.specs.Prelude.{◌≡◌, ℕ, ◌+◌, ◌≤◌, ◌<◌, ◌⊎◌, Some, length, IsTrue}
use Rattle.std.specs.FinSet.{contains}
use Rattle.std.specs.FinMap.{get}
use Rattle.fz_model.specs.State.{Map, Object}
use Rattle.fz_model.specs.Memory.{points}
use Rattle.fz_model.specs.Allocation.{block_of, block_start}
use Rattle.fz_bits.specs.Flags.{Set}

-- a word of the object at `a` lies on the page
pub record HasWordOn (objects : Map Object) (page a : ℕ) : Type 0 where
  pub object : Object
  pub here : get objects a ≡ Some object
  pub address : ℕ
  pub after : a ≤ address
  pub before : address < a + length object.words
  pub on : block_of address ≡ page

-- the object starts on the page, or the page's first word points to it
abbrev pub StandsOn : Map Object → ℕ → ℕ → Type 0
StandsOn objects page a = (block_of a ≡ page) ⊎ (points objects (block_start page) ≡ Some a)

-- the object lies on a dirty page that isn't before `from`
abbrev pub IsOnNotedFrom : Map Object → Set → ℕ → ℕ → Type 0
IsOnNotedFrom objects noted from a = (page : ℕ) × (from ≤ page) × IsTrue (contains noted page) × StandsOn objects page a

-- the object starts on this page at `from` or later, or lies on a later dirty page
abbrev pub IsAhead : Map Object → Set → ℕ → ℕ → ℕ → Type 0
IsAhead objects noted page from a = ((from ≤ a) × (block_of a ≡ page)) ⊎ IsOnNotedFrom objects noted (page + 1) a
