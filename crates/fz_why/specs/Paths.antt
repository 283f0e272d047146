-- Paths from object to object, and the words by which they go.
-- code: fz_why/src/paths.rt, reaching.rt, valuing.rt
use Rattle.std.specs.Prelude.{◌≡◌, ◌↔◌, ◌⊎◌, ℕ, ◌+◌, Bool, false, if◌then◌else◌, List, [], ◌∷◌, length, map, slice_get, slice_index, Option, Some, None, Contains, IsTrue}
use Rattle.std.specs.FinMap.{get}
use Rattle.std.specs.List.{range_with_len}
use Rattle.std.specs.Option.{option_map_or}
use Rattle.fz_model.specs.declared.kinds.ObjKind.TheVariants.{Scanned}
use Rattle.fz_model.specs.State.{Map, Object}
use Rattle.fz_model.specs.Memory.{points, filled}
use Rattle.fz_model.specs.Reachability.{Child}
use Rattle.fz_pass.specs.Holds.{IsHolder}
use Rattle.fz_why.specs.declared.paths.Pointer.{Pointer}

-- a word of a scanned object, with its address and what it contains
pub record IsPointer (objects : Map Object) (a : ℕ) (p : Pointer) : Type 0 where
  pub object : Object
  pub here : get objects a ≡ Some object
  pub scanned : object.kind ≡ Scanned
  pub place : ℕ
  pub at : p.word ≡ a + place
  pub is : slice_get object.words place ≡ Some p.value

-- these are words of the object, and each of its words that points to an object is among them
pub record ArePointers (objects : Map Object) (a : ℕ) (pointers : List Pointer) : Type 0 where
  pub each : (p : Pointer) → Contains pointers p → IsPointer objects a p
  pub whole : (p : Pointer) (b : ℕ) → IsPointer objects a p → points objects p.value ≡ Some b → Contains pointers p

-- the number of the link that denotes a word is found by the word
abbrev pub AreLinks : (ℕ → Option ℕ) → (ℕ → Option ℕ) → Type 0
AreLinks place link = (number word : ℕ) → (link word ≡ Some number) ↔ (place number ≡ Some word)

-- once words that links denote are zero, an ephemeron among them has no value, and each other one has the value that it had
abbrev pub AreValues : (ℕ → Option ℕ) → (Map Object → ℕ → Option ℕ) → Type 0
AreValues place value =
    (objects : Map Object) (test : ℕ → Bool) (number : ℕ) → points objects 0 ≡ None → ((word : ℕ) → IsTrue (test word) → (link : ℕ) × (place link ≡ Some word))
    → value (filled test 0 objects) number ≡ (if option_map_or test (place number) false then None else value objects number)

module _ (place : ℕ → Option ℕ) (value : Map Object → ℕ → Option ℕ) (objects : Map Object) (IsOf : ℕ → ℕ → Type 0) (set : ℕ → Type 0) where
  -- a step to the value of an ephemeron whose key and holder are in a set, if it has a holder. The step goes from the one or from the other.
  pub record IsByValue (a b : ℕ) : Type 0 where
    pub word : ℕ
    pub key : ℕ
    pub is : IsOf word key
    pub keyed : set key
    pub held : (place word ≡ None) ⊎ ((holder : ℕ) × IsHolder place objects word holder × set holder)
    pub valued : value objects word ≡ Some b
    pub from : (a ≡ key) ⊎ IsHolder place objects word a

  -- a step to a child, or to such a value
  abbrev pub IsStep : ℕ → ℕ → Type 0
  IsStep a b = Child objects a b ⊎ IsByValue a b

-- a path from one object to another. The list has the objects after the first, each one step after the object before it; the last is the end of the path.
abbrev pub IsPath : (ℕ → ℕ → Type 0) → ℕ → List ℕ → ℕ → Type 0
IsPath Step from [] to = from ≡ to
IsPath Step from (next ∷ rest) to = Step from next × IsPath Step next rest to

-- all words of an object, for a host that lists them all
abbrev pub all_pointers : Map Object → ℕ → List Pointer
all_pointers objects a = option_map_or (λ (o : Object). map (λ k. record { word = a + k; value = slice_index o.words k }) (range_with_len 0 (length o.words))) (get objects a) []
