-- What a set of objects holds in a heap with ephemerons. An ephemeron is a word that has a key, which is an object. Its holder is the object in which the word
-- lies, and its value is the object to which the word points. The host doesn't scan the word with the holder. It marks the value only if holder and key are
-- marked.
-- code: fz_pass/src/host.rt, settling.rt
use Rattle.std.specs.Prelude.{◌≡◌, ◌⊎◌, ℕ, Bool, Option, None, Some, IsTrue}
use Rattle.std.specs.FinMap.{get, empty}
use Rattle.fz_model.specs.Memory.{points}
use Rattle.fz_model.specs.Reachability.{Child, Leads}
use Rattle.fz_model.specs.State.{Map, Object}

-- the ephemerons of both kinds: from the word of each to its key
pub record Ephemerons : Type 0 where
  pub short : Map ℕ
  pub long : Map ℕ

abbrev pub no_ephemerons : Ephemerons
no_ephemerons = record { short = empty; long = empty }

-- the word is an ephemeron of this key
abbrev pub IsOfKey : Ephemerons → ℕ → ℕ → Type 0
IsOfKey ephemerons word key = (get ephemerons.short word ≡ Some key) ⊎ (get ephemerons.long word ≡ Some key)

-- the object in which an ephemeron's word lies
abbrev pub IsHolder : (ℕ → Option ℕ) → Map Object → ℕ → ℕ → Type 0
IsHolder place objects word holder = (at : ℕ) × (place word ≡ Some at) × (points objects at ≡ Some holder)

-- an ephemeron's value reaches it
abbrev pub IsOfValue : (Map Object → ℕ → Option ℕ) → Map Object → ℕ → ℕ → Type 0
IsOfValue value objects word a = (first : ℕ) × (value objects word ≡ Some first) × Leads objects first a

module _ (place : ℕ → Option ℕ) (value : Map Object → ℕ → Option ℕ) (objects : Map Object) (IsOf : ℕ → ℕ → Type 0) where
  -- a set of objects holds its members, each child of what it holds, and the value of each ephemeron whose key and holder it holds. A word that lies in no
  -- object has no holder, and requires none.
  pub data Holds (set : ℕ → Type 0) : ℕ → Type 0 where
    Member : {a : ℕ} → set a → Holds set a
    ByChild : {a b : ℕ} → Holds set a → Child objects a b → Holds set b
    ByHolder : {word key holder a : ℕ} → IsOf word key → Holds set key → IsHolder place objects word holder → Holds set holder → value objects word ≡ Some a → Holds set a
    ByKey : {word key a : ℕ} → IsOf word key → Holds set key → place word ≡ None → value objects word ≡ Some a → Holds set a

  -- a whole set holds nothing that isn't in it
  abbrev pub IsWhole : (ℕ → Bool) → Type 0
  IsWhole set = (a : ℕ) → Holds (λ b. IsTrue (set b)) a → IsTrue (set a)

  -- the marks became whole, and none was lost; if marking is exact, they are what the marks before hold
  pub record Settles (Exact : Type 0) (old new : ℕ → Bool) : Type 0 where
    pub more : (a : ℕ) → IsTrue (old a) → IsTrue (new a)
    pub whole : IsWhole new
    pub most : Exact → (a : ℕ) → IsTrue (new a) → Holds (λ b. IsTrue (old b)) a
