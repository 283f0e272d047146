-- How marks become whole, one ephemeron after another.
-- code: fz_pass/src/settling.rt
use Rattle.std.specs.Prelude.{◌≡◌, ◌⊎◌, ℕ, Bool, List, [], ◌∷◌, ◌++◌, Option, Some, Contains, IsTrue, IsFalse}
use Rattle.fz_model.specs.State.{Map, Object}
use Rattle.fz_pass.specs.Holds.{Holds, IsOfValue}
use Rattle.fz_pass.specs.Marks.{IsClosed, Marks}
use Rattle.fz_pass.specs.Places.{is_held}

-- a listed ephemeron, with its word and its key
abbrev pub IsListedOf : List (ℕ × ℕ) → ℕ → ℕ → Type 0
IsListedOf list word key = Contains list (word, key)

module _ (Exact : Type 0) (place : ℕ → Option ℕ) (value : Map Object → ℕ → Option ℕ) (objects : Map Object) where
  -- an ephemeron waits: its key or its holder isn't marked
  abbrev pub Waits : (ℕ → Bool) → ℕ × ℕ → Type 0
  Waits marked x = IsTrue (marked x.1) → IsTrue (is_held place objects marked x.0) → ⊥

  -- its value is marked
  abbrev pub IsThrough : (ℕ → Bool) → ℕ × ℕ → Type 0
  IsThrough marked x = (first : ℕ) → value objects x.0 ≡ Some first → IsTrue (marked first)

  -- it waits, and is put off
  pub record PutsOff (x : ℕ × ℕ) (old new : ℕ → Bool) (rest new_rest : List (ℕ × ℕ)) (again : Bool) : Type 0 where
    pub waits : Waits old x
    pub same : new ≡ old
    pub off : new_rest ≡ rest ++ x ∷ []
    pub nothing : IsFalse again

  -- its key and its holder are marked, and now its value is
  pub record LetsThrough (x : ℕ × ℕ) (old new : ℕ → Bool) (rest new_rest : List (ℕ × ℕ)) (again : Bool) : Type 0 where
    pub key : IsTrue (old x.1)
    pub holder : IsTrue (is_held place objects old x.0)
    pub marks : Marks Exact objects old new (IsOfValue value objects x.0)
    pub same : new_rest ≡ rest
    pub nothing : IsFalse again → (a : ℕ) → IsTrue (new a) → IsTrue (old a)

  abbrev pub SettlesOne : ℕ × ℕ → (ℕ → Bool) → (ℕ → Bool) → List (ℕ × ℕ) → List (ℕ × ℕ) → Bool → Type 0
  SettlesOne x old new rest new_rest again = PutsOff x old new rest new_rest again ⊎ LetsThrough x old new rest new_rest again

  -- each of these ephemerons is still to be looked at (`left`), was put off (`rest`), or is through: its value is marked. If no value was marked, those that
  -- were put off still wait.
  pub record Rounds (start : List (ℕ × ℕ)) (old : ℕ → Bool) (left rest : List (ℕ × ℕ)) (now : ℕ → Bool) (again : Bool) : Type 0 where
    pub closed : IsClosed objects now
    pub more : (a : ℕ) → IsTrue (old a) → IsTrue (now a)
    pub most : Exact → (a : ℕ) → IsTrue (now a) → Holds place value objects (IsListedOf start) (λ b. IsTrue (old b)) a
    pub left_in : (x : ℕ × ℕ) → Contains left x → Contains start x
    pub rest_in : (x : ℕ × ℕ) → Contains rest x → Contains start x
    pub through : (x : ℕ × ℕ) → Contains start x → Contains left x ⊎ (Contains rest x ⊎ IsThrough now x)
    pub waits : IsFalse again → (x : ℕ × ℕ) → Contains rest x → Waits now x
