-- Why an object isn't finalized. What roots reach is judged by the words as they are. Everything else is judged by the words as they will be once a pass has
-- cleared those of its dead short links and short ephemerons. Values of ephemerons count as in a pass (`fz_pass/specs/Holds.antt`, `Whole.antt`).
-- code: fz_why/src/asking.rt, reaching.rt, rooting.rt, stuck_objects.rt
use Rattle.std.specs.Prelude.{◌≡◌, ◌≢◌, ◌⊎◌, ℕ, Bool, true, false, List, ◌∷◌, filter, slice_get, Option, Some, None, Contains, IsTrue, IsFalse}
use Rattle.std.specs.FinMap.{get}
use Rattle.std.specs.FinSet.{contains}
use Rattle.std.specs.Map.{keys_of}
use Rattle.fz_model.specs.declared.kinds.RegKind.{RegKind}
use Rattle.fz_model.specs.declared.kinds.RegKind.TheVariants.{Normal}
use Rattle.fz_model.specs.declared.answers.Entry.{Entry}
use Rattle.fz_model.specs.declared.answers.Registration.{Registration}
use Rattle.fz_model.specs.State.{Map, Object}
use Rattle.fz_model.specs.Memory.{points}
use Rattle.fz_model.specs.Reachability.{Computes}
use Rattle.fz_model.specs.Pass.{IsUnreachable, LeadsFirst}
use Rattle.fz_pass.specs.Holds.{IsOfKey}
use Rattle.fz_pass.specs.Holds as sets
use Rattle.fz_pass.specs.Places.{placed}
use Rattle.fz_pass.specs.Whole.{HoldsThen, IsHeldEarly, IsHeldFirst, ephemerons_judged, objects_judged}
use Rattle.fz_finalizers.specs.declared.cleanups.Attached.{Attached}
use Rattle.fz_finalizers.specs.Passed.{parts_in}
use Rattle.fz_finalizers.specs.States.{State, unfinished}
use Rattle.fz_why.specs.declared.reason.RootOf.{RootOf}
use Rattle.fz_why.specs.declared.reason.RootOf.TheVariants.{Host, RegisteredData, CleanupData, HeldObject, HeldData}
use Rattle.fz_why.specs.declared.reason.Reason.{Reason}
use Rattle.fz_why.specs.declared.reason.Reason.TheVariants.{Unregistered, Queued, Found, Ring, Waits, Ready}
use Rattle.fz_why.specs.Paths.{IsPath, IsStep}

-- the word of a root: a root of the host, the client data of a registration or of a cleanup, or the object or the client data of an unfinished entry
abbrev pub IsRootWord : List ℕ → State → RootOf → ℕ → Type 0
IsRootWord roots s (Host index) word = slice_get roots index ≡ Some word
IsRootWord roots s (RegisteredData number) word = (o : ℕ) × (r : Registration) × (get s.registrations o ≡ Some r) × (r.number ≡ number) × (r.cd ≡ word)
IsRootWord roots s (CleanupData number) word = (c : Attached) × (get s.cleanups number ≡ Some c) × (c.cleanup.client_data ≡ word)
IsRootWord roots s (HeldObject seq) word = (e : Entry) × Contains (unfinished s) e × (e.seq ≡ seq) × (e.obj ≡ word)
IsRootWord roots s (HeldData seq) word = (e : Entry) × Contains (unfinished s) e × (e.seq ≡ seq) × (e.cd ≡ word)

-- the root points to the object
abbrev pub IsRooted : Map Object → List ℕ → State → RootOf → ℕ → Type 0
IsRooted objects roots s root a = (word : ℕ) × IsRootWord roots s root word × (points objects word ≡ Some a)

-- some root points to it
abbrev pub IsAtRoot : Map Object → List ℕ → State → ℕ → Type 0
IsAtRoot objects roots s a = (root : RootOf) × IsRooted objects roots s root a

-- the kind by which first steps count: all of them, if all steps do
abbrev pub kind_toward : Bool → RegKind → RegKind
kind_toward true kind = Normal
kind_toward false kind = kind

module _ (place : ℕ → Option ℕ) (value : Map Object → ℕ → Option ℕ) (objects : Map Object) where
  -- the roots reach it: it is in the least set that has the objects to which roots point, the children of its members, and the value of each ephemeron whose
  -- key and holder it has
  abbrev pub IsReached : List ℕ → State → ℕ → Type 0
  IsReached roots s = sets.Holds place value objects (IsOfKey s.ephemerons) (IsAtRoot objects roots s)

  -- a path from the object to which the root points
  pub record IsRootPath (roots : List ℕ) (s : State) (root : RootOf) (path : List ℕ) (o : ℕ) : Type 0 where
    pub first : ℕ
    pub rest : List ℕ
    pub is : path ≡ first ∷ rest
    pub rooted : IsRooted objects roots s root first
    pub leads : IsPath (IsStep place value objects (IsOfKey s.ephemerons) (IsReached roots s)) first rest o

module _ (place : ℕ → Option ℕ) (value : Map Object → ℕ → Option ℕ) (objects : Map Object) (s : State) (found : ℕ → Bool) where
  -- an unreachable registered object
  abbrev pub IsUnfound : ℕ → Registration → Type 0
  IsUnfound = IsUnreachable objects s.registrations (placed place s.short) found

  -- the objects by which a pass judges, and the ephemerons
  abbrev pub heap_judged : Map Object
  heap_judged = objects_judged place value (parts_in objects s) s.ephemerons found

  abbrev pub IsKeyJudged : ℕ → ℕ → Type 0
  IsKeyJudged = IsOfKey (ephemerons_judged place value (parts_in objects s) s.ephemerons found)

  abbrev pub HoldsJudged : (ℕ → Type 0) → ℕ → Type 0
  HoldsJudged = HoldsThen place value (parts_in objects s) s.ephemerons found

  -- a first step of an unreachable registered object, by its kind
  abbrev pub IsFirstOf : ℕ → ℕ → Type 0
  IsFirstOf from a = (r : Registration) × IsUnfound from r × LeadsFirst heap_judged from r.kind a

  -- the found objects and the first steps of one unreachable registered object hold it
  abbrev pub IsHeldBy : ℕ → ℕ → Type 0
  IsHeldBy from = HoldsJudged (λ a. IsTrue (found a) ⊎ IsFirstOf from a)

  -- what a pass doesn't queue: of the kind unreachable what `IsHeldEarly` holds, and of the other kinds what `IsHeldFirst` does
  abbrev pub IsHeldToward : Bool → ℕ → Type 0
  IsHeldToward true = IsHeldEarly place value (parts_in objects s) s.ephemerons found (contains s.late)
  IsHeldToward false = IsHeldFirst place value (parts_in objects s) s.ephemerons found

  -- a step by what a pass judges by; keys and holders are in the set
  abbrev pub IsStepJudged : (ℕ → Type 0) → ℕ → ℕ → Type 0
  IsStepJudged = IsStep place value heap_judged IsKeyJudged

  -- a path by which an unreachable registered object reaches another, or itself. Its first step counts: by the object's kind, or as any step toward an object
  -- of the kind unreachable from one that isn't.
  pub record IsBackPath (set : ℕ → Type 0) (late : Bool) (from : ℕ) (path : List ℕ) (o : ℕ) : Type 0 where
    pub by : Registration
    pub unfound : IsUnfound from by
    pub first : ℕ
    pub rest : List ℕ
    pub is : path ≡ from ∷ first ∷ rest
    pub step : LeadsFirst heap_judged from by.kind first ⊎ (IsTrue late × IsFalse (contains s.late from) × IsStepJudged set from first)
    pub leads : IsPath (IsStepJudged set) first rest o

  -- a registered object is unreachable, and a path leads from it back to itself, by keys and holders that are found or that its first steps hold
  abbrev pub IsRing : List ℕ → ℕ → Type 0
  IsRing path o = ((r : Registration) × IsUnfound o r) × IsBackPath (IsHeldBy o) false o path o

  -- it is registered, unreachable and on no ring, and a path leads to it from another unreachable registered object
  abbrev pub IsWaiting : List ℕ → ℕ → Type 0
  IsWaiting path o =
      ((r : Registration) × IsUnfound o r) × (IsHeldBy o o → ⊥) × ((from : ℕ) × (from ≢ o) × IsBackPath (IsHeldToward (contains s.late o)) (contains s.late o) from path o)

  -- it is registered and unreachable, and a pass queues it, since nothing by which it judges holds it
  abbrev pub IsReady : ℕ → Type 0
  IsReady o = ((r : Registration) × IsUnfound o r) × (IsHeldToward (contains s.late o) o → ⊥)

  -- the found objects and the first steps of objects on rings hold it
  abbrev pub IsHeldByRings : ℕ → Type 0
  IsHeldByRings = HoldsJudged (λ a. IsTrue (found a) ⊎ ((from : ℕ) × IsHeldBy from from × IsFirstOf from a))

  -- it is registered and unreachable, and held so
  abbrev pub IsStuck : ℕ → Type 0
  IsStuck o = ((r : Registration) × IsUnfound o r) × IsHeldByRings o

  -- exactly the objects of these registrations that are stuck, in the order of the registrations
  abbrev pub AreStuck : List (ℕ × Registration) → List ℕ → Type 0
  AreStuck registrations objects = (is_stuck : ℕ → Bool) × Computes is_stuck IsStuck × (objects ≡ filter is_stuck (keys_of registrations))

-- the predicate is true of the found set that consists of what the roots reach
abbrev pub WithFound : (ℕ → Option ℕ) → (Map Object → ℕ → Option ℕ) → Map Object → List ℕ → State → ((ℕ → Bool) → Type 0) → Type 0
WithFound place value objects roots s IsTrueOf = (found : ℕ → Bool) × Computes found (IsReached place value objects roots s) × IsTrueOf found

-- these are the stuck objects, where the found set consists of what the roots reach
abbrev pub ListsStuck : (ℕ → Option ℕ) → (Map Object → ℕ → Option ℕ) → Map Object → List ℕ → State → List (ℕ × Registration) → List ℕ → Type 0
ListsStuck place value objects roots s registrations stuck = WithFound place value objects roots s (λ found. AreStuck place value objects s found registrations stuck)

-- it has a cleanup
abbrev pub HasCleanup : State → ℕ → Type 0
HasCleanup s o = (number : ℕ) × (c : Attached) × (get s.cleanups number ≡ Some c) × (c.object ≡ o)

-- it has neither a finalizer nor an unfinished entry
abbrev pub HasNoFinalizer : State → ℕ → Type 0
HasNoFinalizer s o = (get s.registrations o ≡ None) × ((e : Entry) → Contains (unfinished s) e → e.obj ≢ o)

-- the result is true of the object, and its path shows it
abbrev pub IsToldOf : (ℕ → Option ℕ) → (Map Object → ℕ → Option ℕ) → Map Object → List ℕ → State → Reason → ℕ → Type 0
IsToldOf place value objects roots s Unregistered o = HasNoFinalizer s o × (HasCleanup s o → IsReached place value objects roots s o → ⊥)
IsToldOf place value objects roots s (Queued entry) o = (get s.registrations o ≡ None) × Contains (unfinished s) entry × (entry.obj ≡ o)
IsToldOf place value objects roots s (Found root path) o =
    (((r : Registration) × (get s.registrations o ≡ Some r)) ⊎ (HasNoFinalizer s o × HasCleanup s o)) × IsRootPath place value objects roots s root path.items o
IsToldOf place value objects roots s (Ring path) o = WithFound place value objects roots s (λ found. IsRing place value objects s found path.items o)
IsToldOf place value objects roots s (Waits path) o = WithFound place value objects roots s (λ found. IsWaiting place value objects s found path.items o)
IsToldOf place value objects roots s Ready o = WithFound place value objects roots s (λ found. IsReady place value objects s found o)
