-- What the results of `why` say of passes.
-- code: fz_why/src/law.rt
use Rattle.std.specs.Prelude.{◌≡◌, ◌≢◌, ◌↔◌, ℕ, Bool, false, List, map, Option, None, Some, Contains, IsFalse}
use Rattle.std.specs.FinMap.{get}
use Rattle.std.specs.FinSet.{contains}
use Rattle.fz_model.specs.declared.answers.Pick.{Pick}
use Rattle.fz_model.specs.declared.answers.Registration.{Registration}
use Rattle.fz_model.specs.State.{Map, Object}
use Rattle.fz_model.specs.Memory.{points}
use Rattle.fz_model.specs.Reachability.{Child, Computes, Leads}
use Rattle.fz_model.specs.Pass.{LeadsFirst, cleared}
use Rattle.fz_pass.specs.Flagged.{AreNormal}
use Rattle.fz_pass.specs.Holds.{IsOfKey, Settles, no_ephemerons}
use Rattle.fz_pass.specs.Places.{placed, StandApart}
use Rattle.fz_finalizers.specs.States.{State}
use Rattle.fz_finalizers.specs.Passed.{DecidesWholeFor}
use Rattle.fz_why.specs.declared.reason.Reason.{Reason}
use Rattle.fz_why.specs.declared.reason.Reason.TheVariants.{Unregistered, Queued, Found, Ring, Waits, Ready}
use Rattle.fz_why.specs.Paths.{IsByValue}
use Rattle.fz_why.specs.Why.{IsAtRoot, IsHeldBy, IsHeldByRings, IsHeldToward, IsKeyJudged, IsReached, IsReady, IsRing, IsToldOf, IsUnfound, WithFound, heap_judged, kind_toward}

module _ (place : ℕ → Option ℕ) (value : Map Object → ℕ → Option ℕ) (objects : Map Object) where
  -- a pass of this state over these objects, with marks that are exact, queues it
  abbrev pub IsQueuedBy : State → (ℕ → Bool) → ℕ → Type 0
  IsQueuedBy s found o =
      (new : State) (left : Map Object) (marked : ℕ → Bool) (pass : ℕ) (d : DecidesWholeFor (Unit {0}) place value pass s objects found new left marked) → Contains (map (λ (p : Pick). p.obj) d.picks) o

  -- no pass of this state over these objects queues it, whatever it marks
  abbrev pub IsNotQueuedBy : State → (ℕ → Bool) → ℕ → Type 0
  IsNotQueuedBy s found o =
      (new : State) (left : Map Object) (marked : ℕ → Bool) (pass : ℕ) (d : DecidesWholeFor ⊥ place value pass s objects found new left marked) → Contains (map (λ (p : Pick). p.obj) d.picks) o → ⊥

module _ (place : ℕ → Option ℕ) (value : Map Object → ℕ → Option ℕ) (objects : Map Object) (roots : List ℕ) (s : State) where
  -- it is unreachable, and unreachable registered objects hold it back: the object itself, or others
  abbrev pub IsHeldBack : ℕ → Type 0
  IsHeldBack o = WithFound place value objects roots s (λ found. ((r : Registration) × IsUnfound place value objects s found o r) × IsHeldToward place value objects s found (contains s.late o) o)

  -- what the result says of the object, without its path
  abbrev pub StandsBy : Reason → ℕ → Type 0
  StandsBy Unregistered o = (r : Registration) → get s.registrations o ≢ Some r
  StandsBy (Queued entry) o = (r : Registration) → get s.registrations o ≢ Some r
  StandsBy (Found root path) o = IsReached place value objects roots s o
  StandsBy (Ring path) o = IsHeldBack o
  StandsBy (Waits path) o = IsHeldBack o
  StandsBy Ready o = WithFound place value objects roots s (λ found. IsReady place value objects s found o)

  -- a result whose path is right is true of the object. No two of these are true of a registered object: found, ring or waits, ready.
  pub record IsApart (o : ℕ) : Type 0 where
    pub told : (reason : Reason) → IsToldOf place value objects roots s reason o → StandsBy reason o
    pub held : IsReached place value objects roots s o → IsHeldBack o → ⊥
    pub ready : IsReached place value objects roots s o → WithFound place value objects roots s (λ found. IsReady place value objects s found o) → ⊥
    pub held_ready : IsHeldBack o → WithFound place value objects roots s (λ found. IsReady place value objects s found o) → ⊥

  -- of a pass whose found set is what the roots reach: it queues an object that is ready, and none that is reached or held back
  pub record IsJudgedByPasses (found : ℕ → Bool) (o : ℕ) : Type 0 where
    pub ready : WithFound place value objects roots s (λ set. IsReady place value objects s set o) → IsQueuedBy place value objects s found o
    pub reached : IsReached place value objects roots s o → IsNotQueuedBy place value objects s found o
    pub held : IsHeldBack o → IsNotQueuedBy place value objects s found o

  -- if exactly that is marked to which roots lead by children, what a pass with exact marks finds is what the roots reach
  abbrev pub PassesFindReached : (ℕ → Bool) → (ℕ → Bool) → Type 0
  PassesFindReached marked found =
      Computes marked (λ a. (first : ℕ) × IsAtRoot objects roots s first × Leads objects first a) → Settles place value objects (IsOfKey s.ephemerons) (Unit {0}) marked found
      → Computes found (IsReached place value objects roots s)

-- the registration of an object on a ring stays, and so do the words and the ephemerons by which the ring goes, once dead words are cleared: the objects on it
-- keep their children, and their values by ephemerons whose keys and holders are found or held by the object's first steps
pub record RingStays (place : ℕ → Option ℕ) (value : Map Object → ℕ → Option ℕ) (objects later : Map Object) (s t : State) (found later_found : ℕ → Bool) (path : List ℕ) (o : ℕ) : Type 0 where
  pub ring : IsRing place value objects s found path o
  pub registered : get t.registrations o ≡ get s.registrations o
  pub words : (a b : ℕ) → Contains path a → Child (heap_judged place value objects s found) a b → Child (heap_judged place value later t later_found) a b
  pub values : (a b : ℕ) → Contains path a
      → IsByValue place value (heap_judged place value objects s found) (IsKeyJudged place value objects s found) (IsHeldBy place value objects s found o) a b
      → IsByValue place value (heap_judged place value later t later_found) (IsKeyJudged place value later t later_found) (IsHeldBy place value later t later_found o) a b

-- no pass of the later state queues an object on a ring that stays, whatever it marks
abbrev pub KeepsRings : (ℕ → Option ℕ) → (Map Object → ℕ → Option ℕ) → Map Object → Map Object → State → State → Type 0
KeepsRings place value objects later s t =
    (found later_found : ℕ → Bool) (path : List ℕ) (o : ℕ) → RingStays place value objects later s t found later_found path o → IsNotQueuedBy place value later t later_found o

-- ---- without ephemerons

module _ (place : ℕ → Option ℕ) (value : Map Object → ℕ → Option ℕ) (objects : Map Object) (s : State) (found : ℕ → Bool) where
  -- an unreachable registered object reaches another, or itself, by a first step that counts, and then from child to child, once words of dead short links are
  -- cleared. The flag says whether the other is of the kind unreachable.
  pub record LeadsBack (late : Bool) (from o : ℕ) : Type 0 where
    pub by : Registration
    pub unfound : IsUnfound place value objects s found from by
    pub first : ℕ
    pub step : LeadsFirst (cleared (placed place s.short) found objects) from (kind_toward late by.kind) first
    pub leads : Leads (cleared (placed place s.short) found objects) first o

  -- by paths it is on a ring, it is held back, and it is stuck
  pub record IsByPaths (o : ℕ) : Type 0 where
    pub ring : IsHeldBy place value objects s found o o ↔ LeadsBack false o o
    pub held : IsHeldToward place value objects s found (contains s.late o) o ↔ ((from : ℕ) × LeadsBack (contains s.late o) from o)
    pub stuck : IsHeldByRings place value objects s found o ↔ ((from : ℕ) × LeadsBack false from from × LeadsBack false from o)

-- of a state without ephemerons all this is by children alone, as it would be if there were no such thing
abbrev pub GoesByPaths : (ℕ → Option ℕ) → (Map Object → ℕ → Option ℕ) → Map Object → List ℕ → State → (ℕ → Bool) → Type 0
GoesByPaths place value objects roots s found =
    AreNormal s.registrations (contains s.late) → s.ephemerons ≡ no_ephemerons → StandApart place → points objects 0 ≡ None
    → ((a : ℕ) → IsReached place value objects roots s a ↔ ((first : ℕ) × IsAtRoot objects roots s first × Leads objects first a))
    × (Computes found (IsReached place value objects roots s) → (o : ℕ) → IsFalse (found o) → IsByPaths place value objects s found o)
