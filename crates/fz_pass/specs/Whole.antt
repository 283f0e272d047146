-- A pass over a heap with ephemerons: it finds, picks and retains by what sets of objects hold. Everything else is as without ephemerons.
-- code: fz_pass/src/whole.rt, ephemerons.rt, settling.rt
use Rattle.std.specs.Prelude.{◌≡◌, ◌⊎◌, ℕ, Bool, List, ◌++◌, map, Option, Some, Contains, All, AllPairs, IsTrue, IsFalse}
use Rattle.std.specs.FinMap.{get, retain_keys}
use Rattle.fz_model.specs.declared.answers.Entry.{Entry}
use Rattle.fz_model.specs.declared.answers.Pick.{Pick}
use Rattle.fz_model.specs.declared.answers.Registration.{Registration}
use Rattle.fz_model.specs.State.{Map, Object}
use Rattle.fz_model.specs.Pass.{LeadsFirst, cleared, without_picks, entries_of}
use Rattle.fz_pass.specs.Decides.{Parts}
use Rattle.fz_pass.specs.Flagged.{ComesAfterFlag, IsUnfound}
use Rattle.fz_pass.specs.Holds.{Ephemerons, Holds, IsOfKey}
use Rattle.fz_pass.specs.Marks.{with_targets}
use Rattle.fz_pass.specs.Picking.{pick_of}
use Rattle.fz_pass.specs.Places.{placed, links_held}

module _ (place : ℕ → Option ℕ) (value : Map Object → ℕ → Option ℕ) (old : Parts) (ephemerons : Ephemerons) (found : ℕ → Bool) where
  -- the objects by which a pass judges: the words of dead short links are zero, and so are those of short ephemerons whose keys aren't found
  abbrev pub objects_judged : Map Object
  objects_judged = cleared (placed place ephemerons.short) found (cleared (placed place old.short) found old.objects)

  -- the ephemerons by which it judges: all but those short ones
  abbrev pub ephemerons_judged : Ephemerons
  ephemerons_judged = record { short = with_targets ephemerons.short found; long = ephemerons.long }

  abbrev pub HoldsThen : (ℕ → Type 0) → ℕ → Type 0
  HoldsThen = Holds place value objects_judged (IsOfKey ephemerons_judged)

  -- the object is registered and unreachable
  abbrev pub IsLost : ℕ → Type 0
  IsLost a = (r : Registration) × IsUnfound place old found a r

  -- the same, and its kind isn't the kind unreachable
  abbrev pub IsLostEarly : (ℕ → Bool) → ℕ → Type 0
  IsLostEarly late a = IsLost a × IsFalse (late a)

  -- a first step of an unreachable registered object, by the kind of this object; the values of its own ephemerons are no first steps
  abbrev pub IsFirst : ℕ → Type 0
  IsFirst a = (o : ℕ) × (r : Registration) × IsUnfound place old found o r × LeadsFirst objects_judged o r.kind a

  -- the found objects and the first steps of all unreachable registered ones hold it
  abbrev pub IsHeldFirst : ℕ → Type 0
  IsHeldFirst = HoldsThen (λ a. IsTrue (found a) ⊎ IsFirst a)

  -- the same, with the unreachable registered objects themselves that aren't of the kind unreachable
  abbrev pub IsHeldEarly : (ℕ → Bool) → ℕ → Type 0
  IsHeldEarly late = HoldsThen (λ a. IsTrue (found a) ⊎ (IsFirst a ⊎ IsLostEarly late a))

  -- the retained objects: what the found and the unreachable registered ones hold
  abbrev pub IsRetained : ℕ → Type 0
  IsRetained = HoldsThen (λ a. IsTrue (found a) ⊎ IsLost a)

  -- a registration whose object is unreachable, and which `IsHeldFirst` doesn't hold; one of the kind unreachable `IsHeldEarly` doesn't hold either
  pub record IsPickedThen (late : ℕ → Bool) (p : Pick) : Type 0 where
    pub registration : Registration
    pub object : Object
    pub unreachable : IsUnfound place old found p.obj registration
    pub here : get old.objects p.obj ≡ Some object
    pub is : p ≡ pick_of registration p.obj object
    pub free : IsHeldFirst p.obj → ⊥
    pub last : IsTrue (late p.obj) → IsHeldEarly late p.obj → ⊥

  -- such registrations in order, and all of them if marking is exact
  pub record ArePicksThen (Exact : Type 0) (late : ℕ → Bool) (picks : List Pick) : Type 0 where
    pub ordered : AllPairs (ComesAfterFlag late old.registrations) picks
    pub each : All (IsPickedThen late) picks
    pub whole : Exact → (o : ℕ) (r : Registration) → IsUnfound place old found o r → (IsHeldFirst o → ⊥) → (IsTrue (late o) → IsHeldEarly late o → ⊥)
        → Contains (map (λ (p : Pick). p.obj) picks) o

-- what a pass with this found set queues, with successive numbers, and the state after it. If marking is exact, it queues and retains exactly this; otherwise
-- it queues no more, and retains no less. An ephemeron is removed when a link of its kind at the same word would be whose target is the key.
pub record DecidesWhole (Exact : Type 0) (place : ℕ → Option ℕ) (value : Map Object → ℕ → Option ℕ) (late : ℕ → Bool) (pass first : ℕ)
    (old : Parts) (ephemerons : Ephemerons) (found : ℕ → Bool) (new : Parts) (new_ephemerons : Ephemerons) (queue new_queue : List Entry) : Type 0 where
  pub picks : List Pick
  pub picked : ArePicksThen place value old ephemerons found Exact late picks
  pub queued : new_queue ≡ queue ++ entries_of pass first picks
  pub kept : ℕ → Bool
  pub keeps : (a : ℕ) → IsRetained place value old ephemerons found a → IsTrue (kept a)
  pub most : Exact → (a : ℕ) → IsTrue (kept a) → IsRetained place value old ephemerons found a
  pub is : new ≡ record {
    objects = retain_keys (cleared (placed place ephemerons.long) kept (cleared (placed place old.long) kept (objects_judged place value old ephemerons found))) kept;
    registrations = without_picks old.registrations picks;
    short = links_held place old.objects old.short found kept;
    long = links_held place old.objects old.long kept kept;
  }
  pub left : new_ephemerons ≡ record {
    short = links_held place old.objects ephemerons.short found kept;
    long = links_held place old.objects ephemerons.long kept kept;
  }
