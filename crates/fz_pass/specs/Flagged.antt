-- A pass over one table, in which a flag says of each registered object whether it is of the kind unreachable. Objects of this kind reach others as normal ones
-- do, and form a second tier: they are queued after the others of a pass, and only if no other unreachable registered object reaches them, whatever its kind
-- (GC_register_finalizer_unreachable of gc.h). Everything else is the model's.
-- code: fz_pass/src/pass.rt, whole.rt
use Rattle.std.specs.Prelude.{◌≡◌, ◌≢◌, ◌⊎◌, ℕ, ◌+◌, Bool, true, false, List, ◌++◌, length, map, Option, Some, Contains, All, AllPairs, IsTrue, IsFalse}
use Rattle.std.specs.FinMap.{get, len}
use Rattle.fz_model.specs.declared.kinds.RegKind.TheVariants.{Normal}
use Rattle.fz_model.specs.declared.answers.Entry.{Entry}
use Rattle.fz_model.specs.declared.answers.Pick.{Pick}
use Rattle.fz_model.specs.declared.answers.Registration.{Registration}
use Rattle.fz_model.specs.State.{Map, Core}
use Rattle.fz_model.specs.Reachability.{Leads}
use Rattle.fz_model.specs.Pass.{ComesBefore, IsUnreachable, IsLedTo, IsKept, IsPicked, Passes, cleared, remaining_objects, without_picks, entries_of}
use Rattle.fz_pass.specs.Decides.{Parts, DecidesInto, core_parts, passed_core}
use Rattle.fz_pass.specs.Places.{placed, links_held}

-- flagged objects are registered as normal ones
abbrev pub AreNormal : Map Registration → (ℕ → Bool) → Type 0
AreNormal registrations late = (a : ℕ) (r : Registration) → get registrations a ≡ Some r → IsTrue (late a) → r.kind ≡ Normal

-- the order of the picks: the flagged ones after the others, and each tier in the model's order
abbrev pub ComesAfterFlag : (ℕ → Bool) → Map Registration → Pick → Pick → Type 0
ComesAfterFlag late registrations p q =
    ((late p.obj ≡ false) × (late q.obj ≡ true)) ⊎ ((late p.obj ≡ late q.obj) × ComesBefore registrations p q)

module _ (place : ℕ → Option ℕ) (old : Parts) (found : ℕ → Bool) where
  -- the short links as the model has them: by the words that they denote
  abbrev pub short_words : Map ℕ
  short_words = placed place old.short

  abbrev pub IsUnfound : ℕ → Registration → Type 0
  IsUnfound = IsUnreachable old.objects old.registrations short_words found

  -- no other unreachable registered object reaches it, whatever its kind
  abbrev pub IsLast : ℕ → Type 0
  IsLast o = (other : ℕ) (r : Registration) → IsUnfound other r → other ≢ o → Leads (cleared short_words found old.objects) other o → ⊥

  -- picks of the model in order, of the flagged ones only those that `IsLast` allows; if marking is exact, all such picks
  pub record AreFlaggedPicks (Exact : Type 0) (late : ℕ → Bool) (picks : List Pick) : Type 0 where
    pub ordered : AllPairs (ComesAfterFlag late old.registrations) picks
    pub each : All (λ (p : Pick). IsPicked old.objects old.registrations short_words found p × (IsTrue (late p.obj) → IsLast p.obj)) picks
    pub whole : Exact → (o : ℕ) (r : Registration) → IsUnfound o r → (IsLedTo old.objects old.registrations short_words found o → ⊥) → (IsTrue (late o) → IsLast o)
        → Contains (map (λ (p : Pick). p.obj) picks) o

-- what a pass with this found set queues, with successive numbers, and the state after it. If marking is exact, this is exactly what the model queues and
-- retains, apart from the picks of flagged objects; otherwise it queues no more, and retains no less. `place` says which word a link denotes.
pub record DecidesFlagged (Exact : Type 0) (place : ℕ → Option ℕ) (late : ℕ → Bool) (pass first : ℕ) (old : Parts) (found : ℕ → Bool) (new : Parts) (queue new_queue : List Entry) : Type 0 where
  pub picks : List Pick
  pub picked : AreFlaggedPicks place old found Exact late picks
  pub queued : new_queue ≡ queue ++ entries_of pass first picks
  pub kept : ℕ → Bool
  pub keeps : (a : ℕ) → IsKept old.objects old.registrations (placed place old.short) found a → IsTrue (kept a)
  pub most : Exact → (a : ℕ) → IsTrue (kept a) → IsKept old.objects old.registrations (placed place old.short) found a
  pub is : new ≡ record {
    objects = remaining_objects old.objects (placed place old.short) (placed place old.long) found kept;
    registrations = without_picks old.registrations picks;
    short = links_held place old.objects old.short found kept;
    long = links_held place old.objects old.long kept kept;
  }

-- if no object is flagged, and each link denotes the word of its own number, a pass makes the decision of the model
abbrev pub LateDecisionsDecide : Type 0 → (ℕ → Bool) → Type 0
LateDecisionsDecide Exact late =
    ((o : ℕ) → IsFalse (late o)) → (old new : Parts) (found : ℕ → Bool) (pass first : ℕ) (queue new_queue : List Entry)
    → DecidesFlagged Exact Some late pass first old found new queue new_queue → DecidesInto Exact pass first old found new queue new_queue

-- and if marking is exact, it is the model's pass, with its picks queued and held
abbrev pub LateDecisionsPass : (ℕ → Bool) → Core → Type 0
LateDecisionsPass late c =
    ((o : ℕ) → IsFalse (late o)) → (found : ℕ → Bool) (new : Parts) (new_queue : List Entry) (reclaimed : ℕ)
    (d : DecidesFlagged (Unit {0}) Some late (c.passes + 1) (length c.queue) (core_parts c) found new c.queue new_queue)
    → len new.objects + reclaimed ≡ len c.objects
    → (new_queue ≡ c.queue ++ entries_of (c.passes + 1) (length c.queue) d.picks)
    × Passes c found (record { pass = c.passes + 1; picked = length d.picks; reclaimed = reclaimed }) (passed_core c new d.picks)
