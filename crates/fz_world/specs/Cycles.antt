-- How the calls of a cycle change the marks.
-- code: fz_world/src/cycles.rt, fz_marker/src/marker.rt
use Rattle.std.specs.Prelude.{◌≡◌, ℕ, ◌+◌, ◌*◌, ◌≤◌, ◌↔◌, ◌⊎◌, IsTrue}
use Rattle.std.specs.FinSet as sets
use Rattle.std.specs.FinSet.{contains, empty}
use Rattle.std.specs.FinMap.{len}
use Rattle.fz_model.specs.declared.answers.Progress.{Progress}
use Rattle.fz_model.specs.declared.answers.Progress.TheVariants.{More, Done}
use Rattle.fz_model.specs.declared.limits.TheConstants.{BLOCK_WORDS}
use Rattle.fz_model.specs.Reachability.{IsRoot, Leads}
use Rattle.fz_bits.specs.Flags.{IsWithin}
use Rattle.fz_marker.specs.Marking.{is_readable}
use Rattle.fz_world.specs.World.{WorldView}

-- exactly what the roots point to is marked; nothing is scanned, and no page is dirty
pub record IsBegun (old new : WorldView) : Type 0 where
  pub marked : (a : ℕ) → IsTrue (contains new.marked a) ↔ IsRoot old.core a
  pub scanned : new.scanned ≡ empty
  pub noted : new.noted ≡ empty
  pub scans : new.scans ≡ 0

-- each marked object was scanned; a pointer-free one needs no scan
abbrev pub AreScanned : WorldView → Type 0
AreScanned w = (a : ℕ) → IsTrue (contains w.marked a) → IsTrue (is_readable w.objects a) → IsTrue (contains w.scanned a)

-- no mark is removed; for More as many objects were scanned as the budget allows, and for Done none is left
pub record ScansSome (budget : ℕ) (old : WorldView) (progress : Progress) (new : WorldView) : Type 0 where
  pub same : new ≡ record old { marked = new.marked; scanned = new.scanned; scans = new.scans }
  pub kept : IsWithin old.marked new.marked
  pub done : progress ≡ Done ↔ AreScanned new
  pub more : progress ≡ More → new.scans ≡ old.scans + budget
  pub budgeted : (old.scans ≤ new.scans) × (new.scans ≤ old.scans + budget)

-- over the whole cycle each object is scanned once, and those on dirty pages once more at the end
pub record EndsScans (old new : WorldView) : Type 0 where
  pub scans : old.scans ≤ new.scans
  pub few : new.scans ≤ len old.objects + BLOCK_WORDS * sets.len old.noted
  pub noted : new.noted ≡ old.noted

-- a cycle in one step, which scans each object at most once
pub record ScansAll (old new : WorldView) : Type 0 where
  pub few : new.scans ≤ len old.objects
  pub noted : new.noted ≡ empty

-- a marked object or a root reaches it
abbrev pub IsLedFromMarks : WorldView → ℕ → Type 0
IsLedFromMarks w a = (from : ℕ) × (IsTrue (contains w.marked from) ⊎ IsRoot w.core from) × Leads w.objects from a
