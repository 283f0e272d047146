-- What a pass leaves unchanged, even if marking marks more than it is asked to.
-- code: fz_pass/src/law.rt
use Rattle.std.specs.Prelude.{◌≡◌, ℕ, ◌+◌, ◌<◌, ◌≤◌, Bool, List, length, Option, Some, Contains, IsTrue, IsFalse}
use Rattle.std.specs.FinMap.{get, contains_key}
use Rattle.fz_model.specs.declared.answers.Entry.{Entry}
use Rattle.fz_model.specs.declared.answers.Pick.{Pick}
use Rattle.fz_model.specs.State.{Map, Object}
use Rattle.fz_pass.specs.Decides.{Parts}
use Rattle.fz_pass.specs.Flagged.{DecidesFlagged}
use Rattle.fz_pass.specs.Places.{placed, is_held}

-- if a link has its word at this address, its target passes the test
abbrev pub LeadsTo : Map ℕ → ℕ → (ℕ → Bool) → Type 0
LeadsTo links word test = (target : ℕ) → get links word ≡ Some target → IsTrue (test target)

pub record IsSafe (place : ℕ → Option ℕ) (old : Parts) (found : ℕ → Bool) (picks : List Pick) (new : Parts) : Type 0 where
  -- nothing in the found set is queued
  pub unfound : (p : Pick) → Contains picks p → IsFalse (found p.obj)
  -- every object in the found set is retained
  pub stays : (a : ℕ) → IsTrue (found a) → IsTrue (contains_key old.objects a) → IsTrue (contains_key new.objects a)
  -- a short link to an object in the found set remains, if the object that contains its word is retained, or it denotes no word
  pub short : (link target : ℕ) → get old.short link ≡ Some target → IsTrue (found target) → IsTrue (is_held place old.objects (contains_key new.objects) link) → get new.short link ≡ Some target
  -- a retained object is unchanged, if all links in its words have targets that were found or are retained
  pub same : (a : ℕ) (o : Object) → get old.objects a ≡ Some o → IsTrue (contains_key new.objects a)
      → ((word : ℕ) → a ≤ word → word < a + length o.words → LeadsTo (placed place old.short) word found × LeadsTo (placed place old.long) word (contains_key new.objects)) → get new.objects a ≡ Some o

-- a pass is safe in this sense, whatever it marks
abbrev pub PassesAreSafe : (ℕ → Option ℕ) → Parts → Type 0
PassesAreSafe place old = (late found : ℕ → Bool) (new : Parts) (queue new_queue : List Entry) (pass first : ℕ) (d : DecidesFlagged ⊥ place late pass first old found new queue new_queue) → IsSafe place old found d.picks new
