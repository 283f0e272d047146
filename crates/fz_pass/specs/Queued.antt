-- What a round of a pass marks and queues.
-- code: fz_pass/src/leading.rt, picking.rt
use Rattle.std.specs.Prelude.{◌≡◌, ℕ, Bool, not, ◌&&◌, List, [], ◌++◌}
use Rattle.std.specs.FinMap.{contains_key}
use Rattle.fz_model.specs.declared.answers.Entry.{Entry}
use Rattle.fz_model.specs.declared.answers.Pick.{Pick}
use Rattle.fz_model.specs.declared.answers.Registration.{Registration}
use Rattle.fz_model.specs.State.{Map, Object}
use Rattle.fz_model.specs.Pass.{entries_of}
use Rattle.fz_table.specs.Tabled.{Content}
use Rattle.fz_pass.specs.Leading.{AreLeading, is_unreachable}
use Rattle.fz_pass.specs.Marks.{Marks}
use Rattle.fz_pass.specs.Picking.{Picks}
use Rattle.fz_pass.specs.Tiers.{skips}

-- what the unmarked registered objects reach was added to the marks
abbrev pub MarksLed : Type 0 → Map Object → (ℕ → Bool) → (ℕ → Bool) → Map Registration → Type 0
MarksLed Exact objects old new registrations = Marks Exact objects old new (AreLeading objects registrations (is_unreachable objects registrations old))

-- the unmarked registered objects of a round
abbrev pub is_ready : Bool → (ℕ → Bool) → Map Registration → (ℕ → Bool) → ℕ → Bool
is_ready second late registrations marked a = contains_key registrations a && not (skips second late marked a)

-- these objects were removed from the table, and their entries were appended to the queue
abbrev pub QueuesUnmarked : Bool → (ℕ → Bool) → ℕ → ℕ → Map Object → (ℕ → Bool) → Content → Content → List Entry → List Entry → Type 0
QueuesUnmarked second late pass first objects marked table new_table queue new_queue =
    (picks : List Pick) × (new_queue ≡ queue ++ entries_of pass first picks) × Picks objects (is_ready second late table.registrations marked) table new_table [] picks
