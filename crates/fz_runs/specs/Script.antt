-- A script: the lines of its bytes, and the steps that they spell.
-- code: fz_runs/src/script/answer.rt, machine.rt
use Rattle.std.specs.Prelude.{◌≡◌, ℕ, ◌≤◌, ◌<◌, ◌^◌, Bool, true, false, not, if◌then◌else◌, ◌⊎◌, List, length, map, filter, Option, Some, None, IsTrue, IsFalse}
use Rattle.std.specs.List.{All}
use Rattle.fz_model.specs.Events.{Make}
use Rattle.fz_model.specs.Joint.{JointEvent}
use Rattle.fz_model.specs.Joint as joint
use Rattle.fz_script.specs.declared.step.Step.{Step}
use Rattle.fz_script.specs.declared.step.Step.TheVariants.{Open, Call, Take, Hold, Finish, Forfeit}
use Rattle.fz_script.specs.Spelling.{spelling, Fits}
use Rattle.fz_runs.specs.Lines.{is_kept, max_line}

-- the largest number of lines of a script
abbrev pub max_lines : ℕ
max_lines = 2 ^ 32

-- these lines spell these steps, in order
pub record IsScript (lines : List (List ℕ)) (steps : List Step) : Type 0 where
  pub spelled : filter is_kept lines ≡ map spelling steps
  pub fit : All Fits steps
  pub short : All (λ line. length line ≤ max_line) lines
  pub few : length lines ≤ max_lines

abbrev pub is_open : Step → Bool
is_open (Open blocks frames workers) = true
is_open _ = false

-- the first step is an opening, and no later step is
abbrev pub may_come : Bool → Step → Bool
may_come opened step = if opened then not (is_open step) else is_open step

-- the line is malformed: it is too long, beyond the last number, or spells no step that may come now
abbrev pub IsMalformed : Bool → ℕ → List ℕ → Type 0
IsMalformed opened number line =
    (max_line < length line) ⊎ ((max_lines < number) ⊎ (IsTrue (is_kept line) × ((step : Step) → Fits step → line ≡ spelling step → IsFalse (may_come opened step))))

-- the event of a joint run that the step means; an opening is none
abbrev pub event_of : Step → Option JointEvent
event_of (Open blocks frames workers) = None
event_of (Call call) = Some (joint.Call (Make call))
event_of (Take worker) = Some (joint.Take worker)
event_of (Hold worker slot) = Some (joint.HoldOwn worker slot)
event_of (Finish worker) = Some (joint.FinishOwn worker)
event_of (Forfeit worker) = Some (joint.Forfeit worker)
