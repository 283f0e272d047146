-- Reading a threads file line by line. Means only: no public contract cites this file.
-- code: fz_runs/src/threads/reading.rt, plan.rt, draft.rt
use Rattle.std.specs.Prelude.{◌≡◌, ◌≢◌, ℕ, ◌≤◌, ◌<◌, true, false, ◌⊎◌, List, [], ◌∷◌, ◌++◌, length, Result, Ok, Err, IsTrue}
use Rattle.std.specs.Io.KnownBytes.{Consumes, IsAtEnd}
use Rattle.fz_script.specs.Jobs.{spelling, Fits}
use Rattle.fz_runs.specs.Devices.{Feed}
use Rattle.fz_runs.specs.Lines.{is_kept}
use Rattle.fz_runs.specs.declared.text.input.Ending.{Ending}
use Rattle.fz_runs.specs.declared.text.input.Ending.TheVariants.{TooLong}
use Rattle.fz_runs.specs.declared.text.fault.DriveFault.{DriveFault}
use Rattle.fz_model.specs.declared.refusal.Refusal.{Refusal}
use Rattle.fz_model.specs.declared.refusal.Refusal.TheVariants.{BadLine, NoMemory}
use Rattle.fz_script.specs.declared.job.Job.{Job}
use Rattle.fz_script.specs.declared.job.Job.TheVariants.{Open}
use Rattle.fz_runs.specs.declared.threads.limits.TheConstants.{MAX_LINES}
use Rattle.fz_runs.specs.declared.threads.plan.Plan.{Plan}
use Rattle.fz_runs.specs.declared.threads.draft.Draft.{Draft}
use Rattle.fz_runs.specs.declared.threads.draft.Draft.TheVariants.{Empty, Opened, Settled}
use Rattle.fz_runs.specs.Jobs.{Asked, asked_jobs, may_follow, AsksAt, OpensAt, FileIs, IsThreadsFile, IsUnreadable}

abbrev pub asked_by : Plan → Asked
asked_by plan = record { blocks = plan.size.blocks; frames = plan.size.frames; workers = plan.size.workers; collections = plan.collections; body = plan.jobs.items }

abbrev pub jobs_in : Draft → List Job
jobs_in Empty = []
jobs_in (Opened size) = Open size.blocks size.frames size.workers ∷ []
jobs_in (Settled plan) = asked_jobs (asked_by plan)

-- the line of the opening, if there was one
abbrev pub opened_at : Draft → ℕ
opened_at Empty = 0
opened_at (Opened size) = size.line
opened_at (Settled plan) = plan.size.line

-- the line of the opening, if this line comes next
abbrev pub opens_at : Draft → ℕ → ℕ
opens_at Empty line = line
opens_at (Opened size) line = size.line
opens_at (Settled plan) line = plan.size.line

-- the line's job was added; or it may not follow; or memory ran out
abbrev pub Adds : Draft → ℕ → Job → Result (Unit {0}) Refusal → Draft → Type 0
Adds old line job (Ok x) new = (may_follow (jobs_in old) job ≡ true) × (jobs_in new ≡ jobs_in old ++ job ∷ []) × (opened_at new ≡ opens_at old line)
Adds old line job (Err refusal) new = (refusal ≡ NoMemory) ⊎ ((refusal ≡ BadLine) × (may_follow (jobs_in old) job ≡ false))

abbrev pub is_empty : Draft → Type 0
is_empty draft = draft ≡ Empty

-- only the fault of a malformed line has its number
abbrev pub unreadable : Refusal → ℕ → DriveFault
unreadable BadLine number = record { refusal = BadLine; line = number }
unreadable refusal number = record { refusal = refusal; line = 0 }

-- the line is empty or a comment, or its job was added
abbrev pub TakesLine : Draft → ℕ → List ℕ → Draft → Type 0
TakesLine old number line new =
    ((is_kept line ≡ false) × (new ≡ old))
    ⊎ ((job : Job) × (is_kept line ≡ true) × Fits job × (line ≡ spelling job) × Adds old number job (Ok tt) new)

-- what reading the line with this number does
abbrev pub ReadsJob : ℕ → Ending → Draft → List ℕ → Result (Unit {0}) Refusal → Draft → Type 0
ReadsJob number ending old line (Ok x) new = (ending ≢ TooLong) × (number ≤ MAX_LINES) × TakesLine old number line new
ReadsJob number ending old line (Err refusal) new =
    (refusal ≡ NoMemory) ⊎ ((refusal ≡ BadLine) × ((ending ≡ TooLong) ⊎ ((MAX_LINES < number) ⊎ (IsTrue (is_kept line) × ((job : Job) → Fits job → line ≡ spelling job → may_follow (jobs_in old) job ≡ false)))))

-- the plan is complete, or the file has ended too early
abbrev pub Ends : Draft → ℕ → Result Plan DriveFault → Type 0
Ends draft number (Ok plan) = draft ≡ Settled plan
Ends draft number (Err fault) = (fault ≡ record { refusal = BadLine; line = number }) × (length (jobs_in draft) < 2)

-- if these are several jobs, the line with this number spells the first
abbrev pub FirstAt : List ℕ → List Job → ℕ → Type 0
FirstAt bytes [] number = Unit {0}
FirstAt bytes (job ∷ []) number = Unit {0}
FirstAt bytes (job ∷ next ∷ jobs) number = AsksAt bytes number job

-- these bytes were read, and their lines spell the draft's jobs; the next line would have this number
abbrev pub WasRead : Feed → Feed → Draft → ℕ → Type 0
WasRead input left draft number =
    (bytes : List ℕ) × Consumes input.remaining left.remaining bytes × IsAtEnd left.remaining × FileIs bytes (jobs_in draft) number × FirstAt bytes (jobs_in draft) (opened_at draft)
    × (left.failures ≡ input.failures)

-- all lines were read, or reading stopped at one of them
abbrev pub ReadsAll : Feed → Draft → Result ℕ DriveFault → Feed → Type 0
ReadsAll input draft (Ok number) left = WasRead input left draft number
ReadsAll input draft (Err fault) left = IsUnreadable input left fault

abbrev pub PlanIsRead : Feed → Result Plan DriveFault → Feed → Type 0
PlanIsRead input (Ok plan) left =
    (bytes : List ℕ) × Consumes input.remaining left.remaining bytes × IsAtEnd left.remaining × IsThreadsFile bytes (asked_by plan) × OpensAt bytes plan.size.line (asked_by plan)
    × (left.failures ≡ input.failures)
PlanIsRead input (Err fault) left = IsUnreadable input left fault
