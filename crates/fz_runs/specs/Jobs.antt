-- A threads file: the jobs that its lines spell, and in which order they may come.
-- code: fz_runs/src/threads/reading.rt, plan.rt, stage.rt, draft.rt
use Rattle.std.specs.Prelude.{◌≡◌, ℕ, ◌+◌, ◌≤◌, ◌<◌, Bool, true, false, nat_lt, ◌⊎◌, List, [], ◌∷◌, ◌++◌, length, map, filter, fold, Option, IsTrue}
use Rattle.std.specs.List.{All}
use Rattle.fz_model.specs.declared.call.Call.{Call as WorldCall}
use Rattle.fz_model.specs.declared.call.Call.TheVariants.{Begin, Mark, Pause, Collect, Close, Outstanding}
use Rattle.fz_script.specs.declared.job.Job.{Job}
use Rattle.fz_script.specs.declared.job.Job.TheVariants.{Open, Settle, Mutator, Collector, Churn, Call}
use Rattle.fz_script.specs.Jobs.{spelling, Fits}
use Rattle.std.specs.Io.KnownBytes.{Consumes, IsAtEnd, prepend_known}
use Rattle.fz_model.specs.declared.refusal.Refusal.{Refusal}
use Rattle.fz_model.specs.declared.refusal.Refusal.TheVariants.{BadLine, NoMemory, Input}
use Rattle.fz_runs.specs.declared.text.fault.DriveFault.{DriveFault}
use Rattle.fz_runs.specs.Devices.{Feed}
use Rattle.fz_runs.specs.Faults.{failures_of}
use Rattle.fz_runs.specs.Lines.{Lines, AreLines, EndsAt, is_kept, max_line}
use Rattle.fz_runs.specs.declared.threads.limits.TheConstants.{MAX_LINES, MAX_MUTATORS}
use Rattle.fz_runs.specs.declared.threads.stage.Actor.{Actor}
use Rattle.fz_runs.specs.declared.threads.stage.Actor.TheVariants as actor
use Rattle.fz_runs.specs.declared.threads.stage.Stage.{Stage}

abbrev pub is_opening : Job → Bool
is_opening (Open blocks frames workers) = true
is_opening _ = false

abbrev pub is_settle : Job → Bool
is_settle (Settle collections) = true
is_settle _ = false

-- which actor may make the call; no section closes the world, which the run does at its end, or counts held entries, since no report is written meanwhile
abbrev pub maker : WorldCall → Actor
maker Begin = actor.Collector
maker (Mark budget) = actor.Collector
maker Pause = actor.Collector
maker Collect = actor.Collector
maker Close = actor.Nobody
maker Outstanding = actor.Nobody
maker _ = actor.Mutator

abbrev pub is_same : Actor → Actor → Bool
is_same actor.Mutator actor.Mutator = true
is_same actor.Collector actor.Collector = true
is_same _ _ = false

abbrev pub is_call_of : Actor → WorldCall → Bool
is_call_of actor call = is_same actor (maker call)

abbrev pub may_churn : Actor → Bool
may_churn actor.Nobody = false
may_churn actor.Mutator = true
may_churn actor.Collector = false

-- whether the job may come after `settle`, at this stage: at most eight mutators, at most one collector, and each with its own kinds of calls
abbrev pub may_come : Stage → Job → Bool
may_come stage (Open blocks frames workers) = false
may_come stage (Settle collections) = false
may_come stage Mutator = nat_lt stage.mutators MAX_MUTATORS
may_come stage Collector = nat_lt stage.collectors 1
may_come stage (Churn count slot size kind finalizer_kind procedure) = may_churn stage.actor
may_come stage (Call call) = is_call_of stage.actor call

-- the stage after the job
abbrev pub stage_after : Stage → Job → Stage
stage_after stage Mutator = record { actor = actor.Mutator; mutators = stage.mutators + 1; collectors = stage.collectors }
stage_after stage Collector = record { actor = actor.Collector; mutators = stage.mutators; collectors = stage.collectors + 1 }
stage_after stage _ = stage

abbrev pub first_stage : Stage
first_stage = record { actor = actor.Nobody; mutators = 0; collectors = 0 }

-- whether the job may follow these: the opening is first, `settle` second, then come sections
abbrev pub may_follow : List Job → Job → Bool
may_follow [] job = is_opening job
may_follow (first ∷ []) job = is_settle job
may_follow (first ∷ second ∷ body) job = may_come (fold stage_after first_stage body) job

-- each job may follow those before it
pub data AreInOrder : List Job → Type 0 where
  NoJob : AreInOrder []
  OneMore : (jobs : List Job) (job : Job) → AreInOrder jobs → may_follow jobs job ≡ true → AreInOrder (jobs ++ job ∷ [])

-- these lines spell these jobs, in order
pub record AreJobs (lines : List (List ℕ)) (jobs : List Job) : Type 0 where
  pub spelled : filter is_kept lines ≡ map spelling jobs
  pub fit : All Fits jobs
  pub in_order : AreInOrder jobs
  pub short : All (λ line. length line ≤ max_line) lines
  pub few : length lines ≤ MAX_LINES

-- the line is malformed: it is too long, beyond the last number, or spells no job that may follow
abbrev pub IsNoJob : List Job → ℕ → List ℕ → Type 0
IsNoJob jobs number line =
    (max_line < length line) ⊎ ((MAX_LINES < number) ⊎ (IsTrue (is_kept line) × ((job : Job) → Fits job → line ≡ spelling job → may_follow jobs job ≡ false)))

-- the content of a file: a world, how often it is collected at the end, and the jobs of the sections, including the first line of each
pub record Asked : Type 0 where
  pub blocks : ℕ
  pub frames : ℕ
  pub workers : ℕ
  pub collections : ℕ
  pub body : List Job

abbrev pub asked_jobs : Asked → List Job
asked_jobs asked = Open asked.blocks asked.frames asked.workers ∷ Settle asked.collections ∷ asked.body

-- the line with this number spells the job
pub record AsksAt (bytes : List ℕ) (number : ℕ) (job : Job) : Type 0 where
  pub before : List (List ℕ)
  pub after : List (List ℕ)
  pub last : List ℕ
  pub split : Lines bytes (before ++ spelling job ∷ after) last
  pub place : length before + 1 ≡ number

-- the line with this number spells the opening
abbrev pub OpensAt : List ℕ → ℕ → Asked → Type 0
OpensAt bytes number asked = AsksAt bytes number (Open asked.blocks asked.frames asked.workers)

-- the lines of these bytes spell these jobs; the next line would have this number
abbrev pub FileIs : List ℕ → List Job → ℕ → Type 0
FileIs bytes jobs number = AreLines (λ lines. AreJobs lines jobs) bytes number

-- the bytes are a threads file with this content
abbrev pub IsThreadsFile : List ℕ → Asked → Type 0
IsThreadsFile bytes asked = (number : ℕ) × FileIs bytes (asked_jobs asked) number

-- the bytes end with this line, and the lines before it spell these jobs; `left` is what can still be read
abbrev pub AtJob : List ℕ → Option (List ℕ) → ℕ → List ℕ → List Job → Type 0
AtJob bytes left number line jobs = EndsAt (λ lines. AreJobs lines jobs) bytes left number line

-- Why a file can't be carried out, and at which line. `bytes` were consumed, `unread` was read beyond them, and `left` is what the reader has left.
abbrev pub Unreadable : Refusal → ℕ → List ℕ → List ℕ → Option (List ℕ) → Type 0
-- the line is malformed, or the file ended before `settle`
Unreadable BadLine number bytes unread left =
    ((line : List ℕ) × (jobs : List Job) × AtJob bytes (prepend_known unread left) number line jobs × IsNoJob jobs number line)
    ⊎ ((jobs : List Job) × FileIs bytes jobs number × (length jobs < 2) × IsAtEnd (prepend_known unread left))
-- reading failed in a line, and no line before it was malformed
Unreadable Input number bytes unread left =
    (number ≡ 0) × (unread ≡ []) × (lines : List (List ℕ)) × (line : List ℕ) × (jobs : List Job) × Lines bytes lines line × (length line ≤ max_line) × AreJobs lines jobs
-- a job couldn't be stored
Unreadable NoMemory number bytes unread left = number ≡ 0
Unreadable _ number bytes unread left = ⊥

-- the file can't be carried out because of this fault, and a read failed exactly if the fault says so
abbrev pub IsUnreadable : Feed → Feed → DriveFault → Type 0
IsUnreadable input left fault =
    ((bytes : List ℕ) × (unread : List ℕ) × Consumes input.remaining left.remaining (bytes ++ unread) × Unreadable fault.refusal fault.line bytes unread left.remaining)
    × (left.failures ≡ input.failures + failures_of Input fault)
