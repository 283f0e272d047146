-- The work of a thread, as a list of calls, each under a hold of the lock of its own.
-- code: fz_runs/src/threads/section.rt, holds.rt, actors.rt
use Rattle.std.specs.Prelude.{◌≡◌, ℕ, ◌+◌, ◌==◌, ◌<◌, Bool, true, false, if◌then◌else◌, List, [], ◌∷◌, ◌++◌, map, replicate, count_by, length, sum, None, slice_index, is_err, Result}
use Rattle.fz_model.specs.declared.refusal.Refusal.{Refusal}
use Rattle.fz_model.specs.declared.call.Call.TheVariants as calls
use Rattle.fz_model.specs.Events.{Event, Make, Answer}
use Rattle.fz_world.specs.World.{WorldView}
use Rattle.fz_world.specs.Does.{Does}
use Rattle.fz_script.specs.declared.job.Job.{Job}
use Rattle.fz_script.specs.declared.job.Job.TheVariants.{Mutator, Collector, Churn, Call}
use Rattle.fz_service.specs.States.{Origin, LockedState, IsInOrder}

-- the world made this call
abbrev pub Makes : Event → WorldView → WorldView → Type 0
Makes event old new = (reply : Result (Answer event) Refusal) × Does old event reply new

-- one hold of the lock: one call to the world, in a state that steps reach from the opening
pub record Hold (origin : Origin) : Type 0 where
  pub old : LockedState
  pub in_order : IsInOrder origin old
  pub event : Event
  pub reply : Result (Answer event) Refusal
  pub new : WorldView
  pub does : Does old.world event reply new

abbrev pub event_in : {origin : Origin} → Hold origin → Event
event_in hold = hold.event

abbrev pub is_refused : {origin : Origin} → Hold origin → Bool
is_refused hold = is_err hold.reply

-- one turn of `churn`: a new object, which is registered and dropped; a refused `new` skips the other two
abbrev pub IsTurn : {origin : Origin} → (new register drop : Event) → List (Hold origin) → Type 0
IsTurn {origin} new register drop holds =
    (first : Hold origin) × (rest : List (Hold origin)) × (holds ≡ first ∷ rest) × (first.event ≡ new)
    × (map event_in rest ≡ if is_refused first then [] else register ∷ drop ∷ [])

-- several turns, one after another
pub data AreTurns {origin : Origin} (new register drop : Event) : ℕ → List (Hold origin) → Type 0 where
  NoTurn : AreTurns new register drop 0 []
  OneTurn : (n : ℕ) (holds more : List (Hold origin)) → AreTurns new register drop n holds → IsTurn new register drop more → AreTurns new register drop (n + 1) (holds ++ more)

-- the holds of one job
abbrev pub Carries : {origin : Origin} → Job → List (Hold origin) → Type 0
Carries (Call call) holds = map event_in holds ≡ Make call ∷ []
Carries (Churn count slot size kind finalizer_kind procedure) holds =
    AreTurns (Make (calls.Alloc slot size kind)) (Make (calls.Register slot (record { kind = finalizer_kind; procedure = procedure; client_data = 0; rank = None }))) (Make (calls.Set slot 0)) count holds
Carries _ holds = holds ≡ []

-- the holds of these jobs, one after another
pub data Works {origin : Origin} : List Job → List (Hold origin) → Type 0 where
  NoWork : Works [] []
  OneJob : (jobs : List Job) (holds : List (Hold origin)) (job : Job) (more : List (Hold origin)) → Works jobs holds → Carries job more → Works (jobs ++ job ∷ []) (holds ++ more)

-- how many turns a job has
abbrev pub turns_of : Job → ℕ
turns_of (Churn count slot size kind finalizer_kind procedure) = count
turns_of _ = 0

abbrev pub begins_section : Job → Bool
begins_section Mutator = true
begins_section Collector = true
begins_section _ = false

-- the jobs of the section with this number, after `begun` sections have begun
abbrev pub own_from : ℕ → ℕ → List Job → List Job
own_from begun number [] = []
own_from begun number (job ∷ jobs) =
    if begins_section job then own_from (begun + 1) number jobs else (if begun == number then job ∷ own_from begun number jobs else own_from begun number jobs)

-- the jobs of a section; sections are counted from 1
abbrev pub own_jobs : ℕ → List Job → List Job
own_jobs number jobs = own_from 0 number jobs

-- this many holds of such a list were refused
abbrev pub HasRefused : (origin : Origin) → (List (Hold origin) → Type 0) → ℕ → Type 0
HasRefused origin P refused = (holds : List (Hold origin)) × P holds × (refused ≡ count_by is_refused holds)

-- how a run ends: a pause, and then collections
abbrev pub settling : ℕ → List Event
settling collections = Make calls.Pause ∷ replicate collections (Make calls.Collect)

-- a hold in which this call was refused, or not. Means only.
abbrev pub Held : Origin → Event → Bool → Type 0
Held origin event refused = (hold : Hold origin) × (hold.event ≡ event) × (is_refused hold ≡ refused)

-- the sections of these jobs, with how many calls of each were refused, and of all together
abbrev pub SectionsRefused : Origin → List Job → ℕ → Type 0
SectionsRefused origin jobs refused =
    (counts : List ℕ) × (length counts ≡ count_by begins_section jobs) × (refused ≡ sum counts)
    × ((i : ℕ) → i < length counts → HasRefused origin (Works (own_jobs (i + 1) jobs)) (slice_index counts i))

-- the run ended in this way
abbrev pub Settles : Origin → ℕ → Type 0
Settles origin collections = (holds : List (Hold origin)) × (map event_in holds ≡ settling collections)
