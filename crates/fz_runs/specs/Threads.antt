-- A run of a threads file: what its summary says, and why a run ends without one.
-- code: fz_runs/src/threads/run.rt (drive_threads), summary.rt
use Rattle.std.specs.Prelude.{◌≡◌, ◌≢◌, ℕ, ◌+◌, ◌⊎◌, true, List, [], ◌∷◌, ◌++◌, length, Option, None, Result, Ok, Err}
use Rattle.std.specs.Io.KnownBytes.{Consumes, IsAtEnd}
use Rattle.fz_runs.specs.Devices.{Feed, Log, Gains}
use Rattle.fz_runs.specs.Faults.{StoppedFor}
use Rattle.fz_model.specs.declared.refusal.Refusal.{Refusal}
use Rattle.fz_model.specs.declared.refusal.Refusal.TheVariants.{BadLine, BadCount, NoMemory, Output, Input}
use Rattle.fz_model.specs.Causes.{Causes, bad_count, first_cause, IsRefusedFor}
use Rattle.fz_model.specs.declared.limits.TheConstants.{MAX_WORKERS}
use Rattle.fz_world.specs.Does.{open_causes}
use Rattle.fz_line.specs.States.{SeatState}
use Rattle.fz_service.specs.States.{Origin}
use Rattle.fz_service.specs.Ends.{IsEndOfRun, IsEachOnce}
use Rattle.fz_service.specs.declared.ending.Final.{Final}
use Rattle.fz_runs.specs.declared.text.fault.DriveFault.{DriveFault}
use Rattle.fz_runs.specs.declared.threads.tally.Tally.{Tally}
use Rattle.fz_runs.specs.Written.{text_line, malformed_words, refused_words}
use Rattle.fz_runs.specs.Jobs.{Asked, IsThreadsFile, IsUnreadable, Unreadable, OpensAt}
use Rattle.fz_runs.specs.Holds.{SectionsRefused, Settles}
use Rattle.fz_runs.specs.Tallies.{summary_text}

-- the totals of an ended service, with the refused calls of all sections
abbrev pub tally_of : Final → ℕ → Tally
tally_of end refused =
    record { enqueued = end.enqueued; finished = end.finished; forfeited = end.forfeited; left = length end.left.items; passes = end.passes; reclaimed = end.reclaimed; refused = refused }

-- the causes for which an opening is refused
abbrev pub service_causes : Asked → Causes
service_causes asked = open_causes asked.blocks asked.frames ++ bad_count MAX_WORKERS asked.workers ∷ []

-- the totals are those of one service of the size in the file, which is within its limits: its sections were carried out, then a pause and the collections
-- that the file specifies, and it ended with all its seats
pub record Summarizes (asked : Asked) (tally : Tally) : Type 0 where
  pub origin : Origin
  pub opened : (origin.blocks ≡ asked.blocks) × (origin.frames ≡ asked.frames) × (origin.workers ≡ asked.workers)
  pub within : first_cause (service_causes asked) ≡ None
  pub seats : List SeatState
  pub end : Final
  pub ended : IsEndOfRun origin seats end
  pub each_once : IsEachOnce origin.workers seats
  pub told : tally ≡ tally_of end tally.refused
  pub refused : SectionsRefused origin asked.body tally.refused
  pub settled : Settles origin asked.collections
  pub balanced : tally.enqueued ≡ tally.finished + tally.forfeited + tally.left

-- the whole input was read, without a failure; it is a threads file that asks for this
pub record HasRead (input left : Feed) (asked : Asked) : Type 0 where
  pub bytes : List ℕ
  pub read : Consumes input.remaining left.remaining bytes
  pub whole : IsAtEnd left.remaining
  pub reads : left.failures ≡ input.failures
  pub file : IsThreadsFile bytes asked

-- the summary of the file's run was written, and no device failed
pub record Summarized (input left : Feed) (before after : Log) : Type 0 where
  pub asked : Asked
  pub tally : Tally
  pub file : HasRead input left asked
  pub summary : Summarizes asked tally
  pub written : Gains before (summary_text tally) after

-- what has to be written for a file
pub data IsDueFor (bytes unread : List ℕ) (left : Option (List ℕ)) : List ℕ → Type 0 where
  Malformed : (number : ℕ) → Unreadable BadLine number bytes unread left → IsDueFor bytes unread left (text_line (malformed_words number))
  NotOpened : (asked : Asked) (refusal : Refusal) → unread ≡ [] → IsAtEnd left → IsThreadsFile bytes asked → IsRefusedFor (service_causes asked) true refusal → IsDueFor bytes unread left (text_line (refused_words refusal))
  Summary : (asked : Asked) (tally : Tally) → unread ≡ [] → IsAtEnd left → IsThreadsFile bytes asked → Summarizes asked tally → IsDueFor bytes unread left (summary_text tally)

-- Why there is no summary, and at which line; only a malformed line and an opening outside its limits have one. `bytes` were consumed, `unread` was read
-- beyond them, `left` is what the reader has left, and `text` was written.
abbrev pub ExplainsRun : Refusal → ℕ → List ℕ → List ℕ → Option (List ℕ) → List ℕ → Type 0
ExplainsRun BadLine number bytes unread left text = Unreadable BadLine number bytes unread left × (text ≡ text_line (malformed_words number))
-- the opening was refused, and its reply was written
ExplainsRun BadCount number bytes unread left text =
    (asked : Asked) × (unread ≡ []) × IsAtEnd left × IsThreadsFile bytes asked × OpensAt bytes number asked × IsRefusedFor (service_causes asked) true BadCount × (text ≡ text_line (refused_words BadCount))
-- memory ran out: if that is the only cause against an opening, its reply was written; for any other call nothing was written; or no thread could be started
ExplainsRun NoMemory number bytes unread left text =
    (number ≡ 0)
    × ((text ≡ []) ⊎ ((asked : Asked) × (unread ≡ []) × IsAtEnd left × IsThreadsFile bytes asked × IsRefusedFor (service_causes asked) true NoMemory × (text ≡ text_line (refused_words NoMemory))))
ExplainsRun Input number bytes unread left text = Unreadable Input number bytes unread left × (text ≡ [])
-- the output wasn't written completely
ExplainsRun Output number bytes unread left text = (number ≡ 0) × (due : List ℕ) × (rest : List ℕ) × (due ≡ text ++ rest) × (rest ≢ []) × IsDueFor bytes unread left due
ExplainsRun _ number bytes unread left text = ⊥

-- the run ended without a summary
abbrev pub RunStopped : Feed → Feed → Log → Log → DriveFault → Type 0
RunStopped input left before after fault = StoppedFor ExplainsRun input left before after fault

-- the threads file was run to its end, or until a fault
abbrev pub DrivesThreads : Feed → Log → Result (Unit {0}) DriveFault → Feed → Log → Type 0
DrivesThreads input before (Ok x) left after = Summarized input left before after
DrivesThreads input before (Err fault) left after = RunStopped input left before after fault

-- the file's sections were carried out with this many refused calls, and then what a run ends with
pub record CarriedOut (origin : Origin) (input left : Feed) (refused : ℕ) : Type 0 where
  pub asked : Asked
  pub file : HasRead input left asked
  pub sections : SectionsRefused origin asked.body refused
  pub settled : Settles origin asked.collections

-- the file's sections were carried out over an open service; or the file can't be read; or it was read, and then memory ran out
abbrev pub DrivesSections : Origin → Feed → Result ℕ DriveFault → Feed → Type 0
DrivesSections origin input (Ok refused) left = CarriedOut origin input left refused
DrivesSections origin input (Err fault) left = IsUnreadable input left fault ⊎ ((asked : Asked) × HasRead input left asked × (fault ≡ record { refusal = NoMemory; line = 0 }))
