-- What the run of a threads file writes, function by function. Means only: no public contract cites this file.
-- code: fz_runs/src/threads/run.rt
use Rattle.std.specs.Prelude.{◌≡◌, ◌≢◌, ℕ, ◌+◌, ◌⊎◌, true, List, [], ◌++◌, Result, Ok, Err}
use Rattle.std.specs.Io.KnownBytes.{Appends}
use Rattle.fz_model.specs.declared.refusal.Refusal.{Refusal}
use Rattle.fz_model.specs.declared.refusal.Refusal.TheVariants.{BadLine, BadCount, NoMemory, Output}
use Rattle.fz_model.specs.Causes.{IsRefusedFor}
use Rattle.fz_script.specs.declared.job.Job.{Job}
use Rattle.fz_line.specs.States.{SeatState}
use Rattle.fz_service.specs.States.{Origin}
use Rattle.fz_service.specs.Ends.{IsEndOfRun, IsEachOnce}
use Rattle.fz_service.specs.declared.ending.Final.{Final}
use Rattle.fz_runs.specs.declared.text.fault.DriveFault.{DriveFault}
use Rattle.fz_runs.specs.declared.threads.tally.Tally.{Tally}
use Rattle.fz_runs.specs.Devices.{Log, Gains, GainsPart}
use Rattle.fz_runs.specs.Faults.{failures_of}
use Rattle.fz_runs.specs.Written.{text_line, malformed_words, refused_words}
use Rattle.fz_runs.specs.Jobs.{Asked}
use Rattle.fz_runs.specs.Tallies.{summary_text}
use Rattle.fz_runs.specs.Threads.{tally_of, Summarizes, service_causes}

abbrev pub lineless : Refusal → DriveFault
lineless refusal = record { refusal = refusal; line = 0 }

-- the text was written completely, and this fault is returned; or the writer failed
abbrev pub TellsFault : List ℕ → DriveFault → Log → DriveFault → Log → Type 0
TellsFault text known old fault new = ((fault ≡ known) × Gains old text new) ⊎ ((fault ≡ lineless Output) × GainsPart old text new)

-- what is written for a file that can't be carried out: its malformed line, and nothing for any other cause
abbrev pub text_for : Refusal → ℕ → List ℕ
text_for BadLine number = text_line (malformed_words number)
text_for _ number = []

-- only an opening outside its limits has a line number
abbrev pub opening_fault : Refusal → ℕ → DriveFault
opening_fault BadCount line = record { refusal = BadCount; line = line }
opening_fault refusal line = lineless refusal

-- the content of a file for a service of this origin
abbrev pub asked_from : Origin → ℕ → List Job → Asked
asked_from origin collections jobs = record { blocks = origin.blocks; frames = origin.frames; workers = origin.workers; collections = collections; body = jobs }

-- the totals are those of the ended service, with this number of refused calls
abbrev pub TellsEnd : Origin → ℕ → Tally → Type 0
TellsEnd origin refused tally =
    (seats : List SeatState) × (end : Final) × IsEndOfRun origin seats end × IsEachOnce origin.workers seats × (tally ≡ tally_of end refused)

-- the summary was written completely, or the writer failed
abbrev pub TellsSummary : Tally → Log → Result (Unit {0}) DriveFault → Log → Type 0
TellsSummary tally old (Ok x) new = Gains old (summary_text tally) new
TellsSummary tally old (Err fault) new = (fault ≡ lineless Output) × GainsPart old (summary_text tally) new

-- the output after the opening: that it was refused, or the summary
pub data IsDueAfter (asked : Asked) : List ℕ → Type 0 where
  Refused : (refusal : Refusal) → IsRefusedFor (service_causes asked) true refusal → IsDueAfter asked (text_line (refused_words refusal))
  Summed : (tally : Tally) → Summarizes asked tally → IsDueAfter asked (summary_text tally)

-- why there is no summary, at which line, if the line `opening` spells the opening, and what was written
abbrev pub StopsRun : Asked → ℕ → Refusal → ℕ → List ℕ → Type 0
StopsRun asked opening BadCount number text = (number ≡ opening) × IsRefusedFor (service_causes asked) true BadCount × (text ≡ text_line (refused_words BadCount))
StopsRun asked opening NoMemory number text = (number ≡ 0) × ((text ≡ []) ⊎ (IsRefusedFor (service_causes asked) true NoMemory × (text ≡ text_line (refused_words NoMemory))))
StopsRun asked opening Output number text = (number ≡ 0) × (due : List ℕ) × (rest : List ℕ) × (due ≡ text ++ rest) × (rest ≢ []) × IsDueAfter asked due
StopsRun asked opening _ number text = ⊥

-- the summary was written, or the run stopped
abbrev pub RunsPlan : Asked → ℕ → Log → Result (Unit {0}) DriveFault → Log → Type 0
RunsPlan asked opening old (Ok x) new = (tally : Tally) × Summarizes asked tally × Gains old (summary_text tally) new
RunsPlan asked opening old (Err fault) new =
    (text : List ℕ) × Appends old.written new.written text × StopsRun asked opening fault.refusal fault.line text × (new.failures ≡ old.failures + failures_of Output fault)
