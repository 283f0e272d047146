-- What the program writes to standard error, and what its exit statuses mean.
-- code: finalize/src/program.rt, main.rt
use Rattle.std.specs.Prelude.{◌≡◌, ◌≢◌, ◌⊎◌, ℕ, List, [], ◌∷◌, All, codes, length, Option}
use Rattle.std.specs.declared.vec.Vec.{Vec}
use Rattle.fz_model.specs.declared.limits.TheConstants.{MAX_WORKERS}
use Rattle.fz_model.specs.declared.refusal.Refusal.{Refusal}
use Rattle.fz_model.specs.declared.refusal.Refusal.TheVariants.{Input, Output, NoMemory}
use Rattle.fz_runs.specs.declared.arguments.Program.{Program}
use Rattle.fz_runs.specs.declared.arguments.Program.TheVariants.{Run, Threads}
use Rattle.fz_runs.specs.Arguments.{name_of, IsFile, NameNothing, AskFor}
use Rattle.fz_runs.specs.declared.script.run.Summary.{Summary}
use Rattle.fz_runs.specs.declared.text.fault.DriveFault.{DriveFault}
use Rattle.std.specs.Io.KnownBytes.{Keeps}
use Rattle.fz_runs.specs.Devices.{Feed, Log, Says}
use Rattle.fz_runs.specs.Report.{Reported, Stopped}
use Rattle.fz_runs.specs.Threads.{Summarized, RunStopped}

abbrev pub want_line : List ℕ
want_line = codes "finalize: want run FILE or threads FILE\n"

abbrev pub memory_line : List ℕ
memory_line = codes "finalize: out of memory\n"

abbrev pub open_line : List ℕ
open_line = codes "finalize: cannot open file\n"

-- the message for a run that ended early; for most faults the output says it already
abbrev pub fault_line : Refusal → List ℕ
fault_line Input = codes "finalize: input failed\n"
fault_line Output = codes "finalize: output failed\n"
fault_line NoMemory = memory_line
fault_line _ = []

-- the program ran on this input to its end, and wrote its complete report or summary
abbrev pub Completes : Program → Feed → Log → Log → Type 0
Completes Run input before after = (left : Feed) × (summary : Summary) × Reported input left before after summary
Completes Threads input before after = (left : Feed) × Summarized input left before after

-- the program's run on this input ended early
abbrev pub Stops : Program → Feed → Log → Log → DriveFault → Type 0
Stops Run input before after fault = (left : Feed) × Stopped input left before after fault
Stops Threads input before after fault = (left : Feed) × RunStopped input left before after fault

-- The effect of the program on an input, its exit status, and what standard output and standard error contain then: it ran to its end, or it stopped and said
-- why.
abbrev pub Runs : Program → Feed → ℕ → Log → Log → Log → Log → Type 0
Runs program input status out out' err err' =
    ((status ≡ 0) × Completes program input out out' × (err' ≡ err))
    ⊎ ((status ≡ 1) × ((fault : DriveFault) × Stops program input out out' fault × Says err (fault_line fault.refusal) err'))

-- P holds of an input whose content is this, as far as it is known
abbrev pub ReadFrom : Option (List ℕ) → (Feed → Type 0) → Type 0
ReadFrom known P = (input : Feed) × Keeps known input.remaining × P input

-- nothing was run, and this line says why
abbrev pub SaysWhyNot : List ℕ → Log → Log → Log → Log → Type 0
SaysWhyNot line out out' err err' = (out' ≡ out) × Says err line err'

-- the file couldn't be opened, or the program ran on it
abbrev pub RunsFile : Option (List ℕ) → Program → ℕ → Log → Log → Log → Log → Type 0
RunsFile held program status out out' err err' =
    ((status ≡ 1) × SaysWhyNot open_line out out' err err') ⊎ ReadFrom held (λ input. Runs program input status out out' err err')

-- the arguments name a program and a file, and P holds of that program and of the input that this file contains, as far as it is known
abbrev pub RanOn : (List ℕ → Option (List ℕ)) → List (List ℕ) → (Program → Feed → Type 0) → Type 0
RanOn holds words P =
    (program : Program) × (file : List ℕ) × (words ≡ name_of program ∷ file ∷ []) × (input : Feed) × (IsFile file → Keeps (holds file) input.remaining) × P program input

-- the arguments were wrong; or nothing could be run because memory ran out or the file can't be opened; or the program ran
abbrev pub Ends : (List ℕ → Option (List ℕ)) → List (List ℕ) → ℕ → Log → Log → Log → Log → Type 0
Ends holds words status out out' err err' =
    ((status ≡ 2) × SaysWhyNot want_line out out' err err')
    ⊎ (((status ≡ 1) × (SaysWhyNot memory_line out out' err err' ⊎ SaysWhyNot open_line out out' err err')) ⊎ RanOn holds words (λ program input. Runs program input status out out' err err'))

-- The effect of the program, its exit status, and what standard output and standard error contain then. `holds` gives the content of each file.
pub record Executes (holds : List ℕ → Option (List ℕ)) (words : List (List ℕ)) (status : ℕ) (out out' err err' : Log) : Type 0 where
  -- any arguments but a program's name and a file are wrong
  pub wrong : NameNothing words → status ≡ 2
  -- a program's name and a file are accepted
  pub right : (file : List ℕ) → AskFor words file → status ≢ 2
  pub ends : Ends holds words status out out' err err'

-- a list of two procedures for each worker
abbrev pub AreForWorkers : {P A : Type 0} → List (Vec P A) → Type 0
AreForWorkers lists = (length lists ≡ MAX_WORKERS) × All (λ list. length list.items ≡ 2) lists
