-- The run of a file that ended early.
-- code: fz_runs/src/text/fault.rt
use Rattle.std.specs.Prelude.{◌≡◌, ◌==◌, ℕ, ◌+◌, if◌then◌else◌, List, ◌++◌, Option}
use Rattle.std.specs.Io.KnownBytes.{Consumes, Appends}
use Rattle.fz_model.specs.declared.refusal.Refusal.{Refusal}
use Rattle.fz_model.specs.declared.refusal.Refusal.TheVariants.{Output, Input}
use Rattle.fz_model.specs.Refusals.{code_of}
use Rattle.fz_runs.specs.declared.text.fault.DriveFault.{DriveFault}
use Rattle.fz_runs.specs.Devices.{Feed, Log}

-- 1 if the run ended for this cause, and else 0
abbrev pub failures_of : Refusal → DriveFault → ℕ
failures_of refusal fault = if code_of fault.refusal == code_of refusal then 1 else 0

-- The fault is returned only if its cause holds; nothing else was written; and a read or write failed exactly if the fault says so. `Explains` states this of
-- the cause, the line, the bytes consumed, the bytes read beyond them, what the reader has left, and the text written.
pub record StoppedFor (Explains : Refusal → ℕ → List ℕ → List ℕ → Option (List ℕ) → List ℕ → Type 0) (input left : Feed) (before after : Log) (fault : DriveFault) : Type 0 where
  pub bytes : List ℕ
  pub unread : List ℕ
  pub text : List ℕ
  pub read : Consumes input.remaining left.remaining (bytes ++ unread)
  pub written : Appends before.written after.written text
  pub explains : Explains fault.refusal fault.line bytes unread left.remaining text
  pub reads : left.failures ≡ input.failures + failures_of Input fault
  pub writes : after.failures ≡ before.failures + failures_of Output fault
