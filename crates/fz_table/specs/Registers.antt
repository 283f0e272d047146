-- What registering an object's finalizer returns, and the content of the table afterwards.
-- code: fz_table/src/table.rt (register, register_checked)
use Rattle.std.specs.Prelude.{◌≡◌, ℕ, ◌+◌, Option, Result, IfOk, IfErr, OnOk, OnErr}
use Rattle.std.specs.Option.{IsNone}
use Rattle.std.specs.FinMap.{get, insert}
use Rattle.fz_model.specs.declared.answers.Old.{Old}
use Rattle.fz_model.specs.declared.finalizer.Finalizer.{Finalizer}
use Rattle.fz_model.specs.declared.refusal.Refusal.{Refusal}
use Rattle.fz_model.specs.declared.refusal.Refusal.TheVariants.{NoMemory}
use Rattle.fz_model.specs.Causes.{IsJudgedOrLacks, register_causes}
use Rattle.fz_model.specs.Steps.{old_of, registration_of}
use Rattle.fz_table.specs.Registered.{Registered}

pub record Registers (old : Registered) (object : ℕ) (finalizer : Finalizer) (result : Result (ℕ × Option Old) Refusal) (new : Registered) : Type 0 where
  pub judged : IsJudgedOrLacks (register_causes old.registrations old.next_number object) result
  -- only an object's first registration can run out of memory
  pub growth : IfErr result (λ r. r ≡ NoMemory → IsNone (get old.registrations object))
  pub unchanged : OnErr result (new ≡ old)
  pub number : IfOk result (λ answer. answer.0 ≡ old.next_number)
  pub replaced : IfOk result (λ answer. answer.1 ≡ old_of old.registrations object)
  pub registered : OnOk result (new ≡ record { registrations = insert old.registrations object (registration_of old.next_number finalizer); next_number = old.next_number + 1 })

-- the same, if running out of memory is the only possible error
pub record RegistersOrLacks (old : Registered) (object : ℕ) (finalizer : Finalizer) (result : Result (ℕ × Option Old) Refusal) (new : Registered) : Type 0 where
  pub refused : IfErr result (λ r. r ≡ NoMemory)
  pub growth : OnErr result (IsNone (get old.registrations object))
  pub unchanged : OnErr result (new ≡ old)
  pub number : IfOk result (λ answer. answer.0 ≡ old.next_number)
  pub replaced : IfOk result (λ answer. answer.1 ≡ old_of old.registrations object)
  pub registered : OnOk result (new ≡ record { registrations = insert old.registrations object (registration_of old.next_number finalizer); next_number = old.next_number + 1 })
