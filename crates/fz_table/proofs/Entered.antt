-- Where the profile's table isn't full, registering is judged by the profile.
use Rattle.std.proofs.Common.{◌≡◌, ◌<◌, ℕ, Bool, false, cond, nat_le, Option, Some, None, Result, Ok, Err, refl, inr, ap, ◌∙◌, arith}
use Rattle.std.proofs.lemmas.Bool.Decides.{nat_tests}
use Rattle.std.specs.Result.{OnErr}
use Rattle.fz_model.specs.declared.answers.Old.{Old}
use Rattle.fz_model.specs.declared.finalizer.Finalizer.{Finalizer}
use Rattle.fz_model.specs.declared.refusal.Refusal.{Refusal}
use Rattle.fz_model.specs.declared.refusal.Refusal.TheVariants.{Exhausted, TableFull}
use Rattle.fz_model.specs.declared.limits.TheConstants.{COUNT_LIMIT}
use Rattle.fz_model.specs.Causes.{full, first_cause, register_causes}
use Rattle.fz_table.specs.Registered.{Registered}
use Rattle.fz_table.specs.Registers.{Registers, RegistersOrLacks}

pub OnErr_always : {A E : Type 0} {P : Type 0} (result : Result A E) → P → OnErr result P
OnErr_always (Ok x) h = tt
OnErr_always (Err e) h = h

module _ (old : Registered) (object : ℕ) (few : old.next_number < COUNT_LIMIT) (free : (full old.registrations object).0 ≡ false) where
  no_cause : first_cause (register_causes old.registrations old.next_number object) ≡ None
  no_cause =
      let early : nat_le COUNT_LIMIT old.next_number ≡ false = grind (arith, nat_tests) in
      ap (λ (b : Bool). cond b (Some Exhausted) (cond (full old.registrations object).0 (Some TableFull) None)) early ∙ ap (λ (b : Bool). cond b (Some TableFull) None) free

pub within_profile : (old : Registered) (object : ℕ) (finalizer : Finalizer) (result : Result (ℕ × Option Old) Refusal) (new : Registered)
    → old.next_number < COUNT_LIMIT → (full old.registrations object).0 ≡ false → RegistersOrLacks old object finalizer result new → Registers old object finalizer result new
within_profile old object finalizer (Ok answer) new few free does =
    record { judged = no_cause old object few free; growth = tt; unchanged = tt; number = does.number; replaced = does.replaced; registered = does.registered }
within_profile old object finalizer (Err r) new few free does =
    record { judged = inr (no_cause old object few free, does.refused, refl); growth = λ _. does.growth; unchanged = does.unchanged; number = tt; replaced = tt; registered = tt }
