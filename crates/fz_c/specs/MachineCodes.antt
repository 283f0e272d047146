-- The codes of refusals, and what a call through a handle returns.
-- code: fz_c/src/machine/codes.rt
use Rattle.std.specs.Prelude.{◌≡◌, ◌⊎◌, ℕ, Option, Some, None}
use Rattle.fz_finalizers.specs.declared.refused.Refused as finalizers
use Rattle.fz_finalizers.specs.declared.refused.Refused.TheVariants.{Zero, Exhausted, Full, NoMemory, NotHeld}
use Rattle.fz_machine.specs.declared.refused.Refused.{Refused}
use Rattle.fz_machine.specs.declared.refused.Refused.TheVariants.{PassOpen, NoPass, Finalizers}
use Rattle.fz_c.specs.declared.machine.codes.TheConstants.{OK, NOT_OPEN, NO_MEMORY}

abbrev pub code_of_refused : finalizers.Refused → ℕ
code_of_refused Zero = 1
code_of_refused Exhausted = 2
code_of_refused Full = 3
code_of_refused NoMemory = 4
code_of_refused NotHeld = 5

abbrev pub code_of : Refused → ℕ
code_of PassOpen = 6
code_of NoPass = 7
code_of (Finalizers r) = code_of_refused r

-- a call through a handle: what it does to the finalizers or the copy behind it, or nothing if there are none
abbrev pub Behind : {X : Type 0} → Option X → Option X → ℕ → Type 0 → (X → X → Type 0) → Type 0
Behind (Some old) (Some new) code kept does = does old new
Behind (Some old) None code kept does = ⊥
Behind None new code kept does = (new ≡ None) × (code ≡ NOT_OPEN) × kept

-- the call is carried out, or refused for the first cause that applies
abbrev pub Answers : Option Refused → ℕ → Type 0 → Type 0 → Type 0
Answers None code done refused = (code ≡ OK) × done
Answers (Some r) code done refused = (code ≡ code_of r) × refused

-- the same for a call that may also run out of memory, if no cause applies and Lacks holds
abbrev pub AnswersOrLacks : Option Refused → ℕ → Type 0 → Type 0 → Type 0 → Type 0
AnswersOrLacks None code done refused Lacks = ((code ≡ OK) × done) ⊎ ((code ≡ NO_MEMORY) × refused × Lacks)
AnswersOrLacks (Some r) code done refused Lacks = (code ≡ code_of r) × refused
