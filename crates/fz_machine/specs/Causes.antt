-- Why calls are refused: because a pass is open, or for the causes of the finalizers.
-- code: fz_machine/src/calls.rt
use Rattle.std.specs.Prelude.{◌≡◌, ◌⊎◌, Option, Some, None, Result, Ok, Err}
use Rattle.fz_finalizers.specs.declared.refused.Refused as finalizers
use Rattle.fz_finalizers.specs.declared.refused.Refused.TheVariants.{NoMemory}
use Rattle.fz_finalizers.specs.Causes.{Causes, first_cause}
use Rattle.fz_machine.specs.declared.phase.Phase.{Phase}
use Rattle.fz_machine.specs.declared.refused.Refused.{Refused}
use Rattle.fz_machine.specs.declared.refused.Refused.TheVariants.{PassOpen, Finalizers}

-- the first cause that applies
abbrev pub first_of : Option Phase → Causes → Option Refused
first_of (Some phase) causes = Some PassOpen
first_of None causes = wrapped (first_cause causes)
  where
    wrapped : Option finalizers.Refused → Option Refused
    wrapped None = None
    wrapped (Some r) = Some (Finalizers r)

-- accepted if no cause applies, and else refused for the first that does
abbrev pub IsJudgedBy : {A : Type 0} → Option Phase → Causes → Result A Refused → Type 0
IsJudgedBy phase causes (Ok x) = first_of phase causes ≡ None
IsJudgedBy phase causes (Err r) = first_of phase causes ≡ Some r

-- the same for a call that may also run out of memory, if no cause applies
abbrev pub IsJudgedOrLacks : {A : Type 0} → Option Phase → Causes → Result A Refused → Type 0
IsJudgedOrLacks phase causes (Ok x) = first_of phase causes ≡ None
IsJudgedOrLacks phase causes (Err r) = (first_of phase causes ≡ Some r) ⊎ ((first_of phase causes ≡ None) × (r ≡ Finalizers NoMemory))

-- the same for a part of a call: the first cause, or out of memory if Lacks holds
abbrev pub RefusesOrLacks : Causes → Type 0 → finalizers.Refused → Type 0
RefusesOrLacks causes Lacks r = (first_cause causes ≡ Some r) ⊎ ((first_cause causes ≡ None) × (r ≡ NoMemory) × Lacks)
