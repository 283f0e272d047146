-- Why calls are refused. Each call has a list of causes in a fixed order. It returns the first cause that applies.
-- code: fz_finalizers/src/registering.rt, linking.rt, adding.rt, entries.rt
use Rattle.std.specs.Prelude.{◌≡◌, ℕ, Bool, not, ◌||◌, ◌==◌, nat_le, if◌then◌else◌, ◌⊎◌, List, [], ◌∷◌, Option, Some, None, Result, Ok, Err}
use Rattle.fz_model.specs.declared.limits.TheConstants.{COUNT_LIMIT}
use Rattle.fz_model.specs.declared.answers.Entry.{Entry}
use Rattle.fz_model.specs.declared.answers.Registration.{Registration}
use Rattle.fz_model.specs.State.{Map}
use Rattle.std.specs.FinMap.{len}
use Rattle.fz_table.specs.declared.limits.TheConstants.{MOST_ENTRIES}
use Rattle.fz_table.specs.Places.{lacks_place}
use Rattle.fz_finalizers.specs.declared.cleanups.Attached.{Attached}
use Rattle.fz_finalizers.specs.declared.refused.Refused.{Refused}
use Rattle.fz_finalizers.specs.declared.refused.Refused.TheVariants.{Zero, Exhausted, Full, NoMemory, NotHeld}
use Rattle.fz_finalizers.specs.States.{is_held}

-- a list of causes: for each whether it applies, and the refusal that it gives
abbrev pub Causes : Type 0
Causes = List (Bool × Refused)

-- the refusal of the first cause that applies
abbrev pub first_cause : Causes → Option Refused
first_cause [] = None
first_cause (cause ∷ causes) = if cause.0 then Some cause.1 else first_cause causes

-- accepted if no cause applies, and else refused for the first that does
abbrev pub IsJudgedBy : {A : Type 0} → Causes → Result A Refused → Type 0
IsJudgedBy causes (Ok x) = first_cause causes ≡ None
IsJudgedBy causes (Err r) = first_cause causes ≡ Some r

-- the same for a call that may also run out of memory, if no cause applies
abbrev pub IsJudgedOrLacks : {A : Type 0} → Causes → Result A Refused → Type 0
IsJudgedOrLacks causes (Ok x) = first_cause causes ≡ None
IsJudgedOrLacks causes (Err r) = (first_cause causes ≡ Some r) ⊎ ((first_cause causes ≡ None) × (r ≡ NoMemory))

-- the causes of registering an object
abbrev pub register_causes : Map Registration → ℕ → ℕ → Causes
register_causes table next_number object =
    (object == 0, Zero) ∷ (nat_le COUNT_LIMIT next_number, Exhausted) ∷ (lacks_place table object, Full) ∷ []

-- the causes of adding a cleanup to an object
abbrev pub add_causes : Map Attached → ℕ → ℕ → Causes
add_causes cleanups next_number object = (object == 0, Zero) ∷ (nat_le COUNT_LIMIT next_number, Exhausted) ∷ (nat_le MOST_ENTRIES (len cleanups), Full) ∷ []

-- the causes of linking a word to a target
abbrev pub link_causes : Map ℕ → ℕ → ℕ → Causes
link_causes links word target = (word == 0 || target == 0, Zero) ∷ (lacks_place links word, Full) ∷ []

-- the causes of moving a link to a word
abbrev pub move_causes : ℕ → Causes
move_causes to = (to == 0, Zero) ∷ []

-- the causes of finishing an entry
abbrev pub finish_causes : List Entry → Entry → Causes
finish_causes held entry = (not (is_held held entry), NotHeld) ∷ []
