-- Causes, one list after another.
use Rattle.std.proofs.Common.{◌≡◌, ◌⊎◌, Bool, true, false, [], ◌∷◌, ◌++◌, Option, Some, None, if◌then◌else◌, refl, sym, subst, inl, IsTrue}
use Rattle.std.proofs.lemmas.Option.{none-some}
use Rattle.fz_model.specs.declared.refusal.Refusal.{Refusal}
use Rattle.fz_model.specs.declared.refusal.Refusal.TheVariants.{NoMemory}
use Rattle.fz_model.specs.Causes.{Causes, first_cause, IsRefusedFor}

pub judged_err : (causes more : Causes) (r : Refusal) → first_cause causes ≡ Some r → first_cause (causes ++ more) ≡ Some r
judged_err [] more r h = absurd (none-some r h)
judged_err (cause ∷ causes) more r h =
    elim cause.0 as (λ b. (if b then Some cause.1 else first_cause causes) ≡ Some r → (if b then Some cause.1 else first_cause (causes ++ more)) ≡ Some r) [
      | true ↦ λ h. h
      | false ↦ λ h. judged_err causes more r h
    ] h

pub judged_more : (causes more : Causes) → first_cause causes ≡ None → first_cause (causes ++ more) ≡ first_cause more
judged_more [] more h = refl
judged_more (cause ∷ causes) more h =
    elim cause.0 as (λ b. (if b then Some cause.1 else first_cause causes) ≡ None → (if b then Some cause.1 else first_cause (causes ++ more)) ≡ first_cause more) [
      | true ↦ λ h. absurd (none-some cause.1 (sym h))
      | false ↦ λ h. judged_more causes more h
    ] h

pub refused_err : (causes : Causes) (takes : Bool) (r : Refusal) → first_cause causes ≡ Some r → IsRefusedFor causes takes r
refused_err causes takes r h = inl h

pub refused_more : (causes more : Causes) (takes : Bool) (r : Refusal) → first_cause causes ≡ None → IsRefusedFor more takes r → IsRefusedFor (causes ++ more) takes r
refused_more causes more takes r h later =
    let P : Option Refusal → Type 0 = λ first. (first ≡ Some r) ⊎ ((first ≡ None) × (r ≡ NoMemory) × IsTrue takes) in
    subst P (sym (judged_more causes more h)) later
