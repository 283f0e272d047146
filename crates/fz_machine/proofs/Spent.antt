-- Questions about regions come to an end.
use Rattle.std.proofs.Common.{◌≡◌, ◌∙◌, ◌≤◌, ◌<◌, ◌+◌, ℕ, suc, List, Some, ap, sym, subst, arith}
use Rattle.fz_machine.specs.declared.phase.Moment.TheVariants.{First}
use Rattle.fz_machine.specs.declared.phase.Phase.TheVariants.{Keys}
use Rattle.fz_machine.specs.Going.{questions_in, questions_to_come}
use Rattle.fz_machine.specs.Heard.{Beside, HearsMarks, Keyed, Marks, Opened, Others, RegionQuestionsEnd}
use Rattle.fz_machine.specs.Machines.{Machine, questions_left}

none_spent : (all : ℕ) → 0 + all ≤ all
none_spent all = omega arith

one_spent : (n new old all : ℕ) → new < old → n + old ≤ all → suc n + new ≤ all
one_spent n new old all less few = omega (arith, less, few)

still_spent : (n new old all : ℕ) → new ≤ old → n + old ≤ all → n + new ≤ all
still_spent n new old all le few = omega (arith, le, few)

-- those that were answered and those that can still be are no more than at the begin
heard : (begun m : Machine) (n : ℕ) → HearsMarks begun m n → n + questions_left m ≤ questions_left begun
heard begun m n Opened = none_spent (questions_left m)
heard begun m n (Marks {m = old} {n = before} phase question at asks over hears) = one_spent before (questions_left m) (questions_left old) (questions_left begun) over (heard begun old before hears)
heard begun m n (Others {m = old} words goes hears) = still_spent n (questions_left m) (questions_left old) (questions_left begun) goes.fewer (heard begun old n hears)
heard begun m n (Beside {m = old} worked hears) = subst (λ (k : Machine). n + questions_left k ≤ questions_left begun) (sym worked.keeps) (heard begun old n hears)
heard begun m n (Keyed {m = old} key tells hears) = subst (λ (k : Machine). n + questions_left k ≤ questions_left begun) (sym tells.same) (heard begun old n hears)

none_more : (n : ℕ) → 0 + n ≡ n
none_more n = omega arith

within : (n left all most : ℕ) → n + left ≤ all → all ≡ most → n ≤ most
within n left all most few is = omega (arith, few, is)

pub region_questions_end : RegionQuestionsEnd
region_questions_end from old begun m n is hears =
    let first : questions_left begun ≡ questions_in old.tabled =
    ap (λ o. questions_to_come o begun.remaining begun.tabled) is.phase ∙ ap (λ k. questions_to_come (Some (Keys First)) k begun.tabled) is.remaining ∙ ap (λ (ts : List ℕ). questions_to_come (Some (Keys First)) 0 ts) is.same.2 ∙ none_more (questions_in old.tabled) in
    within n (questions_left m) (questions_left begun) (questions_in old.tabled) (heard begun m n hears) first
