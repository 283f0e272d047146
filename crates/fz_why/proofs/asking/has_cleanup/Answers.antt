use Rattle.std.proofs.Common.{◌≡◌, ◌∙◌, ℕ, arith, List, ⊎_elim, Contains, ap, sym, subst}
use Rattle.std.proofs.lemmas.List.Elements.{Contains-push_cases}
use Rattle.std.specs.FinMap.{get}
use Rattle.fz_model.specs.State.{Map}
use Rattle.fz_model.proofs.KeyedEntries.{got, listed}
use Rattle.fz_finalizers.specs.declared.cleanups.Attached.{Attached}
use Rattle.fz_pass.proofs.Walking.{all_of, in_middle, one_on}
use Rattle.fz_why.proofs.asking.has_cleanup.Goals as goal

pub loop-each-preserved : goal.loop-each-preserved
loop-each-preserved c =
    let inv = c.loop-each.invariant in
    record {
      none = λ e within is.
          ⊎_elim (λ before. inv.none e before is) (λ same. let h : c.in-Some.each.1.object ≡ c.args.object = ap (λ (x : ℕ × Attached). x.1.object) same ∙ is in absurd (omega (arith, h)))
          (Contains-push_cases c.loop-each.yielded c.in-Some.each e within);
      rest = one_on c.loop-each.yielded c.loop-each.each-iterator _ c.next.new.self c.in-Some.each inv.rest c.in-Some.ensures.steps;
    }

pub returns-then-each-object-clause-some : goal.returns-then-each-object-clause-some
returns-then-each-object-clause-some c = λ on.
    let es = c.iter_cleanups-each-items.result in
    let are = c.iter_cleanups-each-items.ensures.all in
    let each = c.in-Some.each in
    let within : Contains es each = in_middle c.loop-each.yielded c.loop-each.each-iterator es c.next.new.self each (c.loop-each.invariant.rest ∙ c.into_iter-each-iterator.ensures.into_iter_gives) c.in-Some.ensures.steps in
    (each.0, each.1, ap (λ (m : Map Attached). get m each.0) (sym are.0) ∙ got es each.0 each.1 are.1 within, c.if-each-object.true)

pub returns-clause-none : goal.returns-clause-none
returns-clause-none c = λ off has.
    let es = c.iter_cleanups-each-items.result in
    let are = c.iter_cleanups-each-items.ensures.all in
    let e : ℕ × Attached = (has.0, has.1) in
    let all : c.loop-each.yielded ≡ es = all_of c.loop-each.yielded _ es (c.loop-each.invariant.rest ∙ c.into_iter-each-iterator.ensures.into_iter_gives) c.in-None.ensures.steps.0 in
    c.loop-each.invariant.none e (subst (λ (xs : List (ℕ × Attached)). Contains xs e) (sym all) (listed es has.0 has.1 (ap (λ (m : Map Attached). get m has.0) are.0 ∙ has.2))) has.3
