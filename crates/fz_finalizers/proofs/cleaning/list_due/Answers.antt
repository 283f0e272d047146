use Rattle.std.proofs.Common.{◌≡◌, ◌++◌, ◌∷◌, [], ◌∙◌, ℕ, Bool, cond, List, length, sym, ap, refl, subst, arith, nat_cmp}
use Rattle.std.specs.FinMap.{from_entries}
use Rattle.fz_model.specs.State.{Map}
use Rattle.fz_pass.specs.Listing.{AreApart}
use Rattle.fz_pass.proofs.Walking.{one_on, all_of}
use Rattle.fz_finalizers.specs.declared.cleanups.Attached.{Attached}
use Rattle.fz_finalizers.specs.Cleanups.{AreListed, is_due, ranked}
use Rattle.fz_finalizers.proofs.Cleaned.{due_in, due_more, due_all, fewer}
use Rattle.fz_finalizers.proofs.cleaning.list_due.Goals as goal

pub loop-number-init : goal.loop-number-init
loop-number-init g c =
    let none = ap length c.clear.ensures.listed in
    record { listed = c.clear.ensures.listed; few = omega (arith, none); grown = omega arith; rest = refl }

pub list_if_due-requires : goal.list_if_due-requires
list_if_due-requires g c =
    let steps = ap length c.in-Some.ensures.steps in
    let given = ap length c.into_iter-number-iterator.ensures.into_iter_gives in
    record { room = omega (arith, steps, given, c.iter-number-items.ensures.count, c.requires.room, c.clear.ensures.room, c.loop-number.invariant.few, c.loop-number.invariant.grown) }

pub loop-number-preserved : goal.loop-number-preserved
loop-number-preserved g c =
    let test : Attached → Bool = is_due c.args.when (g.H.Host.marked c.args.host.now) in
    let inv = c.loop-number.invariant in
    let e : ℕ × Attached = (c.in-Some.number, c.in-Some.attached) in
    let steps = ap length c.in-Some.ensures.steps in
    let more = fewer (test e.1) c.loop-number.list.listed (ranked e) in
    let long = ap length c.list_if_due.ensures.listed in
    record {
      listed = c.list_if_due.ensures.listed ∙ ap (λ (xs : List (ℕ × ℕ)). cond (test e.1) (xs ++ ranked e ∷ []) xs) inv.listed ∙ sym (due_more test c.loop-number.yielded e);
      few = omega (arith, steps, more, long, inv.few);
      grown = omega (arith, inv.grown, c.list_if_due.ensures.room);
      rest = one_on c.loop-number.yielded c.loop-number.number-iterator _ c.next.new.self e inv.rest c.in-Some.ensures.steps;
    }

pub returns-clause-listed : goal.returns-clause-listed
returns-clause-listed g c =
    let test : Attached → Bool = is_due c.args.when (g.H.Host.marked c.args.host.now) in
    let es = c.iter-number-items.result in
    let all : c.loop-number.yielded ≡ es = all_of c.loop-number.yielded _ es (c.loop-number.invariant.rest ∙ c.into_iter-number-iterator.ensures.into_iter_gives) c.in-None.ensures.steps.0 in
    subst (λ (m : Map Attached). AreListed test m AreApart c.loop-number.list.listed) c.iter-number-items.ensures.all
    (subst (λ (xs : List (ℕ × ℕ)). AreListed test (from_entries {R = nat_cmp} es) AreApart xs) (sym (c.loop-number.invariant.listed ∙ ap (due_in test) all)) (due_all test es c.iter-number-items.ensures.once))

pub returns-clause-few : goal.returns-clause-few
returns-clause-few g c =
    let given = ap length c.into_iter-number-iterator.ensures.into_iter_gives in
    omega (arith, c.loop-number.invariant.few, given, c.iter-number-items.ensures.count)

pub returns-clause-room : goal.returns-clause-room
returns-clause-room g c = omega (arith, c.loop-number.invariant.grown, c.clear.ensures.room)
