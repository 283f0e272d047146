use Rattle.std.proofs.Common.{◌≡◌, ◌++◌, ◌∷◌, [], ◌∙◌, ℕ, Bool, cond, List, length, sym, ap, refl, subst, arith, nat_cmp}
use Rattle.std.specs.FinMap.{from_entries}
use Rattle.fz_model.specs.State.{Map}
use Rattle.fz_model.specs.declared.answers.Registration.{Registration}
use Rattle.fz_pass.specs.Listing.{AreUnmarked, AreApart, unmarked_in, ranked}
use Rattle.fz_pass.specs.Tiers.{skips, tiered}
use Rattle.fz_pass.proofs.Ranking.{unmarked_more, unmarked_all, fewer}
use Rattle.fz_pass.proofs.Walking.{one_on, all_of}
use Rattle.fz_pass.proofs.listing.list_unmarked.Goals as goal

pub loop-object-init : goal.loop-object-init
loop-object-init g c =
    let none = ap length c.requires.empty in
    record { listed = c.requires.empty; few = omega (arith, none); grown = omega arith; rest = refl }

pub list_if_unmarked-requires : goal.list_if_unmarked-requires
list_if_unmarked-requires g c =
    let steps = ap length c.in-Some.ensures.steps in
    let len = c.loop-object.ready.ok.0 in
    let given = ap length c.into_iter-object-iterator.ensures.into_iter_gives in
    record { room = omega (arith, steps, len, given, c.iter-object-items.ensures.count, c.requires.room, c.loop-object.invariant.few, c.loop-object.invariant.grown) }

pub loop-object-preserved : goal.loop-object-preserved
loop-object-preserved g c =
    let marked : ℕ → Bool = skips c.args.round.second (tiered c.args.round.tiers c.args.table.now.late) (g.H.Host.marked c.args.host.now) in
    let inv = c.loop-object.invariant in
    let e : ℕ × Registration = (c.in-Some.object, c.in-Some.registration) in
    let steps = ap length c.in-Some.ensures.steps in
    let more = fewer (marked e.0) c.loop-object.ready.items (ranked e) in
    let long = ap length c.list_if_unmarked.ensures.listed in
    record {
      listed = c.list_if_unmarked.ensures.listed ∙ ap (λ (xs : List (ℕ × ℕ)). cond (marked e.0) xs (xs ++ ranked e ∷ [])) inv.listed ∙ sym (unmarked_more marked c.loop-object.yielded e (marked e.0) refl);
      few = omega (arith, steps, more, long, inv.few);
      grown = omega (arith, inv.grown, c.list_if_unmarked.ensures.capacity);
      rest = one_on c.loop-object.yielded c.loop-object.object-iterator _ c.next.new.self e inv.rest c.in-Some.ensures.steps;
    }

pub returns-clause-listed : goal.returns-clause-listed
returns-clause-listed g c =
    let marked : ℕ → Bool = skips c.args.round.second (tiered c.args.round.tiers c.args.table.now.late) (g.H.Host.marked c.args.host.now) in
    let es = c.iter-object-items.result in
    let all : c.loop-object.yielded ≡ es = all_of c.loop-object.yielded _ es (c.loop-object.invariant.rest ∙ c.into_iter-object-iterator.ensures.into_iter_gives) c.in-None.ensures.steps.0 in
    subst (λ (m : Map Registration). AreUnmarked m marked AreApart c.loop-object.ready.items) c.iter-object-items.ensures.all
    (subst (λ (xs : List (ℕ × ℕ)). AreUnmarked (from_entries {R = nat_cmp} es) marked AreApart xs) (sym (c.loop-object.invariant.listed ∙ ap (unmarked_in marked) all)) (unmarked_all marked es c.iter-object-items.ensures.once))

pub returns-clause-capacity : goal.returns-clause-capacity
returns-clause-capacity g c = c.loop-object.invariant.grown

pub returns-clause-few : goal.returns-clause-few
returns-clause-few g c =
    let given = ap length c.into_iter-object-iterator.ensures.into_iter_gives in
    omega (arith, c.loop-object.ready.ok.0, c.loop-object.invariant.few, given, c.iter-object-items.ensures.count)
