use Rattle.std.proofs.Common.{true≢false, ◌≡◌, ◌∙◌, ℕ, List, Contains, IsTrue, refl, sym, subst}
use Rattle.std.specs.FinMap.{contains_key}
use Rattle.fz_pass.proofs.Walking.{one_on, all_of}
use Rattle.fz_why.specs.Snapshot.{objects_of}
use Rattle.fz_why.proofs.Whole.{has_none, has_more, is_next, by_entries, of_entry}
use Rattle.fz_why.proofs.snapshot.Snapshot.has_keys.Goals as goal

pub loop-each-init : goal.loop-each-init
loop-each-init c = record { has = has_none (λ e. contains_key (objects_of c.args.self.now.cells) e.1); rest = refl }

pub loop-each-preserved : goal.loop-each-preserved
loop-each-preserved c =
    let inv = c.loop-each.invariant in
    record {
      has = has_more (λ (e : ℕ × ℕ). contains_key (objects_of c.args.self.now.cells) e.1) c.loop-each.yielded c.in-Some.each inv.has (sym c.contains.ensures ∙ c.if-not-contains.false);
      rest = one_on c.loop-each.yielded c.loop-each.each-iterator _ c.next.new.self c.in-Some.each inv.rest c.in-Some.ensures.steps;
    }

pub returns-then-not-contains : goal.returns-then-not-contains
returns-then-not-contains c =
    let es = c.iter_ephemerons-each-items.result in
    let inv = c.loop-each.invariant in
    let on = one_on c.loop-each.yielded c.loop-each.each-iterator _ c.next.new.self c.in-Some.each inv.rest c.in-Some.ensures.steps in
    let within : Contains es c.in-Some.each = is_next c.loop-each.yielded c.in-Some.each c.next.new.self es (on ∙ c.into_iter-each-iterator.ensures.into_iter_gives) in
    let P : ℕ → ℕ → Type 0 = λ word (target : ℕ). IsTrue (contains_key (objects_of c.args.self.now.cells) target) in (
      λ h. absurd (true≢false (sym h)),
      λ are. absurd (true≢false (sym (of_entry P c.args.finalizers.now.state.ephemerons.short es c.iter_ephemerons-each-items.ensures.all c.iter_ephemerons-each-items.ensures.once are c.in-Some.each within) ∙ sym c.contains.ensures ∙ c.if-not-contains.true)),
    )

pub returns : goal.returns
returns c =
    let es = c.iter_ephemerons-each-items.result in
    let all : c.loop-each.yielded ≡ es = all_of c.loop-each.yielded _ es (c.loop-each.invariant.rest ∙ c.into_iter-each-iterator.ensures.into_iter_gives) c.in-None.ensures.steps.0 in
    let P : ℕ → ℕ → Type 0 = λ word (target : ℕ). IsTrue (contains_key (objects_of c.args.self.now.cells) target) in
    (λ h. by_entries P c.args.finalizers.now.state.ephemerons.short es c.iter_ephemerons-each-items.ensures.all (λ e within. c.loop-each.invariant.has e (subst (λ (xs : List (ℕ × ℕ)). Contains xs e) (sym all) within)), λ are. refl)
