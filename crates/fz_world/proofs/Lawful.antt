-- What follows of the definitions.
use Rattle.std.proofs.Common.{◌≡◌, ◌≢◌, ℕ, ◌<◌, ◌≤◌, ◌⊎◌, ◌||◌, inl, inr, Bool, true, false, nat_eq, Result, Ok, Err, IsTrue, IsFalse, refl, sym, ap, subst, ◌∙◌, ⊎_elim, arith}
use Rattle.std.proofs.lemmas.Bool.{cases_lt, eq-eqb, ne_eqb, true≢false}
use Rattle.std.specs.FinSet.{contains, insert}
use Rattle.fz_bits.specs.Flags.{Set}
use Rattle.fz_model.specs.declared.call.Call.{Call}
use Rattle.fz_model.specs.declared.call.Call.TheVariants.{Collect}
use Rattle.fz_model.specs.declared.call.Reply.{Reply}
use Rattle.fz_model.specs.declared.refusal.Refusal.{Refusal}
use Rattle.fz_model.specs.declared.refusal.Refusal.TheVariants.{NoSpace}
use Rattle.fz_model.specs.Events.{Event, Answer}
use Rattle.fz_model.specs.State.{State}
use Rattle.fz_model.specs.Steps.{StepsTo, NoStep, OneMore, any_call}
use Rattle.fz_model.proofs.Sets.{has_inserted}
use Rattle.fz_world.specs.Does.{Does, StandsFor}
use Rattle.fz_world.specs.Replies.{Replies}
use Rattle.fz_world.specs.Retried.{TriesTwice, Once, NotCollected, Twice}
use Rattle.fz_world.specs.Shown.{IsFirstFrom}
use Rattle.fz_world.specs.World.{WorldView, MarksMade, with_in_cycle}
use Rattle.fz_world.specs.Laws.{RefusesWithoutEffect, Runs, Rests, Calls, RunsAreSteps, MarksOnlyInCycle, FindsOne, FailsAfterCollection}

pub refuses : (old new : WorldView) → RefusesWithoutEffect old new
unfolding Does
refuses old new e r s stands does =
    let next = does.1 s stands in
    (next.2.core ∙ ap (λ (t : State). t.core) next.1.1 ∙ sym stands.core, subst (StandsFor new) next.1.1 next.2)

runs_on : (old new : WorldView) → Runs old new → (s : State) → StandsFor old s → (t : State) × StepsTo any_call s t × StandsFor new t × (new.forgotten ≡ old.forgotten)
unfolding Does
runs_on old new Rests s stands = (s, NoStep, stands, refl)
runs_on old new (Calls {mid = mid} e reply before does) s stands =
    let was = runs_on old mid before s stands in
    let next = does.1 was.0 was.2 in
    (next.0, OneMore e reply refl was.1 next.1, next.2, does.0 ∙ was.3)

pub runs : (old new : WorldView) → RunsAreSteps old new
runs old new run s stands = let to = runs_on old new run s stands in (to.0, to.1, to.2.core, to.3)

-- ---- marks

other_in_cycle : (cycle : Bool) (set : Set) (n q : ℕ) → q ≢ n → contains (with_in_cycle cycle set n) q ≡ contains set q
other_in_cycle true set n q other = has_inserted set n q ∙ ap (λ b. b || contains set q) (ne_eqb q n other)
other_in_cycle false set n q other = refl

pub marks : (old : WorldView) (address : ℕ) (new : WorldView) → MarksOnlyInCycle old address new
marks old address new made =
    let is : new.marked ≡ with_in_cycle old.cycle old.marked address = ap (λ (w : WorldView). w.marked) made in (
      λ open_cycle.
          ap (λ (s : Set). contains s address) (is ∙ ap (λ b. with_in_cycle b old.marked address) open_cycle) ∙ has_inserted old.marked address address
          ∙ ap (λ b. b || contains old.marked address) (eq-eqb address address refl),
      λ closed. is ∙ ap (λ b. with_in_cycle b old.marked address) closed,
      λ other differs. ap (λ (s : Set). contains s other) is ∙ other_in_cycle old.cycle old.marked address other differs,
    )

-- ---- readers

pub finds : (blocks : ℕ) (has : ℕ → Bool) (from : ℕ) → FindsOne blocks has from
finds blocks has from a b x y =
    ⊎_elim
    (λ (less : a < b). absurd (true≢false (sym x.here ∙ y.before a x.in_heap x.after less)))
    (λ (more : b ≤ a).
    ⊎_elim (λ (less : b < a). absurd (true≢false (sym y.here ∙ x.before b y.in_heap y.after less))) (λ (same : a ≤ b). omega (arith, more, same)) (cases_lt b a))
    (cases_lt a b)

-- ---- a second try

err_of : Result Reply Refusal → Refusal
err_of (Ok reply) = NoSpace
err_of (Err refusal) = refusal

pub retried : (call : Call) (old new : WorldView) → FailsAfterCollection call old new
unfolding err_of
retried call old new (Once other made) = absurd (other refl)
retried call old new (NotCollected refusal first second is) = inr (subst (λ (r : Refusal). Replies old Collect (Err r) new) (sym (ap err_of is)) second)
retried call old new (Twice mid worked passed first collected works again) = inl (mid, passed, collected, subst (λ (w : WorldView). Replies w call (Err NoSpace) new) works again)
