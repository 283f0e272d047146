-- What was seen was reachable in a state of this cycle.
use Rattle.std.proofs.Common.{◌≡◌, ℕ, true, false, List, [], ◌∷◌, Ok, Err, refl, sym, ap, ◌∙◌, subst, ⊎_elim, ◌⊎◌, inl, inr, IsTrue, IsFalse, Any}
use Rattle.std.proofs.lemmas.Bool.{cond-true, cond-false, cases_Bool, both_ways, not-true, not_from_false}
use Rattle.fz_model.specs.State.{Core, State, opening}
use Rattle.fz_model.specs.Reachability.{IsReachable, WasSeen}
use Rattle.fz_model.specs.Events.{Event, Answer}
use Rattle.fz_model.specs.Steps.{Accepts, StepsTo, NoStep, OneMore, any_call, IsReached}
use Rattle.fz_model.specs.Headline.{is_pass}
use Rattle.fz_model.specs.CycleLaws.{is_no_pass, SeenInThisCycle}
use Rattle.fz_model.proofs.SeenKept.{nothing_seen, seen_cases, now_seen, still_seen}
use Rattle.fz_model.proofs.Effects.{accepted_pass}
use Rattle.fz_model.proofs.Stepwise.{accepted_keeps}

-- a call that leaves a cycle open is no pass
no_pass : (s : State) (e : Event) (answer : Answer e) (new : Core) → IsTrue new.cycle → Accepts s e answer new → IsTrue (is_no_pass e)
no_pass s e answer new on a =
    ⊎_elim
    (λ pass. let p = accepted_pass s e answer new pass a in absurd (both_ways new.cycle (ap (λ (x : Core). x.cycle) p.passes.is) on))
    (λ other. not_from_false (is_pass e) other)
    (cases_Bool (is_pass e))

-- ---- in an open cycle, the newest moment is the state itself

pub newest : (first s : State) → IsFalse first.cycle → StepsTo any_call first s → IsTrue s.cycle → (rest : List Core) × (s.moments ≡ s.core ∷ rest)
newest first s off NoStep on = absurd (both_ways first.cycle off on)
newest first s off (OneMore {mid = mid} e (Err r) ok before step) on =
    subst (λ (t : State). (rest : List Core) × (t.moments ≡ t.core ∷ rest)) (sym step.1) (newest first mid off before (ap (λ (t : State). t.cycle) (sym step.1) ∙ on))
newest first s off (OneMore {mid = mid} e (Ok answer) ok before step) on = (mid.moments, step.2 ∙ cond-true s.cycle (s.core ∷ mid.moments) [] on)

-- ---- seen

-- a state of this cycle in which it was reachable
abbrev SeenThen : ℕ → State → Type 0
SeenThen a s = (moment : State) × IsReached moment × IsTrue moment.cycle × StepsTo is_no_pass moment s × IsReachable moment.core a

seen_then : (blocks frames a : ℕ) (s : State) → StepsTo any_call (opening blocks frames) s → WasSeen s a → SeenThen a s
seen_then blocks frames a s NoStep seen = absurd (nothing_seen seen)
seen_then blocks frames a s (OneMore {mid = mid} e (Err r) ok before step) seen =
    subst (SeenThen a) (sym step.1) (seen_then blocks frames a mid before (subst (λ (t : State). WasSeen t a) step.1 seen))
seen_then blocks frames a s (OneMore {mid = mid} e (Ok answer) ok before step) seen = by (cases_Bool s.cycle) (seen_then blocks frames a mid before)
  where
    by : (s.cycle ≡ true) ⊎ (s.cycle ≡ false) → (WasSeen mid a → SeenThen a mid) → SeenThen a s
    by (inr off) earlier = absurd (nothing_seen (subst (λ ms. Any (λ c. IsReachable c a) ms) (step.2 ∙ cond-false s.cycle (s.core ∷ mid.moments) [] off) seen))
    by (inl on) earlier =
        ⊎_elim
        (λ now. (s, (blocks, frames, OneMore e (Ok answer) ok before step), on, NoStep, now))
        (λ was. let t = earlier was in (t.0, t.1, t.2, OneMore e (Ok answer) (no_pass mid e answer s.core on step.1) t.3 step, t.4))
        (seen_cases s.core mid.moments a (subst (λ ms. Any (λ c. IsReachable c a) ms) (step.2 ∙ cond-true s.cycle (s.core ∷ mid.moments) [] on) seen))

seen_since : (a : ℕ) (moment s : State) → IsReached moment → IsTrue moment.cycle → IsReachable moment.core a → StepsTo is_no_pass moment s → IsTrue s.cycle × WasSeen s a
seen_since a moment s reached on r NoStep =
    let head = newest (opening reached.0 reached.1) moment refl reached.2 on in
    (on, subst (λ ms. Any (λ c. IsReachable c a) ms) (sym head.1) (now_seen moment.core head.0 a r))
seen_since a moment s reached on r (OneMore {mid = mid} e (Err refusal) ok before step) =
    subst (λ (t : State). IsTrue t.cycle × WasSeen t a) (sym step.1) (seen_since a moment mid reached on r before)
seen_since a moment s reached on r (OneMore {mid = mid} e (Ok answer) ok before step) =
    let earlier = seen_since a moment mid reached on r before in
    let still = (accepted_keeps mid e answer s.core (not-true (is_pass e) ok) step.1).cycle earlier.0 in
    (still, subst (λ ms. Any (λ c. IsReachable c a) ms) (sym (step.2 ∙ cond-true s.cycle (s.core ∷ mid.moments) [] still)) (still_seen s.core mid.moments a earlier.1))

pub seen_in_this_cycle : (s : State) → IsReached s → SeenInThisCycle s
seen_in_this_cycle s r a = (seen_then r.0 r.1 a s r.2, λ t. (seen_since a t.0 s t.1 t.2 t.4 t.3).1)
