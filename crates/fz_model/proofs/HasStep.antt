-- Each call has a step.
use Rattle.std.proofs.Common.{◌≡◌, ℕ, ◌+◌, ◌++◌, ◌-◌, Bool, true, false, not, List, [], ◌∷◌, length, Option, Some, None, is_none, Result, Ok, Err, refl, sym, ap, subst, inl, ⊎_elim, IsFalse, Any, slice_get, slice_set, true≢false, MatchOption}
use Rattle.std.proofs.lemmas.Bool.{not-false}
use Rattle.std.specs.FinMap.{len}
use Rattle.fz_model.specs.declared.kinds.ObjKind.{ObjKind}
use Rattle.fz_model.specs.declared.answers.Entry.{Entry}
use Rattle.fz_model.specs.declared.answers.Passed.{Passed}
use Rattle.fz_model.specs.declared.answers.Progress.{Progress}
use Rattle.fz_model.specs.declared.answers.Progress.TheVariants.{More, Done}
use Rattle.fz_model.specs.declared.refusal.Refusal.{Refusal}
use Rattle.fz_model.specs.declared.refusal.Refusal.TheVariants.{NoCycle, NotHeld}
use Rattle.fz_model.specs.State.{Core, State, opening}
use Rattle.fz_model.specs.Reachability.{Child, OneMore, IsReachable}
use Rattle.fz_model.specs.Allocation.{place_for}
use Rattle.fz_model.specs.Pass.{IsFinding, remaining_objects, links_within, without_picks, entries_of, Decision, Passes}
use Rattle.fz_model.specs.Causes.{first_cause}
use Rattle.fz_model.specs.declared.places.Slot.{Slot}
use Rattle.fz_model.specs.declared.call.Call.TheVariants as calls
use Rattle.fz_model.specs.Events.{Event, Make, Hold, Finish, Queue, Answer, causes}
use Rattle.fz_model.specs.Steps.{Accepts, Step, StepsTo, IsReached, moments_after}
use Rattle.fz_model.specs.Joint.{Joint, JointEvent, Call, Take, HoldOwn, FinishOwn, Forfeit, JointAnswer, worker_at, taken_by, no_worker, own_causes, Acts, JointStep, Move, MovesTo, IsRun, joint_opening}
use Rattle.fz_model.specs.CallLaws.{EachCallHasStep, EachJointEventHasStep, is_free_finish}
use Rattle.fz_model.proofs.SeenKept.{now_seen}
use Rattle.fz_model.proofs.Sound.{first_none, is_some_of}
use Rattle.fz_model.proofs.Effects.{none_stands}
use Rattle.fz_model.proofs.Standing.{reached_standing}
use Rattle.fz_model.proofs.CycleLaws.{newest}
use Rattle.fz_model.proofs.Runs.{acts_or_not}
use Rattle.fz_model.proofs.Traced.{reachable, reachable_is, decides}

-- ---- passes

-- the children of what is reachable are reachable
reachable_closed : (c : Core) (a b : ℕ) → reachable c a ≡ true → Child c.objects a b → reachable c b ≡ true
reachable_closed c a b on child =
    let r = (reachable_is c a).0 on in
    (reachable_is c b).1 (record { root = r.root; is_root = r.is_root; leads = OneMore r.leads child })

-- the core that a decision leaves, and the answer
passing : (c : Core) (found : ℕ → Bool) → Decision c.objects c.registrations c.short found → (passed : Passed) × (new : Core) × Passes c found passed new
passing c found d =
    let new : Core = record c {
      objects = remaining_objects c.objects c.short c.long found d.kept;
      registrations = without_picks c.registrations d.picks;
      short = links_within c.objects c.short found d.kept;
      long = links_within c.objects c.long d.kept d.kept;
      queue = c.queue ++ entries_of (c.passes + 1) (length c.queue) d.picks;
      held = c.held ++ entries_of (c.passes + 1) (length c.queue) d.picks;
      passes = c.passes + 1;
      cycle = false;
    } in
    (record { pass = c.passes + 1; picked = length d.picks; reclaimed = len c.objects - len new.objects }, new, record { decision = d; is = refl; reply = refl })

-- what is reachable now is a finding of an open cycle
finds : (s : State) → ((rest : List Core) × (s.moments ≡ s.core ∷ rest)) → IsFinding s (reachable s.core)
finds s head = record {
  reachable = λ a r. (reachable_is s.core a).1 r;
  closed = reachable_closed s.core;
  seen = λ a on. subst (λ ms. Any (λ c. IsReachable c a) ms) (sym head.1) (now_seen s.core head.0 a ((reachable_is s.core a).0 on));
}

-- ---- each call

abbrev CanAccept : State → Event → Type 0
CanAccept s e = (answer : Answer e) × (new : Core) × Accepts s e answer new

place_there : (s : State) (slot : Slot) (size : ℕ) (kind : ObjKind) → first_cause (causes s.core (Make (calls.Alloc slot size kind))) ≡ None → (a : ℕ) × (place_for s.objects s.blocks size kind ≡ Some a)
place_there s slot size kind none = is_some_of (place_for s.objects s.blocks size kind) (none_stands (causes s.core (Make (calls.Alloc slot size kind))) none).1.1.1.0

can_accept : (s : State) → IsReached s → (e : Event) → first_cause (causes s.core e) ≡ None → CanAccept s e
can_accept s r (Make (calls.Alloc slot size kind)) none = let at = place_there s slot size kind none in ((at.0, s.next_birth), _, (at.0, at.1, refl, refl))
can_accept s r (Make (calls.Load place to)) none = (_, _, (refl, refl))
can_accept s r (Make (calls.Register slot finalizer)) none = (_, _, (refl, refl))
can_accept s r (Make (calls.Unregister slot)) none = (_, _, (refl, refl))
can_accept s r (Make (calls.Link which place target)) none = (_, _, (refl, refl))
can_accept s r (Make (calls.Unlink which place)) none = (_, _, (refl, refl))
can_accept s r (Make (calls.Move which place to)) none = (_, _, (refl, refl))
can_accept s r (Make (calls.Mark budget)) none = (Done, s.core, (λ more. absurd (true≢false (sym (ap is_more more))), refl))
  where
    is_more : Progress → Bool
    is_more More = true
    is_more Done = false
can_accept s r (Make calls.Pause) none =
    let on = not-false s.cycle (first_none (not s.cycle, NoCycle) [] none).0 in
    let f = finds s (newest (opening r.0 r.1) s refl r.2 on) in
    let p = passing s.core (reachable s.core) (decides s.core (reachable s.core) (reached_standing s r) (reachable_closed s.core)) in
    (p.0, p.1, (reachable s.core, f, p.2))
can_accept s r (Make calls.Collect) none =
    let p = passing s.core (reachable s.core) (decides s.core (reachable s.core) (reached_standing s r) (reachable_closed s.core)) in
    (p.0, p.1, (reachable s.core, reachable_is s.core, p.2))
can_accept s r (Make calls.Outstanding) none = (_, _, (refl, refl))
can_accept s r Queue none = (_, _, (refl, refl))
can_accept s r e none = (tt, _, refl)

pub each_call_has_step : (s : State) → IsReached s → EachCallHasStep s
each_call_has_step s r = record {
  accepted = λ e none. let a = can_accept s r e none in (a.0, record { core = a.1; moments = moments_after s a.1 }, (none, a.2, refl));
  refused = λ e cause is. (inl is, refl);
}

-- ---- each event of a joint run

any_step : (s : State) → EachCallHasStep s → (e : Event) → (reply : Result (Answer e) Refusal) × (new : State) × Step s e reply new
any_step s h e = by (first_cause (causes s.core e)) refl
  where
    by : (o : Option Refusal) → first_cause (causes s.core e) ≡ o → (reply : Result (Answer e) Refusal) × (new : State) × Step s e reply new
    by None is = let a = h.accepted e is in (Ok a.0, a.1, a.2)
    by (Some r) is = (Err r, s, h.refused e r is)

-- a worker that is refused nothing has an entry in its hand
in_hand : (j : Joint) (w : ℕ) → first_cause (no_worker j w ∷ (is_none (worker_at j w).hand, NotHeld) ∷ []) ≡ None → (e : Entry) × ((worker_at j w).hand ≡ Some e)
in_hand j w none =
    let own = is_none (worker_at j w).hand in
    is_some_of (worker_at j w).hand (first_none (own, NotHeld) [] (first_none (no_worker j w) ((own, NotHeld) ∷ []) none).1).0

acts : (j : Joint) → EachCallHasStep j.state → (e : JointEvent) → IsFalse (is_free_finish e) → first_cause (own_causes j e) ≡ None → (reply : Result (JointAnswer e) Refusal) × (new : Joint) × Acts j e reply new
acts j h (Call e) not_finish none = let s = any_step j.state h e in (s.0, record j { state = s.1 }, (not_finish, s.2, refl))
acts j h (Take w) other none = (Ok (slice_get j.state.queue j.taken), taken_by j w (slice_get j.state.queue j.taken), (refl, refl))
acts j h (HoldOwn w slot) other none =
    let e = in_hand j w none in
    let s = any_step j.state h (Hold slot e.0) in
    (s.0, record j { state = s.1 }, (e.0, e.1, s.2, refl))
acts j h (FinishOwn w) other none = let e = in_hand j w none in finish e.0 e.1 (any_step j.state h (Finish e.0))
  where
    finish : (e : Entry) → (worker_at j w).hand ≡ Some e → (reply : Result (Unit {0}) Refusal) × (new : State) × Step j.state (Finish e) reply new → (reply : Result (Unit {0}) Refusal) × (new : Joint) × Acts j (FinishOwn w) reply new
    finish e hand (Ok answer, new, step) = (Ok answer, record j { state = new; workers = slice_set j.workers w (record (worker_at j w) { hand = None }) }, (e, hand, step, refl))
    finish e hand (Err r, new, step) = (Err r, record j { state = new }, (e, hand, step, refl))
acts j h (Forfeit w) other none =
    let e = in_hand j w none in
    (Ok tt, record j { workers = slice_set j.workers w (record (worker_at j w) { hand = None; forfeited = (worker_at j w).forfeited ++ e.0 ∷ [] }) }, (e.0, e.1, refl))

joint_step : (j : Joint) → EachCallHasStep j.state → EachJointEventHasStep j
joint_step j h e other = by (first_cause (own_causes j e)) refl
  where
    by : (o : Option Refusal) → first_cause (own_causes j e) ≡ o → (reply : Result (JointAnswer e) Refusal) × (new : Joint) × JointStep j e reply new
    by None is = let a = acts j h e other is in (a.0, a.1, subst (λ o. MatchOption o (Acts j e a.0 a.1) (λ r. (a.0 ≡ Err r) × (a.1 ≡ j))) (sym is) a.2)
    by (Some r) is = (Err r, j, subst (λ o. MatchOption o (Acts j e (Err r) j) (λ x. (◌≡◌ {A = Result (JointAnswer e) Refusal} (Err r) (Err x)) × (j ≡ j))) (sym is) (refl, refl))

-- ---- the state of a joint run is reached

one_more : (s : State) (e : Event) (reply : Result (Answer e) Refusal) (new : State) → IsReached s → Step s e reply new → IsReached new
one_more s e reply new r step = (r.0, r.1, StepsTo.OneMore e reply refl r.2 step)

acts_reached : (j : Joint) (e : JointEvent) (reply : Result (JointAnswer e) Refusal) (new : Joint) → IsReached j.state → Acts j e reply new → IsReached new.state
acts_reached j (Call e) reply new r a = one_more j.state e reply new.state r a.1
acts_reached j (Take w) reply new r a = subst (λ (x : Joint). IsReached x.state) (sym a.1) (takes (slice_get j.state.queue j.taken))
  where
    takes : (o : Option Entry) → IsReached (taken_by j w o).state
    takes None = r
    takes (Some e) = r
acts_reached j (HoldOwn w slot) reply new r a = one_more j.state (Hold slot a.0) reply new.state r a.2
acts_reached j (FinishOwn w) (Ok answer) new r a = one_more j.state (Finish a.0) (Ok answer) new.state r a.2
acts_reached j (FinishOwn w) (Err refusal) new r a = one_more j.state (Finish a.0) (Err refusal) new.state r a.2
acts_reached j (Forfeit w) (Ok answer) new r a = subst (λ (x : Joint). IsReached x.state) (sym a.2) r
acts_reached j (Forfeit w) (Err refusal) new r a = absurd a

moves_reached : (j : Joint) (ms : List Move) (new : Joint) → IsReached j.state → MovesTo j ms new → IsReached new.state
moves_reached j [] new r run = subst (λ (x : Joint). IsReached x.state) (sym run) r
moves_reached j (m ∷ ms) new r run =
    moves_reached run.0 ms new
    (⊎_elim (λ a. acts_reached j m.event m.reply run.0 r a.1)
    (λ x. subst (λ (x : Joint). IsReached x.state) (sym x.1.1) r)
    (acts_or_not (first_cause (own_causes j m.event)) (Acts j m.event m.reply run.0) (λ x. (m.reply ≡ Err x) × (run.0 ≡ j)) run.1))
    run.2

pub each_event_has_step : (moves : List Move) (end : Joint) → IsRun moves end → EachJointEventHasStep end
each_event_has_step moves end r =
    joint_step end (each_call_has_step end.state (moves_reached (joint_opening r.blocks r.frames r.count) moves end (r.blocks, r.frames, StepsTo.NoStep) r.run))
