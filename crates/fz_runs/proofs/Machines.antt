-- Steps of the machine as steps of a joint run.
use Rattle.std.proofs.Common.{◌≡◌, ℕ, zero, suc, ◌+◌, ◌<◌, ◌≤◌, Bool, true, false, not, if◌then◌else◌, List, [], ◌∷◌, ◌++◌, length, map, set, Option, Some, None, Result, Ok, Err, MatchOption, refl, sym, ap, ◌∙◌, subst, arith, slice_get, get_or, is_some, is_none, IsFalse, nat_lt, take, drop}
use Rattle.std.proofs.lemmas.Bool.{lt-ltb, le-ltb}
use Rattle.std.proofs.lemmas.List.{map-set, length-set}
use Rattle.std.proofs.Math.Seq.{take-append_seam}
use Rattle.std.specs.List.{refill}
use Rattle.std.specs.Result.{IsErrAnd}
use Rattle.std.proofs.lemmas.Option.{same_Some}
use Rattle.fz_model.specs.declared.answers.Entry.{Entry}
use Rattle.fz_model.specs.declared.refusal.Refusal.{Refusal}
use Rattle.fz_model.specs.declared.refusal.Refusal.TheVariants.{NotHeld, SeatsMissing}
use Rattle.fz_model.specs.Causes.{first_cause}
use Rattle.fz_model.specs.declared.places.Slot.{Slot}
use Rattle.fz_model.specs.Events.{Event, Hold, Finish, Answer}
use Rattle.fz_model.specs.Joint.{Worker, Joint, idle, JointEvent, Call, Take, HoldOwn, FinishOwn, Forfeit, JointAnswer, is_finish, worker_at, taken_by, own_causes, Acts, JointStep}
use Rattle.fz_world.specs.World.{WorldView}
use Rattle.fz_world.specs.Does.{StandsFor, Does}
use Rattle.fz_script.specs.declared.step.Step.{Step}
use Rattle.fz_runs.specs.declared.script.machine.Machine.{Machine}
use Rattle.fz_runs.specs.declared.script.reply.StepReply.{StepReply}
use Rattle.fz_runs.specs.Script.{event_of}
use Rattle.fz_runs.specs.Replies.{answer_words}
use Rattle.fz_runs.specs.Report.{finishes, forfeits}
use Rattle.fz_runs.specs.Machines.{StandsForJoint, JointDoes, Tells, StepDoes, TakesStep, words_of, is_forfeit}
use Rattle.fz_runs.specs.Machines as machines

-- ---- own causes

refused_step : (j : Joint) (e : JointEvent) (r : Refusal) → first_cause (own_causes j e) ≡ Some r → JointStep j e (Err r) j
refused_step j e r h = subst (λ o. MatchOption o (Acts j e (Err r) j) (λ q. (◌≡◌ {A = Result (JointAnswer e) Refusal} (Err r) (Err q)) × (j ≡ j))) (sym h) (refl, refl)

acting_step : (j : Joint) (e : JointEvent) (reply : Result (JointAnswer e) Refusal) (new : Joint) → first_cause (own_causes j e) ≡ None → Acts j e reply new → JointStep j e reply new
acting_step j e reply new h acts = subst (λ o. MatchOption o (Acts j e reply new) (λ r. (reply ≡ Err r) × (new ≡ j))) (sym h) acts

neither : (a b : Bool) (r q : Refusal) → a ≡ false → b ≡ false → first_cause ((a, r) ∷ (b, q) ∷ []) ≡ None
neither false false r q h k = refl
neither false true r q h k = absurd cc
neither true b r q h k = absurd cc

the_first : (a b : Bool) (r q : Refusal) → a ≡ true → first_cause ((a, r) ∷ (b, q) ∷ []) ≡ Some r
the_first true b r q h = refl
the_first false b r q h = absurd cc

the_second : (a b : Bool) (r q : Refusal) → a ≡ false → b ≡ true → first_cause ((a, r) ∷ (b, q) ∷ []) ≡ Some q
the_second false true r q h k = refl
the_second false false r q h k = absurd cc
the_second true b r q h k = absurd cc

-- ---- hands

abbrev hand_of : Worker → Option Entry
hand_of w = w.hand

hand_in : (ws : List Worker) (w : ℕ) (h : Option Entry) → slice_get (map hand_of ws) w ≡ Some h → (w < length ws) × ((get_or ws w idle).hand ≡ h)
hand_in [] w h e = absurd cc
hand_in (x ∷ xs) zero h e = (omega arith, same_Some x.hand h e)
hand_in (x ∷ xs) (suc w) h e = let r = hand_in xs w h e in (let l = r.0 in omega (arith, l), r.1)

set_itself : (xs : List (Option Entry)) (i : ℕ) (x : Option Entry) → slice_get xs i ≡ Some x → set xs i x ≡ xs
set_itself [] i x e = absurd cc
set_itself (y ∷ ys) zero x e = ap (λ z. z ∷ ys) (sym (same_Some y x e))
set_itself (y ∷ ys) (suc i) x e = ap (λ zs. y ∷ zs) (set_itself ys i x e)

is_worker : (j : Joint) (w : ℕ) → w < length j.workers → not (nat_lt w (length j.workers)) ≡ false
is_worker j w l = ap not (lt-ltb w (length j.workers) l)

at_hand : (m : Machine) (j : Joint) (w : ℕ) (h : Option Entry) → StandsForJoint m j → slice_get m.hands.items w ≡ Some h → (w < length j.workers) × ((worker_at j w).hand ≡ h)
at_hand m j w h s e = hand_in j.workers w h (ap (λ l. slice_get l w) (sym s.hands) ∙ e)

-- no such worker
no_such : (m : Machine) (j : Joint) (w : ℕ) → StandsForJoint m j → length m.hands.items ≤ w → not (nat_lt w (length j.workers)) ≡ true
no_such m j w s l = ap not (le-ltb w (length j.workers) (let e = length_same in omega (arith, e, l)))
  where
    length_map : (ws : List Worker) → length (map hand_of ws) ≡ length ws
    length_map [] = refl
    length_map (x ∷ xs) = ap suc (length_map xs)

    length_same : length m.hands.items ≡ length j.workers
    length_same = ap length s.hands ∙ length_map j.workers

-- ---- steps of the world

pub called : (old new : Machine) (e : Event) (reply : Result (Answer e) Refusal) → IsFalse (is_finish e) → Does old.world e reply new.world → new.line ≡ old.line → new.hands ≡ old.hands → JointDoes old (Call e) reply new
unfolding Does
called old new e reply f does line hands j s =
    let d = does.1 j.state s.world in
    (record j { state = d.0 }, (f, d.1, refl), record { world = d.2; shown = does.0 ∙ s.shown; line = line ∙ s.line; hands = ap (λ (h : _). h.items) hands ∙ s.hands })

-- ---- steps of a worker

pub take_missing : (m : Machine) (w : ℕ) → length m.hands.items ≤ w → JointDoes m (Take w) (Err SeatsMissing) m
take_missing m w l j s = (j, refused_step j (Take w) SeatsMissing (the_first _ _ _ _ (no_such m j w s l)), s)

pub finish_missing : (m : Machine) (w : ℕ) → length m.hands.items ≤ w → JointDoes m (FinishOwn w) (Err SeatsMissing) m
finish_missing m w l j s = (j, refused_step j (FinishOwn w) SeatsMissing (the_first _ _ _ _ (no_such m j w s l)), s)

pub forfeit_missing : (m : Machine) (w : ℕ) → length m.hands.items ≤ w → JointDoes m (Forfeit w) (Err SeatsMissing) m
forfeit_missing m w l j s = (j, refused_step j (Forfeit w) SeatsMissing (the_first _ _ _ _ (no_such m j w s l)), s)

pub take_busy : (m : Machine) (w : ℕ) (h : Option Entry) → slice_get m.hands.items w ≡ Some h → is_some h ≡ true → JointDoes m (Take w) (Err SeatsMissing) m
take_busy m w h e busy j s =
    let at = at_hand m j w h s e in
    (j, refused_step j (Take w) SeatsMissing (the_second _ _ _ _ (is_worker j w at.0) (ap is_some at.1 ∙ busy)), s)

pub hold_missing : (m : Machine) (w : ℕ) (slot : Slot) → length m.hands.items ≤ w → JointDoes m (HoldOwn w slot) (Err SeatsMissing) m
hold_missing m w slot l j s = (j, refused_step j (HoldOwn w slot) SeatsMissing (the_first _ _ _ _ (no_such m j w s l)), s)

pub hold_idle : (m : Machine) (w : ℕ) (slot : Slot) → slice_get m.hands.items w ≡ Some None → JointDoes m (HoldOwn w slot) (Err NotHeld) m
hold_idle m w slot e j s =
    let at = at_hand m j w None s e in
    (j, refused_step j (HoldOwn w slot) NotHeld (the_second _ _ _ _ (is_worker j w at.0) (ap is_none at.1)), s)

pub finish_idle : (m : Machine) (w : ℕ) → slice_get m.hands.items w ≡ Some None → JointDoes m (FinishOwn w) (Err NotHeld) m
finish_idle m w e j s =
    let at = at_hand m j w None s e in
    (j, refused_step j (FinishOwn w) NotHeld (the_second _ _ _ _ (is_worker j w at.0) (ap is_none at.1)), s)

pub forfeit_idle : (m : Machine) (w : ℕ) → slice_get m.hands.items w ≡ Some None → JointDoes m (Forfeit w) (Err NotHeld) m
forfeit_idle m w e j s =
    let at = at_hand m j w None s e in
    (j, refused_step j (Forfeit w) NotHeld (the_second _ _ _ _ (is_worker j w at.0) (ap is_none at.1)), s)

-- what the line answers goes into the hand
hand_over : (old new : Machine) (j : Joint) (w : ℕ) (o : Option Entry) → StandsForJoint old j → slice_get old.hands.items w ≡ Some None
    → new.world ≡ old.world → new.line ≡ old.line + (if is_some o then 1 else 0) → new.hands.items ≡ set old.hands.items w o → StandsForJoint new (taken_by j w o)
hand_over old new j w None s idle world line hands = record {
  world = subst (λ c. StandsFor c j.state) (sym world) s.world;
  shown = ap (λ (c : WorldView). c.forgotten) world ∙ s.shown;
  line = let l = s.line in omega (arith, l, line);
  hands = hands ∙ set_itself old.hands.items w None idle ∙ s.hands;
}
hand_over old new j w (Some e) s idle world line hands = record {
  world = subst (λ c. StandsFor c j.state) (sym world) s.world;
  shown = ap (λ (c : WorldView). c.forgotten) world ∙ s.shown;
  line = let l = s.line in omega (arith, l, line);
  hands = hands ∙ ap (λ l. set l w (Some e)) s.hands ∙ sym (map-set hand_of j.workers w (record (worker_at j w) { hand = Some e; took = (worker_at j w).took ++ e.seq ∷ [] }));
}

pub took : (old new : Machine) (w : ℕ) (h o : Option Entry) → slice_get old.hands.items w ≡ Some h → is_some h ≡ false → o ≡ slice_get (drop old.world.forgotten old.world.queue) old.line
    → new.world ≡ old.world → new.line ≡ old.line + (if is_some o then 1 else 0) → new.hands.items ≡ set old.hands.items w o → JointDoes old (Take w) (Ok o) new
took old new w (Some e) o is idle given world line hands j s = absurd cc
took old new w None o is idle given world line hands j s =
    let at = at_hand old j w None s is in
    let next : slice_get j.state.queue j.taken ≡ o = ap (λ q. slice_get q j.taken) (ap (λ (c : _). c.queue) (sym s.world.core)) ∙ ap (slice_get old.world.queue) (sym s.line) ∙ ap (λ n. slice_get (drop n old.world.queue) old.line) (sym s.shown) ∙ sym given in
    (taken_by j w o, acting_step j (Take w) (Ok o) (taken_by j w o) (neither _ _ _ _ (is_worker j w at.0) (ap is_some at.1)) (ap Ok (sym next), ap (taken_by j w) (sym next)), hand_over old new j w o s is world line hands)

-- the world's call for the entry in the worker's hand
pub held : (old new : Machine) (w : ℕ) (slot : Slot) (e : Entry) (reply : Result (Unit {0}) Refusal) → slice_get old.hands.items w ≡ Some (Some e) → Does old.world (Hold slot e) reply new.world → new.line ≡ old.line → new.hands ≡ old.hands
    → JointDoes old (HoldOwn w slot) reply new
unfolding Does
held old new w slot e reply is does line hands j s =
    let at = at_hand old j w (Some e) s is in
    let d = does.1 j.state s.world in
    (record j { state = d.0 }, acting_step j (HoldOwn w slot) reply (record j { state = d.0 }) (neither _ _ _ _ (is_worker j w at.0) (ap is_none at.1)) (e, at.1, d.1, refl), record { world = d.2; shown = does.0 ∙ s.shown; line = line ∙ s.line; hands = ap (λ (h : _). h.items) hands ∙ s.hands })

pub finish_refused : (old new : Machine) (w : ℕ) (e : Entry) (r : Refusal) → slice_get old.hands.items w ≡ Some (Some e) → Does old.world (Finish e) (Err r) new.world → new.line ≡ old.line → new.hands ≡ old.hands → JointDoes old (FinishOwn w) (Err r) new
unfolding Does
finish_refused old new w e r is does line hands j s =
    let at = at_hand old j w (Some e) s is in
    let d = does.1 j.state s.world in
    (record j { state = d.0 }, acting_step j (FinishOwn w) (Err r) (record j { state = d.0 }) (neither _ _ _ _ (is_worker j w at.0) (ap is_none at.1)) (e, at.1, d.1, refl), record { world = d.2; shown = does.0 ∙ s.shown; line = line ∙ s.line; hands = ap (λ (h : _). h.items) hands ∙ s.hands })

-- a worker's hand is empty after it, whatever else the worker has
emptied : (old : Machine) (hands : List (Option Entry)) (j : Joint) (w : ℕ) (worker : Worker) → StandsForJoint old j → worker.hand ≡ None → hands ≡ set old.hands.items w None → hands ≡ map hand_of (set j.workers w worker)
emptied old hands j w worker s none is = is ∙ ap (λ l. set l w None) s.hands ∙ ap (set (map hand_of j.workers) w) (sym none) ∙ sym (map-set hand_of j.workers w worker)

pub finished : (old new : Machine) (w : ℕ) (e : Entry) (answer : Unit {0}) → slice_get old.hands.items w ≡ Some (Some e) → Does old.world (Finish e) (Ok answer) new.world → new.line ≡ old.line → new.hands.items ≡ set old.hands.items w None → JointDoes old (FinishOwn w) (Ok answer) new
unfolding Does
finished old new w e answer is does line hands j s =
    let at = at_hand old j w (Some e) s is in
    let d = does.1 j.state s.world in
    let worker : Worker = record (worker_at j w) { hand = None } in
    let t : Joint = record j { state = d.0; workers = set j.workers w worker } in
    (t, acting_step j (FinishOwn w) (Ok answer) t (neither _ _ _ _ (is_worker j w at.0) (ap is_none at.1)) (e, at.1, d.1, refl), record { world = d.2; shown = does.0 ∙ s.shown; line = line ∙ s.line; hands = emptied old new.hands.items j w worker s refl hands })

pub forfeited : (old new : Machine) (w : ℕ) (e : Entry) (answer : Unit {0}) → slice_get old.hands.items w ≡ Some (Some e) → new.world ≡ old.world → new.line ≡ old.line → new.hands.items ≡ set old.hands.items w None → JointDoes old (Forfeit w) (Ok answer) new
forfeited old new w e answer is world line hands j s =
    let at = at_hand old j w (Some e) s is in
    let worker : Worker = record (worker_at j w) { hand = None; forfeited = (worker_at j w).forfeited ++ e ∷ [] } in
    let t : Joint = record j { workers = set j.workers w worker } in
    (t, acting_step j (Forfeit w) (Ok answer) t (neither _ _ _ _ (is_worker j w at.0) (ap is_none at.1)) (e, at.1, refl), record { world = subst (λ c. StandsFor c j.state) (sym world) s.world; shown = ap (λ (c : WorldView). c.forgotten) world ∙ s.shown; line = line ∙ s.line; hands = emptied old new.hands.items j w worker s refl hands })

-- ---- how the code writes and refuses

-- one hand is written
pub one_written : (xs ys : List (Option Entry)) (w : ℕ) (o : Option Entry) → ys ≡ xs → refill (length xs) xs (set ys w o) ≡ set xs w o
one_written xs ys w o e =
    ap (λ n. take n (set ys w o ++ drop (length (set ys w o)) xs)) (ap length (sym e) ∙ sym (length-set ys w o)) ∙ take-append_seam (set ys w o) (drop (length (set ys w o)) xs) ∙ ap (λ l. set l w o) e

pub the_error : {T : Type 0} → (r : Result T Refusal) (e : Refusal) → IsErrAnd r (λ x. x ≡ e) → r ≡ Err e
the_error (Ok x) e h = absurd h
the_error (Err x) e h = ap Err h

-- ---- a step of the script

-- as a step that is known does
pub asks : {step known : Step} {e : JointEvent} → step ≡ known → event_of known ≡ Some e → event_of step ≡ Some e
asks is asked = ap event_of is ∙ asked

refused : (old new : Machine) (step : Step) (e : JointEvent) (r : Refusal) → event_of step ≡ Some e → JointDoes old e (Err r) new → StepDoes old step (Err r) new
refused old new step e r asked does = record { event = e; reply = Err r; asked = asked; does = does; tells = record { words = refl; refused = refl; finish = no_finish e; forfeit = no_forfeit e } }
  where
    no_finish : (e : JointEvent) → false ≡ finishes e (Err r)
    no_finish (Call e) = refl
    no_finish (Take w) = refl
    no_finish (HoldOwn w slot) = refl
    no_finish (FinishOwn w) = refl
    no_finish (Forfeit w) = refl

    no_forfeit : (e : JointEvent) → false ≡ forfeits e (Err r)
    no_forfeit (Call e) = refl
    no_forfeit (Take w) = refl
    no_forfeit (HoldOwn w slot) = refl
    no_forfeit (FinishOwn w) = refl
    no_forfeit (Forfeit w) = refl

pub accepted : (old new : Machine) (step : Step) (e : JointEvent) (answer : JointAnswer e) (reply : StepReply) → event_of step ≡ Some e → JointDoes old e (Ok answer) new
    → words_of reply ≡ answer_words e answer → machines.is_finish (Ok reply) ≡ finishes e (Ok answer) → is_forfeit (Ok reply) ≡ forfeits e (Ok answer) → TakesStep old step (Ok (Some reply)) new
accepted old new step e answer reply asked does words finish forfeit =
    record { event = e; reply = Ok answer; asked = asked; does = does; tells = record { words = words; refused = refl; finish = finish; forfeit = forfeit } }

-- the error that a call gives back is the step's
pub refuses : (old new : Machine) (step : Step) (e : JointEvent) (r : Refusal) (result : Result (Option StepReply) Refusal) → event_of step ≡ Some e → JointDoes old e (Err r) new → IsErrAnd result (λ x. x ≡ r) → TakesStep old step result new
refuses old new step e r result asked does error = subst (λ x. TakesStep old step x new) (sym (the_error result r error)) (refused old new step e r asked does)
