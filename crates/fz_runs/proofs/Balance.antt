-- In a joint run, what the line gave was finished, was given up, or is in a hand.
use Rattle.std.proofs.Common.{◌≡◌, ℕ, ◌+◌, ◌<◌, Bool, true, false, not, cond, List, [], ◌∷◌, ◌++◌, length, set, Option, Some, None, Result, Ok, Err, refl, sym, ap, ◌∙◌, subst, ⊎_elim, arith, slice_get, is_some, count_by, nat_lt, mul-zero}
use Rattle.std.proofs.lemmas.Bool.{ltb-true}
use Rattle.std.proofs.lemmas.List.Sums.{sum_by-set, sum_by-cons}
use Rattle.std.proofs.lemmas.List.Folds.{sum_by-replicate}
use Rattle.fz_model.specs.declared.answers.Entry.{Entry}
use Rattle.fz_model.specs.declared.refusal.Refusal.{Refusal}
use Rattle.fz_model.specs.Causes.{first_cause}
use Rattle.fz_model.specs.Joint.{Worker, Joint, idle, JointEvent, Call, Take, HoldOwn, FinishOwn, Forfeit, JointAnswer, worker_at, taken_by, own_causes, Acts, JointStep, Move, MovesTo, joint_opening}
use Rattle.fz_model.proofs.Sound.{first_none}
use Rattle.fz_model.proofs.Runs.{acts_or_not, run_sound}
use Rattle.fz_runs.specs.Report.{Course, HasRun, summary_of, finishes, forfeits}

abbrev has_entry : Worker → Bool
has_entry w = is_some w.hand

abbrev in_hand : Joint → ℕ
in_hand j = count_by has_entry j.workers

abbrev ended : (e : JointEvent) → Result (JointAnswer e) Refusal → ℕ
ended e reply = cond (finishes e reply) 1 0 + cond (forfeits e reply) 1 0

one_more : (j : Joint) (w : ℕ) (worker : Worker) → w < length j.workers → has_entry (worker_at j w) ≡ false → has_entry worker ≡ true → count_by has_entry (set j.workers w worker) ≡ in_hand j + 1
one_more j w worker lt a b =
    let s = sum_by-set (λ (v : Worker). cond (has_entry v) 1 0) j.workers w worker idle lt in
    let x : ◌≡◌ {A = ℕ} (cond (has_entry (worker_at j w)) 1 0) 0 = ap {B = ℕ} (λ t. cond t 1 0) a in
    let y : ◌≡◌ {A = ℕ} (cond (has_entry worker) 1 0) 1 = ap {B = ℕ} (λ t. cond t 1 0) b in
    omega (arith, s, x, y)

one_less : (j : Joint) (w : ℕ) (worker : Worker) → w < length j.workers → has_entry (worker_at j w) ≡ true → has_entry worker ≡ false → count_by has_entry (set j.workers w worker) + 1 ≡ in_hand j
one_less j w worker lt a b =
    let s = sum_by-set (λ (v : Worker). cond (has_entry v) 1 0) j.workers w worker idle lt in
    let x : ◌≡◌ {A = ℕ} (cond (has_entry (worker_at j w)) 1 0) 1 = ap {B = ℕ} (λ t. cond t 1 0) a in
    let y : ◌≡◌ {A = ℕ} (cond (has_entry worker) 1 0) 0 = ap {B = ℕ} (λ t. cond t 1 0) b in
    omega (arith, s, x, y)

not_false : (b : Bool) → not b ≡ false → b ≡ true
not_false true h = refl
not_false false h = absurd cc

-- the worker's own causes don't stand
own_none : (j : Joint) (w : ℕ) (b : Bool) (r q : Refusal) → first_cause ((not (nat_lt w (length j.workers)), r) ∷ (b, q) ∷ []) ≡ None → (w < length j.workers) × (b ≡ false)
own_none j w b r q h =
    let f = first_none (not (nat_lt w (length j.workers)), r) ((b, q) ∷ []) h in
    let g = first_none (b, q) [] f.1 in
    (ltb-true w (length j.workers) (not_false _ f.0), g.0)

some_hand : (o : Option Entry) (e : Entry) → o ≡ Some e → is_some o ≡ true
some_hand o e h = ap is_some h

taking : (j : Joint) (w : ℕ) (o : Option Entry) → w < length j.workers → has_entry (worker_at j w) ≡ false → in_hand (taken_by j w o) + j.taken ≡ (taken_by j w o).taken + in_hand j
taking j w None lt idle = omega arith
taking j w (Some e) lt idle = let m = one_more j w (record (worker_at j w) { hand = Some e; took = (worker_at j w).took ++ e.seq ∷ [] }) lt idle refl in omega (arith, m)

abbrev IsBalanced : Joint → ℕ → Joint → Type 0
IsBalanced j n new = in_hand new + n + j.taken ≡ new.taken + in_hand j

same_balance : (j new : Joint) → new.workers ≡ j.workers → new.taken ≡ j.taken → IsBalanced j 0 new
same_balance j new e f = let h : in_hand new ≡ in_hand j = ap (λ l. count_by has_entry l) e in omega (arith, h, f)

acted : (j : Joint) (e : JointEvent) (reply : Result (JointAnswer e) Refusal) (new : Joint) → first_cause (own_causes j e) ≡ None → Acts j e reply new → IsBalanced j (ended e reply) new
acted j (Call e) reply new none a = same_balance j new (ap (λ (x : Joint). x.workers) a.2) (ap (λ (x : Joint). x.taken) a.2)
acted j (Take w) reply new none a =
    let own = own_none j w _ _ _ none in
    let t = taking j w (slice_get j.state.queue j.taken) own.0 own.1 in
    subst (IsBalanced j 0) (sym a.1) (omega (arith, t))
acted j (HoldOwn w slot) reply new none a = same_balance j new (ap (λ (x : Joint). x.workers) a.3) (ap (λ (x : Joint). x.taken) a.3)
acted j (FinishOwn w) (Ok answer) new none a =
    let own = own_none j w _ _ _ none in
    let m = one_less j w (record (worker_at j w) { hand = None }) own.0 (some_hand _ a.0 a.1) refl in
    let t : Joint = record j { state = new.state; workers = set j.workers w (record (worker_at j w) { hand = None }) } in
    subst (IsBalanced j 1) (sym a.3) (let h : in_hand t + 1 ≡ in_hand j = m in omega (arith, h))
acted j (FinishOwn w) (Err r) new none a = same_balance j new (ap (λ (x : Joint). x.workers) a.3) (ap (λ (x : Joint). x.taken) a.3)
acted j (Forfeit w) (Ok answer) new none a =
    let own = own_none j w _ _ _ none in
    let worker : Worker = record (worker_at j w) { hand = None; forfeited = (worker_at j w).forfeited ++ a.0 ∷ [] } in
    let m = one_less j w worker own.0 (some_hand _ a.0 a.1) refl in
    let t : Joint = record j { workers = set j.workers w worker } in
    subst (IsBalanced j 1) (sym a.2) (let h : in_hand t + 1 ≡ in_hand j = m in omega (arith, h))
acted j (Forfeit w) (Err r) new none a = absurd a

refused_ended : (e : JointEvent) (r : Refusal) → ended e (Err r) ≡ 0
refused_ended (Call e) r = refl
refused_ended (Take w) r = refl
refused_ended (HoldOwn w slot) r = refl
refused_ended (FinishOwn w) r = refl
refused_ended (Forfeit w) r = refl

stepped : (j : Joint) (e : JointEvent) (reply : Result (JointAnswer e) Refusal) (new : Joint) → JointStep j e reply new → IsBalanced j (ended e reply) new
stepped j e reply new step =
    ⊎_elim (λ a. acted j e reply new a.0 a.1)
    (λ r. subst (λ n. IsBalanced j n new) (sym (refused_ended e r.0) ∙ ap (ended e) (sym r.1.0)) (same_balance j new (ap (λ (x : Joint). x.workers) r.1.1) (ap (λ (x : Joint). x.taken) r.1.1)))
    (acts_or_not (first_cause (own_causes j e)) (Acts j e reply new) (λ r. (reply ≡ Err r) × (new ≡ j)) step)

abbrev finished_in : List Move → ℕ
finished_in ms = count_by (λ (m : Move). finishes m.event m.reply) ms

abbrev forfeited_in : List Move → ℕ
forfeited_in ms = count_by (λ (m : Move). forfeits m.event m.reply) ms

moved : (j : Joint) (ms : List Move) (new : Joint) → MovesTo j ms new → IsBalanced j (finished_in ms + forfeited_in ms) new
moved j [] new run = same_balance j new (ap (λ (x : Joint). x.workers) run) (ap (λ (x : Joint). x.taken) run)
moved j (m ∷ ms) new run =
    let first = stepped j m.event m.reply run.0 run.1 in
    let rest = moved run.0 ms new run.2 in
    let a = sum_by-cons (λ (n : Move). cond (finishes n.event n.reply) 1 0) m ms in
    let b = sum_by-cons (λ (n : Move). cond (forfeits n.event n.reply) 1 0) m ms in
    omega (arith, first, rest, a, b)

none_in_hand : (n : ℕ) → in_hand (joint_opening 0 0 n) ≡ 0
none_in_hand n = sum_by-replicate (λ (v : Worker). cond (has_entry v) 1 0) n idle ∙ mul-zero n

pub balanced : (lines : List (List ℕ)) (text : List ℕ) (course : Course) → HasRun lines text course
    → (summary_of course).enqueued ≡ (summary_of course).finished + (summary_of course).forfeited + (summary_of course).in_hand + (summary_of course).left
balanced lines text course r =
    let m = moved (joint_opening r.blocks r.frames r.workers) course.moves course.end r.run in
    let z = none_in_hand r.workers in
    let s = run_sound course.moves course.end (record { blocks = r.blocks; frames = r.frames; count = r.workers; run = r.run }) in
    let w = s.within in
    omega (arith, m, z, w)
