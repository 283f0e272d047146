-- Holds of the lock, and how many of them were refused.
use Rattle.std.proofs.Common.{◌≡◌, ℕ, ◌+◌, ◌==◌, Result, Ok, Err, arith, List, [], ◌∷◌, ◌++◌, Bool, true, false, ◌∙◌, ap, sym, refl, subst, append-nil, append_assoc, drop, get_or, length, ◌<◌, count_by, is_err, cond, if◌then◌else◌}
use Rattle.std.proofs.lemmas.List.{map-append, replicate-append-replicate, drop_more}
use Rattle.std.proofs.lemmas.List.Sums.{sum_by-append, sum_by-cons}
use mir.Val.{bool_byte}
use Rattle.fz_model.specs.declared.refusal.Refusal.{Refusal}
use Rattle.fz_model.specs.declared.call.Call.TheVariants as calls
use Rattle.fz_model.specs.Events.{Event, Make, CallAnswer}
use Rattle.fz_world.specs.World.{WorldView}
use Rattle.fz_service.specs.States.{Origin, LockedState, IsInOrder}
use Rattle.fz_model.specs.declared.call.Call.{Call}
use Rattle.fz_model.specs.declared.call.Reply.{Reply}
use Rattle.fz_model.specs.Calls.{result_of}
use Rattle.fz_world.specs.Replies.{Replies}
use Rattle.fz_script.specs.declared.job.Job.{Job}
use Rattle.fz_script.specs.declared.job.Job.TheVariants as jobs
use Rattle.fz_runs.specs.Holds.{Hold, event_in, is_refused, Held, HasRefused, IsTurn, AreTurns, NoTurn, OneTurn, Carries, Works, NoWork, OneJob, begins_section, own_from, own_jobs, Settles, settling}

same_refused : (call : Call) (answer : Result (CallAnswer call) Refusal) → is_err (result_of call answer) ≡ is_err answer
same_refused call (Ok answer) = refl
same_refused call (Err refusal) = refl

pub held : (origin : Origin) (old : LockedState) (call : Call) (result : Result Reply Refusal) (refused : Bool) (new : WorldView) → IsInOrder origin old → Replies old.world call result new → refused ≡ is_err result → Held origin (Make call) refused
held origin old call result refused new ordered replies is =
    (record { old = old; in_order = ordered; event = Make call; reply = replies.answer; new = new; does = replies.does }, refl, sym (is ∙ ap is_err replies.told ∙ same_refused call replies.answer))

-- ---- sums of refused holds

bit_is : (b : Bool) → (if b then 1 else 0) ≡ bool_byte b
bit_is true = refl
bit_is false = refl

counts_add : {origin : Origin} (xs ys : List (Hold origin)) (x y : ℕ) → x ≡ count_by is_refused xs → y ≡ count_by is_refused ys → x + y ≡ count_by is_refused (xs ++ ys)
counts_add xs ys x y e f = ap (λ n. n + y) e ∙ ap (λ n. count_by is_refused xs + n) f ∙ sym (sum_by-append (λ h. cond (is_refused h) 1 0) xs ys)

-- one hold more
counted : {origin : Origin} (hold : Hold origin) (holds : List (Hold origin)) (b : Bool) → is_refused hold ≡ b → count_by is_refused (hold ∷ holds) ≡ bool_byte b + count_by is_refused holds
counted hold holds b is = sum_by-cons (λ h. cond (is_refused h) 1 0) hold holds ∙ ap (λ r. cond r 1 0 + count_by is_refused holds) is ∙ ap (λ n. n + count_by is_refused holds) (bit_is b)

pub turn_refused : (origin : Origin) (new register drop : Event) → Held origin new true → HasRefused origin (IsTurn new register drop) 1
turn_refused origin new register drop h =
    let one : count_by is_refused (h.0 ∷ []) ≡ 1 = counted h.0 [] true h.2 in
    (h.0 ∷ [], (h.0, [], refl, h.1, ap (λ b. if b then [] else register ∷ drop ∷ []) (sym h.2)), sym one)

pub turn_taken : (origin : Origin) (new register drop : Event) (r d : Bool) → Held origin new false → Held origin register r → Held origin drop d → HasRefused origin (IsTurn new register drop) (bool_byte r + bool_byte d)
turn_taken origin new register drop r d h hr hd =
    let rest = hr.0 ∷ hd.0 ∷ [] in
    let first : count_by is_refused (h.0 ∷ rest) ≡ 0 + count_by is_refused rest = counted h.0 rest false h.2 in
    let second : count_by is_refused rest ≡ bool_byte r + count_by is_refused (hd.0 ∷ []) = counted hr.0 (hd.0 ∷ []) r hr.2 in
    let third : count_by is_refused (hd.0 ∷ []) ≡ bool_byte d + 0 = counted hd.0 [] d hd.2 in (
      h.0 ∷ rest,
      (h.0, rest, refl, h.1, ap (λ e. e ∷ hd.0.event ∷ []) hr.1 ∙ ap (λ e. register ∷ e ∷ []) hd.1 ∙ ap (λ b. if b then [] else register ∷ drop ∷ []) (sym h.2)),
      omega (arith, first, second, third),
    )

pub no_turn : (origin : Origin) (new register drop : Event) → HasRefused origin (AreTurns new register drop 0) 0
no_turn origin new register drop = ([], NoTurn, refl)

pub turns_more : (origin : Origin) (new register drop : Event) (n x y : ℕ) → HasRefused origin (AreTurns new register drop n) x → HasRefused origin (IsTurn new register drop) y → HasRefused origin (AreTurns new register drop (n + 1)) (x + y)
turns_more origin new register drop n x y h t = (h.0 ++ t.0, OneTurn n h.0 t.0 h.1 t.1, counts_add h.0 t.0 x y h.2 t.2)

-- one call in a hold of its own is a job
pub one_call : (origin : Origin) (call : Call) (b : Bool) → Held origin (Make call) b → HasRefused origin (Carries (jobs.Call call)) (bool_byte b)
one_call origin call b h =
    let one : count_by is_refused (h.0 ∷ []) ≡ bool_byte b + 0 = counted h.0 [] b h.2 in (h.0 ∷ [], ap (λ e. e ∷ []) h.1, omega (arith, one))

pub no_work : (origin : Origin) → HasRefused origin (Works []) 0
no_work origin = ([], NoWork, refl)

pub work_more : (origin : Origin) (jobs : List Job) (job : Job) (x y : ℕ) → HasRefused origin (Works jobs) x → HasRefused origin (Carries job) y → HasRefused origin (Works (jobs ++ job ∷ [])) (x + y)
work_more origin jobs job x y h t = (h.0 ++ t.0, OneJob jobs h.0 job t.0 h.1 t.1, counts_add h.0 t.0 x y h.2 t.2)

-- ---- the jobs of a section

-- what was done, and what is to be done where so many sections have begun
pub record Doing (origin : Origin) (number : ℕ) (jobs : List Job) (begun : ℕ) (left : List Job) (refused : ℕ) : Type 0 where
  pub done : List Job
  pub own : own_from 0 number jobs ≡ done ++ own_from begun number left
  pub works : HasRefused origin (Works done) refused

pub doing_first : (origin : Origin) (number : ℕ) (jobs : List Job) → Doing origin number jobs 0 jobs 0
doing_first origin number jobs = record { done = []; own = refl; works = no_work origin }

pub doing_begins : (origin : Origin) (number : ℕ) (jobs : List Job) (begun : ℕ) (job : Job) (left : List Job) (refused : ℕ) → begins_section job ≡ true → Doing origin number jobs begun (job ∷ left) refused → Doing origin number jobs (begun + 1) left refused
doing_begins origin number jobs begun job left refused b d = record { done = d.done; own = d.own ∙ ap (λ l. d.done ++ l) (rw b refl); works = d.works }

pub doing_skips : (origin : Origin) (number : ℕ) (jobs : List Job) (begun : ℕ) (job : Job) (left : List Job) (refused : ℕ) → begins_section job ≡ false → (begun == number) ≡ false → Doing origin number jobs begun (job ∷ left) refused → Doing origin number jobs begun left refused
doing_skips origin number jobs begun job left refused b other d = record { done = d.done; own = d.own ∙ ap (λ l. d.done ++ l) (rw (b, other) refl); works = d.works }

pub doing_does : (origin : Origin) (number : ℕ) (jobs : List Job) (begun : ℕ) (job : Job) (left : List Job) (x y : ℕ) → begins_section job ≡ false → (begun == number) ≡ true → HasRefused origin (Carries job) y → Doing origin number jobs begun (job ∷ left) x → Doing origin number jobs begun left (x + y)
doing_does origin number jobs begun job left x y b same carries d = record {
  done = d.done ++ job ∷ [];
  own = d.own ∙ ap (λ l. d.done ++ l) (rw (b, same) refl) ∙ sym (append_assoc d.done (job ∷ []) (own_from begun number left));
  works = work_more origin d.done job x y d.works carries;
}

-- the next job, at its place in the list
pub at_place : (origin : Origin) (number : ℕ) (jobs : List Job) (begun i : ℕ) (d : Job) (refused : ℕ) → i < length jobs → Doing origin number jobs begun (drop i jobs) refused → Doing origin number jobs begun (get_or jobs i d ∷ drop (i + 1) jobs) refused
at_place origin number jobs begun i d refused within doing = subst (λ left. Doing origin number jobs begun left refused) (drop_more jobs i d within) doing

-- one job on: a section begins, or the job is this section's, or another's
pub next_begins : (origin : Origin) (number : ℕ) (jobs : List Job) (begun begun' i : ℕ) (d : Job) (x x' : ℕ) → i < length jobs → begins_section (get_or jobs i d) ≡ true → begun' ≡ begun + 1 → x' ≡ x → Doing origin number jobs begun (drop i jobs) x → Doing origin number jobs begun' (drop (i + 1) jobs) x'
next_begins origin number jobs begun begun' i d x x' within b is same doing =
    let here = doing_begins origin number jobs begun (get_or jobs i d) (drop (i + 1) jobs) x b (at_place origin number jobs begun i d x within doing) in
    subst (λ n. Doing origin number jobs n (drop (i + 1) jobs) x') (sym is) (subst (λ r. Doing origin number jobs (begun + 1) (drop (i + 1) jobs) r) (sym same) here)

pub next_skips : (origin : Origin) (number : ℕ) (jobs : List Job) (begun begun' i : ℕ) (d : Job) (x x' : ℕ) → i < length jobs → begins_section (get_or jobs i d) ≡ false → (begun == number) ≡ false → begun' ≡ begun → x' ≡ x → Doing origin number jobs begun (drop i jobs) x → Doing origin number jobs begun' (drop (i + 1) jobs) x'
next_skips origin number jobs begun begun' i d x x' within b other is same doing =
    let here = doing_skips origin number jobs begun (get_or jobs i d) (drop (i + 1) jobs) x b other (at_place origin number jobs begun i d x within doing) in
    subst (λ n. Doing origin number jobs n (drop (i + 1) jobs) x') (sym is) (subst (λ r. Doing origin number jobs begun (drop (i + 1) jobs) r) (sym same) here)

pub next_does : (origin : Origin) (number : ℕ) (jobs : List Job) (begun begun' i : ℕ) (d : Job) (x y x' : ℕ) → i < length jobs → begins_section (get_or jobs i d) ≡ false → (begun == number) ≡ true → HasRefused origin (Carries (get_or jobs i d)) y → begun' ≡ begun → x' ≡ x + y → Doing origin number jobs begun (drop i jobs) x → Doing origin number jobs begun' (drop (i + 1) jobs) x'
next_does origin number jobs begun begun' i d x y x' within b own carries is same doing =
    let here = doing_does origin number jobs begun (get_or jobs i d) (drop (i + 1) jobs) x y b own carries (at_place origin number jobs begun i d x within doing) in
    subst (λ n. Doing origin number jobs n (drop (i + 1) jobs) x') (sym is) (subst (λ r. Doing origin number jobs begun (drop (i + 1) jobs) r) (sym same) here)

pub doing_last : (origin : Origin) (number : ℕ) (jobs : List Job) (begun refused : ℕ) → Doing origin number jobs begun [] refused → HasRefused origin (Works (own_jobs number jobs)) refused
doing_last origin number jobs begun refused d = subst (λ js. HasRefused origin (Works js) refused) (sym (d.own ∙ append-nil d.done)) d.works

-- ---- the end of a run

pub settles_first : (origin : Origin) (b : Bool) → Held origin (Make calls.Pause) b → Settles origin 0
settles_first origin b h = (h.0 ∷ [], ap (λ e. e ∷ []) h.1)

pub settles_more : (origin : Origin) (n : ℕ) (b : Bool) → Settles origin n → Held origin (Make calls.Collect) b → Settles origin (n + 1)
settles_more origin n b s h = (s.0 ++ h.0 ∷ [], map-append event_in s.0 (h.0 ∷ []) ∙ ap (λ l. l ++ h.0.event ∷ []) s.1 ∙ ap (λ e. settling n ++ e ∷ []) h.1 ∙ ap (λ l. Make calls.Pause ∷ l) (replicate-append-replicate n 1 (Make calls.Collect)))
