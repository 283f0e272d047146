-- What each step of a world keeps, and what it adds to the queue.
use Rattle.std.proofs.Common.{not, ◌≡◌, ℕ, ◌+◌, ◌==◌, Bool, true, false, List, [], ◌∷◌, ◌++◌, length, Result, Ok, Err, refl, sym, ap, ◌∙◌, subst, ⊎_elim, arith, All, IsTrue, IsFalse, append-nil}
use Rattle.std.proofs.lemmas.Bool.{not-true, and_parts, both_ways, cases_Bool}
use Rattle.std.specs.FinMap.{get, remove, contains_key}
use Rattle.fz_model.specs.declared.answers.Pick.{Pick}
use Rattle.fz_model.specs.declared.answers.Passed.{Passed}
use Rattle.fz_model.specs.declared.refusal.Refusal.{Refusal}
use Rattle.fz_model.specs.State.{Core, State}
use Rattle.fz_model.specs.Memory.{new_object, written}
use Rattle.fz_model.specs.Reachability.{IsRoot, Itself, IsReachable}
use Rattle.fz_model.specs.Pass.{IsPicked, entries_of, Passes}
use Rattle.fz_model.specs.Events.{Event, Answer}
use Rattle.fz_model.specs.Steps.{Accepts, Step}
use Rattle.fz_model.specs.Joint.{is_finish}
use Rattle.fz_model.specs.Headline.{is_pass}
use Rattle.fz_model.proofs.Maps.{free_place}
use Rattle.fz_model.proofs.Sound as sound
use Rattle.fz_model.proofs.Sound.{new_sized, written_sized, Sound, is_some_of, other_objects, written_object, register_sound, fewer_regs, removed_back, finish_sound, pass_sound}
use Rattle.fz_model.proofs.Effects.{some_words, IsAllowed, PassOf, accepted_pass, Effect, Made, Wrote, Entered, Dropped, Began, Ended, Finished, Shut, effect, step_keeps}

pub pass_keeps : (c : Core) (found : ℕ → Bool) (passed : Passed) (new : Core) → Sound c → ((a : ℕ) → IsReachable c a → IsTrue (found a)) → Passes c found passed new → Sound new
pass_keeps c found passed new h roots p = subst Sound (sym p.is) (pass_sound c found passed new h roots p)

pub effect_sound : (c : Core) (e : Event) (new : Core) → IsAllowed c e → Sound c → Effect c e new → Sound new
unfolding written
effect_sound c e new allowed h (Made slot size a kind here none place) =
    let v = new_object kind c.next_birth size in
    other_objects _ _ _ _ _ _ h (new_sized c.objects a v (some_words size (none allowed).0) h.sized) (sound.new_object c.objects a v (free_place c.objects c.blocks size a kind place))
effect_sound c e new allowed h (Wrote place word here) = other_objects _ _ _ _ _ _ h (written_sized (λ x. x == place) word c.objects h.sized) (written_object (λ x. x == place) word c.objects)
effect_sound c e new allowed h (Entered word r number none) =
    let o = is_some_of (get c.objects word) (none allowed).1.0 in
    register_sound c.objects c.registrations c.next_number c.queue c.held word r o.0 number o.1 h
effect_sound c e new allowed h (Dropped word) = fewer_regs c.objects c.registrations (remove c.registrations word) c.next_number c.queue c.held (λ a r l. (removed_back c.registrations word a r l).1) h
effect_sound c e new allowed h (Finished keep here) = finish_sound _ _ _ _ _ _ h
effect_sound c e new allowed h (Ended here p) = pass_keeps c p.found p.passed new h p.reachable p.passes
effect_sound c e new allowed h _ = h

pub step_sound : (s : State) (e : Event) (reply : Result (Answer e) Refusal) (new : State) → Sound s.core → Step s e reply new → Sound new.core
step_sound = step_keeps Sound effect_sound

-- ---- the queue

-- no event but a pass changes the queue or ends a cycle, none opens the world again, and none but a finish changes what is held
pub record Keeps (c : Core) (e : Event) (new : Core) : Type 0 where
  pub queue : new.queue ≡ c.queue
  pub closed : c.closed ≡ true → new.closed ≡ true
  pub cycle : c.cycle ≡ true → new.cycle ≡ true
  pub held : IsFalse (is_finish e) → new.held ≡ c.held

effect_keeps : (c : Core) (e : Event) (new : Core) → IsFalse (is_pass e) → Effect c e new → Keeps c e new
effect_keeps c e new other (Ended here p) = absurd (both_ways (is_pass e) other here)
effect_keeps c e new other (Finished keep here) = record { queue = refl; closed = λ was. was; cycle = λ on. on; held = λ not_finish. absurd (both_ways (is_finish e) not_finish here) }
effect_keeps c e new other (Began off) = record { queue = refl; closed = λ was. was; cycle = λ _. refl; held = λ _. refl }
effect_keeps c e new other Shut = record { queue = refl; closed = λ _. refl; cycle = λ on. on; held = λ _. refl }
effect_keeps c e new other _ = record { queue = refl; closed = λ was. was; cycle = λ on. on; held = λ _. refl }

pub accepted_keeps : (s : State) (e : Event) (answer : Answer e) (new : Core) → IsFalse (is_pass e) → Accepts s e answer new → Keeps s.core e new
accepted_keeps s e answer new other a = effect_keeps s.core e new other (effect s e answer new a)

-- queue and held gain the same entries, numbered on from the length of the queue
pub record Grows (c new : Core) : Type 0 where
  pub pass : ℕ
  pub picks : List Pick
  pub queue : new.queue ≡ c.queue ++ entries_of pass (length c.queue) picks
  pub held : new.held ≡ c.held ++ entries_of pass (length c.queue) picks

pub accepted_grows : (s : State) (e : Event) (answer : Answer e) (new : Core) → IsFalse (is_finish e) → Accepts s e answer new → Grows s.core new
accepted_grows s e answer new other a = ⊎_elim by_pass by_other (cases_Bool (is_pass e))
  where
    by_pass : is_pass e ≡ true → Grows s.core new
    by_pass here =
        let p = accepted_pass s e answer new here a in
        record { pass = s.passes + 1; picks = p.passes.picks; queue = ap (λ (x : Core). x.queue) p.passes.is; held = ap (λ (x : Core). x.held) p.passes.is }

    by_other : is_pass e ≡ false → Grows s.core new
    by_other not_pass =
        let k = accepted_keeps s e answer new not_pass a in
        record { pass = 0; picks = []; queue = k.queue ∙ sym (append-nil s.queue); held = k.held other ∙ sym (append-nil s.held) }

-- ---- closed: each registered object is a root, so nothing is picked
pub closed_pass : (s : State) (new : Core) → s.closed ≡ true → PassOf s.core new → (new.queue ≡ s.queue) × (new.closed ≡ true)
closed_pass s new closed p =
    (ap (λ (x : Core). x.queue) p.passes.is ∙ ap (λ ps. s.queue ++ entries_of (s.passes + 1) (length s.queue) ps) none ∙ append-nil s.queue, ap (λ (x : Core). x.closed) p.passes.is ∙ closed)
  where
    never : (q : Pick) → IsPicked s.objects s.registrations s.short p.found q → ⊥
    never q x =
        let root = IsRoot.Registered x.registration closed x.unreachable.registered in
        both_ways (p.found q.obj) (not-true (p.found q.obj) (and_parts (contains_key s.objects q.obj) (not (p.found q.obj)) x.unreachable.outside).1) (p.reachable q.obj (record { root = q.obj; is_root = root; leads = Itself }))

    empty_picks : (ps : List Pick) → All (IsPicked s.objects s.registrations s.short p.found) ps → ps ≡ []
    empty_picks [] all = refl
    empty_picks (q ∷ ps) all = absurd (never q (all 0 q (omega arith)))

    none : p.passes.picks ≡ []
    none = empty_picks p.passes.picks p.passes.picks_are.each

pub closed_step : (s : State) (e : Event) (reply : Result (Answer e) Refusal) (new : State) → s.closed ≡ true → Step s e reply new → (new.queue ≡ s.queue) × (new.closed ≡ true)
closed_step s e (Err r) new closed step = (ap (λ (t : State). t.queue) step.1, ap (λ (t : State). t.closed) step.1 ∙ closed)
closed_step s e (Ok answer) new closed step =
    ⊎_elim (λ here. closed_pass s new.core closed (accepted_pass s e answer new.core here step.1))
    (λ other. let k = accepted_keeps s e answer new.core other step.1 in (k.queue, k.closed closed))
    (cases_Bool (is_pass e))
