-- Registrations that come and go, and held entries.
use Rattle.std.proofs.Common.{◌≡◌, ◌≢◌, ℕ, ◌+◌, ◌<◌, ◌≤◌, ◌==◌, ◌||◌, ◌⊎◌, inl, inr, ⊎_elim, Bool, true, false, cond, not, if◌then◌else◌, List, [], ◌∷◌, ◌++◌, length, Option, Some, None, option_map, Result, Ok, Err, refl, sym, ap, ◌∙◌, subst, arith, slice_get, get_or, set, length-set, zero, suc, Contains, count_by, sum_by, filter, nat_le, nat_lt, length-append}
use Rattle.std.proofs.lemmas.Bool.{cases_lt, cases_eq, cases_Bool, both_ways, and_left, ne_eqb, cond-true, not-true, not-false, not_from_false, eq-eqb, or_left, or_right, lt-ltb, le-leb, le-ltb, lt-leb}
use Rattle.std.proofs.lemmas.Option.{same_Some, none-some, slice_get_within, get_or_from_slice_get}
use Rattle.std.proofs.lemmas.List.{get_or-set_other, get_or_past}
use Rattle.std.proofs.lemmas.List.Elements.{All-contains}
use Rattle.std.proofs.lemmas.List.Sums.{length-filter, sum_by-set, get_or-le-sum_by}
use Rattle.std.specs.Option.{unwrap_or}
use Rattle.std.specs.List.{list_any}
use Rattle.std.specs.FinMap.{get, insert, remove}
use Rattle.fz_model.specs.declared.call.Call.TheVariants as calls
use Rattle.fz_model.specs.declared.finalizer.Finalizer.{Finalizer}
use Rattle.fz_model.specs.declared.places.Slot.{Slot}
use Rattle.fz_model.specs.declared.answers.Entry.{Entry}
use Rattle.fz_model.specs.declared.answers.Registration.{Registration}
use Rattle.fz_model.specs.declared.answers.RegAnswer.{RegAnswer}
use Rattle.fz_model.specs.declared.answers.RegAnswer.TheVariants.{Outside, Number}
use Rattle.fz_model.specs.declared.answers.Passed.{Passed}
use Rattle.fz_model.specs.declared.limits.TheConstants.{HEAP_START}
use Rattle.fz_model.specs.declared.refusal.Refusal.{Refusal}
use Rattle.fz_model.specs.State.{Core, State}
use Rattle.fz_model.specs.Extents.{heap_end, extent_of}
use Rattle.fz_model.specs.Memory.{slot_word}
use Rattle.fz_model.specs.Causes.{first_cause, slot_causes, start_causes, register_causes, is_off_heap}
use Rattle.fz_model.specs.Pass.{entries_of, Passes}
use Rattle.fz_model.specs.Events.{Event, Make, Finish, Answer, same_entry, causes}
use Rattle.fz_model.specs.Steps.{Step, IsReached, old_of, registration_of}
use Rattle.fz_model.specs.Joint.{Worker, Joint, idle, worker_at, Move, IsRun}
use Rattle.fz_model.specs.EntryLaws.{Tells, IsRegistered, ObjectsAreRegistered, IsUnregistered, ObjectsAreUnregistered, queued_by, finished_by, HeldAreCounted, IsLetGo, InOneHand}
use Rattle.fz_model.proofs.Lists.{place_of, contains_at, any_at, filter_at}
use Rattle.fz_model.proofs.Counts.{count_alike, count_not}
use Rattle.fz_model.proofs.Events.{one_entry, same_itself}
use Rattle.fz_model.proofs.Maps.{get-insert_same, get-insert_other, get-remove_same, get-remove_other}
use Rattle.fz_model.proofs.Standing.{get_extent}
use Rattle.fz_model.proofs.Allocation.{reached_laid}
use Rattle.fz_model.proofs.Sound.{Sound, is_some_of, length-entries_of}
use Rattle.fz_model.proofs.Effects.{none_stands}
use Rattle.fz_model.proofs.Stepwise.{accepted_keeps}
use Rattle.fz_model.proofs.Joints.{JointSound, owned, in_hand}
use Rattle.fz_model.proofs.Runs.{reached_sound, run_sound}
use Rattle.fz_model.proofs.EveryRun.{there}

-- ---- registrations

tells : (o : Option Registration) → Tells o (option_map (λ (r : Registration). record { proc = r.proc; cd = r.cd }) o)
tells None = record { nothing = λ _. refl; pair = λ r is. absurd (none-some r is) }
tells (Some q) = record {
  nothing = λ is. absurd (none-some q (sym is));
  pair = λ r is. let same = same_Some q r is in (record { proc = q.proc; cd = q.cd }, refl, ap (λ (r : Registration). r.proc) same, ap (λ (r : Registration). r.cd) same);
}

off_heap : (blocks word : ℕ) → (word < HEAP_START) ⊎ (heap_end blocks ≤ word) → is_off_heap blocks word ≡ true
off_heap blocks word out = ⊎_elim (λ low. or_left (nat_lt word HEAP_START) _ (lt-ltb word HEAP_START low)) (λ high. or_right (nat_lt word HEAP_START) _ (le-leb (heap_end blocks) word high)) out

on_heap : (blocks word : ℕ) → HEAP_START ≤ word → word < heap_end blocks → is_off_heap blocks word ≡ false
on_heap blocks word low high = ap (λ b. b || nat_le (heap_end blocks) word) (le-ltb _ _ low) ∙ lt-leb _ _ high

-- what a registration leaves, off the heap or on it
abbrev entered : State → ℕ → Registration → Bool → Core
entered s word registration off = if off then s.core else record s.core { registrations = insert s.registrations word registration; next_number = s.next_number + 1 }

abbrev dropped : State → ℕ → Bool → Core
dropped s word off = if off then s.core else record s.core { registrations = remove s.registrations word }

pub objects_are_registered : (s : State) → IsReached s → ObjectsAreRegistered s
objects_are_registered s r = record {
  outside = λ slot finalizer answer new out step.
      let word = slot_word s.frames slot in
      let off = off_heap s.blocks word out in
      (step.1.0 ∙ ap (λ b. if b then Outside else Number s.next_number (old_of s.registrations word)) off, step.1.1 ∙ ap (entered s word (registration_of s.next_number finalizer)) off);
  object = λ slot finalizer answer new low high step. on_the_heap slot finalizer answer new low high step;
}
  where
    on_the_heap : (slot : Slot) (finalizer : Finalizer) (answer : RegAnswer) (new : State) → HEAP_START ≤ slot_word s.frames slot → slot_word s.frames slot < heap_end s.blocks → Step s (Make (calls.Register slot finalizer)) (Ok answer) new → IsRegistered s (slot_word s.frames slot) finalizer answer new
    on_the_heap slot finalizer answer new low high step =
        let word = slot_word s.frames slot in
        let on = on_heap s.blocks word low high in
        let registration = registration_of s.next_number finalizer in
        let all = λ (b : Bool). slot_causes s.frames slot ++ (if b then [] else (start_causes s.objects word ++ register_causes s.registrations s.next_number word)) in
        let none = none_stands (all false) (subst (λ b. first_cause (all b) ≡ None) on step.0) in
        let is = step.1.1 ∙ ap (entered s word registration) on in
        let table = ap (λ (c : Core). c.registrations) is in
        let number = ap (λ (c : Core). c.next_number) is in
        let sound = reached_sound s r in
        record {
          registration = registration;
          here = ap (λ m. get m word) table ∙ get-insert_same s.registrations word registration;
          kind = refl;
          procedure = refl;
          client_data = refl;
          named_rank = λ rank named. ap (λ o. unwrap_or o 0) named;
          no_rank = λ unnamed. ap (λ o. unwrap_or o 0) unnamed;
          replaced = old_of s.registrations word;
          answered = step.1.0 ∙ ap (λ b. if b then Outside else Number s.next_number (old_of s.registrations word)) on;
          told = tells (get s.registrations word);
          counted = (refl, number);
          fresh = sound.below;
          never_queued = λ e queued. All-contains (λ (e : Entry). e.reg < s.next_number) s.queue e sound.queued_below queued;
          stands = is_some_of (get s.objects word) none.1.1.0;
          others = λ a other. ap (λ m. get m a) table ∙ get-insert_other s.registrations word registration a other;
          rest = is ∙ (λ i. record s.core { registrations = sym table i; next_number = sym number i });
        }

-- nothing is registered off the heap
none_off : (s : State) → IsReached s → (word : ℕ) → is_off_heap s.blocks word ≡ true → get s.registrations word ≡ None
none_off s r word off = at (get s.registrations word) refl
  where
    at : (o : Option Registration) → get s.registrations word ≡ o → o ≡ None
    at None is = refl
    at (Some q) is =
        let object = (reached_sound s r).exists word q is in
        let within = (reached_laid s r).within word (extent_of object.0) (get_extent s.objects word object.0 object.1) in
        let low = within.0 in
        let some = within.1 in
        let high = within.2 in
        absurd (both_ways _ (on_heap s.blocks word low (omega (arith, some, high))) off)

pub objects_are_unregistered : (s : State) → IsReached s → ObjectsAreUnregistered s
objects_are_unregistered s r slot answer new step = by (cases_Bool (is_off_heap s.blocks word))
  where
    word : ℕ
    word = slot_word s.frames slot

    by : (is_off_heap s.blocks word ≡ true) ⊎ (is_off_heap s.blocks word ≡ false) → IsUnregistered s word answer new
    by (inl off) =
        let none = none_off s r word off in
        let is : new.core ≡ s.core = step.1.1 ∙ ap (dropped s word) off in
        let table = ap (λ (c : Core). c.registrations) is in
        let told : answer ≡ None = step.1.0 ∙ ap (λ b. if b then None else old_of s.registrations word) off in
        record {
          told = record { nothing = λ _. told; pair = λ q here. absurd (none-some q (sym none ∙ here)) };
          gone = ap (λ m. get m word) table ∙ none;
          others = λ a other. ap (λ m. get m a) table;
          rest = is ∙ (λ i. record s.core { registrations = sym table i });
        }
    by (inr on) =
        let is = step.1.1 ∙ ap (dropped s word) on in
        let table = ap (λ (c : Core). c.registrations) is in
        record {
          told = subst (Tells (get s.registrations word)) (sym (step.1.0 ∙ ap (λ b. if b then None else old_of s.registrations word) on)) (tells (get s.registrations word));
          gone = ap (λ m. get m word) table ∙ get-remove_same s.registrations word;
          others = λ a other. ap (λ m. get m a) table ∙ get-remove_other s.registrations word a other;
          rest = is ∙ (λ i. record s.core { registrations = sym table i });
        }

-- ---- held entries

same_is_held : (held : List Entry) (e : Entry) → not (list_any (same_entry e) held) ≡ false → Contains held e
same_is_held held e known =
    let some = any_at (same_entry e) held (not-false _ known) in
    subst (Contains held) (sym (one_entry e some.1 some.3)) (contains_at held some.0 some.1 some.2)

none_held : (held : List Entry) → ((e : Entry) → Contains held e → ⊥) → length held ≡ 0
none_held [] none = refl
none_held (e ∷ es) none = absurd (none e (contains_at (e ∷ es) 0 e refl))

-- a held entry is held once
held_once : (c : Core) → Sound c → (e : Entry) → Contains c.held e → count_by (same_entry e) c.held ≡ 1
held_once c h e held =
    let place = place_of c.held e held in
    let alike = count_alike (same_entry e) (λ (d : Entry). d.seq == e.seq) c.held (λ k d is. same d (contains_at c.held k d is)) in
    let one : ◌≡◌ {A = ℕ} (cond (e.seq == e.seq) 1 0) 1 = ap {B = ℕ} (λ b. cond b 1 0) (eq-eqb e.seq e.seq refl) in
    let here = get_or_from_slice_get c.held place.0 e e place.1 in
    let same = ap {B = ℕ} (λ (d : Entry). cond (d.seq == e.seq) 1 0) here in
    let some = get_or-le-sum_by (λ (d : Entry). cond (d.seq == e.seq) 1 0) c.held place.0 e (slice_get_within c.held place.0 e place.1) in
    let most = h.held_once e.seq in
    omega (arith, alike, one, same, some, most)
  where
    same : (d : Entry) → Contains c.held d → same_entry e d ≡ (d.seq == e.seq)
    same d in_held =
        ⊎_elim
        (λ (is : d.seq ≡ e.seq).
        let one = same_Some d e (sym (h.held_queued d in_held) ∙ ap (slice_get c.queue) is ∙ h.held_queued e held) in
        subst (λ x. same_entry e x ≡ true) (sym one) (same_itself e) ∙ sym (eq-eqb d.seq e.seq is))
        (λ (ne : d.seq ≢ e.seq). and_left _ _ (ne_eqb e.seq d.seq (λ is. ne (sym is))) ∙ sym (ne_eqb d.seq e.seq ne))
        (cases_eq d.seq e.seq)

-- a refusal finishes nothing, and queues nothing
none_finished : (e : Event) (r : Refusal) → finished_by e (Err r) ≡ 0
none_finished (Finish entry) r = refl
none_finished e r = refl

none_queued : (e : Event) (r : Refusal) → queued_by e (Err r) ≡ 0
none_queued (Make calls.Pause) r = refl
none_queued (Make calls.Collect) r = refl
none_queued e r = refl

-- a pass adds as many as it picked
passed_on : (s mid : State) (found : ℕ → Bool) (passed : Passed) → Passes s.core found passed mid.core → length mid.held + 0 ≡ length s.held + passed.picked
passed_on s mid found passed p =
    let entries = entries_of (s.passes + 1) (length s.queue) p.picks in
    let held = ap (λ (c : Core). length c.held) p.is ∙ length-append s.held entries in
    let picked = length-entries_of (s.passes + 1) (length s.queue) p.picks in
    let told = ap (λ (x : Passed). x.picked) p.reply in
    omega (arith, held, picked, told)

goes_on : (s : State) → IsReached s → (e : Event) (reply : Result (Answer e) Refusal) (mid : State) → Step s e reply mid → length mid.held + finished_by e reply ≡ length s.held + queued_by e reply
goes_on s r (Make calls.Pause) (Ok passed) mid step = passed_on s mid step.1.0 passed step.1.2
goes_on s r (Make calls.Collect) (Ok passed) mid step = passed_on s mid step.1.0 passed step.1.2
goes_on s r (Finish entry) (Ok answer) mid step =
    let held = same_is_held s.held entry (none_stands (causes s.core (Finish entry)) step.0).0 in
    let left = ap (λ (c : Core). length c.held) step.1 ∙ length-filter (λ h. not (same_entry entry h)) s.held in
    let all = count_not (same_entry entry) s.held in
    let one = held_once s.core (reached_sound s r) entry held in
    omega (arith, left, all, one)
goes_on s r e (Err refusal) mid step = ap (λ n. length mid.held + n) (none_finished e refusal) ∙ ap (λ (t : State). length t.held + 0) step.1 ∙ ap (λ n. length s.held + n) (sym (none_queued e refusal))
goes_on s r e (Ok answer) mid step = ap (λ (es : List Entry). length es + 0) ((accepted_keeps s e answer mid.core refl step.1).held refl)

-- what passes a filter is left
filter_keeps : (q : Entry → Bool) (xs : List Entry) (k : ℕ) (e : Entry) → slice_get xs k ≡ Some e → q e ≡ true → (i : ℕ) × (slice_get (filter q xs) i ≡ Some e)
filter_keeps q [] k e is on = absurd (none-some e is)
filter_keeps q (x ∷ xs) zero e is on =
    let same = same_Some x e is in
    (0, ap (λ ys. slice_get ys 0) (cond-true (q x) (x ∷ filter q xs) (filter q xs) (ap q same ∙ on)) ∙ ap Some same)
filter_keeps q (x ∷ xs) (suc k) e is on =
    let rest = filter_keeps q xs k e is on in
    elim (q x) as (λ b. (i : ℕ) × (slice_get (cond b (x ∷ filter q xs) (filter q xs)) i ≡ Some e)) [ true ↦ (suc rest.0, rest.1) | false ↦ rest ]

lets_go : (s : State) (entry : Entry) (answer : Unit {0}) (new : State) → Step s (Finish entry) (Ok answer) new → IsLetGo s entry new
lets_go s entry answer new step =
    let keeps : Entry → Bool = λ h. not (same_entry entry h) in
    let held : new.held ≡ filter keeps s.held = ap (λ (c : Core). c.held) step.1 in
    record {
      was = same_is_held s.held entry (none_stands (causes s.core (Finish entry)) step.0).0;
      gone = λ still.
          let at = place_of (filter keeps s.held) entry (subst (λ es. Contains es entry) held still) in
          both_ways _ (not-true _ (filter_at keeps s.held at.0 entry at.1).2) (same_itself entry);
      others = λ e other. (
        λ in_new. let at = place_of (filter keeps s.held) e (subst (λ es. Contains es e) held in_new) in let kept = filter_at keeps s.held at.0 e at.1 in contains_at s.held kept.0 e kept.1,
        λ in_old. let at = place_of s.held e in_old in let left = filter_keeps keeps s.held at.0 e at.1 (not_from_false _ (differs e other)) in subst (λ es. Contains es e) (sym held) (contains_at (filter keeps s.held) left.0 e left.1),
      );
      rest = step.1 ∙ (λ i. record s.core { held = sym held i });
    }
  where
    differs : (e : Entry) → e ≢ entry → same_entry entry e ≡ false
    differs e other = ⊎_elim (λ on. absurd (other (sym (one_entry entry e on)))) (λ off. off) (cases_Bool (same_entry entry e))

pub held_are_counted : (s : State) → IsReached s → HeldAreCounted s
held_are_counted s r = record {
  looks = λ count new step. step.1.1;
  none = λ count new step. (
    λ zero e held. let at = place_of s.held e held in let within = slice_get_within s.held at.0 e at.1 in let is = step.1.0 in omega (arith, within, is, zero),
    λ nothing. step.1.0 ∙ none_held s.held nothing,
  );
  goes_on = λ e reply mid before after old new first step second.
      ap (λ n. n + finished_by e reply) second.1.0 ∙ goes_on s r e reply mid step ∙ ap (λ n. n + queued_by e reply) (sym first.1.0);
  lets_go = lets_go s;
}

-- ---- hands

-- two workers are two of a sum
two_of : (f : Worker → ℕ) (ws : List Worker) (v w : ℕ) → f idle ≡ 0 → v ≢ w → v < length ws → w < length ws → f (get_or ws v idle) + f (get_or ws w idle) ≤ sum_by f ws
two_of f ws v w none apart at_v at_w =
    let without = sum_by-set f ws v idle idle at_v in
    let n = length-set ws v idle in
    let other = get_or-le-sum_by f (set ws v idle) w idle (omega (arith, at_w, n)) in
    let same = ap f (get_or-set_other ws v w idle idle (λ is. apart (sym is))) in
    omega (arith, none, without, other, same)

-- no more than one entry of a number is owned
one_owned : (j : Joint) → JointSound j → (k : ℕ) → sum_by (owned k) j.workers ≤ 1
one_owned j h k =
    ⊎_elim
    (λ below. let given = h.given k below in let most = h.core.held_once k in omega (arith, given, most))
    (λ ahead. let none = h.none_ahead k ahead in omega (arith, none))
    (cases_lt k j.taken)

-- a hand owns its entry, and a worker those that it forfeited
in_own_hand : (e : Entry) (o : Option Entry) → o ≡ Some e → in_hand e.seq o ≡ 1
in_own_hand e o is = ap (in_hand e.seq) is ∙ ap {B = ℕ} (λ b. cond b 1 0) (eq-eqb e.seq e.seq refl)

has_forfeited : (e : Entry) (es : List Entry) → Contains es e → 0 < count_by (λ (d : Entry). d.seq == e.seq) es
has_forfeited e es here =
    let at = place_of es e here in
    let one : ◌≡◌ {A = ℕ} (cond (e.seq == e.seq) 1 0) 1 = ap {B = ℕ} (λ b. cond b 1 0) (eq-eqb e.seq e.seq refl) in
    let same = ap {B = ℕ} (λ (d : Entry). cond (d.seq == e.seq) 1 0) (get_or_from_slice_get es at.0 e e at.1) in
    let some = get_or-le-sum_by (λ (d : Entry). cond (d.seq == e.seq) 1 0) es at.0 e (slice_get_within es at.0 e at.1) in
    omega (arith, one, same, some)

pub in_one_hand : (moves : List Move) (end : Joint) → IsRun moves end → InOneHand end
in_one_hand moves j run = record {
  hands = λ v w e left right. ⊎_elim (λ same. same) (λ apart.
      let two = two_of (owned e.seq) j.workers v w refl apart (there j v e left) (there j w e right) in
      let a = in_own_hand e (worker_at j v).hand left in
      let b = in_own_hand e (worker_at j w).hand right in
      let most = one_owned j sound e.seq in
      absurd (omega (arith, two, a, b, most))) (cases_eq v w);
  forfeited = λ v w e gave hand.
      let a = has_forfeited e (worker_at j v).forfeited gave in
      let b = in_own_hand e (worker_at j w).hand hand in
      let most = one_owned j sound e.seq in
      ⊎_elim
      (λ (same : v ≡ w).
      let own = get_or-le-sum_by (owned e.seq) j.workers w idle (there j w e hand) in
      let both = subst (λ u. 0 < count_by (λ (d : Entry). d.seq == e.seq) (worker_at j u).forfeited) same a in
      omega (arith, own, both, b, most))
      (λ apart. let two = two_of (owned e.seq) j.workers v w refl apart (gave_there v e gave) (there j w e hand) in omega (arith, two, a, b, most))
      (cases_eq v w);
}
  where
    sound : JointSound j
    sound = run_sound moves j run

    gave_there : (v : ℕ) (e : Entry) → Contains (worker_at j v).forfeited e → v < length j.workers
    gave_there v e gave =
        ⊎_elim (λ l. l)
        (λ past.
        let none = ap (λ (x : Worker). length x.forfeited) (get_or_past j.workers v idle past) in
        let at = place_of (worker_at j v).forfeited e gave in
        let within = slice_get_within (worker_at j v).forfeited at.0 e at.1 in
        absurd (omega (arith, none, within)))
        (cases_lt v (length j.workers))
