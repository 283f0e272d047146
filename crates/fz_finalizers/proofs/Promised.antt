-- What every sequence of calls keeps.
use Rattle.std.proofs.Common.{◌≡◌, ◌≢◌, ◌<◌, ◌⊎◌, inl, inr, ◌↔◌, ℕ, zero, suc, ◌+◌, Bool, true, false, true≢false, cond, List, [], ◌∷◌, ◌++◌, drop, take, filter, map, not, length, Option, None, Some, slice_get, get_or, All, AllPairs, Contains, nat_cmp, refl, sym, ap, subst, ◌∙◌, ⊎_elim, append_assoc, append-nil, arith}
use Rattle.std.proofs.lemmas.Bool.{cases_eq}
use Rattle.std.proofs.lemmas.List.{length-append, take-append-le, drop-append-le, take_more, take-append-drop, length-take-le}
use Rattle.std.proofs.lemmas.List.Kept.{AllPairs-filter}
use Rattle.std.proofs.lemmas.List.Elements.{All-append, Contains-append_left, Contains-append_right, Contains-append_cases, Contains-push, Contains-push_cases}
use Rattle.std.proofs.lemmas.Option.{same_Some, none-some, slice_get-get_or, slice_get_within, get_or_from_slice_get}
use Rattle.std.specs.List.{list_any}
use Rattle.std.specs.Option.{option_map_or}
use Rattle.std.specs.FinMap.{get, insert, remove, get-empty}
use Rattle.fz_model.specs.declared.answers.Entry.{Entry}
use Rattle.fz_model.specs.declared.answers.Pick.{Pick}
use Rattle.fz_model.specs.declared.answers.Registration.{Registration}
use Rattle.fz_model.specs.declared.kinds.LinkKind.{LinkKind}
use Rattle.fz_model.specs.declared.kinds.LinkKind.TheVariants.{Short, Long}
use Rattle.fz_model.specs.Pass.{entries_of}
use Rattle.fz_model.specs.State.{Map}
use Rattle.fz_model.specs.Events.{same_entry}
use Rattle.fz_model.proofs.Events.{one_entry, same_itself}
use Rattle.fz_model.specs.Steps.{registration_of}
use Rattle.fz_model.proofs.Lists.{slice_get-left, slice_get-cases, place_of, contains_at, any_at, filter_at, map_at, AllPairs-append}
use Rattle.fz_model.proofs.Maps.{get-insert_same, get-insert_other, get-remove_same, get-remove_other}
use Rattle.fz_model.proofs.Sound.{entry_at}
use Rattle.fz_pass.specs.Holds.{Ephemerons}
use Rattle.fz_finalizers.specs.declared.kinds.Finalizer.{Finalizer}
use Rattle.fz_finalizers.specs.Kinds.{is_late, table_finalizer}
use Rattle.fz_finalizers.specs.States.{State, opening, unfinished, waiting, with_links}
use Rattle.fz_finalizers.specs.Follows.{Event, Follows, Queues, with_registration, without_registration, with_cleanup, without_cleanup, queued_attached, queued_cleanup, Register, Unregister, Link, Unlink, Move, Ephemeron, EndEphemeron, MoveEphemeron, AddCleanup, Cancel, Clean, Pass, Begin, Queue, QueueCleanup, QueueAll, Take, TakeFinished, TakeAll, Finish}
use Rattle.fz_finalizers.specs.declared.cleanups.Attached as cleanups
use Rattle.fz_finalizers.specs.declared.cleanups.Cleanup.{Cleanup}
use Rattle.fz_finalizers.specs.Cleanups.{ComesFirst, pick_of, without}
use Rattle.fz_finalizers.proofs.Cleaned.{one_there, without_back}
use Rattle.fz_finalizers.specs.Promises.{Past, Registered, Attached, with_event, IsReached, Opened, Then, Promises}
use Rattle.fz_finalizers.proofs.Flags.{flags_entered, flags_removed, late_is_normal, no_flags}
use Rattle.fz_finalizers.proofs.Queueing as queueing
use Rattle.fz_finalizers.proofs.OneQueued.{queued_queues}
use Rattle.fz_finalizers.proofs.Taking.{next_waits}

-- the first of a list from a place on
first_of_rest : (xs : List Entry) (k : ℕ) (e : Entry) (es : List Entry) → drop k xs ≡ e ∷ es → slice_get xs k ≡ Some e
first_of_rest [] zero e es is = ap (λ ys. slice_get ys 0) is
first_of_rest [] (suc k) e es is = ap (λ ys. slice_get ys 0) is
first_of_rest (x ∷ xs) zero e es is = ap (λ ys. slice_get ys 0) is
first_of_rest (x ∷ xs) (suc k) e es is = first_of_rest xs k e es is

-- no entries are among none
none_among : {X : Type 0} (x : X) → Contains [] x → ⊥
none_among x here = let at = place_of [] x here in none-some x at.1

-- ---- the opening

opened : Promises opening (record { made = []; taken = []; finished = [] })
opened = record {
  takes = refl;
  within = omega arith;
  numbered = λ k e at. absurd (none-some e at);
  flags = no_flags;
  one = λ a b r q here. absurd (nothing a r here);
  once = λ i j d lt within. absurd (omega (arith, within));
  gone = λ a r here. absurd (nothing a r here);
  below = λ a r here. absurd (nothing a r here);
  queued_below = λ k d within. absurd (omega (arith, within));
  other = λ n c here. absurd (no_cleanup n c here);
  uncleaned = λ n c here. absurd (no_cleanup n c here);
  cleanups_below = λ n c here. absurd (no_cleanup n c here);
  held = λ e. (λ here. absurd (none_among e here), λ here. absurd (none_among e here.0));
  in_order = λ i j d lt within. absurd (omega (arith, within));
  finished_taken = λ e here. here;
  kept = λ e here _. absurd (none_among e here);
}
  where
    nothing : (a : ℕ) (r : Registration) → get opening.registrations a ≡ Some r → ⊥
    nothing a r here = none-some r (sym (get-empty nat_cmp a) ∙ here)

    no_cleanup : (n : ℕ) (c : cleanups.Attached) → get opening.cleanups n ≡ Some c → ⊥
    no_cleanup n c here = none-some c (sym (get-empty nat_cmp n) ∙ here)

-- ---- links come and go, and a pass begins: of these no promise speaks

beside : (s : State) (past : Past) (short long : Map ℕ) (ephemerons : Ephemerons) (passes : ℕ) → Promises s past → Promises (record s { short = short; long = long; ephemerons = ephemerons; passes = passes }) past
beside s past short long ephemerons passes p = record {
  takes = p.takes;
  within = p.within;
  numbered = p.numbered;
  flags = p.flags;
  one = p.one;
  once = p.once;
  gone = p.gone;
  below = p.below;
  queued_below = p.queued_below;
  other = p.other;
  uncleaned = p.uncleaned;
  cleanups_below = p.cleanups_below;
  held = p.held;
  in_order = p.in_order;
  finished_taken = p.finished_taken;
  kept = p.kept;
}

linked : (s : State) (past : Past) (kind : LinkKind) (links : Map ℕ) → Promises s past → Promises (with_links s kind links) past
linked s past Short links = beside s past links s.long s.ephemerons s.passes
linked s past Long links = beside s past s.short links s.ephemerons s.passes

keyed : (s : State) (past : Past) (ephemerons : Ephemerons) → Promises s past → Promises (record s { ephemerons = ephemerons }) past
keyed s past ephemerons = beside s past s.short s.long ephemerons s.passes

begun : (s : State) (past : Past) (passes : ℕ) → Promises s past → Promises (record s { passes = passes }) past
begun s past = beside s past s.short s.long s.ephemerons

-- ---- a registration goes

unregistered : (s : State) (past : Past) (object : ℕ) → Promises s past → Promises (without_registration s object) past
unregistered s past object p = record {
  takes = p.takes;
  within = p.within;
  numbered = p.numbered;
  flags = flags_removed s.registrations s.late p.flags object;
  one = λ a b r q here there. p.one a b r q (was a r here) (was b q there);
  once = p.once;
  gone = λ a r here. p.gone a r (was a r here);
  below = λ a r here. p.below a r (was a r here);
  queued_below = p.queued_below;
  other = λ n c here a r at. p.other n c here a r (was a r at);
  uncleaned = p.uncleaned;
  cleanups_below = p.cleanups_below;
  held = p.held;
  in_order = p.in_order;
  finished_taken = p.finished_taken;
  kept = p.kept;
}
  where
    was : (a : ℕ) (r : Registration) → get (remove s.registrations object) a ≡ Some r → get s.registrations a ≡ Some r
    was a r here =
        ⊎_elim (λ (is : a ≡ object). absurd (none-some r (sym (ap (get (remove s.registrations object)) is ∙ get-remove_same s.registrations object) ∙ here))) (λ (ne : a ≢ object). sym (get-remove_other s.registrations object a ne) ∙ here)
        (cases_eq a object)

-- ---- a registration comes

module _ (s : State) (past : Past) (object : ℕ) (f : Finalizer) (p : Promises s past) where
  abbrev r : Registration
  r = registration_of s.next_number (table_finalizer f)

  abbrev table : Map Registration
  table = insert s.registrations object r

  cases_of : (a : ℕ) (q : Registration) → get table a ≡ Some q → ((a ≡ object) × (q.number ≡ s.next_number)) ⊎ ((a ≢ object) × (get s.registrations a ≡ Some q))
  cases_of a q at =
      ⊎_elim
      (λ (is : a ≡ object).
      let same = same_Some q r (sym at ∙ ap (get table) is ∙ get-insert_same s.registrations object r) in
      inl (is, ap (λ (t : Registration). t.number) same))
      (λ (ne : a ≢ object). inr (ne, sym (get-insert_other s.registrations object r a ne) ∙ at))
      (cases_eq a object)

  one : (a b : ℕ) (q t : Registration) → get table a ≡ Some q → get table b ≡ Some t → q.number ≡ t.number → a ≡ b
  one a b q t here there same =
      ⊎_elim
      (λ (x : (a ≡ object) × (q.number ≡ s.next_number)).
      ⊎_elim (λ (y : (b ≡ object) × (t.number ≡ s.next_number)). x.0 ∙ sym y.0) (λ (y : (b ≢ object) × (get s.registrations b ≡ Some t)). absurd (let lt = p.below b t y.1 in let n = x.1 in omega (arith, lt, n, same))) (cases_of b t there))
      (λ (x : (a ≢ object) × (get s.registrations a ≡ Some q)).
      ⊎_elim (λ (y : (b ≡ object) × (t.number ≡ s.next_number)). absurd (let lt = p.below a q x.1 in let n = y.1 in omega (arith, lt, n, same))) (λ (y : (b ≢ object) × (get s.registrations b ≡ Some t)). p.one a b q t x.1 y.1 same) (cases_of b t there))
      (cases_of a q here)

  gone : (a : ℕ) (q : Registration) → get table a ≡ Some q → All (λ (e : Entry). e.reg ≢ q.number) s.queue
  gone a q here k d within same =
      ⊎_elim
      (λ (x : (a ≡ object) × (q.number ≡ s.next_number)). absurd (let lt = p.queued_below k d within in let n = x.1 in omega (arith, lt, n, same)))
      (λ (x : (a ≢ object) × (get s.registrations a ≡ Some q)). p.gone a q x.1 k d within same)
      (cases_of a q here)

  below : (a : ℕ) (q : Registration) → get table a ≡ Some q → q.number < s.next_number + 1
  below a q here =
      ⊎_elim
      (λ (x : (a ≡ object) × (q.number ≡ s.next_number)). let n = x.1 in omega (arith, n))
      (λ (x : (a ≢ object) × (get s.registrations a ≡ Some q)). let lt = p.below a q x.1 in omega (arith, lt))
      (cases_of a q here)

  other : (n : ℕ) (c : cleanups.Attached) → get s.cleanups n ≡ Some c → (a : ℕ) (q : Registration) → get table a ≡ Some q → q.number ≢ n
  other n c at a q here same =
      ⊎_elim
      (λ (x : (a ≡ object) × (q.number ≡ s.next_number)). absurd (let lt = p.cleanups_below n c at in let m = x.1 in omega (arith, lt, m, same)))
      (λ (x : (a ≢ object) × (get s.registrations a ≡ Some q)). p.other n c at a q x.1 same)
      (cases_of a q here)

  remade : Promises (with_registration s object f) (record past { made = past.made ++ (object, Registered f) ∷ [] })
  remade = record {
    takes = p.takes;
    within = p.within;
    numbered = p.numbered;
    flags = flags_entered s.registrations s.late p.flags object r (is_late f.kind) (late_is_normal f.kind);
    one = one;
    once = p.once;
    gone = gone;
    below = below;
    queued_below = λ k d within. let lt = p.queued_below k d within in omega (arith, lt);
    other = other;
    uncleaned = p.uncleaned;
    cleanups_below = λ n c at. let lt = p.cleanups_below n c at in omega (arith, lt);
    held = p.held;
    in_order = p.in_order;
    finished_taken = p.finished_taken;
    kept = p.kept;
  }

-- ---- entries come

module _ (pass : ℕ) (s t : State) (past : Past) (p : Promises s past) (queues : Queues pass s t) where
  abbrev picks : List Pick
  picks = queues.picks

  abbrev entries : List Entry
  entries = entries_of pass (length s.queue) picks

  entry_is : (k : ℕ) (e : Entry) → slice_get entries k ≡ Some e → (q : Pick) × (slice_get picks k ≡ Some q) × (e.seq ≡ length s.queue + k) × (e.reg ≡ q.reg)
  entry_is k e at = let is = entry_at pass (length s.queue) picks k e at in (is.0, is.1, is.2, is.3)

  -- an entry has the number of a registration that an object had
  reg_of : (k : ℕ) (d : Entry) → k < length entries → (q : Pick) × (r : Registration) × (slice_get picks k ≡ Some q) × (get s.registrations q.obj ≡ Some r) × ((get_or entries k d).reg ≡ r.number)
  reg_of k d within =
      let is = entry_is k (get_or entries k d) (slice_get-get_or entries k d within) in
      let of = queueing.registered_at pass s t queues k is.0 is.1 in
      (is.0, of.0, is.1, of.1, is.3 ∙ of.2)

  came_below : All (λ (e : Entry). e.reg < t.next_number) entries
  came_below k d within =
      let of = reg_of k d within in
      let lt = p.below of.0.obj of.1 of.3 in
      let n = of.4 in
      let same = queues.next_number in
      omega (arith, lt, n, same)

  came_gone : (a : ℕ) (r : Registration) → get t.registrations a ≡ Some r → All (λ (e : Entry). e.reg ≢ r.number) entries
  came_gone a r here k d within same =
      let of = reg_of k d within in
      let was = queueing.still_registered pass s t queues a r here in
      was.1 k of.0 of.2 (p.one a of.0.obj r of.1 was.0 of.3 (sym (sym of.4 ∙ same)))

  came_once : AllPairs (λ (d e : Entry). d.reg ≢ e.reg) entries
  came_once i j d lt within same =
      let x = reg_of i d (omega (arith, lt, within)) in
      let y = reg_of j d within in
      queueing.differ pass s t queues i j x.0 y.0 lt x.2 y.2 (p.one x.0.obj y.0.obj x.1 y.1 x.3 y.3 (sym x.4 ∙ same ∙ y.4))

  was_cleanup : (n : ℕ) (c : cleanups.Attached) → get t.cleanups n ≡ Some c → get s.cleanups n ≡ Some c
  was_cleanup n c here = ap (λ (m : Map cleanups.Attached). get m n) (sym queues.cleanups) ∙ here

  came_uncleaned : (n : ℕ) (c : cleanups.Attached) → get t.cleanups n ≡ Some c → All (λ (e : Entry). e.reg ≢ n) entries
  came_uncleaned n c here k d within same = let of = reg_of k d within in p.other n c (was_cleanup n c here) of.0.obj of.1 of.3 (sym of.4 ∙ same)

  across : (i j : ℕ) (d : Entry) → i < length s.queue → j < length entries → (get_or s.queue i d).reg ≢ (get_or entries j d).reg
  across i j d within there same = let y = reg_of j d there in p.gone y.0.obj y.1 y.3 i d within (same ∙ y.4)

  longer : length t.queue ≡ length s.queue + length entries
  longer = ap length queues.queue ∙ length-append s.queue entries

  -- what isn't finished grows by what comes
  grown : unfinished t ≡ unfinished s ++ entries
  grown =
      (λ i. queues.held i ++ drop (queues.taken i) (queues.queue i)) ∙ ap (λ es. s.held ++ es) (drop-append-le s.taken s.queue entries p.within)
      ∙ sym (append_assoc s.held (drop s.taken s.queue) entries)

  come : Promises t past
  come = record {
    takes = p.takes ∙ sym (take-append-le s.taken s.queue entries p.within) ∙ sym (λ i. take (queues.taken i) (queues.queue i));
    within = let all = longer in let was = p.within in let same = queues.taken in omega (arith, all, was, same);
    numbered = λ k e at.
        ⊎_elim (p.numbered k e)
        (λ (x : (i : ℕ) × (k ≡ length s.queue + i) × (slice_get entries i ≡ Some e)). let is = entry_is x.0 e x.2 in let n = is.2 in let k_is = x.1 in omega (arith, n, k_is))
        (slice_get-cases s.queue entries k e (ap (λ es. slice_get es k) (sym queues.queue) ∙ at));
    flags = queueing.still_flags pass s t queues p.flags;
    one = λ a b r q here there. p.one a b r q (queueing.still_registered pass s t queues a r here).0 (queueing.still_registered pass s t queues b q there).0;
    once = subst (AllPairs (λ (d e : Entry). d.reg ≢ e.reg)) (sym queues.queue) (AllPairs-append (λ (d e : Entry). d.reg ≢ e.reg) s.queue entries p.once came_once across);
    gone = λ a r here. subst (All (λ (e : Entry). e.reg ≢ r.number)) (sym queues.queue) (All-append (λ (e : Entry). e.reg ≢ r.number) s.queue entries (p.gone a r (queueing.still_registered pass s t queues a r here).0) (came_gone a r here));
    below = λ a r here. let lt = p.below a r (queueing.still_registered pass s t queues a r here).0 in let same = queues.next_number in omega (arith, lt, same);
    queued_below = subst (All (λ (e : Entry). e.reg < t.next_number)) (sym queues.queue) (All-append (λ (e : Entry). e.reg < t.next_number) s.queue entries (λ k d within. let lt = p.queued_below k d within in let same = queues.next_number in omega (arith, lt, same)) came_below);
    other = λ n c here a r at. p.other n c (was_cleanup n c here) a r (queueing.still_registered pass s t queues a r at).0;
    uncleaned = λ n c here. subst (All (λ (e : Entry). e.reg ≢ n)) (sym queues.queue) (All-append (λ (e : Entry). e.reg ≢ n) s.queue entries (p.uncleaned n c (was_cleanup n c here)) (came_uncleaned n c here));
    cleanups_below = λ n c here. let lt = p.cleanups_below n c (was_cleanup n c here) in let same = queues.next_number in omega (arith, lt, same);
    held = λ e. (λ here. (p.held e).0 (subst (λ es. Contains es e) queues.held here), λ was. subst (λ es. Contains es e) (sym queues.held) ((p.held e).1 was));
    in_order = subst (AllPairs (λ (d e : Entry). d.seq < e.seq)) (sym queues.held) p.in_order;
    finished_taken = p.finished_taken;
    kept = λ e here alive.
        subst (λ es. Contains es e) (sym grown)
        (⊎_elim
        (λ (old : Contains s.queue e). Contains-append_left (unfinished s) entries e (p.kept e old alive))
        (λ (fresh : Contains entries e). Contains-append_right (unfinished s) entries e fresh)
        (Contains-append_cases s.queue entries e (subst (λ es. Contains es e) queues.queue here)));
  }

-- ---- a cleanup comes, or is cancelled

cancelled : (s : State) (past : Past) (number : ℕ) → Promises s past → Promises (without_cleanup s number) past
cancelled s past number p = record {
  takes = p.takes;
  within = p.within;
  numbered = p.numbered;
  flags = p.flags;
  one = p.one;
  once = p.once;
  gone = p.gone;
  below = p.below;
  queued_below = p.queued_below;
  other = λ n c here. p.other n c (was n c here);
  uncleaned = λ n c here. p.uncleaned n c (was n c here);
  cleanups_below = λ n c here. p.cleanups_below n c (was n c here);
  held = p.held;
  in_order = p.in_order;
  finished_taken = p.finished_taken;
  kept = p.kept;
}
  where
    was : (n : ℕ) (c : cleanups.Attached) → get (remove s.cleanups number) n ≡ Some c → get s.cleanups n ≡ Some c
    was n c here =
        ⊎_elim (λ (is : n ≡ number). absurd (none-some c (sym (ap (get (remove s.cleanups number)) is ∙ get-remove_same s.cleanups number) ∙ here))) (λ (ne : n ≢ number). sym (get-remove_other s.cleanups number n ne) ∙ here)
        (cases_eq n number)

module _ (s : State) (past : Past) (object : ℕ) (cleanup : Cleanup) (p : Promises s past) where
  abbrev table_with : Map cleanups.Attached
  table_with = insert s.cleanups s.next_number (record { object = object; cleanup = cleanup })

  cleanup_cases : (n : ℕ) (c : cleanups.Attached) → get table_with n ≡ Some c → (n ≡ s.next_number) ⊎ (get s.cleanups n ≡ Some c)
  cleanup_cases n c at = ⊎_elim inl (λ (ne : n ≢ s.next_number). inr (sym (get-insert_other s.cleanups s.next_number (record { object = object; cleanup = cleanup }) n ne) ∙ at)) (cases_eq n s.next_number)

  added : Promises (with_cleanup s object cleanup) (record past { made = past.made ++ (object, Attached cleanup) ∷ [] })
  added = record {
    takes = p.takes;
    within = p.within;
    numbered = p.numbered;
    flags = p.flags;
    one = p.one;
    once = p.once;
    gone = p.gone;
    below = λ a r here. let lt = p.below a r here in omega (arith, lt);
    queued_below = λ k d within. let lt = p.queued_below k d within in omega (arith, lt);
    other = λ n c here a r at same.
        ⊎_elim (λ (is : n ≡ s.next_number). absurd (let lt = p.below a r at in omega (arith, lt, same, is))) (λ (was : get s.cleanups n ≡ Some c). p.other n c was a r at same) (cleanup_cases n c here);
    uncleaned = λ n c here k d within same.
        ⊎_elim (λ (is : n ≡ s.next_number). absurd (let lt = p.queued_below k d within in omega (arith, lt, same, is))) (λ (was : get s.cleanups n ≡ Some c). p.uncleaned n c was k d within same) (cleanup_cases n c here);
    cleanups_below = λ n c here.
        ⊎_elim (λ (is : n ≡ s.next_number). let e = is in omega (arith, e)) (λ (was : get s.cleanups n ≡ Some c). let lt = p.cleanups_below n c was in omega (arith, lt)) (cleanup_cases n c here);
    held = p.held;
    in_order = p.in_order;
    finished_taken = p.finished_taken;
    kept = p.kept;
  }

-- ---- entries of cleanups come

module _ (pass : ℕ) (s : State) (past : Past) (p : Promises s past) (due : List (ℕ × cleanups.Attached)) (each : All (λ (x : ℕ × cleanups.Attached). get s.cleanups x.0 ≡ Some x.1) due) (ordered : AllPairs ComesFirst due) where
  abbrev clean_entries : List Entry
  clean_entries = entries_of pass (length s.queue) (map pick_of due)

  abbrev cleaned_state : State
  cleaned_state = record s { queue = s.queue ++ clean_entries; cleanups = without s.cleanups due }

  clean_at : (k : ℕ) (e : Entry) → slice_get clean_entries k ≡ Some e → (x : ℕ × cleanups.Attached) × (slice_get due k ≡ Some x) × (e.seq ≡ length s.queue + k) × (e.reg ≡ x.0) × (get s.cleanups x.0 ≡ Some x.1)
  clean_at k e at =
      let is = entry_at pass (length s.queue) (map pick_of due) k e at in
      let from = map_at pick_of due k is.0 is.1 in
      let x = from.0 in
      let here = subst (λ (y : ℕ × cleanups.Attached). get s.cleanups y.0 ≡ Some y.1) (get_or_from_slice_get due k x x from.1) (each k x (slice_get_within due k x from.1)) in
      (x, from.1, is.2, is.3 ∙ ap (λ (q : Pick). q.reg) (sym from.2), here)

  number_of : (k : ℕ) (d : Entry) → k < length clean_entries → (x : ℕ × cleanups.Attached) × (slice_get due k ≡ Some x) × ((get_or clean_entries k d).reg ≡ x.0) × (get s.cleanups x.0 ≡ Some x.1)
  number_of k d within = let of = clean_at k (get_or clean_entries k d) (slice_get-get_or clean_entries k d within) in (of.0, of.1, of.3, of.4)

  numbers_below : All (λ (e : Entry). e.reg < s.next_number) clean_entries
  numbers_below k d within = let of = number_of k d within in let lt = p.cleanups_below of.0.0 of.0.1 of.3 in let n = of.2 in omega (arith, lt, n)

  numbers_once : AllPairs (λ (d e : Entry). d.reg ≢ e.reg) clean_entries
  numbers_once i j d lt within same =
      let x = number_of i d (omega (arith, lt, within)) in
      let y = number_of j d within in
      let number : x.0.0 ≡ y.0.0 = sym x.2 ∙ same ∙ y.2 in
      let one : x.0.1 ≡ y.0.1 = same_Some x.0.1 y.0.1 (sym x.3 ∙ ap (get s.cleanups) number ∙ y.3) in
      let rank : x.0.1.cleanup.rank ≡ y.0.1.cleanup.rank = ap (λ (c : cleanups.Attached). c.cleanup.rank) one in
      let before : ComesFirst x.0 y.0 =
      subst (λ (z : ℕ × cleanups.Attached). ComesFirst z y.0) (get_or_from_slice_get due i x.0 x.0 x.1)
      (subst (λ (z : ℕ × cleanups.Attached). ComesFirst (get_or due i x.0) z) (get_or_from_slice_get due j y.0 x.0 y.1) (ordered i j x.0 lt (slice_get_within due j y.0 y.1))) in
      ⊎_elim (λ less. absurd (omega (arith, less, rank))) (λ less. absurd (omega (arith, less.1, number))) before

  numbers_gone : (a : ℕ) (r : Registration) → get s.registrations a ≡ Some r → All (λ (e : Entry). e.reg ≢ r.number) clean_entries
  numbers_gone a r here k d within same = let of = number_of k d within in p.other of.0.0 of.0.1 of.3 a r here (sym same ∙ of.2)

  numbers_left : (n : ℕ) (c : cleanups.Attached) → get (without s.cleanups due) n ≡ Some c → All (λ (e : Entry). e.reg ≢ n) clean_entries
  numbers_left n c here k d within same =
      let of = number_of k d within in
      let back = without_back s.cleanups due n c here in
      back.1 k of.0 (slice_get_within due k of.0 of.1) (ap (λ (x : ℕ × cleanups.Attached). x.0) (get_or_from_slice_get due k of.0 of.0 of.1) ∙ sym of.2 ∙ same)

  still_cleanup : (n : ℕ) (c : cleanups.Attached) → get (without s.cleanups due) n ≡ Some c → get s.cleanups n ≡ Some c
  still_cleanup n c here = (without_back s.cleanups due n c here).0

  cleans_grown : unfinished cleaned_state ≡ unfinished s ++ clean_entries
  cleans_grown = ap (λ es. s.held ++ es) (drop-append-le s.taken s.queue clean_entries p.within) ∙ sym (append_assoc s.held (drop s.taken s.queue) clean_entries)

  cleaned : Promises cleaned_state past
  cleaned = record {
    takes = p.takes ∙ sym (take-append-le s.taken s.queue clean_entries p.within);
    within = let all = length-append s.queue clean_entries in let was = p.within in omega (arith, all, was);
    numbered = λ k e at.
        ⊎_elim (p.numbered k e)
        (λ (x : (i : ℕ) × (k ≡ length s.queue + i) × (slice_get clean_entries i ≡ Some e)). let is = clean_at x.0 e x.2 in let n = is.2 in let k_is = x.1 in omega (arith, n, k_is))
        (slice_get-cases s.queue clean_entries k e at);
    flags = p.flags;
    one = p.one;
    once = AllPairs-append (λ (d e : Entry). d.reg ≢ e.reg) s.queue clean_entries p.once numbers_once (λ i j d within there same. let of = number_of j d there in p.uncleaned of.0.0 of.0.1 of.3 i d within (same ∙ of.2));
    gone = λ a r here. All-append (λ (e : Entry). e.reg ≢ r.number) s.queue clean_entries (p.gone a r here) (numbers_gone a r here);
    below = p.below;
    queued_below = All-append (λ (e : Entry). e.reg < s.next_number) s.queue clean_entries p.queued_below numbers_below;
    other = λ n c here. p.other n c (still_cleanup n c here);
    uncleaned = λ n c here. All-append (λ (e : Entry). e.reg ≢ n) s.queue clean_entries (p.uncleaned n c (still_cleanup n c here)) (numbers_left n c here);
    cleanups_below = λ n c here. p.cleanups_below n c (still_cleanup n c here);
    held = p.held;
    in_order = p.in_order;
    finished_taken = p.finished_taken;
    kept = λ e here alive.
        subst (λ es. Contains es e) (sym cleans_grown)
        (⊎_elim
        (λ (old : Contains s.queue e). Contains-append_left (unfinished s) clean_entries e (p.kept e old alive))
        (λ (fresh : Contains clean_entries e). Contains-append_right (unfinished s) clean_entries e fresh)
        (Contains-append_cases s.queue clean_entries e here));
  }

-- one is queued by itself
one_cleaned : (s : State) (past : Past) (number : ℕ) → Promises s past → Promises (queued_cleanup s number) past
one_cleaned s past number p = by (get s.cleanups number) refl
  where
    by : (o : Option cleanups.Attached) → get s.cleanups number ≡ o → Promises (option_map_or (queued_attached s number) o s) past
    by None none = p
    by (Some c) here = cleaned s.passes s past p ((number, c) ∷ []) (one_there s.cleanups number c here) (λ i j d lt within. absurd (omega (arith, lt, within)))

-- ---- an entry is taken

module _ (s : State) (past : Past) (e : Entry) (p : Promises s past) (at : slice_get s.queue s.taken ≡ Some e) where
  seq_is : e.seq ≡ s.taken
  seq_is = p.numbered s.taken e at

  inside : s.taken < length s.queue
  inside = slice_get_within s.queue s.taken e at

  takes_on : past.taken ++ e ∷ [] ≡ take (s.taken + 1) s.queue
  takes_on =
      ap (λ es. es ++ e ∷ []) p.takes ∙ ap (λ (d : Entry). take s.taken s.queue ++ d ∷ []) (sym (get_or_from_slice_get s.queue s.taken e e at))
      ∙ sym (take_more s.queue s.taken e inside)

  before : (d : Entry) → Contains past.taken d → d.seq < s.taken
  before d here =
      let found = place_of (take s.taken s.queue) d (subst (λ es. Contains es d) p.takes here) in
      let there = slice_get-left (take s.taken s.queue) (drop s.taken s.queue) found.0 d found.1 in
      let n = p.numbered found.0 d (ap (λ es. slice_get es found.0) (sym (take-append-drop s.taken s.queue)) ∙ there) in
      let within = slice_get_within (take s.taken s.queue) found.0 d found.1 in
      let size = length-take-le s.taken s.queue p.within in
      omega (arith, n, within, size)

  fresh : Contains past.taken e → ⊥
  fresh here = absurd (let lt = before e here in let n = seq_is in omega (arith, lt, n))

  waits : drop s.taken s.queue ≡ e ∷ drop (s.taken + 1) s.queue
  waits = next_waits s.queue s.taken e at

  held_before : (i : ℕ) (d : Entry) → i < length s.held → (get_or s.held i d).seq < e.seq
  held_before i d within =
      let lt = before (get_or s.held i d) ((p.held (get_or s.held i d)).0 (i, within, get_or_from_slice_get s.held i (get_or s.held i d) (get_or s.held i d) (slice_get-get_or s.held i d within))).0 in
      let n = seq_is in
      omega (arith, lt, n)

  taken : Promises (record s { taken = s.taken + 1; held = s.held ++ e ∷ [] }) (record past { taken = past.taken ++ e ∷ [] })
  taken = record {
    takes = takes_on;
    within = let lt = inside in omega (arith, lt);
    numbered = p.numbered;
    flags = p.flags;
    one = p.one;
    once = p.once;
    gone = p.gone;
    below = p.below;
    queued_below = p.queued_below;
    other = p.other;
    uncleaned = p.uncleaned;
    cleanups_below = p.cleanups_below;
    held = λ d. (
      λ here.
          ⊎_elim (λ (old : Contains s.held d). let was = (p.held d).0 old in (Contains-append_left past.taken (e ∷ []) d was.0, was.1))
          (λ (same : e ≡ d). (subst (Contains (past.taken ++ e ∷ [])) same (Contains-push past.taken e), λ f. fresh (p.finished_taken e (subst (Contains past.finished) (sym same) f))))
          (Contains-push_cases s.held e d here),
      λ here.
          ⊎_elim (λ (old : Contains past.taken d). Contains-append_left s.held (e ∷ []) d ((p.held d).1 (old, here.1)))
          (λ (same : e ≡ d). subst (Contains (s.held ++ e ∷ [])) same (Contains-push s.held e))
          (Contains-push_cases past.taken e d here.0),
    );
    in_order = AllPairs-append (λ (d x : Entry). d.seq < x.seq) s.held (e ∷ []) p.in_order (λ i j d lt within. absurd (omega (arith, lt, within))) last;
    finished_taken = λ d here. Contains-append_left past.taken (e ∷ []) d (p.finished_taken d here);
    kept = λ d here alive. subst (λ es. Contains es d) (ap (λ es. s.held ++ es) waits ∙ sym (append_assoc s.held (e ∷ []) (drop (s.taken + 1) s.queue))) (p.kept d here alive);
  }
    where
      last : (i j : ℕ) (d : Entry) → i < length s.held → j < length (e ∷ []) → (get_or s.held i d).seq < (get_or (e ∷ []) j d).seq
      last i zero d within there = held_before i d within
      last i (suc j) d within there = absurd (omega (arith, there))

  taken_finished : Promises (record s { taken = s.taken + 1 }) (record past { taken = past.taken ++ e ∷ []; finished = past.finished ++ e ∷ [] })
  taken_finished = record {
    takes = takes_on;
    within = let lt = inside in omega (arith, lt);
    numbered = p.numbered;
    flags = p.flags;
    one = p.one;
    once = p.once;
    gone = p.gone;
    below = p.below;
    queued_below = p.queued_below;
    other = p.other;
    uncleaned = p.uncleaned;
    cleanups_below = p.cleanups_below;
    held = λ d. (
      λ here. let was = (p.held d).0 here in (Contains-append_left past.taken (e ∷ []) d was.0, λ f. ⊎_elim was.1 (λ (same : e ≡ d). fresh (subst (Contains past.taken) (sym same) was.0)) (Contains-push_cases past.finished e d f)),
      λ here.
          ⊎_elim (λ (old : Contains past.taken d). (p.held d).1 (old, λ f. here.1 (Contains-append_left past.finished (e ∷ []) d f))) (λ (same : e ≡ d). absurd (here.1 (subst (Contains (past.finished ++ e ∷ [])) same (Contains-push past.finished e)))) (Contains-push_cases past.taken e d here.0),
    );
    in_order = p.in_order;
    finished_taken = λ d here. ⊎_elim (λ (old : Contains past.finished d). Contains-append_left past.taken (e ∷ []) d (p.finished_taken d old)) (λ (same : e ≡ d). subst (Contains (past.taken ++ e ∷ [])) same (Contains-push past.taken e)) (Contains-push_cases past.finished e d here);
    kept = λ d here alive.
        ⊎_elim
        (λ (h : Contains s.held d). Contains-append_left s.held (drop (s.taken + 1) s.queue) d h)
        (λ (w : Contains (drop s.taken s.queue) d).
        ⊎_elim (λ (same : d ≡ e). absurd (alive (subst (Contains (past.finished ++ e ∷ [])) (sym same) (Contains-push past.finished e)))) (λ (r : Contains (drop (s.taken + 1) s.queue) d). Contains-append_right s.held (drop (s.taken + 1) s.queue) d r) (in_rest d w))
        (Contains-append_cases s.held (drop s.taken s.queue) d (p.kept d here (λ f. alive (Contains-append_left past.finished (e ∷ []) d f))));
  }
    where
      only : (d : Entry) → Contains (e ∷ []) d → d ≡ e
      only d h = let found = place_of (e ∷ []) d h in one found.0 found.1
        where
          one : (k : ℕ) → slice_get (e ∷ []) k ≡ Some d → d ≡ e
          one zero is = sym (same_Some e d is)
          one (suc k) is = absurd (none-some d is)

      in_rest : (d : Entry) → Contains (drop s.taken s.queue) d → (d ≡ e) ⊎ Contains (drop (s.taken + 1) s.queue) d
      in_rest d here =
          ⊎_elim (λ (a : Contains (e ∷ []) d). inl (only d a)) (λ (b : Contains (drop (s.taken + 1) s.queue) d). inr b)
          (Contains-append_cases (e ∷ []) (drop (s.taken + 1) s.queue) d (subst (λ es. Contains es d) waits here))

-- ---- all entries that wait are taken, one after another

abbrev nothing : List Entry
nothing = []

abbrev WithTaken : State → Past → ℕ → List Entry → List Entry → Type 0
WithTaken s past n held taken_ones = Promises (record s { taken = n; held = held }) (record past { taken = taken_ones })

with_taken : (s : State) (past : Past) (m n : ℕ) (xs ys us vs : List Entry) → m ≡ n → xs ≡ ys → us ≡ vs → WithTaken s past m xs us → WithTaken s past n ys vs
with_taken s past m n xs ys us vs count held all p =
    subst (λ k. WithTaken s past k ys vs) count (subst (λ es. WithTaken s past m es vs) held (subst (λ es. WithTaken s past m xs es) all p))

taken_each : (s : State) (past : Past) (entries : List Entry) → Promises s past → drop s.taken s.queue ≡ entries → WithTaken s past (s.taken + length entries) (s.held ++ entries) (past.taken ++ entries)
taken_each s past [] p wait = with_taken s past s.taken (s.taken + length nothing) s.held (s.held ++ []) past.taken (past.taken ++ []) (omega arith) (sym (append-nil s.held)) (sym (append-nil past.taken)) p
taken_each s past (e ∷ es) p wait =
    with_taken s past (s.taken + 1 + length es) (s.taken + length (e ∷ es)) ((s.held ++ e ∷ []) ++ es) (s.held ++ e ∷ es) ((past.taken ++ e ∷ []) ++ es) (past.taken ++ e ∷ es)
    (omega arith) (append_assoc s.held (e ∷ []) es) (append_assoc past.taken (e ∷ []) es)
    (taken_each (record s { taken = s.taken + 1; held = s.held ++ e ∷ [] }) (record past { taken = past.taken ++ e ∷ [] }) es (taken s past e p at) later)
  where
    at : slice_get s.queue s.taken ≡ Some e
    at = first_of_rest s.queue s.taken e es wait

    later : drop (s.taken + 1) s.queue ≡ es
    later = ap (λ xs. drop 1 xs) (sym (next_waits s.queue s.taken e at) ∙ wait)

taken_all : (s : State) (past : Past) → Promises s past → Promises (record s { taken = length s.queue; held = unfinished s }) (record past { taken = past.taken ++ waiting s })
taken_all s past p = subst (λ n. Promises (record s { taken = n; held = unfinished s }) (record past { taken = past.taken ++ waiting s })) count (taken_each s past (waiting s) p refl)
  where
    count : s.taken + length (drop s.taken s.queue) ≡ length s.queue
    count =
        let parts = ap length (take-append-drop s.taken s.queue) in
        let both = length-append (take s.taken s.queue) (drop s.taken s.queue) in
        let size = length-take-le s.taken s.queue p.within in
        omega (arith, parts, both, size)

-- ---- an entry is finished

-- what a test keeps is among what is left
pub kept_in : {X : Type 0} (q : X → Bool) (xs : List X) (k : ℕ) (x : X) → slice_get xs k ≡ Some x → q x ≡ true → (i : ℕ) × (slice_get (filter q xs) i ≡ Some x)
kept_in q [] k x at on = absurd (none-some x at)
kept_in q (y ∷ ys) zero x at on = (0, ap (λ b. slice_get (cond b (y ∷ filter q ys) (filter q ys)) 0) (ap q (same_Some y x at) ∙ on) ∙ at)
kept_in q (y ∷ ys) (suc k) x at on = further (q y) (kept_in q ys k x at on)
  where
    further : (b : Bool) → (i : ℕ) × (slice_get (filter q ys) i ≡ Some x) → (i : ℕ) × (slice_get (cond b (y ∷ filter q ys) (filter q ys)) i ≡ Some x)
    further true rest = (suc rest.0, rest.1)
    further false rest = rest

module _ (s : State) (past : Past) (e : Entry) (p : Promises s past) (here : list_any (same_entry e) s.held ≡ true) where
  abbrev stays : Entry → Bool
  stays d = not (same_entry e d)

  is_there : Contains s.held e
  is_there = let some = any_at (same_entry e) s.held here in subst (Contains s.held) (sym (one_entry e some.1 some.3)) (contains_at s.held some.0 some.1 some.2)

  left_held : (d : Entry) → Contains (filter stays s.held) d ↔ (Contains past.taken d × (Contains (past.finished ++ e ∷ []) d → ⊥))
  left_held d = (to, λ was. back was (same_entry e d) refl)
    where
      to : Contains (filter stays s.held) d → Contains past.taken d × (Contains (past.finished ++ e ∷ []) d → ⊥)
      to there =
          let found = place_of (filter stays s.held) d there in
          let kept = filter_at stays s.held found.0 d found.1 in
          let was = (p.held d).0 (contains_at s.held kept.0 d kept.1) in
          (was.0, λ f. ⊎_elim was.1 (λ (same : e ≡ d). true≢false (sym (same_itself e) ∙ ap (same_entry e) same ∙ not_from (same_entry e d) kept.2)) (Contains-push_cases past.finished e d f))
        where
          not_from : (b : Bool) → not b ≡ true → b ≡ false
          not_from true is = sym is
          not_from false is = refl

      back : Contains past.taken d × (Contains (past.finished ++ e ∷ []) d → ⊥) → (b : Bool) → same_entry e d ≡ b → Contains (filter stays s.held) d
      back was true is = absurd (was.1 (subst (Contains (past.finished ++ e ∷ [])) (one_entry e d is) (Contains-push past.finished e)))
      back was false is =
          let there = (p.held d).1 (was.0, λ f. was.1 (Contains-append_left past.finished (e ∷ []) d f)) in
          let found = place_of s.held d there in
          let left = kept_in stays s.held found.0 d found.1 (ap not is) in
          contains_at (filter stays s.held) left.0 d left.1

  finished : Promises (record s { held = filter stays s.held }) (record past { finished = past.finished ++ e ∷ [] })
  finished = record {
    takes = p.takes;
    within = p.within;
    numbered = p.numbered;
    flags = p.flags;
    one = p.one;
    once = p.once;
    gone = p.gone;
    below = p.below;
    queued_below = p.queued_below;
    other = p.other;
    uncleaned = p.uncleaned;
    cleanups_below = p.cleanups_below;
    held = left_held;
    in_order = AllPairs-filter (λ (d x : Entry). d.seq < x.seq) stays s.held p.in_order;
    finished_taken = λ d f. ⊎_elim (p.finished_taken d) (λ (same : e ≡ d). subst (Contains past.taken) same ((p.held e).0 is_there).0) (Contains-push_cases past.finished e d f);
    kept = λ d queued alive.
        ⊎_elim
        (λ (h : Contains s.held d). Contains-append_left (filter stays s.held) (drop s.taken s.queue) d ((left_held d).1 (((p.held d).0 h).0, alive)))
        (λ (w : Contains (drop s.taken s.queue) d). Contains-append_right (filter stays s.held) (drop s.taken s.queue) d w)
        (Contains-append_cases s.held (drop s.taken s.queue) d (p.kept d queued (λ f. alive (Contains-append_left past.finished (e ∷ []) d f))));
  }

-- ---- each event

step : (old now : State) (past : Past) (event : Event) → Promises old past → Follows old event now → Promises now (with_event past event)
step old now past (Register object finalizer) p does = subst (λ s. Promises s (record past { made = past.made ++ (object, Registered finalizer) ∷ [] })) (sym does) (remade old past object finalizer p)
step old now past (AddCleanup object cleanup) p does = subst (λ s. Promises s (record past { made = past.made ++ (object, Attached cleanup) ∷ [] })) (sym does) (added old past object cleanup p)
step old now past (Cancel number) p does = subst (λ s. Promises s past) (sym does) (cancelled old past number p)
step old now past (Clean pass is_due) p does = subst (λ s. Promises s past) (sym does.2) (cleaned pass old past p does.0 (λ k d within. (does.1.each k d within).0) does.1.ordered)
step old now past (Unregister object) p does = subst (λ s. Promises s past) (sym does) (unregistered old past object p)
step old now past (Link kind word target) p does = subst (λ s. Promises s past) (sym does) (linked old past kind _ p)
step old now past (Unlink kind word) p does = subst (λ s. Promises s past) (sym does) (linked old past kind _ p)
step old now past (Move kind word to) p does = subst (λ s. Promises s past) (sym does) (linked old past kind _ p)
step old now past (Ephemeron kind word key) p does = subst (λ s. Promises s past) (sym does) (keyed old past _ p)
step old now past (EndEphemeron word) p does = subst (λ s. Promises s past) (sym does) (keyed old past _ p)
step old now past (MoveEphemeron word to) p does = subst (λ s. Promises s past) (sym does) (keyed old past _ p)
step old now past Pass p does = come _ old now past p does.0
step old now past Begin p does = subst (λ s. Promises s past) (sym does) (begun old past _ p)
step old now past (Queue object) p does = come _ old now past p (queued_queues old now object does)
step old now past (QueueCleanup number) p does = subst (λ s. Promises s past) (sym does) (one_cleaned old past number p)
step old now past QueueAll p does = come _ old now past p does.0
step old now past (Take entry) p does = subst (λ s. Promises s (record past { taken = past.taken ++ entry ∷ [] })) (sym does.1) (taken old past entry p does.0)
step old now past (TakeFinished entry) p does =
    subst (λ s. Promises s (record past { taken = past.taken ++ entry ∷ []; finished = past.finished ++ entry ∷ [] })) (sym does.1) (taken_finished old past entry p does.0)
step old now past (TakeAll entries) p does =
    subst (λ s. Promises s (record past { taken = past.taken ++ entries })) (sym does.1) (subst (λ es. Promises (record old { taken = length old.queue; held = unfinished old }) (record past { taken = past.taken ++ es })) (sym does.0) (taken_all old past p))
step old now past (Finish entry) p does = subst (λ s. Promises s (record past { finished = past.finished ++ entry ∷ [] })) (sym does.1) (finished old past entry p does.0)

pub promised : (s : State) (past : Past) → IsReached s past → Promises s past
promised s past Opened = opened
promised s past (Then {old = old} {new = now} {past = before_it} event reached does) = step old now before_it event (promised old before_it reached) does
