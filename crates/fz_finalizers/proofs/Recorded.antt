-- A number identifies what was registered under it.
use Rattle.std.proofs.Common.{◌≡◌, ◌≢◌, ℕ, zero, suc, ◌+◌, false, cond, nat_cmp, List, [], ◌∷◌, ◌++◌, length, length-append, map, option_map, Option, None, Some, slice_get, get_or, All, Contains, refl, sym, ap, subst, ◌∙◌, ⊎_elim, arith}
use Rattle.std.proofs.lemmas.Bool.{cases_eq, eq-eqb, ne_eqb}
use Rattle.std.proofs.lemmas.Option.{same_Some, none-some, slice_get-get_or, slice_get_within, get_or_from_slice_get}
use Rattle.std.proofs.lemmas.List.Elements.{Contains-append_cases}
use Rattle.std.specs.Option.{option_map_or}
use Rattle.std.specs.FinMap.{get, insert, remove, get-empty}
use Rattle.std.specs.FinSet.{contains}
use Rattle.std.specs.FinSet as sets
use Rattle.fz_model.specs.declared.answers.Entry.{Entry}
use Rattle.fz_model.specs.declared.answers.Pick.{Pick}
use Rattle.fz_model.specs.declared.answers.Registration.{Registration}
use Rattle.fz_model.specs.declared.kinds.LinkKind.{LinkKind}
use Rattle.fz_model.specs.declared.kinds.LinkKind.TheVariants.{Short, Long}
use Rattle.fz_model.specs.Pass.{entries_of}
use Rattle.fz_model.specs.State.{Map}
use Rattle.fz_model.specs.Steps.{registration_of}
use Rattle.fz_model.proofs.Lists.{slice_get-left, slice_get-right, place_of, map_at}
use Rattle.fz_model.proofs.Maps.{get-insert_same, get-insert_other, get-remove_same, get-remove_other}
use Rattle.fz_table.specs.Tabled.{Set}
use Rattle.fz_table.proofs.Flagged.{with_flag_at}
use Rattle.fz_pass.proofs.Picked.{flags_other}
use Rattle.fz_pass.specs.Holds.{Ephemerons}
use Rattle.fz_finalizers.specs.declared.kinds.Kind.{Kind}
use Rattle.fz_finalizers.specs.declared.kinds.Kind.TheVariants.{Normal, IgnoreSelf, NoOrder, Unreachable}
use Rattle.fz_finalizers.specs.declared.kinds.Finalizer.{Finalizer}
use Rattle.fz_finalizers.specs.Kinds.{is_late, table_kind, of_table, table_finalizer}
use Rattle.fz_finalizers.specs.States.{State, opening, with_links, kind_at}
use Rattle.fz_finalizers.specs.Follows.{Event, Follows, Queues, IsOf, with_registration, without_registration, with_cleanup, without_cleanup, queued_attached, queued_cleanup, Register, Unregister, Link, Unlink, Move, Ephemeron, EndEphemeron, MoveEphemeron, AddCleanup, Cancel, Clean, Pass, Begin, Queue, QueueCleanup, QueueAll, Take, TakeFinished, TakeAll, Finish}
use Rattle.fz_finalizers.specs.declared.cleanups.Attached as cleanups
use Rattle.fz_finalizers.specs.declared.cleanups.Cleanup.{Cleanup}
use Rattle.fz_finalizers.specs.Cleanups.{pick_of, without}
use Rattle.fz_finalizers.proofs.Cleaned.{one_there, without_back}
use Rattle.fz_finalizers.specs.Promises.{Past, Made, Registered, Attached, IsEntryOf, with_event, IsReached, Opened, Then, Records}
use Rattle.fz_finalizers.proofs.Queueing as queueing
use Rattle.fz_finalizers.proofs.OneQueued.{queued_queues}

-- what an entry of a queue has
pub entry_has : (pass seq : ℕ) (picks : List Pick) (k : ℕ) (e : Entry) → slice_get (entries_of pass seq picks) k ≡ Some e
    → (p : Pick) × (slice_get picks k ≡ Some p) × (e.reg ≡ p.reg) × (e.obj ≡ p.obj) × (e.proc ≡ p.proc) × (e.cd ≡ p.cd) × (e.pass ≡ pass) × (e.birth ≡ p.birth)
entry_has pass seq [] k e is = absurd (none-some e is)
entry_has pass seq (p ∷ ps) zero e is =
    let same = sym (same_Some _ e is) in (
      p,
      refl,
      ap (λ (e : Entry). e.reg) same,
      ap (λ (e : Entry). e.obj) same,
      ap (λ (e : Entry). e.proc) same,
      ap (λ (e : Entry). e.cd) same,
      ap (λ (e : Entry). e.pass) same,
      ap (λ (e : Entry). e.birth) same,
    )
entry_has pass seq (p ∷ ps) (suc k) e is = entry_has pass (seq + 1) ps k e is

-- ---- kinds

kind_back : (k : Kind) → of_table (is_late k) (table_kind k) ≡ k
kind_back Normal = refl
kind_back IgnoreSelf = refl
kind_back NoOrder = refl
kind_back Unreachable = refl

kind_is : (s : State) (object : ℕ) (r : Registration) → get s.registrations object ≡ Some r → kind_at s object ≡ Some (of_table (contains s.late object) r.kind)
kind_is s object r here = ap (option_map (λ (q : Registration). of_table (contains s.late object) q.kind)) here

same_kind : (s t : State) (object : ℕ) (r : Registration) → get s.registrations object ≡ Some r → get t.registrations object ≡ Some r → contains t.late object ≡ contains s.late object → kind_at t object ≡ kind_at s object
same_kind s t object r here there same = kind_is t object r there ∙ ap (λ b. Some (of_table b r.kind)) same ∙ sym (kind_is s object r here)

-- ---- the opening

opened : Records opening (record { made = []; taken = []; finished = [] })
opened = record {
  numbers = refl;
  registered = λ a r here. absurd (none-some r (sym (get-empty nat_cmp a) ∙ here));
  attached = λ n c here. absurd (none-some c (sym (get-empty nat_cmp n) ∙ here));
  queued = λ e here. let at = place_of [] e here in absurd (none-some e at.1);
}

-- ---- what is registered and queued stays

beside : (s : State) (past : Past) (short long : Map ℕ) (ephemerons : Ephemerons) (passes : ℕ) → Records s past → Records (record s { short = short; long = long; ephemerons = ephemerons; passes = passes }) past
beside s past short long ephemerons passes p = record { numbers = p.numbers; registered = p.registered; attached = p.attached; queued = p.queued }

linked : (s : State) (past : Past) (kind : LinkKind) (links : Map ℕ) → Records s past → Records (with_links s kind links) past
linked s past Short links = beside s past links s.long s.ephemerons s.passes
linked s past Long links = beside s past s.short links s.ephemerons s.passes

keyed : (s : State) (past : Past) (ephemerons : Ephemerons) → Records s past → Records (record s { ephemerons = ephemerons }) past
keyed s past ephemerons = beside s past s.short s.long ephemerons s.passes

spent : (s : State) (past : Past) (count : ℕ) (held took ended : List Entry) → Records s past → Records (record s { taken = count; held = held }) (record past { taken = took; finished = ended })
spent s past count held took ended p = record { numbers = p.numbers; registered = p.registered; attached = p.attached; queued = p.queued }

-- ---- a registration goes

removed : (s : State) (past : Past) (object : ℕ) → Records s past → Records (without_registration s object) past
removed s past object p = record {
  numbers = p.numbers;
  registered = λ a r here.
      let other : a ≢ object = λ same. none-some r (sym (ap (get (remove s.registrations object)) same ∙ get-remove_same s.registrations object) ∙ here) in
      let was : get s.registrations a ≡ Some r = sym (get-remove_other s.registrations object a other) ∙ here in
      let of = p.registered a r was in
      let flag : contains (sets.remove s.late object) a ≡ contains s.late a =
      with_flag_at s.late object false a ∙ ap (λ b. cond b false (contains s.late a)) (ne_eqb object a (λ same. other (sym same))) in
      (of.0, of.1, same_kind s (without_registration s object) a r was here flag ∙ of.2, of.3, of.4, of.5);
  attached = p.attached;
  queued = p.queued;
}

-- ---- a registration comes

module _ (s : State) (past : Past) (object : ℕ) (f : Finalizer) (p : Records s past) where
  abbrev r : Registration
  r = registration_of s.next_number (table_finalizer f)

  abbrev table : Map Registration
  table = insert s.registrations object r

  abbrev late : Set
  late = (with_registration s object f).late

  abbrev made : List (ℕ × Made)
  made = past.made ++ (object, Registered f) ∷ []

  last : slice_get made s.next_number ≡ Some (object, Registered f)
  last =
      let count = p.numbers in
      let place : s.next_number ≡ length past.made + 0 = omega (arith, count) in
      ap (slice_get made) place ∙ slice_get-right past.made ((object, Registered f) ∷ []) 0

  abbrev IsMade : ℕ → Registration → Type 0
  IsMade a q = (g : Finalizer) × (slice_get made q.number ≡ Some (a, Registered g)) × (kind_at (with_registration s object f) a ≡ Some g.kind) × (q.proc ≡ g.procedure) × (q.cd ≡ g.client_data) × (q.rank ≡ g.rank)

  new_one : (a : ℕ) (q : Registration) → get table a ≡ Some q → a ≡ object → IsMade a q
  new_one a q here is =
      let same : q ≡ r = same_Some q r (sym here ∙ ap (get table) is ∙ get-insert_same s.registrations object r) in
      let flag : contains late a ≡ is_late f.kind = with_flag_at s.late object (is_late f.kind) a ∙ ap (λ b. cond b (is_late f.kind) (contains s.late a)) (eq-eqb object a (sym is)) in
      let kind : kind_at (with_registration s object f) a ≡ Some f.kind =
      kind_is (with_registration s object f) a q here
      ∙ ap (λ b. Some (of_table b q.kind)) flag
      ∙ ap (λ (t : Registration). Some (of_table (is_late f.kind) t.kind)) same
      ∙ ap Some (kind_back f.kind) in (
        f,
        ap (λ (t : Registration). slice_get made t.number) same ∙ last ∙ ap (λ (a : ℕ). Some (a, Registered f)) (sym is),
        kind,
        ap (λ (t : Registration). t.proc) same,
        ap (λ (t : Registration). t.cd) same,
        ap (λ (t : Registration). t.rank) same,
      )

  old_one : (a : ℕ) (q : Registration) → get table a ≡ Some q → a ≢ object → IsMade a q
  old_one a q here other =
      let was : get s.registrations a ≡ Some q = sym (get-insert_other s.registrations object r a other) ∙ here in
      let of = p.registered a q was in
      let flag : contains late a ≡ contains s.late a = with_flag_at s.late object (is_late f.kind) a ∙ ap (λ b. cond b (is_late f.kind) (contains s.late a)) (ne_eqb object a (λ same. other (sym same))) in
      (of.0, slice_get-left past.made ((object, Registered f) ∷ []) q.number (a, Registered of.0) of.1, same_kind s (with_registration s object f) a q was here flag ∙ of.2, of.3, of.4, of.5)

  entered : Records (with_registration s object f) (record past { made = made })
  entered = record {
    numbers = let count = p.numbers in let more = length-append past.made ((object, Registered f) ∷ []) in omega (arith, count, more);
    registered = λ a q here. ⊎_elim (new_one a q here) (old_one a q here) (cases_eq a object);
    attached = λ n c here. slice_get-left past.made ((object, Registered f) ∷ []) n (c.object, Attached c.cleanup) (p.attached n c here);
    queued = λ e here. let of = p.queued e here in (of.0, slice_get-left past.made ((object, Registered f) ∷ []) e.reg of.0 of.1, of.2);
  }

-- ---- entries come

module _ (pass : ℕ) (s t : State) (past : Past) (p : Records s past) (queues : Queues pass s t) where
  abbrev picks : List Pick
  picks = queues.picks

  abbrev entries : List Entry
  entries = entries_of pass (length s.queue) picks

  fresh : (e : Entry) → Contains entries e → (made : ℕ × Made) × (slice_get past.made e.reg ≡ Some made) × IsEntryOf made e
  fresh e here =
      let at = place_of entries e here in
      let has = entry_has pass (length s.queue) picks at.0 e at.1 in
      let q = has.0 in
      let of = subst (IsOf s.registrations) (get_or_from_slice_get picks at.0 q q has.1) (queues.picked.each at.0 q (slice_get_within picks at.0 q has.1)) in
      let was = p.registered q.obj of.0 of.1 in (
        (q.obj, Registered was.0),
        ap (slice_get past.made) (has.2 ∙ of.2) ∙ was.1,
        (has.3, has.4 ∙ of.3 ∙ was.3, has.5 ∙ of.4 ∙ was.4),
      )

  come : Records t past
  come = record {
    numbers = queues.next_number ∙ p.numbers;
    registered = λ a r here.
        let was = queueing.still_registered pass s t queues a r here in
        let of = p.registered a r was.0 in
        let apart : All (λ (q : Pick). q.obj ≢ a) picks = λ k d within same. was.1 k (get_or picks k d) (slice_get-get_or picks k d within) (sym same) in
        let flag : contains t.late a ≡ contains s.late a = ap (λ (l : Set). contains l a) queues.left_late ∙ flags_other s.late picks a apart in
        (of.0, of.1, same_kind s t a r was.0 here flag ∙ of.2, of.3, of.4, of.5);
    attached = λ n c here. p.attached n c (ap (λ (m : Map cleanups.Attached). get m n) (sym queues.cleanups) ∙ here);
    queued = λ e here. ⊎_elim (p.queued e) (fresh e) (Contains-append_cases s.queue entries e (subst (λ es. Contains es e) queues.queue here));
  }

-- ---- a cleanup comes, is cancelled, or is queued

cancelled : (s : State) (past : Past) (number : ℕ) → Records s past → Records (without_cleanup s number) past
cancelled s past number p = record {
  numbers = p.numbers;
  registered = p.registered;
  attached = λ n c here.
      let other : n ≢ number = λ same. none-some c (sym (ap (get (remove s.cleanups number)) same ∙ get-remove_same s.cleanups number) ∙ here) in
      p.attached n c (sym (get-remove_other s.cleanups number n other) ∙ here);
  queued = p.queued;
}

module _ (s : State) (past : Past) (object : ℕ) (cleanup : Cleanup) (p : Records s past) where
  abbrev one : ℕ × Made
  one = (object, Attached cleanup)

  abbrev attached : cleanups.Attached
  attached = record { object = object; cleanup = cleanup }

  new_cleanup : (n : ℕ) (c : cleanups.Attached) → get (insert s.cleanups s.next_number attached) n ≡ Some c → n ≡ s.next_number → slice_get (past.made ++ one ∷ []) n ≡ Some (c.object, Attached c.cleanup)
  new_cleanup n c here is =
      let same : attached ≡ c = same_Some attached c (sym (get-insert_same s.cleanups s.next_number attached) ∙ ap (get (insert s.cleanups s.next_number attached)) (sym is) ∙ here) in
      let count = p.numbers in
      let place : n ≡ length past.made + 0 = omega (arith, count, is) in
      ap (slice_get (past.made ++ one ∷ [])) place ∙ slice_get-right past.made (one ∷ []) 0 ∙ ap (λ (a : cleanups.Attached). Some (a.object, Attached a.cleanup)) same

  old_cleanup : (n : ℕ) (c : cleanups.Attached) → get (insert s.cleanups s.next_number attached) n ≡ Some c → n ≢ s.next_number → slice_get (past.made ++ one ∷ []) n ≡ Some (c.object, Attached c.cleanup)
  old_cleanup n c here other = slice_get-left past.made (one ∷ []) n (c.object, Attached c.cleanup) (p.attached n c (sym (get-insert_other s.cleanups s.next_number attached n other) ∙ here))

  added : Records (with_cleanup s object cleanup) (record past { made = past.made ++ one ∷ [] })
  added = record {
    numbers = let count = p.numbers in let more = length-append past.made (one ∷ []) in omega (arith, count, more);
    registered = λ a r here. let of = p.registered a r here in (of.0, slice_get-left past.made (one ∷ []) r.number (a, Registered of.0) of.1, of.2, of.3, of.4, of.5);
    attached = λ n c here. ⊎_elim (new_cleanup n c here) (old_cleanup n c here) (cases_eq n s.next_number);
    queued = λ e here. let of = p.queued e here in (of.0, slice_get-left past.made (one ∷ []) e.reg of.0 of.1, of.2);
  }

module _ (pass : ℕ) (s : State) (past : Past) (p : Records s past) (due : List (ℕ × cleanups.Attached)) (each : All (λ (x : ℕ × cleanups.Attached). get s.cleanups x.0 ≡ Some x.1) due) where
  abbrev clean_entries : List Entry
  clean_entries = entries_of pass (length s.queue) (map pick_of due)

  clean_fresh : (e : Entry) → Contains clean_entries e → (made : ℕ × Made) × (slice_get past.made e.reg ≡ Some made) × IsEntryOf made e
  clean_fresh e here =
      let at = place_of clean_entries e here in
      let has = entry_has pass (length s.queue) (map pick_of due) at.0 e at.1 in
      let from = map_at pick_of due at.0 has.0 has.1 in
      let x = from.0 in
      let there = subst (λ (y : ℕ × cleanups.Attached). get s.cleanups y.0 ≡ Some y.1) (get_or_from_slice_get due at.0 x x from.1) (each at.0 x (slice_get_within due at.0 x from.1)) in
      let pick = sym from.2 in (
        (x.1.object, Attached x.1.cleanup),
        ap (slice_get past.made) (has.2 ∙ ap (λ (q : Pick). q.reg) pick) ∙ p.attached x.0 x.1 there,
        (has.3 ∙ ap (λ (q : Pick). q.obj) pick, has.7 ∙ ap (λ (q : Pick). q.birth) pick, has.4 ∙ ap (λ (q : Pick). q.proc) pick, has.5 ∙ ap (λ (q : Pick). q.cd) pick),
      )

  cleaned : Records (record s { queue = s.queue ++ clean_entries; cleanups = without s.cleanups due }) past
  cleaned = record {
    numbers = p.numbers;
    registered = p.registered;
    attached = λ n c here. p.attached n c (without_back s.cleanups due n c here).0;
    queued = λ e here. ⊎_elim (p.queued e) (clean_fresh e) (Contains-append_cases s.queue clean_entries e here);
  }

-- one is queued by itself
one_cleaned : (s : State) (past : Past) (number : ℕ) → Records s past → Records (queued_cleanup s number) past
one_cleaned s past number p = by (get s.cleanups number) refl
  where
    by : (o : Option cleanups.Attached) → get s.cleanups number ≡ o → Records (option_map_or (queued_attached s number) o s) past
    by None none = p
    by (Some c) here = cleaned s.passes s past p ((number, c) ∷ []) (one_there s.cleanups number c here)

-- ---- each event

step : (old now : State) (past : Past) (event : Event) → Records old past → Follows old event now → Records now (with_event past event)
step old now past (Register object finalizer) p does = subst (λ s. Records s (record past { made = past.made ++ (object, Registered finalizer) ∷ [] })) (sym does) (entered old past object finalizer p)
step old now past (AddCleanup object cleanup) p does = subst (λ s. Records s (record past { made = past.made ++ (object, Attached cleanup) ∷ [] })) (sym does) (added old past object cleanup p)
step old now past (Cancel number) p does = subst (λ s. Records s past) (sym does) (cancelled old past number p)
step old now past (Clean pass is_due) p does = subst (λ s. Records s past) (sym does.2) (cleaned pass old past p does.0 (λ k d within. (does.1.each k d within).0))
step old now past (Unregister object) p does = subst (λ s. Records s past) (sym does) (removed old past object p)
step old now past (Link kind word target) p does = subst (λ s. Records s past) (sym does) (linked old past kind _ p)
step old now past (Unlink kind word) p does = subst (λ s. Records s past) (sym does) (linked old past kind _ p)
step old now past (Move kind word to) p does = subst (λ s. Records s past) (sym does) (linked old past kind _ p)
step old now past (Ephemeron kind word key) p does = subst (λ s. Records s past) (sym does) (keyed old past _ p)
step old now past (EndEphemeron word) p does = subst (λ s. Records s past) (sym does) (keyed old past _ p)
step old now past (MoveEphemeron word to) p does = subst (λ s. Records s past) (sym does) (keyed old past _ p)
step old now past Pass p does = come _ old now past p does.0
step old now past Begin p does = subst (λ s. Records s past) (sym does) (beside old past old.short old.long old.ephemerons _ p)
step old now past (Queue object) p does = come _ old now past p (queued_queues old now object does)
step old now past (QueueCleanup number) p does = subst (λ s. Records s past) (sym does) (one_cleaned old past number p)
step old now past QueueAll p does = come _ old now past p does.0
step old now past (Take entry) p does = subst (λ s. Records s (record past { taken = past.taken ++ entry ∷ [] })) (sym does.1) (spent old past _ _ _ past.finished p)
step old now past (TakeFinished entry) p does = subst (λ s. Records s (record past { taken = past.taken ++ entry ∷ []; finished = past.finished ++ entry ∷ [] })) (sym does.1) (spent old past _ old.held _ _ p)
step old now past (TakeAll entries) p does = subst (λ s. Records s (record past { taken = past.taken ++ entries })) (sym does.1) (spent old past _ _ _ past.finished p)
step old now past (Finish entry) p does = subst (λ s. Records s (record past { finished = past.finished ++ entry ∷ [] })) (sym does.1) (spent old past old.taken _ past.taken _ p)

pub recorded : (s : State) (past : Past) → IsReached s past → Records s past
recorded s past Opened = opened
recorded s past (Then {old = old} {new = now} {past = before_it} event reached does) = step old now before_it event (recorded old before_it reached) does
