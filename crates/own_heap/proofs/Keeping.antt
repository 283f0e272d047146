-- What is registered stays there.
use Rattle.std.proofs.Common.{◌≡◌, ◌≢◌, ℕ, ◌+◌, ◌<◌, length, map, set, get_or, Result, Ok, Err, OnOk, OnErr, MatchOption, get_or-set_same, get_or-set_other, ◌&&◌, not, Bool, true, false, cond, List, Option, Some, None, is_some, option_map, refl, sym, ap, ◌∙◌, subst, ⊎_elim, IsTrue, arith, ◌∷◌, [], Contains, ◌++◌, ◌⊎◌, inl, inr, append_assoc, drop, take, filter, slice_get, zero, suc}
use Rattle.std.proofs.lemmas.Bool.{both_ways, cases_eq, and_parts, and_from}
use Rattle.std.proofs.lemmas.Option.{same_Some, none-some}
use Rattle.std.specs.Option.{option_map_or}
use Rattle.std.specs.FinMap.{get, insert, remove, contains_key, get-empty}
use Rattle.std.specs.Ordering.{nat_cmp}
use Rattle.fz_model.specs.declared.answers.Registration.{Registration}
use Rattle.fz_model.specs.State.{Map, Object}
use Rattle.fz_model.specs.Pass.{cleared}
use Rattle.fz_model.proofs.Maps.{get-insert_same, get-insert_other, get-remove_same, get-remove_other, get-retain, retained_back}
use Rattle.fz_model.proofs.Sound.{left_back}
use Rattle.fz_pass.specs.Decides.{Parts}
use Rattle.fz_pass.specs.Holds.{Ephemerons, Member}
use Rattle.fz_pass.specs.Keyed.{has_ephemeron}
use Rattle.fz_pass.specs.Whole.{DecidesWhole, IsPickedThen, objects_judged}
use Rattle.fz_pass.proofs.Filling.{has_filled}
use Rattle.fz_pass.specs.Marks.{AreRegistered, AreTargets}
use Rattle.fz_pass.specs.Places.{placed, is_held, links_held}
use Rattle.own_heap.specs.declared.heap.Heap.{Heap}
use Rattle.own_heap.specs.declared.record.Record.{Record}
use Rattle.own_heap.specs.declared.record.RecordId.{RecordId}
use Rattle.own_heap.specs.Records.{address_of, place_of, object_of, objects_of, slot, IsMade}
use Rattle.own_heap.specs.Sound.{IsSound}
use Rattle.own_heap.proofs.Slots.{object_in, get-objects, slot_at, place_of-address, slice_low}
use Rattle.own_heap.proofs.References.{made_is_inserted}
use Rattle.fz_model.specs.declared.answers.Entry.{Entry}
use Rattle.fz_model.specs.declared.kinds.LinkKind.{LinkKind}
use Rattle.fz_model.specs.declared.kinds.LinkKind.TheVariants.{Short, Long}
use Rattle.fz_model.specs.Steps.{moved_to, registration_of}
use Rattle.fz_model.specs.Pass.{is_dead}
use Rattle.fz_finalizers.specs.declared.kinds.Finalizer.{Finalizer}
use Rattle.fz_finalizers.specs.Kinds.{table_finalizer}
use Rattle.fz_finalizers.specs.States.{State, opening, links_of, unfinished, waiting, with_links}
use Rattle.fz_finalizers.specs.declared.cleanups.Attached.{Attached}
use Rattle.fz_finalizers.specs.declared.cleanups.Cleanup.{Cleanup}
use Rattle.fz_finalizers.specs.Cleanups as cleanups
use Rattle.fz_finalizers.specs.Follows.{Cleans, Follows, Register, Unregister, Link, Unlink, Move, Ephemeron, EndEphemeron, MoveEphemeron, Take, Finish, AddCleanup, Cancel, with_registration, without_registration, with_cleanup, without_cleanup}
use Rattle.fz_model.specs.declared.answers.Pick.{Pick}
use Rattle.fz_model.specs.Pass.{entries_of}
use Rattle.std.proofs.lemmas.List.Elements.{All-contains, Contains-append_cases, Contains-append_left, Contains-append_right}
use Rattle.std.proofs.lemmas.List.{take-append-drop}
use Rattle.fz_model.proofs.Lists as lists
use Rattle.fz_model.proofs.Lists.{filter_at, contains_at}
use Rattle.fz_model.specs.Events.{same_entry}
use Rattle.fz_finalizers.proofs.Taking.{next_waits}

-- the objects of one map are in the other
abbrev pub AreKept : Map Object → Map Object → Type 0
AreKept old new = (a : ℕ) → IsTrue (contains_key old a) → IsTrue (contains_key new a)

module _ (objects : Map Object) where
  -- one more is registered, or linked
  pub registered_more : (m : Map Registration) (o : ℕ) (r : Registration) → IsTrue (contains_key objects o) → AreRegistered objects m → AreRegistered objects (insert m o r)
  registered_more m o r here all a x is =
      ⊎_elim (λ same. subst (λ b. IsTrue (contains_key objects b)) (sym same) here) (λ far. all a x (sym (get-insert_other m o r a far) ∙ is)) (cases_eq a o)

  pub targets_more : (m : Map ℕ) (word target : ℕ) → IsTrue (contains_key objects target) → AreTargets objects m → AreTargets objects (insert m word target)
  targets_more m word target here all link x is =
      ⊎_elim (λ same. subst (λ b. IsTrue (contains_key objects b)) (same_Some target x (sym (get-insert_same m word target) ∙ ap (get (insert m word target)) (sym same) ∙ is)) here)
      (λ far. all link x (sym (get-insert_other m word target link far) ∙ is)) (cases_eq link word)

  -- one less
  removed_back : {X : Type 0} (m : Map X) (k a : ℕ) (x : X) → get (remove m k) a ≡ Some x → get m a ≡ Some x
  removed_back m k a x is =
      ⊎_elim (λ same. absurd (none-some x (sym (ap (get (remove m k)) same ∙ get-remove_same m k) ∙ is))) (λ far. sym (get-remove_other m k a far) ∙ is) (cases_eq a k)

  pub registered_less : (m : Map Registration) (o : ℕ) → AreRegistered objects m → AreRegistered objects (remove m o)
  registered_less m o all a r is = all a r (removed_back m o a r is)

  pub targets_less : (m : Map ℕ) (word : ℕ) → AreTargets objects m → AreTargets objects (remove m word)
  targets_less m word all link x is = all link x (removed_back m word link x is)

  pub targets_moved : (m : Map ℕ) (word to : ℕ) → AreTargets objects m → AreTargets objects (moved_to m word to (get m word))
  targets_moved m word to all = at (get m word) refl
    where
      by : (target : ℕ) → get m word ≡ Some target → (b : Bool) → AreTargets objects (cond b m (insert (remove m word) to target))
      by target here true = all
      by target here false = targets_more (remove m word) to target (all word target here) (targets_less m word all)

      at : (o : Option ℕ) → get m word ≡ o → AreTargets objects (moved_to m word to o)
      at None here = all
      at (Some target) here = by target here (contains_key m to)

-- ---- other objects

pub sound_kept : (old new : Map Object) (s : State) → AreKept old new → IsSound old s → IsSound new s
sound_kept old new s kept sound = record {
  registered = λ a r is. kept a (sound.registered a r is);
  short = λ link target is. kept target (sound.short link target is);
  long = λ link target is. kept target (sound.long link target is);
  short_keys = λ word key is. kept key (sound.short_keys word key is);
  long_keys = λ word key is. kept key (sound.long_keys word key is);
  held = λ e here some. kept e.obj (sound.held e here some);
}

insert_keeps : (m : Map Object) (k : ℕ) (o : Object) → AreKept m (insert m k o)
insert_keeps m k o a here = ⊎_elim (λ same. ap is_some (ap (get (insert m k o)) same ∙ get-insert_same m k o)) (λ far. ap is_some (get-insert_other m k o a far) ∙ here) (cases_eq a k)

pub make_keeps : (old new : Heap) (made : Record) (id : Option RecordId) → MatchOption id (new ≡ old) (λ id. IsMade old.records.slots.items new.records.slots.items id made) → AreKept (objects_of old.records.slots.items) (objects_of new.records.slots.items)
make_keeps old new made None same a here = subst (λ (h : Heap). IsTrue (contains_key (objects_of h.records.slots.items) a)) (sym same) here
make_keeps old new made (Some id) is a here =
    subst (λ m. IsTrue (contains_key m a)) (sym (made_is_inserted old.records.slots.items new.records.slots.items id made is)) (insert_keeps (objects_of old.records.slots.items) (address_of id.place) (object_of made) a here)

pub set_keeps : (slots : List (Option Record)) (place : ℕ) (f : Record → Record) → AreKept (objects_of slots) (objects_of (set slots place (option_map f (slot slots place))))
set_keeps slots place f a here = ap is_some (get-objects new a) ∙ at (place_of a) refl (sym (ap is_some (get-objects slots a)) ∙ here)
  where
    new : List (Option Record)
    new = set slots place (option_map f (slot slots place))

    written : (i : ℕ) (s : Option Record) → i ≡ place → get_or slots i None ≡ s → IsTrue (is_some (option_map object_of s)) → IsTrue (is_some (option_map object_of (get_or new i None)))
    written i None same is h = absurd (both_ways false refl h)
    written i (Some r) same is h =
        let low : place < length slots = subst (λ k. k < length slots) same (slice_low slots i r is) in
        ap (λ s. is_some (option_map object_of s)) (ap (λ k. get_or new k None) same ∙ get_or-set_same slots place (option_map f (slot slots place)) None low ∙ ap (option_map f) (ap (slot slots) (sym same) ∙ is))

    at : (p : Option ℕ) → place_of a ≡ p → IsTrue (is_some (object_in slots p)) → IsTrue (is_some (object_in new p))
    at None is h = h
    at (Some i) is h =
        ⊎_elim (λ same. written i (get_or slots i None) same refl h) (λ far. ap (λ s. is_some (option_map object_of s)) (get_or-set_other slots place i (option_map f (slot slots place)) None far) ∙ h) (cases_eq i place)

-- a record that is there is an object
pub stands_object : (slots : List (Option Record)) (place : ℕ) → IsTrue (is_some (slot slots place)) → IsTrue (contains_key (objects_of slots) (address_of place))
stands_object slots place here = at (slot slots place) refl here
  where
    at : (s : Option Record) → slot slots place ≡ s → IsTrue (is_some s) → IsTrue (contains_key (objects_of slots) (address_of place))
    at None is h = absurd (both_ways false refl h)
    at (Some r) is h = ap is_some (slot_at slots (address_of place) place (Some r) (place_of-address place) is)

-- ---- what calls do

pub sound_opening : (objects : Map Object) → IsSound objects opening
sound_opening objects = record {
  registered = λ a r is. absurd (none-some r (sym (get-empty nat_cmp a) ∙ is));
  short = λ a r is. absurd (none-some r (sym (get-empty nat_cmp a) ∙ is));
  long = λ a r is. absurd (none-some r (sym (get-empty nat_cmp a) ∙ is));
  short_keys = λ a r is. absurd (none-some r (sym (get-empty nat_cmp a) ∙ is));
  long_keys = λ a r is. absurd (none-some r (sym (get-empty nat_cmp a) ∙ is));
  held = λ e within some. absurd (omega (arith, within.1));
}

with_registration_sound : (objects : Map Object) (s : State) (o : ℕ) (f : Finalizer) → IsTrue (contains_key objects o) → IsSound objects s → IsSound objects (with_registration s o f)
with_registration_sound objects s o f here sound =
    record { registered = registered_more objects s.registrations o (registration_of s.next_number (table_finalizer f)) here sound.registered; short = sound.short; long = sound.long; short_keys = sound.short_keys; long_keys = sound.long_keys; held = sound.held }

pub register_sound : {A E : Type 0} (objects : Map Object) (old new : State) (o : ℕ) (f : Finalizer) (r : Result A E) → OnErr r (new ≡ old) → OnOk r (Follows old (Register o f) new) → IsTrue (contains_key objects o) → IsSound objects old → IsSound objects new
register_sound objects old new o f (Ok x) refused follows here sound = subst (IsSound objects) (sym follows) (with_registration_sound objects old o f here sound)
register_sound objects old new o f (Err e) refused follows here sound = subst (IsSound objects) (sym refused) sound

with_links_sound : (objects : Map Object) (s : State) (kind : LinkKind) (links : Map ℕ) → AreTargets objects links → IsSound objects s → IsSound objects (with_links s kind links)
with_links_sound objects s Short links are sound = record { registered = sound.registered; short = are; long = sound.long; short_keys = sound.short_keys; long_keys = sound.long_keys; held = sound.held }
with_links_sound objects s Long links are sound = record { registered = sound.registered; short = sound.short; long = are; short_keys = sound.short_keys; long_keys = sound.long_keys; held = sound.held }

targets_of : (objects : Map Object) (s : State) (kind : LinkKind) → IsSound objects s → AreTargets objects (links_of s kind)
targets_of objects s Short sound = sound.short
targets_of objects s Long sound = sound.long

pub link_sound : {A E : Type 0} (objects : Map Object) (old new : State) (kind : LinkKind) (word target : ℕ) (r : Result A E) → OnErr r (new ≡ old) → OnOk r (Follows old (Link kind word target) new) → IsTrue (contains_key objects target) → IsSound objects old → IsSound objects new
link_sound objects old new kind word target (Ok x) refused follows here sound =
    let links = links_of old kind in
    subst (IsSound objects) (sym follows) (with_links_sound objects old kind (insert links word target) (targets_more objects links word target here (targets_of objects old kind sound)) sound)
link_sound objects old new kind word target (Err e) refused follows here sound = subst (IsSound objects) (sym refused) sound

without_registration_sound : (objects : Map Object) (s : State) (o : ℕ) → IsSound objects s → IsSound objects (without_registration s o)
without_registration_sound objects s o sound = record { registered = registered_less objects s.registrations o sound.registered; short = sound.short; long = sound.long; short_keys = sound.short_keys; long_keys = sound.long_keys; held = sound.held }

pub unregister_sound : (objects : Map Object) (old new : State) (o : ℕ) → Follows old (Unregister o) new → IsSound objects old → IsSound objects new
unregister_sound objects old new o follows sound = subst (IsSound objects) (sym follows) (without_registration_sound objects old o sound)

pub unlink_sound : (objects : Map Object) (old new : State) (kind : LinkKind) (word : ℕ) → Follows old (Unlink kind word) new → IsSound objects old → IsSound objects new
unlink_sound objects old new kind word follows sound =
    subst (IsSound objects) (sym follows) (with_links_sound objects old kind (remove (links_of old kind) word) (targets_less objects (links_of old kind) word (targets_of objects old kind sound)) sound)

pub move_sound : {A E : Type 0} (objects : Map Object) (old new : State) (kind : LinkKind) (word to : ℕ) (r : Result A E) → OnErr r (new ≡ old) → OnOk r (Follows old (Move kind word to) new) → IsSound objects old → IsSound objects new
move_sound objects old new kind word to (Ok x) refused follows sound =
    let links = links_of old kind in
    subst (IsSound objects) (sym follows) (with_links_sound objects old kind (moved_to links word to (get links word)) (targets_moved objects links word to (targets_of objects old kind sound)) sound)
move_sound objects old new kind word to (Err e) refused follows sound = subst (IsSound objects) (sym refused) sound

with_ephemerons_sound : (objects : Map Object) (s : State) (e : Ephemerons) → AreTargets objects e.short → AreTargets objects e.long → IsSound objects s → IsSound objects (record s { ephemerons = e })
with_ephemerons_sound objects s e short long sound =
    record { registered = sound.registered; short = sound.short; long = sound.long; short_keys = short; long_keys = long; held = sound.held }

pub ephemeron_sound : {A E : Type 0} (objects : Map Object) (old new : State) (kind : LinkKind) (word key : ℕ) (r : Result A E) → OnErr r (new ≡ old) → OnOk r (Follows old (Ephemeron kind word key) new) → IsTrue (contains_key objects key) → IsSound objects old → IsSound objects new
ephemeron_sound objects old new Short word key (Ok x) refused follows here sound =
    let e = old.ephemerons in
    subst (IsSound objects) (sym follows) (with_ephemerons_sound objects old _ (targets_more objects e.short word key here sound.short_keys) (targets_less objects e.long word sound.long_keys) sound)
ephemeron_sound objects old new Long word key (Ok x) refused follows here sound =
    let e = old.ephemerons in
    subst (IsSound objects) (sym follows) (with_ephemerons_sound objects old _ (targets_less objects e.short word sound.short_keys) (targets_more objects e.long word key here sound.long_keys) sound)
ephemeron_sound objects old new kind word key (Err x) refused follows here sound = subst (IsSound objects) (sym refused) sound

pub end_ephemeron_sound : (objects : Map Object) (old new : State) (word : ℕ) → Follows old (EndEphemeron word) new → IsSound objects old → IsSound objects new
end_ephemeron_sound objects old new word follows sound =
    let e = old.ephemerons in
    subst (IsSound objects) (sym follows) (with_ephemerons_sound objects old _ (targets_less objects e.short word sound.short_keys) (targets_less objects e.long word sound.long_keys) sound)

pub move_ephemeron_sound : {A E : Type 0} (objects : Map Object) (old new : State) (word to : ℕ) (r : Result A E) → OnErr r (new ≡ old) → OnOk r (Follows old (MoveEphemeron word to) new) → IsSound objects old → IsSound objects new
move_ephemeron_sound objects old new word to (Ok x) refused follows sound = subst (IsSound objects) (sym follows) (by (has_ephemeron old.ephemerons to))
  where
    e : Ephemerons
    e = old.ephemerons

    by : (b : Bool) → IsSound objects (record old { ephemerons = cond b e (record { short = moved_to e.short word to (get e.short word); long = moved_to e.long word to (get e.long word) }) })
    by true = with_ephemerons_sound objects old e sound.short_keys sound.long_keys sound
    by false = with_ephemerons_sound objects old _ (targets_moved objects e.short word to sound.short_keys) (targets_moved objects e.long word to sound.long_keys) sound
move_ephemeron_sound objects old new word to (Err x) refused follows sound = subst (IsSound objects) (sym refused) sound

-- what is taken isn't finished, as before
taken_unfinished : (s : State) (entry : Entry) → slice_get s.queue s.taken ≡ Some entry → unfinished s ≡ (s.held ++ entry ∷ []) ++ drop (s.taken + 1) s.queue
taken_unfinished s entry at = ap (λ es. s.held ++ es) (next_waits s.queue s.taken entry at) ∙ sym (append_assoc s.held (entry ∷ []) (drop (s.taken + 1) s.queue))

pub take_sound : (objects : Map Object) (old new : State) (r : Option Entry) → MatchOption r ((waiting old ≡ []) × (new ≡ old)) (λ entry. Follows old (Take entry) new) → IsSound objects old → IsSound objects new
take_sound objects old new None same sound = subst (IsSound objects) (sym same.1) sound
take_sound objects old new (Some entry) follows sound = subst (IsSound objects) (sym follows.1) (record {
  registered = sound.registered;
  short = sound.short;
  long = sound.long;
  short_keys = sound.short_keys;
  long_keys = sound.long_keys;
  held = λ e here some. sound.held e (subst (λ es. Contains es e) (sym (taken_unfinished old entry follows.0)) here) some;
})

with_finished_sound : (objects : Map Object) (s : State) (entry : Entry) → IsSound objects s → IsSound objects (record s { held = filter (λ h. not (same_entry entry h)) s.held })
with_finished_sound objects s entry sound = record {
  registered = sound.registered;
  short = sound.short;
  long = sound.long;
  short_keys = sound.short_keys;
  long_keys = sound.long_keys;
  held = λ e here some.
      ⊎_elim
      (λ (left : Contains (filter stays s.held) e).
      let found = lists.place_of (filter stays s.held) e left in
      let kept = filter_at stays s.held found.0 e found.1 in
      sound.held e (Contains-append_left s.held (drop s.taken s.queue) e (contains_at s.held kept.0 e kept.1)) some)
      (λ (waits : Contains (drop s.taken s.queue) e). sound.held e (Contains-append_right s.held (drop s.taken s.queue) e waits) some)
      (Contains-append_cases (filter stays s.held) (drop s.taken s.queue) e here);
}
  where
    stays : Entry → Bool
    stays h = not (same_entry entry h)

with_cleanup_sound : (objects : Map Object) (s : State) (o : ℕ) (c : Cleanup) → IsSound objects s → IsSound objects (with_cleanup s o c)
with_cleanup_sound objects s o c sound = record { registered = sound.registered; short = sound.short; long = sound.long; short_keys = sound.short_keys; long_keys = sound.long_keys; held = sound.held }

pub add_sound : {A E : Type 0} (objects : Map Object) (old new : State) (o : ℕ) (c : Cleanup) (r : Result A E) → OnErr r (new ≡ old) → OnOk r (Follows old (AddCleanup o c) new) → IsSound objects old → IsSound objects new
add_sound objects old new o c (Ok x) refused follows sound = subst (IsSound objects) (sym follows) (with_cleanup_sound objects old o c sound)
add_sound objects old new o c (Err e) refused follows sound = subst (IsSound objects) (sym refused) sound

without_cleanup_sound : (objects : Map Object) (s : State) (number : ℕ) → IsSound objects s → IsSound objects (without_cleanup s number)
without_cleanup_sound objects s number sound = record { registered = sound.registered; short = sound.short; long = sound.long; short_keys = sound.short_keys; long_keys = sound.long_keys; held = sound.held }

pub cancel_sound : (objects : Map Object) (old new : State) (number : ℕ) → Follows old (Cancel number) new → IsSound objects old → IsSound objects new
cancel_sound objects old new number follows sound = subst (IsSound objects) (sym follows) (without_cleanup_sound objects old number sound)

pub finish_sound : {A E : Type 0} (objects : Map Object) (old new : State) (entry : Entry) (r : Result A E) → OnErr r (new ≡ old) → OnOk r (Follows old (Finish entry) new) → IsSound objects old → IsSound objects new
finish_sound objects old new entry (Ok x) refused follows sound = subst (IsSound objects) (sym follows.1) (with_finished_sound objects old entry sound)
finish_sound objects old new entry (Err e) refused follows sound = subst (IsSound objects) (sym refused) sound

-- ---- a pass

-- what comes after a place of two lists
drop_cases : (n : ℕ) (xs ys : List Entry) (e : Entry) → Contains (drop n (xs ++ ys)) e → Contains (drop n xs) e ⊎ Contains ys e
drop_cases zero xs ys e here = Contains-append_cases xs ys e here
drop_cases (suc n) [] ys e here =
    inr (subst (λ es. Contains es e) (take-append-drop (suc n) ys) (Contains-append_right (take (suc n) ys) (drop (suc n) ys) e here))
drop_cases (suc n) (x ∷ xs) ys e here = drop_cases n xs ys e here

entries_have : (pass seq : ℕ) (ps : List Pick) (e : Entry) → Contains (entries_of pass seq ps) e → (p : Pick) × Contains ps p × (p.obj ≡ e.obj)
entries_have pass seq [] e within = absurd (omega (arith, within.1))
entries_have pass seq (p ∷ ps) e (zero, low, is) = (p, (0, omega arith, refl), ap (λ (x : Entry). x.obj) is)
entries_have pass seq (p ∷ ps) e (suc k, low, is) =
    let rest = entries_have pass (seq + 1) ps e (k, omega arith, is) in
    (rest.0, (suc rest.1.0, omega (arith, rest.1.1), rest.1.2), rest.2)

-- ---- cleanups are queued

-- an entry with an object isn't a cleanup's
no_object : (pass seq : ℕ) (due : List (ℕ × Attached)) (e : Entry) → Contains (entries_of pass seq (map cleanups.pick_of due)) e → e.obj ≡ 0
no_object pass seq due e here =
    let from = entries_have pass seq (map cleanups.pick_of due) e here in
    let at = lists.place_of (map cleanups.pick_of due) from.0 from.1 in
    let of = lists.map_at cleanups.pick_of due at.0 from.0 at.1 in
    sym from.2 ∙ ap (λ (p : Pick). p.obj) (sym of.2)

module _ (objects : Map Object) (pass : ℕ) (test : Attached → Bool) (s t : State) (cleans : Cleans pass test s t) where
  abbrev clean_entries : List Entry
  clean_entries = entries_of pass (length s.queue) (map cleanups.pick_of cleans.0)

  -- so it was unfinished before
  pub cleans_back : (e : Entry) → Contains (unfinished t) e → e.obj ≢ 0 → Contains (unfinished s) e
  cleans_back e here some =
      ⊎_elim (λ (h : Contains s.held e). Contains-append_left s.held (drop s.taken s.queue) e h)
      (λ (w : Contains (drop s.taken (s.queue ++ clean_entries)) e).
      ⊎_elim (λ (before : Contains (drop s.taken s.queue) e). Contains-append_right s.held (drop s.taken s.queue) e before)
      (λ (came : Contains clean_entries e). absurd (some (no_object pass (length s.queue) cleans.0 e came))) (drop_cases s.taken s.queue clean_entries e w))
      (Contains-append_cases s.held (drop s.taken (s.queue ++ clean_entries)) e (subst (λ (u : State). Contains (unfinished u) e) cleans.2 here))

  pub cleans_sound : IsSound objects s → IsSound objects t
  cleans_sound sound = record {
    registered = subst (λ (u : State). AreRegistered objects u.registrations) (sym cleans.2) sound.registered;
    short = subst (λ (u : State). AreTargets objects u.short) (sym cleans.2) sound.short;
    long = subst (λ (u : State). AreTargets objects u.long) (sym cleans.2) sound.long;
    short_keys = subst (λ (u : State). AreTargets objects u.ephemerons.short) (sym cleans.2) sound.short_keys;
    long_keys = subst (λ (u : State). AreTargets objects u.ephemerons.long) (sym cleans.2) sound.long_keys;
    held = λ e here some. sound.held e (cleans_back e here some) some;
  }

-- a link that is left was one, and its target is in the set
within_back : (place : ℕ → Option ℕ) (objects : Map Object) (links : Map ℕ) (targets containers : ℕ → Bool) (link target : ℕ) → get (links_held place objects links targets containers) link ≡ Some target → (get links link ≡ Some target) × IsTrue (targets target)
within_back place objects links targets containers link target is =
    let back = retained_back links (λ l. option_map_or targets (get links l) false && is_held place objects containers l) link target is in
    let test = (and_parts (option_map_or targets (get links link) false) (is_held place objects containers link) back.0).0 in
    (back.1, sym (ap (λ o. option_map_or targets o false) back.1) ∙ test)

module _ (E : Type 0) (place : ℕ → Option ℕ) (value : Map Object → ℕ → Option ℕ) (late : ℕ → Bool) (pass first : ℕ) (old : Parts) (ephemerons : Ephemerons) (found : ℕ → Bool) (new : Parts) (left : Ephemerons) (queue new_queue : List Entry)
    (d : DecidesWhole E place value late pass first old ephemerons found new left queue new_queue) where
  -- the objects that were kept remain, and no others
  remains : (a : ℕ) → contains_key new.objects a ≡ (d.kept a && contains_key old.objects a)
  remains a = ap (λ (p : Parts). contains_key p.objects a) d.is ∙ ap is_some (get-retain last d.kept a) ∙ by (d.kept a)
    where
      begun : Map Object
      begun = cleared (placed place old.short) found old.objects

      judged : Map Object
      judged = objects_judged place value old ephemerons found

      late_cleared : Map Object
      late_cleared = cleared (placed place old.long) d.kept judged

      last : Map Object
      last = cleared (placed place ephemerons.long) d.kept late_cleared

      by : (b : Bool) → is_some (cond b (get last a) None) ≡ (b && contains_key old.objects a)
      by true =
          has_filled (is_dead late_cleared (placed place ephemerons.long) d.kept) 0 late_cleared a ∙ has_filled (is_dead judged (placed place old.long) d.kept) 0 judged a
          ∙ has_filled (is_dead begun (placed place ephemerons.short) found) 0 begun a ∙ has_filled (is_dead old.objects (placed place old.short) found) 0 old.objects a
      by false = refl

  pub kept_stands : (a : ℕ) → IsTrue (d.kept a) → IsTrue (contains_key old.objects a) → IsTrue (contains_key new.objects a)
  kept_stands a kept here = remains a ∙ and_from (d.kept a) (contains_key old.objects a) kept here

  pub left_kept : (a : ℕ) → IsTrue (contains_key new.objects a) → IsTrue (d.kept a) × IsTrue (contains_key old.objects a)
  left_kept a left = and_parts (d.kept a) (contains_key old.objects a) (sym (remains a) ∙ left)

  pub found_kept : (a : ℕ) → IsTrue (found a) → IsTrue (d.kept a)
  found_kept a on = d.keeps a (Member (inl on))

  registered_kept : (a : ℕ) (r : Registration) → get old.registrations a ≡ Some r → IsTrue (contains_key old.objects a) → IsTrue (d.kept a)
  registered_kept a r is here = at (found a) refl
    where
      at : (b : Bool) → found a ≡ b → IsTrue (d.kept a)
      at true on = found_kept a on
      at false off = d.keeps a (Member (inr (r, record { registered = is; outside = and_from (contains_key old.objects a) (not (found a)) here (ap not off) })))

  -- what was kept of the registrations and the links is sound
  pub passed_registered : AreRegistered old.objects old.registrations → AreRegistered new.objects new.registrations
  passed_registered all a r is =
      let was = left_back old.registrations d.picks a r (sym (ap (λ (p : Parts). get p.registrations a) d.is) ∙ is) in
      kept_stands a (registered_kept a r was (all a r was)) (all a r was)

  pub passed_short : AreTargets old.objects old.short → AreTargets new.objects new.short
  passed_short all link target is =
      let was = within_back place old.objects old.short found d.kept link target (sym (ap (λ (p : Parts). get p.short link) d.is) ∙ is) in
      kept_stands target (found_kept target was.1) (all link target was.0)

  pub passed_long : AreTargets old.objects old.long → AreTargets new.objects new.long
  passed_long all link target is =
      let was = within_back place old.objects old.long d.kept d.kept link target (sym (ap (λ (p : Parts). get p.long link) d.is) ∙ is) in
      kept_stands target was.1 (all link target was.0)

  pub passed_short_keys : AreTargets old.objects ephemerons.short → AreTargets new.objects left.short
  passed_short_keys all word key is =
      let was = within_back place old.objects ephemerons.short found d.kept word key (sym (ap (λ (e : Ephemerons). get e.short word) d.left) ∙ is) in
      kept_stands key (found_kept key was.1) (all word key was.0)

  pub passed_long_keys : AreTargets old.objects ephemerons.long → AreTargets new.objects left.long
  passed_long_keys all word key is =
      let was = within_back place old.objects ephemerons.long d.kept d.kept word key (sym (ap (λ (e : Ephemerons). get e.long word) d.left) ∙ is) in
      kept_stands key was.1 (all word key was.0)

  -- a pick's object is kept
  picked_kept : (p : Pick) → Contains d.picks p → IsTrue (contains_key new.objects p.obj)
  picked_kept p within =
      let picked = All-contains (IsPickedThen place value old ephemerons found late) d.picks p d.picked.each within in
      let here = ap is_some picked.here in
      kept_stands p.obj (registered_kept p.obj picked.registration picked.unreachable.registered here) here

  -- what came is there
  came_stands : (e : Entry) → Contains (entries_of pass first d.picks) e → IsTrue (contains_key new.objects e.obj)
  came_stands e came = let from = entries_have pass first d.picks e came in subst (λ a. IsTrue (contains_key new.objects a)) from.2 (picked_kept from.0 from.1)

  -- what isn't finished is there then, if what wasn't before was found
  pub passed_held : (s t : State) → queue ≡ s.queue → t.queue ≡ new_queue → t.taken ≡ s.taken → t.held ≡ s.held → ((e : Entry) → Contains (unfinished s) e → e.obj ≢ 0 → IsTrue (found e.obj) × IsTrue (contains_key old.objects e.obj)) → (e : Entry) → Contains (unfinished t) e → e.obj ≢ 0 → IsTrue (contains_key new.objects e.obj)
  passed_held s t was is taken held all e here some =
      let come = entries_of pass first d.picks in
      let grown : unfinished t ≡ s.held ++ drop s.taken (s.queue ++ come) = (λ i. held i ++ drop (taken i) ((is ∙ d.queued ∙ ap (λ es. es ++ come) was) i)) in
      let stood = λ (old_one : Contains (unfinished s) e). let found_it = all e old_one some in kept_stands e.obj (found_kept e.obj found_it.0) found_it.1 in
      ⊎_elim
      (λ (h : Contains s.held e). stood (Contains-append_left s.held (drop s.taken s.queue) e h))
      (λ (w : Contains (drop s.taken (s.queue ++ come)) e).
      ⊎_elim (λ (before : Contains (drop s.taken s.queue) e). stood (Contains-append_right s.held (drop s.taken s.queue) e before)) (came_stands e) (drop_cases s.taken s.queue come e w))
      (Contains-append_cases s.held (drop s.taken (s.queue ++ come)) e (subst (λ es. Contains es e) grown here))
