-- What is registered has room for its entry, as registrations come and go.
use Rattle.std.proofs.Common.{◌≡◌, ◌≤◌, ◌<◌, ℕ, ◌+◌, Bool, true, false, cond, ◌==◌, nat_le, nat_cmp, is_some, Some, None, Result, Ok, Err, OnOk, OnErr, [], length, refl, sym, ap, subst, ◌∙◌, arith, ◌^◌, List}
use Rattle.std.proofs.lemmas.Bool.Decides.{nat_tests}
use Rattle.std.proofs.lemmas.Option.{none-some}
use Rattle.std.specs.FinMap.{get, len, insert, remove, empty, len-empty}
use Rattle.std.specs.FinSet as sets
use Rattle.fz_model.specs.declared.limits.TheConstants.{COUNT_LIMIT}
use Rattle.fz_model.specs.declared.answers.Pick.{Pick}
use Rattle.fz_model.specs.declared.answers.Registration.{Registration}
use Rattle.fz_model.specs.State.{Map}
use Rattle.fz_model.specs.Steps.{registration_of}
use Rattle.fz_table.specs.Registered.{Registered}
use Rattle.fz_table.specs.Places.{lacks_place}
use Rattle.fz_table.specs.Tabled.{Content, with_flag}
use Rattle.fz_pass.specs.Picking.{left_by, left_in}
use Rattle.fz_finalizers.specs.declared.refused.Refused.{Refused}
use Rattle.fz_finalizers.specs.declared.refused.Refused.TheVariants.{Zero, Exhausted, Full}
use Rattle.fz_finalizers.specs.declared.kinds.Finalizer.{Finalizer}
use Rattle.fz_finalizers.specs.Kinds.{is_late, table_finalizer}
use Rattle.fz_table.specs.declared.limits.TheConstants.{MOST_ENTRIES}
use Rattle.fz_finalizers.specs.declared.cleanups.Attached.{Attached}
use Rattle.fz_finalizers.specs.Causes.{IsJudgedOrLacks, add_causes, first_cause, register_causes}
use Rattle.fz_finalizers.specs.Fits.{Fits}
use Rattle.fz_finalizers.specs.Ready.{Ready, HasSameEntries}
use Rattle.fz_finalizers.specs.States.{AreFlags}
use Rattle.fz_finalizers.proofs.Counting.{len_grown, len_gone, len_less}
use Rattle.fz_finalizers.proofs.Flags.{flags_entered, flags_left, flags_removed, late_is_normal, no_flags}

-- none is exhausted if no cause holds
not_exhausted : (table : Map Registration) (next object : ℕ) → first_cause (register_causes table next object) ≡ None → next < COUNT_LIMIT
not_exhausted table next object none = first (object == 0) none
  where
    second : (b : Bool) → nat_le COUNT_LIMIT next ≡ b → cond b (Some Exhausted) (cond (lacks_place table object) (Some Full) None) ≡ None → next < COUNT_LIMIT
    second true is h = absurd (none-some Exhausted (sym h))
    second false is h = grind (arith, nat_tests)

    first : (b : Bool) → cond b (Some Zero) (cond (nat_le COUNT_LIMIT next) (Some Exhausted) (cond (lacks_place table object) (Some Full) None)) ≡ None → next < COUNT_LIMIT
    first true h = absurd (none-some Zero (sym h))
    first false h = second (nat_le COUNT_LIMIT next) refl h

zero_long : len (empty {K = ℕ} {X = Registration} {R = nat_cmp}) ≡ 0
zero_long = len-empty nat_cmp Registration

abbrev nothing : Content
nothing = record { registered = record { registrations = empty; next_number = 0 }; late = sets.empty }

none_attached : len (empty {K = ℕ} {X = Attached} {R = nat_cmp}) ≡ 0
none_attached = len-empty nat_cmp Attached

pub none_fits : (table : Content) (cleanups : Map Attached) (ready : Ready) → table ≡ nothing → cleanups ≡ empty → ready.queue ≡ [] → Fits table cleanups ready
none_fits table cleanups ready is without none =
    subst (λ t. Fits t cleanups ready) (sym is)
    (let no_cleanups = ap len without ∙ none_attached in
    record { room = omega (arith, zero_long, no_cleanups); numbers = let none_queued = ap length none in omega (arith, zero_long, none_queued, no_cleanups); few = omega arith; flags = no_flags })

module _ (table : Content) (cleanups : Map Attached) (ready : Ready) (fits : Fits table cleanups ready) where
  -- an object is registered no more
  pub removed_fits : (new_table : Content) (object : ℕ) → new_table ≡ left_by table object → Fits new_table cleanups ready
  removed_fits new_table object is =
      subst (λ t. Fits t cleanups ready) (sym is)
      (let less = len_less table.registrations object in
      let room = fits.room in
      let numbers = fits.numbers in
      record { room = omega (arith, less, room); numbers = omega (arith, less, numbers); few = fits.few; flags = flags_removed table.registrations table.late fits.flags object })

  -- there is more room
  pub roomier_fits : (new_ready : Ready) → HasSameEntries ready new_ready → ready.room ≤ new_ready.room → Fits table cleanups new_ready
  roomier_fits new_ready same kept =
      let room = fits.room in
      let numbers = fits.numbers in
      let queued = ap length same.0 in
      record { room = omega (arith, room, kept); numbers = omega (arith, numbers, queued); few = fits.few; flags = fits.flags }

  -- some are registered no more, and have their entries
  pub queued_fits : (new_table : Content) (new_ready : Ready) (picks : List Pick) → new_table ≡ left_in table picks → length new_ready.queue + len new_table.registrations ≡ length ready.queue + len table.registrations
      → ready.room + len new_table.registrations ≤ new_ready.room + len table.registrations → Fits new_table cleanups new_ready
  queued_fits new_table new_ready picks is count room =
      let was = fits.room in
      let numbers = fits.numbers in
      let few = fits.few in
      let next = ap (λ (t : Content). t.next_number) is in
      record {
        room = omega (arith, was, room);
        numbers = omega (arith, numbers, count, next);
        few = omega (arith, few, next);
        flags = subst (λ (t : Content). AreFlags t.registrations t.late) (sym is) (flags_left table.registrations table.late fits.flags picks);
      }

  -- one is registered no more, and has its entry
  module _ (object : ℕ) (r : Registration) (here : get table.registrations object ≡ Some r) where
    count_less : len (remove table.registrations object) + 1 ≡ len table.registrations
    count_less = len_gone table.registrations object (ap is_some here)

    pub has_room : 0 < ready.room
    has_room = let less = count_less in let room = fits.room in omega (arith, less, room)

    pub has_number : length ready.queue + 1 < 2 ^ 64
    has_number = let less = count_less in let numbers = fits.numbers in let few = fits.few in omega (arith, less, numbers, few)

    pub taken_fits : (new_table : Content) (new_ready : Ready) → new_table ≡ left_by table object → length new_ready.queue ≡ length ready.queue + 1 → ready.room ≤ new_ready.room + 1 → Fits new_table cleanups new_ready
    taken_fits new_table new_ready is queued room =
        subst (λ t. Fits t cleanups new_ready) (sym is)
        (let less = count_less in
        let was = fits.room in
        let numbers = fits.numbers in
        record { room = omega (arith, less, was, room); numbers = omega (arith, less, numbers, queued); few = fits.few; flags = flags_removed table.registrations table.late fits.flags object })

  module _ (new_table : Content) (new_ready : Ready) (object : ℕ) (f : Finalizer) (same : HasSameEntries ready new_ready) (kept : ready.room ≤ new_ready.room) where
    abbrev entered : Registered
    entered = record { registrations = insert table.registrations object (registration_of table.next_number (table_finalizer f)); next_number = table.next_number + 1 }

    pub registered_fits : {A : Type 0} (result : Result A Refused) → IsJudgedOrLacks (register_causes table.registrations table.next_number object) result
        → OnErr result ((new_table.registered ≡ table.registered) × (new_table.late ≡ table.late)) → OnOk result (new_table.registered ≡ entered)
        → OnOk result (new_table.late ≡ with_flag table.late object (is_late f.kind)) → len new_table.registrations + len cleanups ≤ new_ready.room → Fits new_table cleanups new_ready
    registered_fits (Err r) judged unchanged enters flags room =
        subst (λ t. Fits t cleanups new_ready) (λ i. record { registered = sym unchanged.0 i; late = sym unchanged.1 i }) (roomier_fits new_ready same kept)
    registered_fits (Ok x) judged unchanged enters flags room =
        let more = len_grown table.registrations object (registration_of table.next_number (table_finalizer f)) in
        let numbers = fits.numbers in
        let queued = ap length same.0 in
        let below = not_exhausted table.registrations table.next_number object judged in
        let long = ap (λ (t : Registered). len t.registrations) enters in
        let next = ap (λ (t : Registered). t.next_number) enters in
        record {
          room = room;
          numbers = omega (arith, more, long, numbers, queued, next);
          few = omega (arith, below, next);
          flags = subst (λ (t : Content). AreFlags t.registrations t.late) (λ i. record { registered = sym enters i; late = sym flags i })
              (flags_entered table.registrations table.late fits.flags object (registration_of table.next_number (table_finalizer f)) (is_late f.kind) (late_is_normal f.kind));
        }

-- cleanups come and go
module _ (table : Content) (cleanups : Map Attached) (ready : Ready) (fits : Fits table cleanups ready) where
  pub cancelled_fits : (new_cleanups : Map Attached) (number : ℕ) → new_cleanups ≡ remove cleanups number → Fits table new_cleanups ready
  cancelled_fits new_cleanups number is =
      let less = len_less cleanups number in
      let count = ap len is in
      let room = fits.room in
      let numbers = fits.numbers in
      record { room = omega (arith, less, count, room); numbers = omega (arith, less, count, numbers); few = fits.few; flags = fits.flags }

  -- some go, and have their entries
  pub cleaned_fits : (new_cleanups : Map Attached) (new_ready : Ready) → length new_ready.queue + len new_cleanups ≡ length ready.queue + len cleanups → ready.room + len new_cleanups ≤ new_ready.room + len cleanups → Fits table new_cleanups new_ready
  cleaned_fits new_cleanups new_ready count room =
      let was = fits.room in
      let numbers = fits.numbers in
      record { room = omega (arith, was, room); numbers = omega (arith, numbers, count); few = fits.few; flags = fits.flags }

  -- one comes
  pub added_fits : (new_table : Content) (new_cleanups : Map Attached) (new_ready : Ready) (number : ℕ) (c : Attached) → new_table ≡ record table { registered = record table.registered { next_number = table.next_number + 1 } } → new_cleanups ≡ insert cleanups number c
      → new_ready.queue ≡ ready.queue → len table.registrations + len cleanups + 1 ≤ new_ready.room → table.next_number < COUNT_LIMIT → Fits new_table new_cleanups new_ready
  added_fits new_table new_cleanups new_ready number c is added same room below =
      subst (λ t. Fits t new_cleanups new_ready) (sym is)
      (let more = len_grown cleanups number c in
      let count = ap len added in
      let queued = ap length same in
      let numbers = fits.numbers in
      record { room = omega (arith, more, count, room); numbers = omega (arith, more, count, queued, numbers); few = omega (arith, below); flags = fits.flags })

-- if no cause holds, a cleanup has a number and a place
pub can_add : (cleanups : Map Attached) (next object : ℕ) → first_cause (add_causes cleanups next object) ≡ None → (next < COUNT_LIMIT) × (len cleanups < MOST_ENTRIES)
can_add cleanups next object none = first (object == 0) none
  where
    third : (next < COUNT_LIMIT) → (b : Bool) → nat_le MOST_ENTRIES (len cleanups) ≡ b → cond b (Some Full) None ≡ None → (next < COUNT_LIMIT) × (len cleanups < MOST_ENTRIES)
    third below true is h = absurd (none-some Full (sym h))
    third below false is h = (below, grind (arith, nat_tests))

    second : (b : Bool) → nat_le COUNT_LIMIT next ≡ b → cond b (Some Exhausted) (cond (nat_le MOST_ENTRIES (len cleanups)) (Some Full) None) ≡ None → (next < COUNT_LIMIT) × (len cleanups < MOST_ENTRIES)
    second true is h = absurd (none-some Exhausted (sym h))
    second false is h = third (grind (arith, nat_tests)) (nat_le MOST_ENTRIES (len cleanups)) refl h

    first : (b : Bool) → cond b (Some Zero) (cond (nat_le COUNT_LIMIT next) (Some Exhausted) (cond (nat_le MOST_ENTRIES (len cleanups)) (Some Full) None)) ≡ None → (next < COUNT_LIMIT) × (len cleanups < MOST_ENTRIES)
    first true h = absurd (none-some Zero (sym h))
    first false h = second (nat_le COUNT_LIMIT next) refl h
