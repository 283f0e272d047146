-- What is left of the reserved room, as registrations, cleanups and links come and go.
use Rattle.std.proofs.Common.{◌≡◌, ◌≤◌, ◌+◌, ◌-◌, ◌*◌, min, ℕ, Result, Ok, Err, OnOk, OnErr, ap, subst, arith}
use Rattle.std.specs.Prelude.{vec_capacity}
use Rattle.std.specs.FinMap.{len, insert}
use Rattle.fz_model.specs.declared.kinds.LinkKind.TheVariants.{Short, Long}
use Rattle.fz_model.specs.Steps.{registration_of}
use Rattle.fz_table.specs.Registered.{Registered}
use Rattle.fz_table.specs.Tabled.{Tabled}
use Rattle.fz_links.specs.Linked.{Linked}
use Rattle.fz_finalizers.specs.declared.finalizers.Finalizers.TheInside.{Inside}
use Rattle.fz_finalizers.specs.declared.kinds.Finalizer.{Finalizer}
use Rattle.fz_finalizers.specs.declared.refused.Refused.{Refused}
use Rattle.fz_finalizers.specs.Cleanups.{Cleanups}
use Rattle.fz_finalizers.specs.Fits.{rooms_of}
use Rattle.fz_finalizers.specs.Kinds.{table_finalizer}
use Rattle.fz_finalizers.specs.Ready.{Ready}
use Rattle.fz_finalizers.specs.States.{Rooms, IsRoomier, KeepsEntries, Spends, UsesEntry, UsesLink}
use Rattle.fz_finalizers.proofs.Counting.{len_grown}

abbrev pub rooms_in : Inside → Rooms
rooms_in w = rooms_of w.table w.short w.long w.cleanups w.ready (2 * vec_capacity w.moves)

module _ (w : Inside) (old : Rooms) (is : rooms_in w ≡ old) where
  abbrev moves : ℕ
  moves = 2 * vec_capacity w.moves

  -- the room of those that go is free again, if they had no entry
  pub entries_kept : (new_table : Tabled) (new_cleanups : Cleanups) (new_ready : Ready) → w.table.room ≤ new_table.room → w.cleanups.room ≤ new_cleanups.room
      → w.ready.room + (len new_table.registrations + len new_cleanups.cleanups) ≤ new_ready.room + (len w.table.registrations + len w.cleanups.cleanups) → IsRoomier old (rooms_of new_table w.short w.long new_cleanups new_ready moves)
  entries_kept new_table new_cleanups new_ready tabled attached free =
      subst (λ (rooms : Rooms). IsRoomier rooms (rooms_of new_table w.short w.long new_cleanups new_ready moves)) is
      (omega (arith, tabled, free), omega arith, omega arith, omega (arith, attached, free))

  pub entry_used : (new_table : Tabled) (new_cleanups : Cleanups) (new_ready : Ready) → w.table.room ≤ new_table.room + 1 → w.cleanups.room ≤ new_cleanups.room + 1
      → w.ready.room + (len new_table.registrations + len new_cleanups.cleanups) ≤ new_ready.room + (len w.table.registrations + len w.cleanups.cleanups) + 1 → UsesEntry old (rooms_of new_table w.short w.long new_cleanups new_ready moves)
  entry_used new_table new_cleanups new_ready tabled attached free =
      subst (λ (rooms : Rooms). UsesEntry rooms (rooms_of new_table w.short w.long new_cleanups new_ready moves)) is
      (omega (arith, tabled, free), omega arith, omega arith, omega (arith, attached, free))

  pub registered_room : {A : Type 0} (new_table : Tabled) (new_ready : Ready) (object : ℕ) (f : Finalizer) (result : Result A Refused) → w.ready.room ≤ new_ready.room → w.table.room ≤ new_table.room + 1
      → OnErr result (w.table.room ≤ new_table.room) → OnErr result ((new_table.registered ≡ w.table.registered) × (new_table.late ≡ w.table.late))
      → OnOk result (new_table.registered ≡ record { registrations = insert w.table.registrations object (registration_of w.table.next_number (table_finalizer f)); next_number = w.table.next_number + 1 })
      → Spends UsesEntry result old (rooms_of new_table w.short w.long w.cleanups new_ready moves)
  registered_room new_table new_ready object f (Err r) more used kept unchanged enters =
      let count = ap (λ (t : Registered). len t.registrations) unchanged.0 in entries_kept new_table w.cleanups new_ready kept (omega arith) (omega (arith, more, count))
  registered_room new_table new_ready object f (Ok x) more used kept unchanged enters =
      let count = ap (λ (t : Registered). len t.registrations) enters in
      let grown = len_grown w.table.registrations object (registration_of w.table.next_number (table_finalizer f)) in
      entry_used new_table w.cleanups new_ready used (omega arith) (omega (arith, more, count, grown))

  pub short_kept : (new_short : Linked) → w.short.room ≤ new_short.room → len new_short.links ≤ len w.short.links → IsRoomier old (rooms_of w.table new_short w.long w.cleanups w.ready moves)
  short_kept new_short kept fewer =
      subst (λ (rooms : Rooms). IsRoomier rooms (rooms_of w.table new_short w.long w.cleanups w.ready moves)) is (omega arith, omega (arith, kept, fewer), omega arith, omega arith)

  pub long_kept : (new_long : Linked) → w.long.room ≤ new_long.room → len new_long.links ≤ len w.long.links → IsRoomier old (rooms_of w.table w.short new_long w.cleanups w.ready moves)
  long_kept new_long kept fewer =
      subst (λ (rooms : Rooms). IsRoomier rooms (rooms_of w.table w.short new_long w.cleanups w.ready moves)) is (omega arith, omega arith, omega (arith, kept, fewer), omega arith)

  pub short_room : {A : Type 0} (new_short : Linked) (new_moves word target : ℕ) (result : Result A Refused) → moves ≤ new_moves → w.short.room ≤ new_short.room + 1 → OnErr result (w.short.room ≤ new_short.room)
      → OnErr result (new_short.links ≡ w.short.links) → OnOk result (new_short.links ≡ insert w.short.links word target) → Spends (UsesLink Short) result old (rooms_of w.table new_short w.long w.cleanups w.ready new_moves)
  short_room new_short new_moves word target (Err r) more used kept unchanged linked =
      let left : w.short.room ≤ new_short.room = kept in
      let count = ap len unchanged in
      subst (λ (rooms : Rooms). IsRoomier rooms (rooms_of w.table new_short w.long w.cleanups w.ready new_moves)) is (omega arith, omega (arith, left, count, more), omega (arith, more), omega arith)
  short_room new_short new_moves word target (Ok x) more used kept unchanged linked =
      let count = ap len linked in
      let grown = len_grown w.short.links word target in
      subst (λ (rooms : Rooms). UsesLink Short rooms (rooms_of w.table new_short w.long w.cleanups w.ready new_moves)) is (omega arith, omega (arith, used, count, grown, more), omega (arith, more), omega arith)

  pub long_room : {A : Type 0} (new_long : Linked) (new_moves word target : ℕ) (result : Result A Refused) → moves ≤ new_moves → w.long.room ≤ new_long.room + 1 → OnErr result (w.long.room ≤ new_long.room)
      → OnErr result (new_long.links ≡ w.long.links) → OnOk result (new_long.links ≡ insert w.long.links word target) → Spends (UsesLink Long) result old (rooms_of w.table w.short new_long w.cleanups w.ready new_moves)
  long_room new_long new_moves word target (Err r) more used kept unchanged linked =
      let left : w.long.room ≤ new_long.room = kept in
      let count = ap len unchanged in
      subst (λ (rooms : Rooms). IsRoomier rooms (rooms_of w.table w.short new_long w.cleanups w.ready new_moves)) is (omega arith, omega (arith, more), omega (arith, left, count, more), omega arith)
  long_room new_long new_moves word target (Ok x) more used kept unchanged linked =
      let count = ap len linked in
      let grown = len_grown w.long.links word target in
      subst (λ (rooms : Rooms). UsesLink Long rooms (rooms_of w.table w.short new_long w.cleanups w.ready new_moves)) is (omega arith, omega (arith, more), omega (arith, used, count, grown, more), omega arith)

  pub entries_left : (room most : ℕ) (new_ready : Ready) → room ≤ most → min most w.ready.room ≤ new_ready.room
      → KeepsEntries (room - (len w.table.registrations + len w.cleanups.cleanups)) old (rooms_of w.table w.short w.long w.cleanups new_ready moves)
  entries_left room most new_ready enough left =
      subst (λ (rooms : Rooms). KeepsEntries (room - (len w.table.registrations + len w.cleanups.cleanups)) rooms (rooms_of w.table w.short w.long w.cleanups new_ready moves)) is
      (omega (arith, enough, left), omega arith, omega arith, omega (arith, enough, left))
