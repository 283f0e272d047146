-- A machine whose host tells a key.
use Rattle.std.proofs.Common.{◌≡◌, ◌≤◌, ℕ, Bool, List, Option, None, Some, arith, subst, sym}
use Rattle.fz_finalizers.specs.States.{State}
use Rattle.fz_machine.specs.declared.phase.Phase.{Phase}
use Rattle.fz_machine.specs.Going.{HasRoomOff, HasRoomOffIn, IsInOrder}
use Rattle.fz_machine.specs.Off.{PutOff, TellsOff, count_off}
use Rattle.fz_machine.specs.Phases.{settles}
use Rattle.fz_machine.specs.Regions.{Regions as Table}
use Rattle.fz_machine.specs.Walks.{Walk}
use Rattle.fz_machine.proofs.Index.{told_off_count}

module _ (walk : Walk) (off : PutOff) (off_room : ℕ) (same : count_off off ≡ count_off walk.off) (more : walk.off_room ≤ off_room) where
  told_room : (settling : Bool) → HasRoomOff settling walk → HasRoomOff settling (record walk { off = off; off_room = off_room })
  told_room settling h =
      let list = h.0 in
      let other = h.1 in
      let beside = h.2 in
      (omega (arith, list, same), omega (arith, other, same), omega (arith, beside, same, more))

  told_room_in : (phase : Option Phase) → HasRoomOffIn phase walk → HasRoomOffIn phase (record walk { off = off; off_room = off_room })
  told_room_in None h = tt
  told_room_in (Some phase) h = told_room (settles phase) h

-- its lists have room still
pub told_in_order : (s : State) (walk new : Walk) (tables : List Table) (phase : Option Phase) (key : ℕ) → IsInOrder s walk tables phase → TellsOff key walk.off new.off → new ≡ record walk { off = new.off; off_room = new.off_room } → walk.off_room ≤ new.off_room
    → IsInOrder s new tables phase
told_in_order s walk new tables phase key order tells same room =
    let few = order.room.off in
    let count = told_off_count key walk.off new.off tells in
    let now : IsInOrder s (record walk { off = new.off; off_room = new.off_room }) tables phase = record {
      room = record { main = order.room.main; rows = order.room.rows; off = omega (arith, few, room) };
      room_off = told_room_in walk new.off new.off_room count room phase order.room_off;
      tables = order.tables;
    } in
    subst (λ (w : Walk). IsInOrder s w tables phase) (sym same) now
