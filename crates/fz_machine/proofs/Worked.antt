-- A machine whose entries are taken and finished.
use Rattle.std.proofs.Common.{◌≡◌, ◌≤◌, [], ℕ, List, cond, Option, Some, None, Result, Ok, Err, OnOk, OnErr, MatchOption, sym, ap, subst}
use Rattle.fz_model.specs.declared.answers.Entry.{Entry}
use Rattle.fz_finalizers.specs.declared.refused.Refused.{Refused}
use Rattle.fz_finalizers.specs.Follows.{Event, Follows}
use Rattle.fz_finalizers.specs.States.{State, waiting}
use Rattle.fz_machine.specs.declared.phase.Phase.{Phase}
use Rattle.fz_machine.specs.Going.{ephemerons_in, HasRoom, IsInOrder}
use Rattle.fz_machine.specs.Machines.{IsWork}
use Rattle.fz_machine.specs.Phases.{settles_in}
use Rattle.fz_machine.specs.Regions.{Regions as Table}
use Rattle.fz_machine.specs.Walks.{Walk}
use Rattle.fz_machine.proofs.Less.{tables_less as same_less}
use Rattle.fz_machine.proofs.Turned.{tables_less}
use Rattle.fz_machine.proofs.Working.{apart, work_apart}

module _ (walk : Walk) (tables : List Table) (phase : Option Phase) where
  pub worked_in_order : (s t : State) (event : Event) → IsWork event → Follows s event t → IsInOrder s walk tables phase → IsInOrder t walk tables phase
  worked_in_order s t event work follows order =
      let still : apart 0 [] t ≡ apart 0 [] s = work_apart 0 [] s t event work follows in
      let n : ℕ = cond (settles_in phase) walk.other walk.room in
      let rest : ℕ = cond (settles_in phase) walk.room walk.other in
      let room = order.room.main in
      let old : HasRoom (apart 0 [] s) n = record { registrations = room.registrations; short = room.short; long = room.long; cleanups = room.cleanups; keyed = room.keyed } in
      let new = subst (λ (u : State). HasRoom u n) (sym still) old in
      let keyed : ephemerons_in t ≡ ephemerons_in s = ap (λ (u : State). ephemerons_in u) still in
      record {
        room = record {
          main = record { registrations = new.registrations; short = new.short; long = new.long; cleanups = new.cleanups; keyed = new.keyed };
          rows = subst (λ k. k ≤ rest) (sym keyed) order.room.rows;
          off = subst (λ k. k ≤ walk.off_room) (sym keyed) order.room.off;
        };
        room_off = order.room_off;
        tables = tables_less s t tables phase (same_less s t (ap (λ (u : State). u.registrations) still) (ap (λ (u : State). u.short) still) (ap (λ (u : State). u.long) still) (ap (λ (u : State). u.cleanups) still)) order.tables;
      }

  pub taken_in_order : (s t : State) (event : Entry → Event) → ((e : Entry) → IsWork (event e)) → (result : Option Entry) → MatchOption result ((waiting s ≡ []) × (t ≡ s)) (λ e. Follows s (event e) t) → IsInOrder s walk tables phase → IsInOrder t walk tables phase
  taken_in_order s t event work None h order = subst (λ (u : State). IsInOrder u walk tables phase) (sym h.1) order
  taken_in_order s t event work (Some e) h order = worked_in_order s t (event e) (work e) h order

  pub finished_in_order : {A : Type 0} (s t : State) (event : Event) → IsWork event → (result : Result A Refused) → OnErr result (t ≡ s) → OnOk result (Follows s event t) → IsInOrder s walk tables phase → IsInOrder t walk tables phase
  finished_in_order s t event work (Ok x) same follows order = worked_in_order s t event work follows order
  finished_in_order s t event work (Err r) same follows order = subst (λ (u : State). IsInOrder u walk tables phase) (sym same) order
