-- Slots, places and finalizers from their numbers, as contracts of calls write them.
-- code: fz_model/src/places.rt, fz_model/src/finalizer.rt, fz_script/src/fields.rt
use Rattle.std.specs.Prelude.{ℕ, Some}
use Rattle.fz_model.specs.declared.finalizer.Finalizer.{Finalizer}
use Rattle.fz_model.specs.declared.kinds.RegKind.{RegKind}
use Rattle.fz_model.specs.declared.places.Slot.{Slot}
use Rattle.fz_model.specs.declared.places.Place.{Place}

abbrev pub slot_at : ℕ → ℕ → Slot
slot_at frame slot = record { frame = frame; slot = slot }

abbrev pub place_at : ℕ → ℕ → ℕ → Place
place_at frame slot offset = record { slot = slot_at frame slot; offset = offset }

abbrev pub finalizer_of : RegKind → ℕ → ℕ → ℕ → Finalizer
finalizer_of kind proc cd rank = record { kind = kind; procedure = proc; client_data = cd; rank = Some rank }
