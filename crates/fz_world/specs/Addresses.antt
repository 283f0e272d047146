-- What a call by an object's address does: what the call by a slot does that holds the address. The call itself reads no slot, and changes none.
-- code: fz_world/src/by_address.rt
use Rattle.std.specs.Prelude.{◌≡◌, ℕ, Bool, List, Option, Result, IsFalse}
use Rattle.fz_model.specs.declared.answers.LinkAnswer.{LinkAnswer}
use Rattle.fz_model.specs.declared.answers.MoveAnswer.{MoveAnswer}
use Rattle.fz_model.specs.declared.answers.Old.{Old}
use Rattle.fz_model.specs.declared.call.Call.TheVariants.{Unregister, Link, Unlink, Move}
use Rattle.fz_model.specs.declared.kinds.LinkKind.{LinkKind}
use Rattle.fz_model.specs.declared.places.Slot.{Slot}
use Rattle.fz_model.specs.declared.refusal.Refusal.{Refusal}
use Rattle.fz_model.specs.Causes.{IsJudgedBy, IsJudgedOrLacks}
use Rattle.fz_model.specs.Events.{Make, causes}
use Rattle.fz_model.specs.Memory.{lacks_slot, slot_word}
use Rattle.fz_world.specs.Does.{Does}
use Rattle.fz_world.specs.World.{WorldView}

-- the world with other root frames
abbrev pub with_frames : WorldView → List (List ℕ) → WorldView
with_frames w frames = record w { core = record w.core { frames = frames } }

-- with any root frames, the call by any slot that holds the address would do the same
abbrev pub ByAddress : WorldView → ℕ → WorldView → (WorldView → Slot → WorldView → Type 0) → Type 0
ByAddress old address new BySlot =
    (frames : List (List ℕ)) (slot : Slot) → IsFalse (lacks_slot frames slot) → slot_word frames slot ≡ address → BySlot (with_frames old frames) slot (with_frames new frames)

-- the same of a call by two slots
abbrev pub ByAddresses : WorldView → ℕ → ℕ → WorldView → (WorldView → Slot → Slot → WorldView → Type 0) → Type 0
ByAddresses old first second new BySlots =
    (frames : List (List ℕ)) (one other : Slot) → IsFalse (lacks_slot frames one) → slot_word frames one ≡ first → IsFalse (lacks_slot frames other) → slot_word frames other ≡ second → BySlots (with_frames old frames) one other (with_frames new frames)

-- what the calls by slots do, and when they are refused
abbrev pub Unregisters : Result (Option Old) Refusal → WorldView → Slot → WorldView → Type 0
Unregisters result old slot new = Does old (Make (Unregister slot)) result new × IsJudgedBy (causes old.core (Make (Unregister slot))) result

module _ (which : LinkKind) (offset : ℕ) where
  abbrev pub Links : Result LinkAnswer Refusal → WorldView → Slot → Slot → WorldView → Type 0
  Links result old slot target new =
      let call = Make (Link which (record { slot = slot; offset = offset }) target) in
      Does old call result new × IsJudgedOrLacks (causes old.core call) result

  abbrev pub Unlinks : Result Bool Refusal → WorldView → Slot → WorldView → Type 0
  Unlinks result old slot new =
      let call = Make (Unlink which (record { slot = slot; offset = offset })) in
      Does old call result new × IsJudgedBy (causes old.core call) result

  abbrev pub Moves : ℕ → Result MoveAnswer Refusal → WorldView → Slot → Slot → WorldView → Type 0
  Moves to_offset result old slot to new =
      let call = Make (Move which (record { slot = slot; offset = offset }) (record { slot = to; offset = to_offset })) in
      Does old call result new × IsJudgedBy (causes old.core call) result
