-- What registering a finalizer for a slot's object does, and how a world's finalizers register it.
-- code: fz_world/src/registrations.rt
use Rattle.std.specs.Prelude.{◌≡◌, false, Result, IfErr, OnErr, IsFalse}
use Rattle.std.specs.Option.{IsNone, unwrap_or}
use Rattle.std.specs.FinMap.{get}
use Rattle.fz_model.specs.declared.answers.RegAnswer.{RegAnswer}
use Rattle.fz_model.specs.declared.call.Call.TheVariants.{Register}
use Rattle.fz_model.specs.declared.finalizer.Finalizer.{Finalizer}
use Rattle.fz_model.specs.declared.places.Slot.{Slot}
use Rattle.fz_model.specs.declared.refusal.Refusal.{Refusal}
use Rattle.fz_model.specs.declared.refusal.Refusal.TheVariants.{NoMemory}
use Rattle.fz_model.specs.Causes.{IsJudgedOrLacks, is_off_heap}
use Rattle.fz_model.specs.Events.{Make, causes}
use Rattle.fz_model.specs.Memory.{slot_word}
use Rattle.fz_table.specs.Registered.{Registered}
use Rattle.fz_finalizers.specs.declared.kinds.Finalizer as host
use Rattle.fz_finalizers.specs.Kinds.{of_table}
use Rattle.fz_finalizers.specs.States.{State}
use Rattle.fz_world.specs.Does.{Does}
use Rattle.fz_world.specs.World.{WorldView, KeepsMarks}

-- the finalizer as a host registers it; without a rank it has rank 0
abbrev pub entered : Finalizer → host.Finalizer
entered f = record { kind = of_table false f.kind; procedure = f.procedure; client_data = f.client_data; rank = unwrap_or f.rank 0 }

-- the registrations of a state, and the state with others
abbrev pub registered_in : State → Registered
registered_in s = record { registrations = s.registrations; next_number = s.next_number }

abbrev pub with_registered : State → Registered → State
with_registered s table = record s { registrations = table.registrations; next_number = table.next_number }

pub record RegistersFinalizer (old : WorldView) (slot : Slot) (finalizer : Finalizer) (result : Result RegAnswer Refusal) (new : WorldView) : Type 0 where
  pub step : Does old (Make (Register slot finalizer)) result new
  pub caused : IsJudgedOrLacks (causes old.core (Make (Register slot finalizer))) result
  pub refused : OnErr result (new ≡ old)
  -- only the first registration of an object can run out of memory
  pub inside : IfErr result (λ r. r ≡ NoMemory → IsFalse (is_off_heap old.blocks (slot_word old.frames slot)))
  pub growth : IfErr result (λ r. r ≡ NoMemory → IsNone (get old.registrations (slot_word old.frames slot)))
  pub marks : KeepsMarks old new
