-- How C's structs and numbers represent results, and the meaning of C's numbers.
-- code: fz_c/src/machine/registering.rt, linking.rt, adding.rt
use Rattle.std.specs.Prelude.{◌≡◌, ℕ, zero, suc, Bool, true, false, Option}
use Rattle.fz_model.specs.declared.answers.Old as answers
use Rattle.fz_model.specs.declared.answers.MoveAnswer.{MoveAnswer}
use Rattle.fz_model.specs.declared.answers.MoveAnswer.TheVariants as moved
use Rattle.fz_finalizers.specs.declared.cleanups.Attached.{Attached}
use Rattle.fz_finalizers.specs.declared.cleanups.Cleanup.{Cleanup}
use Rattle.fz_finalizers.specs.declared.kinds.Finalizer.{Finalizer}
use Rattle.fz_finalizers.specs.declared.kinds.Kind.{Kind}
use Rattle.fz_finalizers.specs.declared.kinds.Kind.TheVariants.{Normal, IgnoreSelf, NoOrder, Unreachable}
use Rattle.fz_c.specs.declared.machine.registering.Registered.{Registered}
use Rattle.fz_c.specs.Values.{TellsOld, link_kind_of}

abbrev pub TellsRegistered : ℕ → Option answers.Old → Registered → Type 0
TellsRegistered number old told = (told.number ≡ number) × TellsOld told.replaced old

-- the kinds of registrations
abbrev pub kind_of : ℕ → Kind
kind_of zero = Normal
kind_of (suc zero) = IgnoreSelf
kind_of (suc (suc zero)) = NoOrder
kind_of (suc (suc (suc n))) = Unreachable

abbrev pub finalizer_of : ℕ → ℕ → ℕ → ℕ → Finalizer
finalizer_of kind proc cd rank = record { kind = kind_of kind; procedure = proc; client_data = cd; rank = rank }

-- a cleanup, whose time is encoded as a kind of links; and what is returned of a cancelled one
abbrev pub cleanup_of : Bool → ℕ → ℕ → ℕ → Cleanup
cleanup_of is_long proc cd rank = record { when = link_kind_of is_long; procedure = proc; client_data = cd; rank = rank }

abbrev pub old_of_cleanup : Attached → answers.Old
old_of_cleanup c = record { proc = c.cleanup.procedure; cd = c.cleanup.client_data }

-- the kinds of links, and the results of calls on links
abbrev pub link_number : Bool → ℕ
link_number true = 1
link_number false = 0

abbrev pub move_number : MoveAnswer → ℕ
move_number moved.Success = 0
move_number moved.Duplicate = 1
move_number moved.NotFound = 4
