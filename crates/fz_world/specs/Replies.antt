-- A call of a world as a value, with everything that the contract of the method of its name states.
-- code: fz_world/src/calls.rt
use Rattle.std.specs.Prelude.{◌≡◌, Result, OnErr, IfOk, IfErr, IsFalse, length}
use Rattle.std.specs.Option.{IsNone}
use Rattle.std.specs.FinMap.{get}
use Rattle.fz_model.specs.declared.call.Call.{Call}
use Rattle.fz_model.specs.declared.call.Call.TheVariants as calls
use Rattle.fz_model.specs.declared.call.Reply.{Reply}
use Rattle.fz_model.specs.declared.refusal.Refusal.{Refusal}
use Rattle.fz_model.specs.declared.refusal.Refusal.TheVariants.{NoMemory}
use Rattle.fz_model.specs.Causes.{IsJudgedBy, IsJudgedOrLacks, is_off_heap}
use Rattle.fz_model.specs.Memory.{slot_word, address_of}
use Rattle.fz_model.specs.Events.{Make, CallAnswer, causes}
use Rattle.fz_model.specs.Calls.{result_of}
use Rattle.fz_world.specs.World.{WorldView, KeepsMarks, MarksMade, NotesWritten}
use Rattle.fz_world.specs.Cycles.{IsBegun, ScansSome, EndsScans, ScansAll}
use Rattle.fz_world.specs.Does.{Does}
use Rattle.fz_world.specs.Links.{link_at}

-- refused for the first cause that applies; only an object's first registration and a new link can run out of memory
abbrev pub IsCaused : WorldView → (c : Call) → Result (CallAnswer c) Refusal → Type 0
IsCaused old (calls.Register slot finalizer) answer =
    IsJudgedOrLacks (causes old.core (Make (calls.Register slot finalizer))) answer
    × IfErr answer (λ r. r ≡ NoMemory → IsFalse (is_off_heap old.blocks (slot_word old.frames slot)) × IsNone (get old.registrations (slot_word old.frames slot)))
IsCaused old (calls.Link which place target) answer =
    IsJudgedOrLacks (causes old.core (Make (calls.Link which place target))) answer × IfErr answer (λ r. r ≡ NoMemory → IsNone (link_at old.core which place))
IsCaused old c answer = IsJudgedBy (causes old.core (Make c)) answer

-- how an accepted call changes marks, scans and dirty pages
abbrev pub MarksAs : (c : Call) → WorldView → CallAnswer c → WorldView → Type 0
MarksAs (calls.Alloc slot size kind) old made new = MarksMade old made.0 new
MarksAs (calls.Store place from) old done new = NotesWritten old (address_of old.frames place) new
MarksAs calls.Begin old done new = IsBegun old new
MarksAs (calls.Mark budget) old progress new = ScansSome budget old progress new
MarksAs calls.Pause old passed new = EndsScans old new
MarksAs calls.Collect old passed new = ScansAll old new
MarksAs calls.Outstanding old count new = (new ≡ old) × (count ≡ length old.held)
MarksAs c old answer new = KeepsMarks old new

-- the world made the call, and the result is its reply; a refused call left the world as it was
pub record Replies (old : WorldView) (c : Call) (result : Result Reply Refusal) (new : WorldView) : Type 0 where
  pub answer : Result (CallAnswer c) Refusal
  pub does : Does old (Make c) answer new
  pub told : result ≡ result_of c answer
  pub kept : OnErr result (new ≡ old)
  pub caused : IsCaused old c answer
  pub marks : IfOk answer (λ a. MarksAs c old a new)
