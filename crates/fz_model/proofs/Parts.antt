-- Each change of a world's parts keeps them sound.
use Rattle.std.proofs.Common.{◌≡◌, ◌+◌, ℕ, Bool, List, [], filter, Some, None, refl, IsTrue}
use Rattle.std.specs.FinMap.{get, insert, remove, empty}
use Rattle.fz_model.specs.declared.kinds.ObjKind.{ObjKind}
use Rattle.fz_model.specs.declared.finalizer.Finalizer.{Finalizer}
use Rattle.fz_model.specs.declared.answers.Entry.{Entry}
use Rattle.fz_model.specs.declared.answers.Registration.{Registration}
use Rattle.fz_model.specs.State.{Map, Object, Core}
use Rattle.fz_model.specs.Memory.{written, new_object}
use Rattle.fz_model.specs.Allocation.{place_for}
use Rattle.fz_model.specs.Causes.{first_cause, alloc_causes, start_causes}
use Rattle.fz_model.specs.Parts.{AreSound}
use Rattle.fz_model.specs.Steps.{registration_of}
use Rattle.fz_model.proofs.Maps.{free_place}
use Rattle.fz_model.proofs.Runs.{opening_sound}
use Rattle.fz_model.proofs.Sound as sound
use Rattle.fz_model.proofs.Sound.{first_none, is_some_of, new_sized, register_sound, other_objects, written_sized, written_object, fewer_regs, removed_back, finish_sound}
pub use Rattle.fz_model.proofs.Effects.{NoneStands, none_stands}
use Rattle.fz_model.proofs.Effects.{some_words}
use Rattle.fz_model.proofs.Stepwise.{pass_keeps}
use Rattle.fz_model.specs.declared.answers.Passed.{Passed}
use Rattle.fz_model.specs.Reachability.{IsReachable}
use Rattle.fz_model.specs.Pass.{Passes}

pub sound_opening : AreSound empty empty 0 [] []
unfolding AreSound
sound_opening = opening_sound 1 1

-- a pass whose found objects are at least the reachable ones
pub sound_passed : (c : Core) (found : ℕ → Bool) (passed : Passed) (new : Core) → ((a : ℕ) → IsReachable c a → IsTrue (found a)) → Passes c found passed new → AreSound c.objects c.registrations c.next_number c.queue c.held → AreSound new.objects new.registrations new.next_number new.queue new.held
unfolding AreSound
sound_passed c found passed new reachable p h = pass_keeps c found passed new h reachable p

module _ (objects : Map Object) (registrations : Map Registration) (next_number : ℕ) (queue held : List Entry) where
  pub sound_removed : (word : ℕ) → AreSound objects registrations next_number queue held → AreSound objects (remove registrations word) next_number queue held
  unfolding AreSound
  sound_removed word h = fewer_regs objects registrations (remove registrations word) next_number queue held (λ a r l. (removed_back registrations word a r l).1) h

  pub sound_filtered : (keep : Entry → Bool) → AreSound objects registrations next_number queue held → AreSound objects registrations next_number queue (filter keep held)
  unfolding AreSound
  sound_filtered keep h = finish_sound _ _ _ _ _ keep h

  pub sound_written : (address value : ℕ) → AreSound objects registrations next_number queue held → AreSound (written address value objects) registrations next_number queue held
  unfolding AreSound written
  sound_written address value h = other_objects _ _ _ _ _ _ h (written_sized _ value objects h.sized) (written_object _ value objects)

  pub sound_made : (blocks next_birth birth size : ℕ) (kind : ObjKind) (a : ℕ) → first_cause (alloc_causes objects blocks next_birth size kind) ≡ None → place_for objects blocks size kind ≡ Some a → AreSound objects registrations next_number queue held → AreSound (insert objects a (new_object kind birth size)) registrations next_number queue held
  unfolding AreSound
  sound_made blocks next_birth birth size kind a none place h =
      other_objects _ _ _ _ _ _ h (new_sized objects a (new_object kind birth size) (some_words size (none_stands (alloc_causes objects blocks next_birth size kind) none).0) h.sized) (sound.new_object objects a (new_object kind birth size) (free_place objects blocks size a kind place))

  pub sound_registered : (word : ℕ) (finalizer : Finalizer) → first_cause (start_causes objects word) ≡ None → AreSound objects registrations next_number queue held → AreSound objects (insert registrations word (registration_of next_number finalizer)) (next_number + 1) queue held
  unfolding AreSound
  sound_registered word finalizer none h =
      let o = is_some_of (get objects word) (none_stands (start_causes objects word) none).1.0 in
      register_sound objects registrations next_number queue held word (registration_of next_number finalizer) o.0 refl o.1 h
