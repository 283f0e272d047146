-- In a reached state, what was seen is closed under children, and has what is reachable now.
use Rattle.std.proofs.Common.{◌≡◌, ℕ, false, Some, None, Ok, Err, refl, sym, ap, ◌∙◌, subst, arith}
use Rattle.std.proofs.lemmas.Bool.{both_ways}
use Rattle.std.specs.FinMap.{get, insert}
use Rattle.fz_model.specs.declared.kinds.ObjKind.{ObjKind}
use Rattle.fz_model.specs.State.{Object, Core, State, opening}
use Rattle.fz_model.specs.Extents.{extents, extent_of}
use Rattle.fz_model.specs.Memory.{points, new_object}
use Rattle.fz_model.specs.Seen.{SeenIsClosed}
use Rattle.fz_model.specs.Causes.{first_cause}
use Rattle.fz_model.specs.declared.call.Call.TheVariants.{Alloc, Store}
use Rattle.fz_model.specs.declared.places.Slot.{Slot}
use Rattle.fz_model.specs.Events.{Event, Make, Answer, causes}
use Rattle.fz_model.specs.Steps.{Accepts, StepsTo, NoStep, OneMore, any_call, IsReached}
use Rattle.fz_model.proofs.Maps.{get-insert_same}
use Rattle.fz_model.proofs.Objects.{points_at, to_covers}
use Rattle.fz_model.proofs.Effects.{none_stands, some_words}
use Rattle.fz_model.proofs.SeenAfter.{IsShown, accepted_seen}
use Rattle.fz_model.proofs.Standing.{Standing, get_extent, reached_standing}
use Rattle.fz_model.proofs.Allocation.{Laid, laid_apart, reached_laid}

-- the start of a new object points to it
new_points : (s t : State) (slot : Slot) (size : ℕ) (kind : ObjKind) (a : ℕ) → Laid t.core → first_cause (causes s.core (Make (Alloc slot size kind))) ≡ None → t.objects ≡ insert s.objects a (new_object kind s.next_birth size) → points t.objects a ≡ Some a
new_points s t slot size kind a h none is =
    let v : Object = new_object kind s.next_birth size in
    let here : get t.objects a ≡ Some v = ap (λ m. get m a) is ∙ get-insert_same s.objects a v in
    let some = some_words size (none_stands (causes s.core (Make (Alloc slot size kind))) none).1.0 in
    points_at (extents t.objects) (laid_apart t.blocks (extents t.objects) h) a a (extent_of v) (get_extent t.objects a v here) (to_covers a a (extent_of v) (omega arith) (omega (arith, some)))

-- what an accepted call asks of the frames and of the new object
shown : (s t : State) → Standing s.core → Laid t.core → (e : Event) (answer : Answer e) → first_cause (causes s.core e) ≡ None → Accepts s e answer t.core → IsShown s.core e answer t.core
shown s t standing laid (Make (Alloc slot size kind)) answer none a =
    (standing.whole, subst (λ (p : ℕ × ℕ). points t.objects p.0 ≡ Some p.0) (sym a.2) (new_points s t slot size kind a.0 laid none (ap (λ (c : Core). c.objects) a.3)))
shown s t standing laid (Make (Store _ _)) answer none a = standing.whole
shown s t standing laid _ answer none a = tt

opening_seen : (blocks frames : ℕ) → SeenIsClosed (opening blocks frames)
opening_seen blocks frames = record { outside = λ _. refl; reachable = λ on. absurd (both_ways false refl on); closed = λ on. absurd (both_ways false refl on) }

steps_seen : (blocks frames : ℕ) (s : State) → StepsTo any_call (opening blocks frames) s → SeenIsClosed s
steps_seen blocks frames s NoStep = opening_seen blocks frames
steps_seen blocks frames s (OneMore {mid = mid} e (Err r) ok before step) = subst SeenIsClosed (sym step.1) (steps_seen blocks frames mid before)
steps_seen blocks frames s (OneMore {mid = mid} e (Ok answer) ok before step) =
    accepted_seen mid s (steps_seen blocks frames mid before) step.2 e answer
    (shown mid s (reached_standing mid (blocks, frames, before)) (reached_laid s (blocks, frames, OneMore e (Ok answer) ok before step)) e answer step.0 step.1) step.0 step.1

pub seen_is_closed : (s : State) → IsReached s → SeenIsClosed s
seen_is_closed s r = steps_seen r.0 r.1 s r.2
