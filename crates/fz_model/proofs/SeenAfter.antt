-- An accepted call keeps what was seen closed under children, and but for a pause it doesn't hang on what was seen.
use Rattle.std.proofs.Common.{◌≡◌, Bool, true, false, List, Some, None, refl, ap, ◌∙◌, IsFalse, true≢false}
use Rattle.std.proofs.lemmas.Bool.{both_ways}
use Rattle.fz_model.specs.State.{Core, State}
use Rattle.fz_model.specs.Memory.{points}
use Rattle.fz_model.specs.Seen.{SeenIsClosed}
use Rattle.fz_model.specs.Causes.{first_cause}
use Rattle.fz_model.specs.declared.call.Call.TheVariants.{Alloc, Store, Pause}
use Rattle.fz_model.specs.Events.{Event, Make, Answer, causes}
use Rattle.fz_model.specs.Steps.{Accepts, moments_after}
use Rattle.fz_model.proofs.Effects.{none_stands, IsAllowed, writes, Effect, Made, Wrote, Began, Ended, effect}
use Rattle.fz_model.proofs.SeenKept.{FramesWhole, same_heap, ended, store_seen, alloc_seen, begin_seen}

-- what else has to be known: that the frames are whole, and that a word points to the new object
abbrev pub IsShown : Core → (e : Event) → Answer e → Core → Type 0
IsShown old (Make (Alloc _ _ _)) answer new = FramesWhole old × (points new.objects answer.0 ≡ Some answer.0)
IsShown old (Make (Store _ _)) answer new = FramesWhole old
IsShown old _ answer new = Unit {0}

module _ (s t : State) (h : SeenIsClosed s) (moments : t.moments ≡ moments_after s t.core) where
  -- a call that leaves the objects, or ends the cycle
  effect_seen : (e : Event) (new : Core) → t.core ≡ new → IsFalse (writes e) → IsAllowed s.core e → Effect s.core e new → SeenIsClosed t
  effect_seen e new is other allowed (Made _ _ _ _ here _ _) = absurd (both_ways (writes e) other here)
  effect_seen e new is other allowed (Wrote _ _ here) = absurd (both_ways (writes e) other here)
  effect_seen e new is other allowed (Began off) = begin_seen s t h (off allowed) is moments
  effect_seen e new is other allowed (Ended here p) = ended s t (ap (λ (x : Core). x.cycle) (is ∙ p.passes.is)) moments
  effect_seen e new is other allowed _ = same_heap s t h (ap (λ (x : Core). x.objects) is) (ap (λ (x : Core). x.cycle) is) moments

  pub accepted_seen : (e : Event) (answer : Answer e) → IsShown s.core e answer t.core → first_cause (causes s.core e) ≡ None → Accepts s e answer t.core → SeenIsClosed t
  accepted_seen (Make (Alloc slot size kind)) answer shown none a = alloc_seen s t slot size kind answer h shown.0 (none_stands (causes s.core (Make (Alloc slot size kind))) none).0 shown.1 a moments
  accepted_seen (Make (Store place from)) answer shown none a = store_seen s t place from h shown (none_stands (causes s.core (Make (Store place from))) none).1.0 a moments
  accepted_seen e answer shown none a = effect_seen e t.core refl refl none (effect s e answer t.core a)

-- ---- what was seen decides of a pause alone

abbrev pub is_pause : Event → Bool
is_pause (Make Pause) = true
is_pause _ = false

pub whatever_seen : (c : Core) (seen other : List Core) (e : Event) (answer : Answer e) (new : Core) → IsFalse (is_pause e) → Accepts (record { core = c; moments = seen }) e answer new → Accepts (record { core = c; moments = other }) e answer new
whatever_seen c seen other (Make Pause) answer new is a = absurd (true≢false is)
whatever_seen c seen other e answer new is a = a
