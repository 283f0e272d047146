-- What an accepted call leaves, in classes: each call names its class once, and what all calls keep is proved of each class.
use Rattle.std.proofs.Common.{◌≡◌, ℕ, ◌+◌, ◌≤◌, ◌<◌, Bool, true, false, not, if◌then◌else◌, [], ◌∷◌, ◌++◌, length, replicate, filter, Some, None, Result, Ok, Err, refl, sym, subst, arith, IsTrue, nat_le, true≢false}
use Rattle.std.proofs.lemmas.Bool.{not-false, leb-true, and_parts}
use Rattle.std.proofs.lemmas.List.{length-replicate}
use Rattle.std.specs.FinMap.{get, insert, remove}
use Rattle.fz_model.specs.declared.places.Slot.{Slot}
use Rattle.fz_model.specs.declared.kinds.ObjKind.{ObjKind}
use Rattle.fz_model.specs.declared.kinds.LinkKind.{LinkKind}
use Rattle.fz_model.specs.declared.kinds.LinkKind.TheVariants.{Short, Long}
use Rattle.fz_model.specs.declared.answers.Entry.{Entry}
use Rattle.fz_model.specs.declared.answers.Passed.{Passed}
use Rattle.fz_model.specs.declared.answers.Registration.{Registration}
use Rattle.fz_model.specs.declared.refusal.Refusal.{Refusal}
use Rattle.fz_model.specs.State.{Map, Core, State, opening}
use Rattle.fz_model.specs.Memory.{new_object, written, slot_word, with_slot, address_of}
use Rattle.fz_model.specs.Reachability.{IsReachable}
use Rattle.fz_model.specs.Allocation.{place_for}
use Rattle.fz_model.specs.Pass.{Passes}
use Rattle.fz_model.specs.Causes.{Causes, first_cause, slot_causes, place_causes, start_causes, register_causes, alloc_causes, bad_size, full, is_off_heap}
use Rattle.fz_model.specs.declared.call.Call.TheVariants as calls
use Rattle.fz_model.specs.Events.{Event, Make, Hold, Finish, Queue, Answer, same_entry, links_of, causes}
use Rattle.fz_model.specs.Steps.{Accepts, Step, StepsTo, NoStep, OneMore, any_call, IsReached, registration_of, with_links, moved_to}
use Rattle.fz_model.specs.Joint.{is_finish}
use Rattle.fz_model.specs.Headline.{is_pass}
use Rattle.fz_model.proofs.Sound.{first_none}

-- ---- causes that don't hold

-- of the causes of an accepted call none holds
abbrev pub NoneStands : Causes → Type 0
NoneStands [] = Unit {0}
NoneStands (cause ∷ causes) = (cause.0 ≡ false) × NoneStands causes

pub none_stands : (causes : Causes) → first_cause causes ≡ None → NoneStands causes
none_stands [] none = tt
none_stands (cause ∷ causes) none = let parts = first_none cause causes none in (parts.0, none_stands causes parts.1)

-- nothing refuses the call
abbrev pub IsAllowed : Core → Event → Type 0
IsAllowed c e = first_cause (causes c e) ≡ None

-- an object of a right size has a word
pub some_words : (size : ℕ) → (bad_size size).0 ≡ false → 0 < length {A = ℕ} (replicate size 0)
some_words size good =
    let least : 1 ≤ size = leb-true 1 size (and_parts (nat_le 1 size) _ (not-false _ good)).0 in
    let n : length {A = ℕ} (replicate size 0) ≡ size = length-replicate {A = ℕ} size 0 in
    omega (arith, least, n)

-- ---- the classes

abbrev pub writes : Event → Bool
writes (Make (calls.Alloc _ _ _)) = true
writes (Make (calls.Store _ _)) = true
writes _ = false

-- a pass whose set has all that is reachable
pub record PassOf (c new : Core) : Type 0 where
  pub found : ℕ → Bool
  pub passed : Passed
  pub reachable : (a : ℕ) → IsReachable c a → IsTrue (found a)
  pub passes : Passes c found passed new

-- a table of links gains one or loses one, or one of them is moved
pub data Relinks (c : Core) (e : Event) (old : Map ℕ) : Map ℕ → Type 0 where
  More : (word offset target : ℕ) → (IsAllowed c e → NoneStands (place_causes c.objects word offset ++ (start_causes c.objects target ++ full old (word + offset) ∷ []))) → Relinks c e old (insert old (word + offset) target)
  Fewer : (place : ℕ) → Relinks c e old (remove old place)
  Moved : (from word offset : ℕ) → (IsAllowed c e → NoneStands (place_causes c.objects word offset)) → Relinks c e old (moved_to old from (word + offset) (get old from))

-- what the call leaves of the core
pub data Effect (c : Core) (e : Event) : Core → Type 0 where
  Nothing : Effect c e c
  Put : (slot : Slot) (word : ℕ) → Effect c e (record c { frames = with_slot c.frames slot word })
  Made : (slot : Slot) (size a : ℕ) (kind : ObjKind) → IsTrue (writes e) → (IsAllowed c e → NoneStands (alloc_causes c.objects c.blocks c.next_birth size kind)) → place_for c.objects c.blocks size kind ≡ Some a → Effect c e (record c { objects = insert c.objects a (new_object kind c.next_birth size); next_birth = c.next_birth + 1; frames = with_slot c.frames slot a })
  Wrote : (place word : ℕ) → IsTrue (writes e) → Effect c e (record c { objects = written place word c.objects })
  Entered : (word : ℕ) (r : Registration) → r.number ≡ c.next_number → (IsAllowed c e → NoneStands (start_causes c.objects word ++ register_causes c.registrations c.next_number word)) → Effect c e (record c { registrations = insert c.registrations word r; next_number = c.next_number + 1 })
  Dropped : (word : ℕ) → Effect c e (record c { registrations = remove c.registrations word })
  Shorts : {links : Map ℕ} → Relinks c e c.short links → Effect c e (record c { short = links })
  Longs : {links : Map ℕ} → Relinks c e c.long links → Effect c e (record c { long = links })
  Began : (IsAllowed c e → c.cycle ≡ false) → Effect c e (record c { cycle = true })
  Ended : {new : Core} → IsTrue (is_pass e) → PassOf c new → Effect c e new
  Finished : (keep : Entry → Bool) → IsTrue (is_finish e) → Effect c e (record c { held = filter keep c.held })
  Shut : Effect c e (record c { closed = true })

-- ---- the class of each call

becomes : {c new t : Core} {e : Event} → new ≡ t → Effect c e t → Effect c e new
becomes {c = c} {e = e} is effect = subst (Effect c e) (sym is) effect

entered : (c new : Core) (e : Event) (b : Bool) (word : ℕ) (r : Registration) → r.number ≡ c.next_number → new ≡ (if b then c else record c { registrations = insert c.registrations word r; next_number = c.next_number + 1 }) → (b ≡ false → IsAllowed c e → NoneStands (start_causes c.objects word ++ register_causes c.registrations c.next_number word)) → Effect c e new
entered c new e true word r number is none = becomes is Nothing
entered c new e false word r number is none = becomes is (Entered word r number (none refl))

dropped : (c new : Core) (e : Event) (b : Bool) (word : ℕ) → new ≡ (if b then c else record c { registrations = remove c.registrations word }) → Effect c e new
dropped c new e true word is = becomes is Nothing
dropped c new e false word is = becomes is (Dropped word)

relinked : {c new : Core} {e : Event} (which : LinkKind) {links : Map ℕ} → new ≡ with_links c which links → Relinks c e (links_of c which) links → Effect c e new
relinked Short is r = becomes is (Shorts r)
relinked Long is r = becomes is (Longs r)

pub accepted_pass : (s : State) (e : Event) (answer : Answer e) (new : Core) → IsTrue (is_pass e) → Accepts s e answer new → PassOf s.core new
accepted_pass s (Make calls.Pause) answer new here a = record { found = a.0; passed = answer; reachable = a.1.reachable; passes = a.2 }
accepted_pass s (Make calls.Collect) answer new here a = record { found = a.0; passed = answer; reachable = λ x r. (a.1 x).1 r; passes = a.2 }
accepted_pass s e answer new here a = absurd (true≢false (sym here))

pub effect : (s : State) (e : Event) (answer : Answer e) (new : Core) → Accepts s e answer new → Effect s.core e new
effect s (Make (calls.Alloc slot size kind)) answer new a = becomes a.3 (Made slot size a.0 kind refl (λ none. (none_stands (causes s.core (Make (calls.Alloc slot size kind))) none).1) a.1)
effect s (Make (calls.Copy slot to)) answer new a = becomes a (Put to (slot_word s.frames slot))
effect s (Make (calls.Load place to)) answer new a = becomes a.1 (Put to answer)
effect s (Make (calls.Store place from)) answer new a = becomes a (Wrote (address_of s.frames place) (slot_word s.frames from) refl)
effect s (Make (calls.Set slot word)) answer new a = becomes a (Put slot word)
effect s (Make (calls.Register slot finalizer)) answer new a =
    let w = slot_word s.frames slot in
    let all = λ (b : Bool). slot_causes s.frames slot ++ (if b then [] else (start_causes s.objects w ++ register_causes s.registrations s.next_number w)) in
    entered s.core new (Make (calls.Register slot finalizer)) (is_off_heap s.blocks w) w (registration_of s.next_number finalizer) refl a.1
    (λ within none. (none_stands (all false) (subst (λ b. first_cause (all b) ≡ None) within none)).1)
effect s (Make (calls.Unregister slot)) answer new a = let w = slot_word s.frames slot in dropped s.core new (Make (calls.Unregister slot)) (is_off_heap s.blocks w) w a.1
effect s (Make (calls.Link which place target)) answer new a =
    relinked which a.1 (More (slot_word s.frames place.slot) place.offset (slot_word s.frames target) (λ none. (none_stands (causes s.core (Make (calls.Link which place target))) none).1.1))
effect s (Make (calls.Unlink which place)) answer new a = relinked which a.1 (Fewer (address_of s.frames place))
effect s (Make (calls.Move which place to)) answer new a =
    relinked which a.1 (Moved (address_of s.frames place) (slot_word s.frames to.slot) to.offset (λ none. (none_stands (causes s.core (Make (calls.Move which place to))) none).1.1.1.1))
effect s (Make calls.Begin) answer new a = becomes a (Began (λ none. (none_stands (causes s.core (Make calls.Begin)) none).0))
effect s (Make (calls.Mark budget)) answer new a = becomes a.1 Nothing
effect s (Make calls.Pause) answer new a = Ended refl (accepted_pass s (Make calls.Pause) answer new refl a)
effect s (Make calls.Collect) answer new a = Ended refl (accepted_pass s (Make calls.Collect) answer new refl a)
effect s (Make calls.Close) answer new a = becomes a Shut
effect s (Make calls.Outstanding) answer new a = becomes a.1 Nothing
effect s (Hold slot entry) answer new a = becomes a (Put slot entry.obj)
effect s (Finish entry) answer new a = becomes a (Finished (λ h. not (same_entry entry h)) refl)
effect s Queue answer new a = becomes a.1 Nothing

-- ---- what each class keeps, each step keeps

module _ (P : Core → Type 0) (keeps : (c : Core) (e : Event) (new : Core) → IsAllowed c e → P c → Effect c e new → P new) where
  pub step_keeps : (s : State) (e : Event) (reply : Result (Answer e) Refusal) (new : State) → P s.core → Step s e reply new → P new.core
  step_keeps s e (Err r) new h step = subst (λ (t : State). P t.core) (sym step.1) h
  step_keeps s e (Ok answer) new h step = keeps s.core e new.core step.0 h (effect s e answer new.core step.1)

  pub steps_keep : (may : Event → Bool) (s t : State) → P s.core → StepsTo may s t → P t.core
  steps_keep may s t h NoStep = h
  steps_keep may s t h (OneMore {mid = mid} e reply ok before step) = step_keeps mid e reply t (steps_keep may s mid h before) step

  pub reached_keeps : ((blocks frames : ℕ) → P (opening blocks frames).core) → (s : State) → IsReached s → P s.core
  reached_keeps opens s r = steps_keep any_call (opening r.0 r.1) s (opens r.0 r.1) r.2
