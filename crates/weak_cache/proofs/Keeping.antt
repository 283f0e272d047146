-- Calls that leave alone what is cached.
use Rattle.std.proofs.Common.{◌≡◌, ℕ, ◌+◌, ◌==◌, ◌&&◌, Bool, true, false, true≢false, if◌then◌else◌, List, [], ◌∷◌, Some, Result, Ok, Err, IsTrue, refl, sym, ap, ◌∙◌, subst, unwrap_or}
use Rattle.std.proofs.lemmas.Bool.{and_parts, eqb-true}
use Rattle.std.proofs.lemmas.Option.{none-some}
use Rattle.std.specs.FinMap.{get, insert}
use Rattle.fz_model.specs.declared.refusal.Refusal.{Refusal}
use Rattle.fz_model.specs.declared.answers.Registration.{Registration}
use Rattle.fz_model.specs.declared.places.Slot.{Slot}
use Rattle.fz_model.specs.State.{Map, Core, State}
use Rattle.fz_model.specs.Memory.{new_object, slot_word, with_slot}
use Rattle.fz_model.specs.Causes.{is_off_heap}
use Rattle.fz_model.specs.declared.call.Call.TheVariants.{Alloc, Load, Set, Register}
use Rattle.fz_model.specs.Places.{slot_at}
use Rattle.fz_model.specs.Events.{Event, Make, Finish, Answer}
use Rattle.fz_model.specs.Steps.{Step, IsReached, OneMore, Accepts}
use Rattle.fz_model.proofs.Maps.{free_place, get-insert_other}
use Rattle.fz_world.specs.World.{WorldView}
use Rattle.fz_world.specs.Does.{Does}
use Rattle.weak_cache.specs.declared.cache.TheConstants.{LIST, HAND}
use Rattle.weak_cache.specs.Cached.{list_in, cached_in, SameIn, KeepsCached, CacheView, IsCache, IsWhole}

-- the cache stays whole, and the same is cached
abbrev pub Keeps : ℕ → Core → Core → Type 0
Keeps keys c d = IsCache keys d × SameIn c d

abbrev pub is_hand : Slot → Bool
is_hand slot = (slot.frame == 0) && (slot.slot == HAND)

-- they change no slot but that of the object in hand, and neither the list nor a link
abbrev pub is_quiet : Event → Bool
is_quiet (Make (Alloc slot size kind)) = is_hand slot
is_quiet (Make (Load place to)) = is_hand to
is_quiet (Make (Set slot word)) = is_hand slot
is_quiet (Make (Register slot finalizer)) = true
is_quiet (Finish entry) = true
is_quiet _ = false

hand_only : (frames : List (List ℕ)) (word : ℕ) → slot_word (with_slot frames (slot_at 0 HAND) word) (slot_at 0 LIST) ≡ slot_word frames (slot_at 0 LIST)
hand_only [] word = refl
hand_only ([] ∷ rest) word = refl
hand_only ((first ∷ slots) ∷ rest) word = refl

at_hand : (frames : List (List ℕ)) (slot : Slot) (word : ℕ) → IsTrue (is_hand slot) → slot_word (with_slot frames slot word) (slot_at 0 LIST) ≡ slot_word frames (slot_at 0 LIST)
at_hand frames slot word here =
    let both = and_parts (slot.frame == 0) (slot.slot == HAND) here in
    ap (λ n. slot_word (with_slot frames (slot_at n slot.slot) word) (slot_at 0 LIST)) (eqb-true slot.frame 0 both.0)
    ∙ ap (λ n. slot_word (with_slot frames (slot_at 0 n) word) (slot_at 0 LIST)) (eqb-true slot.slot HAND both.1)
    ∙ hand_only frames word

-- where list and links are the same
pub same_parts : (keys : ℕ) (c d : Core) → list_in d ≡ list_in c → get d.objects (list_in c) ≡ get c.objects (list_in c) → d.short ≡ c.short → d.long ≡ c.long → IsCache keys c → Keeps keys c d
same_parts keys c d list objects short long h =
    let same : SameIn c d = λ key. ap (λ (m : Map ℕ). get m (list_in d + key)) short ∙ ap (λ l. get c.short (l + key)) list in (
      record {
        list = h.list;
        here = ap (λ l. get d.objects l) list ∙ objects ∙ h.here;
        size = h.size;
        words = λ key few. h.words key few ∙ ap (λ o. Some (unwrap_or o 0)) (sym (same key));
        no_long = λ place. ap (λ (m : Map ℕ). get m place) long ∙ h.no_long place;
      },
      same,
    )

pub onto : (keys : ℕ) (c d new : Core) → new ≡ d → Keeps keys c d → Keeps keys c new
onto keys c d new is keeps = subst (Keeps keys c) (sym is) keeps

registered : (keys : ℕ) (c new : Core) (off : Bool) (table : Map Registration) (next : ℕ) → new ≡ (if off then c else record c { registrations = table; next_number = next }) → IsCache keys c → Keeps keys c new
registered keys c new true table next is h = onto keys c c new is (h, λ key. refl)
registered keys c new false table next is h = onto keys c _ new is (same_parts keys c (record c { registrations = table; next_number = next }) refl refl refl refl h)

accepted : (keys : ℕ) (s : State) (e : Event) (answer : Answer e) (new : Core) → Accepts s e answer new → IsTrue (is_quiet e) → IsCache keys s.core → Keeps keys s.core new
accepted keys s (Make (Alloc slot size kind)) answer new (a, place, told, is) quiet h =
    let c = s.core in
    let made = new_object kind c.next_birth size in
    let other : list_in c ≡ a → ⊥ = λ same. none-some h.list (sym (free_place c.objects c.blocks size a kind place) ∙ ap (λ q. get c.objects q) (sym same) ∙ h.here) in
    onto keys c _ new is
    (same_parts keys c (record c { objects = insert c.objects a made; next_birth = c.next_birth + 1; frames = with_slot c.frames slot a }) (at_hand c.frames slot a quiet) (get-insert_other c.objects a made (list_in c) other) refl refl h)
accepted keys s (Make (Load place to)) answer new (told, is) quiet h =
    onto keys s.core _ new is (same_parts keys s.core (record s.core { frames = with_slot s.frames to answer }) (at_hand s.frames to answer quiet) refl refl refl h)
accepted keys s (Make (Set slot word)) answer new is quiet h =
    onto keys s.core _ new is (same_parts keys s.core (record s.core { frames = with_slot s.frames slot word }) (at_hand s.frames slot word quiet) refl refl refl h)
accepted keys s (Make (Register slot finalizer)) answer new (told, is) quiet h =
    registered keys s.core new (is_off_heap s.blocks (slot_word s.frames slot)) _ _ is h
accepted keys s (Finish entry) answer new is quiet h = onto keys s.core _ new is (same_parts keys s.core _ refl refl refl refl h)
accepted keys s e answer new is quiet h = absurd (true≢false (sym quiet))

quiet_step : (keys : ℕ) (s : State) (e : Event) (reply : Result (Answer e) Refusal) (t : State) → Step s e reply t → IsTrue (is_quiet e) → IsCache keys s.core → Keeps keys s.core t.core
quiet_step keys s e (Err r) t step quiet h = onto keys s.core s.core t.core (ap (λ (u : State). u.core) step.1) (h, λ key. refl)
quiet_step keys s e (Ok answer) t step quiet h = accepted keys s e answer t.core step.1 quiet h

-- one step further
pub reached_on : (s : State) (e : Event) (reply : Result (Answer e) Refusal) (t : State) → IsReached s → Step s e reply t → IsReached t
reached_on s e reply t (blocks, frames, steps) step = (blocks, frames, OneMore e reply refl steps step)

pub quiet_whole : (keys : ℕ) (mid new : WorldView) (e : Event) (reply : Result (Answer e) Refusal) → Does mid e reply new → IsTrue (is_quiet e) → IsWhole keys mid → IsWhole keys new
unfolding Does
quiet_whole keys mid new e reply does quiet w =
    let next = does.1 w.state w.stands in
    record {
      state = next.0;
      reached = reached_on w.state e reply next.0 w.reached next.1;
      stands = next.2;
      shown = does.0 ∙ w.shown;
      cache = (quiet_step keys w.state e reply next.0 next.1 quiet w.cache).0;
    }

pub quiet_same : (keys : ℕ) (old mid new : WorldView) (e : Event) (reply : Result (Answer e) Refusal) → Does mid e reply new → IsTrue (is_quiet e) → IsWhole keys mid → KeepsCached old mid → KeepsCached old new
unfolding Does KeepsCached
quiet_same keys old mid new e reply does quiet w before key =
    let next = does.1 w.state w.stands in
    ap (λ (c : Core). cached_in c key) next.2.core
    ∙ (quiet_step keys w.state e reply next.0 next.1 quiet w.cache).1 key
    ∙ ap (λ (c : Core). cached_in c key) (sym w.stands.core)
    ∙ before key

shown : (keys : ℕ) (cache : CacheView) (world : WorldView) → record { keys = keys; world = world } ≡ cache → KeepsCached cache.world world
unfolding KeepsCached
shown keys cache world is key = ap (λ (c : CacheView). cached_in c.world.core key) is

-- the same, from what a cache shows of its world
pub quiet_now : (keys : ℕ) (cache : CacheView) (old new : WorldView) (e : Event) (reply : Result (Answer e) Refusal) → Does old e reply new → IsTrue (is_quiet e) → record { keys = keys; world = old } ≡ cache → IsWhole keys old → KeepsCached cache.world new
quiet_now keys cache old new e reply does quiet is w = quiet_same keys cache.world old new e reply does quiet w (shown keys cache old is)

pub ruleset quiet_calls = (quiet_whole, quiet_same, quiet_now)
