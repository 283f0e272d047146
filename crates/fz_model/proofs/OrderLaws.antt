-- What is told where a call could be refused for two causes.
use Rattle.std.proofs.Common.{◌≡◌, ℕ, ◌+◌, ◌<◌, ◌≤◌, ◌&&◌, ◌||◌, ◌==◌, ◌⊎◌, Bool, true, false, not, if◌then◌else◌, List, [], ◌∷◌, ◌++◌, length, Option, Some, None, is_none, option_map, Ok, Err, refl, sym, ap, ◌∙◌, ⊎_elim, nat_lt, nat_le, arith, subst, MatchOption, inl, inr, true≢false, IsTrue}
use Rattle.std.proofs.lemmas.Bool.{and_parts, and_from, and_right, ltb-true, lt-ltb, le-ltb, le-leb, lt-leb, or_left, or_right, eq-eqb, cases_Bool, cases_lt, both_ways, not-true, leb-true}
use Rattle.std.proofs.lemmas.Option.{same_Some, none-some}
use Rattle.std.specs.Option.{option_map_or}
use Rattle.std.specs.FinMap.{get, len, contains_key}
use Rattle.fz_model.specs.declared.extent.Extent.{Extent}
use Rattle.fz_model.specs.declared.call.Call.{Call}
use Rattle.fz_model.specs.declared.call.Call.TheVariants.{Alloc, Load, Store, Set, Copy, Register, Unregister, Link, Unlink, Move, Begin, Mark, Collect}
use Rattle.fz_model.specs.declared.places.Slot.{Slot}
use Rattle.fz_model.specs.declared.places.Place.{Place}
use Rattle.fz_model.specs.declared.kinds.ObjKind.{ObjKind}
use Rattle.fz_model.specs.declared.finalizer.Finalizer.{Finalizer}
use Rattle.fz_model.specs.declared.refusal.Refusal.{Refusal}
use Rattle.fz_model.specs.declared.refusal.Refusal.TheVariants.{BadSlot, NotPointer, OutsideObject, BadSize, BadCount, CycleOpen, NotStart, Exhausted, SeatsMissing, NoMemory, TableFull}
use Rattle.fz_model.specs.declared.limits.TheConstants.{MAX_OBJECT_WORDS, COUNT_LIMIT, HEAP_START}
use Rattle.fz_model.specs.State.{Map, Object, State, Core}
use Rattle.fz_model.specs.Extents.{covers, extents, extent_of, heap_end}
use Rattle.fz_model.specs.Memory.{points, slot_word, lacks_slot, address_of}
use Rattle.fz_model.specs.Causes.{Causes, first_cause, slot_causes, no_object, other_extent, no_start, start_causes, register_causes, exhausted, bad_size, no_space, is_off_heap, full}
use Rattle.fz_model.specs.declared.kinds.LinkKind.TheVariants.{Short, Long}
use Rattle.fz_model.specs.Refusals.{code_of}
use Rattle.fz_model.specs.Events.{Event, Make, Hold, causes, may_lack_memory}
use Rattle.fz_model.specs.Steps.{Step}
use Rattle.fz_model.specs.OrderLaws.{AlwaysRefuses, AlwaysRefusesCall, HasSlot, LacksSlot, PointsNowhere, EndsBefore, HasPlace, SlotsComeFirst, PlacesComeFirst, SizesComeFirst, ObjectsComeFirst, CyclesComeFirst, FirstIsTold, AlwaysRefusesEvent, WorkersComeFirst, MakesSomething, AnObject, ARegistration, ALink, AMovedLink, IsFullFor, RefusedForACause}
use Rattle.fz_model.specs.Joint.{Joint, JointEvent, Take, HoldOwn, FinishOwn, Forfeit, no_worker, own_causes, Acts}
use Rattle.fz_model.proofs.Maps.{get-extents, not_some}
use Rattle.fz_model.proofs.Objects.{from_covers, to_covers}
use Rattle.fz_model.proofs.Standing.{pointed_at}

-- ---- the first cause that holds is returned

told : (s : State) (e : Event) (r : Refusal) → first_cause (causes s.core e) ≡ Some r → AlwaysRefuses s e r
told s e r first (Ok answer) new step = absurd (none-some r (sym step.0 ∙ first))
told s e r first (Err q) new step =
    ⊎_elim (λ same. ap (λ x. Err x) (same_Some q r (sym same ∙ first))) (λ none. absurd (none-some r (sym none.0 ∙ first))) step.0

told_call : (s : State) (call : Call) (r : Refusal) → first_cause (causes s.core (Make call)) ≡ Some r → AlwaysRefusesCall s call r
told_call s call r first = told s (Make call) r first

stands : (cause : Bool × Refusal) (later : Option Refusal) → cause.0 ≡ true → (if cause.0 then Some cause.1 else later) ≡ Some cause.1
stands cause later on = ap (λ b. if b then Some cause.1 else later) on

passes : (cause : Bool × Refusal) (later : Option Refusal) → cause.0 ≡ false → (if cause.0 then Some cause.1 else later) ≡ later
passes cause later off = ap (λ b. if b then Some cause.1 else later) off

-- ---- slots

lacking : (frames : List (List ℕ)) (slot : Slot) → ((slot.frame < length frames) × (slot.slot < 16) → ⊥) → lacks_slot frames slot ≡ true
lacking frames slot none = at (nat_lt slot.frame (length frames) && nat_lt slot.slot 16) refl
  where
    at : (b : Bool) → (nat_lt slot.frame (length frames) && nat_lt slot.slot 16) ≡ b → not b ≡ true
    at true is =
        let both = and_parts (nat_lt slot.frame (length frames)) (nat_lt slot.slot 16) is in
        absurd (none (ltb-true slot.frame (length frames) both.0, ltb-true slot.slot 16 both.1))
    at false is = refl

having : (frames : List (List ℕ)) (slot : Slot) → (slot.frame < length frames) × (slot.slot < 16) → lacks_slot frames slot ≡ false
having frames slot has = ap not (and_from _ _ (lt-ltb slot.frame (length frames) has.0) (lt-ltb slot.slot 16 has.1))

-- whether the first slot is missing too or not
second_lacks : (first second : Bool) (later : Option Refusal) → second ≡ true → (if first then Some BadSlot else (if second then Some BadSlot else later)) ≡ Some BadSlot
second_lacks true second later on = refl
second_lacks false second later on = stands (second, BadSlot) later on

slots_come_first : (s : State) (slot : Slot) (lacks : LacksSlot s slot) → SlotsComeFirst s slot lacks
slots_come_first s slot lacks = record {
  alloc = λ size kind. told_call s (Alloc slot size kind) BadSlot (first _);
  load = λ offset to. told_call s (Load (at offset) to) BadSlot (first _);
  load_to = λ place. told_call s (Load place slot) BadSlot (second place.slot _);
  store = λ offset from. told_call s (Store (at offset) from) BadSlot (first _);
  store_from = λ place. told_call s (Store place slot) BadSlot (second place.slot _);
  set = λ word. told_call s (Set slot word) BadSlot (first _);
  copy = λ to. told_call s (Copy slot to) BadSlot (first _);
  copy_to = λ from. told_call s (Copy from slot) BadSlot (second from _);
  register = λ finalizer. told_call s (Register slot finalizer) BadSlot (first _);
  unregister = told_call s (Unregister slot) BadSlot (first _);
  link = λ which offset target. told_call s (Link which (at offset) target) BadSlot (first _);
  link_to = λ which place. told_call s (Link which place slot) BadSlot (second place.slot _);
  unlink = λ which offset. told_call s (Unlink which (at offset)) BadSlot (first _);
  move = λ which offset to. told_call s (Move which (at offset) to) BadSlot (first _);
  move_to = λ which place offset. told_call s (Move which place (at offset)) BadSlot (second place.slot _);
  hold = λ entry. told s (Hold slot entry) BadSlot (first _);
}
  where
    at : ℕ → Place
    at offset = record { slot = slot; offset = offset }

    lacks_it : lacks_slot s.frames slot ≡ true
    lacks_it = lacking s.frames slot lacks

    first : (later : Option Refusal) → (if lacks_slot s.frames slot then Some BadSlot else later) ≡ Some BadSlot
    first later = stands (lacks_slot s.frames slot, BadSlot) later lacks_it

    second : (before : Slot) (later : Option Refusal) → (if lacks_slot s.frames before then Some BadSlot else (if lacks_slot s.frames slot then Some BadSlot else later)) ≡ Some BadSlot
    second before later = second_lacks (lacks_slot s.frames before) (lacks_slot s.frames slot) later lacks_it

-- ---- places

-- the causes of a place, before those that come later
abbrev placing : Map Object → ℕ → ℕ → Option Refusal → Option Refusal
placing objects word offset later =
    if (no_object objects word).0 then Some NotPointer else (if (other_extent (extents objects) word (word + offset)).0 then Some OutsideObject else later)

-- and those of a target
abbrev starting : Map Object → ℕ → Option Refusal → Option Refusal
starting objects word later = if (no_object objects word).0 then Some NotPointer else (if (no_start objects word).0 then Some NotStart else later)

nowhere : (objects : Map Object) (word : ℕ) (later : Option Refusal) → points objects word ≡ None → (if (no_object objects word).0 then Some NotPointer else later) ≡ Some NotPointer
nowhere objects word later none = stands (no_object objects word) later (ap is_none none)

inside : (objects : Map Object) (word : ℕ) (later : Option Refusal) (start : ℕ) → points objects word ≡ Some start → get objects word ≡ None → starting objects word later ≡ Some NotStart
inside objects word later start points_there none = passes (no_object objects word) _ (ap is_none points_there) ∙ stands (no_start objects word) later (ap is_none none)

module _ (objects : Map Object) (word offset : ℕ) (later : Option Refusal) (start : ℕ) (o : Object) (points_there : points objects word ≡ Some start) (stands_there : get objects start ≡ Some o) where
  abbrev covered : Extent → Bool
  covered x = covers (start, x) (word + offset)

  is_outside : (other_extent (extents objects) word (word + offset)).0 ≡ not (covered (extent_of o))
  is_outside =
      ap (λ p. not (option_map_or (λ a. option_map_or (λ (x : Extent). covers (a, x) (word + offset)) (get (extents objects) a) false) p false)) points_there
      ∙ ap (λ g. not (option_map_or covered g false)) (get-extents objects start ∙ ap (λ g. option_map extent_of g) stands_there)

  outside : start + length o.words ≤ word + offset → placing objects word offset later ≡ Some OutsideObject
  outside beyond = passes (no_object objects word) _ (ap is_none points_there) ∙ stands (other_extent (extents objects) word (word + offset)) later (is_outside ∙ ap not (and_right _ _ (le-ltb _ _ beyond)))

  placed : word + offset < start + length o.words → placing objects word offset later ≡ later
  placed within =
      let own = pointed_at objects word start points_there in
      let low = (from_covers start word (extent_of own.0) own.2).0 in
      passes (no_object objects word) _ (ap is_none points_there)
      ∙ passes (other_extent (extents objects) word (word + offset)) later (is_outside ∙ ap not (to_covers start (word + offset) (extent_of o) (omega (arith, low)) within))

places_come_first : (s : State) (place to : Place) (here : HasSlot s place.slot) (there : HasSlot s to.slot) → PlacesComeFirst s place to here there
places_come_first s place to here there = record {
  load_nowhere = λ none. told_call s (Load place to.slot) NotPointer (both _ ∙ no_place none _);
  load_outside = λ ends. told_call s (Load place to.slot) OutsideObject (both _ ∙ past ends _);
  store_nowhere = λ none. told_call s (Store place to.slot) NotPointer (both _ ∙ no_place none _);
  store_outside = λ ends. told_call s (Store place to.slot) OutsideObject (both _ ∙ past ends _);
  unlink_nowhere = λ which none. told_call s (Unlink which place) NotPointer (one _ ∙ no_place none _);
  unlink_outside = λ which ends. told_call s (Unlink which place) OutsideObject (one _ ∙ past ends _);
  link_nowhere = λ which none. told_call s (Link which place to.slot) NotPointer (both _ ∙ no_place none _);
  link_outside = λ which ends. told_call s (Link which place to.slot) OutsideObject (both _ ∙ past ends _);
  link_to_nowhere = λ which has none. told_call s (Link which place to.slot) NotPointer (both _ ∙ there_is has _ ∙ nowhere s.objects target _ none);
  link_to_inside = λ which has within. told_call s (Link which place to.slot) NotStart (both _ ∙ there_is has _ ∙ inside s.objects target _ within.0 within.1 within.2);
  move_nowhere = λ which none. told_call s (Move which place to) NotPointer (both _ ∙ no_place none _);
  move_outside = λ which ends. told_call s (Move which place to) OutsideObject (both _ ∙ past ends _);
  move_to_nowhere = λ which has none. told_call s (Move which place to) NotPointer (both _ ∙ there_is has _ ∙ nowhere s.objects target _ none);
  move_to_outside = λ which has ends. told_call s (Move which place to) OutsideObject (both _ ∙ there_is has _ ∙ outside s.objects target to.offset _ ends.0 ends.1 ends.2 ends.3 ends.4);
}
  where
    word : ℕ
    word = slot_word s.frames place.slot

    target : ℕ
    target = slot_word s.frames to.slot

    -- slots that are there are passed over
    one : (later : Option Refusal) → (if lacks_slot s.frames place.slot then Some BadSlot else later) ≡ later
    one later = passes (lacks_slot s.frames place.slot, BadSlot) later (having s.frames place.slot here)

    both : (later : Option Refusal) → (if lacks_slot s.frames place.slot then Some BadSlot else (if lacks_slot s.frames to.slot then Some BadSlot else later)) ≡ later
    both later = one _ ∙ passes (lacks_slot s.frames to.slot, BadSlot) later (having s.frames to.slot there)

    no_place : PointsNowhere s place.slot → (later : Option Refusal) → placing s.objects word place.offset later ≡ Some NotPointer
    no_place none later = nowhere s.objects word _ none

    past : EndsBefore s place → (later : Option Refusal) → placing s.objects word place.offset later ≡ Some OutsideObject
    past ends later = outside s.objects word place.offset later ends.0 ends.1 ends.2 ends.3 ends.4

    there_is : HasPlace s place → (later : Option Refusal) → placing s.objects word place.offset later ≡ later
    there_is has later = placed s.objects word place.offset later has.0 has.1 has.2 has.3 has.4

-- ---- sizes and births

wrong_size : (size : ℕ) → (size ≡ 0) ⊎ (MAX_OBJECT_WORDS < size) → (bad_size size).0 ≡ true
wrong_size size wrong =
    ⊎_elim (λ zero. ap (λ n. not (nat_le 1 n && nat_le n 1024)) zero) (λ large. ap not (and_right (nat_le 1 size) (nat_le size 1024) (lt-leb size 1024 large))) wrong

right_size : (size : ℕ) → 1 ≤ size → size ≤ MAX_OBJECT_WORDS → (bad_size size).0 ≡ false
right_size size low high = ap not (and_from (nat_le 1 size) (nat_le size 1024) (le-leb 1 size low) (le-leb size 1024 high))

sizes_come_first : (s : State) (slot : Slot) (size : ℕ) (kind : ObjKind) (here : HasSlot s slot) → SizesComeFirst s slot size kind here
sizes_come_first s slot size kind here = record {
  wrong = λ wrong. told_call s (Alloc slot size kind) BadSize (there ∙ stands (bad_size size) _ (wrong_size size wrong));
  births = λ low high used. told_call s (Alloc slot size kind) Exhausted (there ∙ passes (bad_size size) _ (right_size size low high) ∙ stands (exhausted s.next_birth) _ (le-leb COUNT_LIMIT s.next_birth used));
}
  where
    there : first_cause (causes s.core (Make (Alloc slot size kind))) ≡ first_cause (bad_size size ∷ exhausted s.next_birth ∷ no_space (extents s.objects) s.blocks size kind ∷ [])
    there = passes (lacks_slot s.frames slot, BadSlot) _ (having s.frames slot here)

-- ---- objects and numbers

objects_come_first : (s : State) (slot : Slot) (finalizer : Finalizer) (here : HasSlot s slot) (low : HEAP_START ≤ slot_word s.frames slot) (high : slot_word s.frames slot < heap_end s.blocks) → ObjectsComeFirst s slot finalizer here low high
objects_come_first s slot finalizer here low high = record {
  nowhere = λ none. told_call s call NotPointer (there (others ++ more) ∙ nowhere s.objects word _ none);
  inside = λ within. told_call s call NotStart (there (others ++ more) ∙ inside s.objects word _ within.0 within.1 within.2);
  numbers = λ start o points_there here used. told_call s call Exhausted (there (others ++ more) ∙ passes (no_object s.objects word) _ (ap is_none points_there) ∙ passes (no_start s.objects word) _ (ap is_none here) ∙ stands (exhausted s.next_number) _ (le-leb COUNT_LIMIT s.next_number used));
  unregister_nowhere = λ none. told_call s (Unregister slot) NotPointer (there others ∙ nowhere s.objects word _ none);
  unregister_inside = λ within. told_call s (Unregister slot) NotStart (there others ∙ inside s.objects word _ within.0 within.1 within.2);
}
  where
    word : ℕ
    word = slot_word s.frames slot

    call : Call
    call = Register slot finalizer

    others : Causes
    others = start_causes s.objects word

    more : Causes
    more = register_causes s.registrations s.next_number word

    on_heap : is_off_heap s.blocks word ≡ false
    on_heap = ap (λ b. b || nat_le (heap_end s.blocks) word) (le-ltb _ _ low) ∙ lt-leb _ _ high

    there : (all : Causes) → first_cause (slot_causes s.frames slot ++ (if is_off_heap s.blocks word then [] else all)) ≡ first_cause all
    there all =
        passes (lacks_slot s.frames slot, BadSlot) (first_cause (if is_off_heap s.blocks word then [] else all)) (having s.frames slot here)
        ∙ ap (λ b. first_cause (if b then [] else all)) on_heap

-- ---- cycles

cycles_come_first : (s : State) → CyclesComeFirst s
cycles_come_first s = record {
  mark = told_call s (Mark 0) BadCount refl;
  begin = λ is_open. told_call s Begin CycleOpen (stands (s.cycle, CycleOpen) _ is_open);
  collect = λ is_open. told_call s Collect CycleOpen (stands (s.cycle, CycleOpen) _ is_open);
}

pub first_is_told : (s : State) → FirstIsTold s
first_is_told s = record {
  slots = slots_come_first s;
  places = places_come_first s;
  sizes = sizes_come_first s;
  objects = objects_come_first s;
  cycles = cycles_come_first s;
}

-- ---- workers

event_told : (j : Joint) (e : JointEvent) (r : Refusal) → first_cause (own_causes j e) ≡ Some r → AlwaysRefusesEvent j e r
event_told j e r first reply new step = (subst (λ o. MatchOption o (Acts j e reply new) (λ r. (reply ≡ Err r) × (new ≡ j))) first step).0

pub workers_come_first : (j : Joint) (w : ℕ) (missing : length j.workers ≤ w) → WorkersComeFirst j w missing
workers_come_first j w missing = record {
  take = event_told j (Take w) SeatsMissing (none _);
  hold = λ slot. event_told j (HoldOwn w slot) SeatsMissing (none _);
  finish = event_told j (FinishOwn w) SeatsMissing (none _);
  forfeit = event_told j (Forfeit w) SeatsMissing (none _);
}
  where
    none : (later : Option Refusal) → (if (no_worker j w).0 then Some SeatsMissing else later) ≡ Some SeatsMissing
    none later = stands (no_worker j w) later (ap not (le-ltb w (length j.workers) missing))

-- ---- memory, sizes, counts and tables

-- whether a cause with this number holds
abbrev stands_as : ℕ → Causes → Bool
stands_as code [] = false
stands_as code (cause ∷ causes) = ((code_of cause.1 == code) && cause.0) || stands_as code causes

told_stands : (causes : Causes) (r : Refusal) → first_cause causes ≡ Some r → stands_as (code_of r) causes ≡ true
told_stands [] r told = absurd (none-some r told)
told_stands (cause ∷ causes) r told =
    ⊎_elim
    (λ on.
    let same = same_Some cause.1 r (sym (stands cause (first_cause causes) on) ∙ told) in
    or_left ((code_of cause.1 == code_of r) && cause.0) _ (and_from _ _ (eq-eqb (code_of cause.1) (code_of r) (ap code_of same)) on))
    (λ off. or_right ((code_of cause.1 == code_of r) && cause.0) _ (told_stands causes r (sym (passes cause (first_cause causes) off) ∙ told)))
    (cases_Bool cause.0)

-- a call that is refused so has this cause, unless memory was lacking
refused_stands : (s new : State) (e : Event) (r : Refusal) → (r ≡ NoMemory → ⊥) → Step s e (Err r) new → stands_as (code_of r) (causes s.core e) ≡ true
refused_stands s new e r other step = ⊎_elim (told_stands (causes s.core e) r) (λ lacks. absurd (other lacks.1)) step.0

-- no list of causes contains out of memory
no_memory : (c : Core) (e : Event) → stands_as 12 (causes c e) ≡ false
no_memory c (Make (Register slot finalizer)) =
    let word = slot_word c.frames slot in
    elim (is_off_heap c.blocks word) as (λ b. stands_as 12 (slot_causes c.frames slot ++ (if b then [] else (start_causes c.objects word ++ register_causes c.registrations c.next_number word))) ≡ false) [ true ↦ refl | false ↦ refl ]
no_memory c (Make (Unregister slot)) =
    let word = slot_word c.frames slot in
    elim (is_off_heap c.blocks word) as (λ b. stands_as 12 (slot_causes c.frames slot ++ (if b then [] else start_causes c.objects word)) ≡ false) [ true ↦ refl | false ↦ refl ]
no_memory c e = refl

makes_something : (e : Event) → IsTrue (may_lack_memory e) → MakesSomething e
makes_something (Make (Alloc slot size kind)) may = AnObject slot size kind
makes_something (Make (Register slot finalizer)) may = ARegistration slot finalizer
makes_something (Make (Link which place target)) may = ALink which place target
makes_something (Make (Move which place to)) may = AMovedLink which place to
makes_something e may = absurd (true≢false (sym may))

or_none : (b : Bool) → (b || false) ≡ true → b ≡ true
or_none true on = refl
or_none false on = on

is_full : {X : Type 0} (table : Map X) (key : ℕ) → ((full table key).0 || false) ≡ true → IsFullFor table key
is_full table key on =
    let both = and_parts (not (contains_key table key)) (nat_le 65536 (len table)) (or_none _ on) in
    (leb-true 65536 (len table) both.1, not_some (get table key) (not-true _ both.0))

used_up : (count : ℕ) → ((exhausted count).0 || false) ≡ true → COUNT_LIMIT ≤ count
used_up count on = leb-true COUNT_LIMIT count (or_none _ on)

is_wrong : (size : ℕ) → (bad_size size).0 ≡ true → (size ≡ 0) ⊎ (MAX_OBJECT_WORDS < size)
is_wrong size on =
    ⊎_elim
    (λ none. inl (omega (arith, none)))
    (λ some. ⊎_elim inr (λ few. absurd (both_ways _ (right_size size some few) on)) (cases_lt 1024 size))
    (cases_lt size 1)

size_is_told : BadSize ≡ NoMemory → ⊥
size_is_told same = omega (arith, ap code_of same)

count_is_told : Exhausted ≡ NoMemory → ⊥
count_is_told same = omega (arith, ap code_of same)

table_is_told : TableFull ≡ NoMemory → ⊥
table_is_told same = omega (arith, ap code_of same)

-- a registration whose causes hold is on the heap
on_heap : (s : State) (slot : Slot) (finalizer : Finalizer) (code : ℕ) → stands_as code (slot_causes s.frames slot ++ []) ≡ false → stands_as code (causes s.core (Make (Register slot finalizer))) ≡ true → stands_as code (slot_causes s.frames slot ++ (start_causes s.objects (slot_word s.frames slot) ++ register_causes s.registrations s.next_number (slot_word s.frames slot))) ≡ true
on_heap s slot finalizer code none on =
    let word = slot_word s.frames slot in
    let of : Bool → Causes = λ b. slot_causes s.frames slot ++ (if b then [] else (start_causes s.objects word ++ register_causes s.registrations s.next_number word)) in
    ⊎_elim
    (λ off. absurd (both_ways _ none (subst (λ b. stands_as code (of b) ≡ true) off on)))
    (λ within. subst (λ b. stands_as code (of b) ≡ true) within on)
    (cases_Bool (is_off_heap s.blocks word))

pub refused_for_a_cause : (s : State) → RefusedForACause s
refused_for_a_cause s = record {
  memory = λ e new step. ⊎_elim (λ told. absurd (both_ways _ (no_memory s.core e) (told_stands (causes s.core e) NoMemory told))) (λ lacks. makes_something e lacks.2) step.0;
  size = λ slot size kind new step. is_wrong size (or_none _ (refused_stands s new (Make (Alloc slot size kind)) BadSize size_is_told step));
  births = λ slot size kind new step. used_up s.next_birth (refused_stands s new (Make (Alloc slot size kind)) Exhausted count_is_told step);
  numbers = λ slot finalizer new step. used_up s.next_number (on_heap s slot finalizer 13 refl (refused_stands s new (Make (Register slot finalizer)) Exhausted count_is_told step));
  passes = λ new step. ⊎_elim (λ begin. used_up (s.passes + 1) (refused_stands s new (Make Begin) Exhausted count_is_told begin)) (λ collect. used_up (s.passes + 1) (refused_stands s new (Make Collect) Exhausted count_is_told collect)) step;
  registrations = λ slot finalizer new step. is_full s.registrations (slot_word s.frames slot) (on_heap s slot finalizer 14 refl (refused_stands s new (Make (Register slot finalizer)) TableFull table_is_told step));
  short = λ place target new step. is_full s.short (address_of s.frames place) (refused_stands s new (Make (Link Short place target)) TableFull table_is_told step);
  long = λ place target new step. is_full s.long (address_of s.frames place) (refused_stands s new (Make (Link Long place target)) TableFull table_is_told step);
}
