-- Laws that test the order of the causes: which refusal is returned if two apply. For some refusals also that their cause applies.
-- code: fz_model/src/laws.rt (every_call)
use Rattle.std.specs.Prelude.{◌≡◌, ℕ, ◌+◌, ◌<◌, ◌≤◌, ◌⊎◌, length, None, Some, Result, Err, IsTrue}
use Rattle.std.specs.FinMap.{get, len}
use Rattle.fz_model.specs.declared.call.Call.{Call}
use Rattle.fz_model.specs.declared.call.Call.TheVariants.{Alloc, Load, Store, Set, Copy, Register, Unregister, Link, Unlink, Move, Begin, Mark, Collect}
use Rattle.fz_model.specs.declared.places.Slot.{Slot}
use Rattle.fz_model.specs.declared.places.Place.{Place}
use Rattle.fz_model.specs.declared.kinds.ObjKind.{ObjKind}
use Rattle.fz_model.specs.declared.finalizer.Finalizer.{Finalizer}
use Rattle.fz_model.specs.declared.kinds.LinkKind.{LinkKind}
use Rattle.fz_model.specs.declared.kinds.LinkKind.TheVariants.{Short, Long}
use Rattle.fz_model.specs.declared.answers.Entry.{Entry}
use Rattle.fz_model.specs.declared.refusal.Refusal.{Refusal}
use Rattle.fz_model.specs.declared.refusal.Refusal.TheVariants.{BadSlot, NotPointer, OutsideObject, BadSize, BadCount, CycleOpen, NotStart, NoMemory, Exhausted, TableFull, SeatsMissing}
use Rattle.fz_model.specs.declared.limits.TheConstants.{SLOTS, MAX_OBJECT_WORDS, COUNT_LIMIT, TABLE_LIMIT, HEAP_START}
use Rattle.fz_model.specs.State.{Map, Object, State}
use Rattle.fz_model.specs.Extents.{heap_end}
use Rattle.fz_model.specs.Memory.{points, slot_word, address_of}
use Rattle.fz_model.specs.Events.{Event, Make, Hold, Answer}
use Rattle.fz_model.specs.Steps.{Step}
use Rattle.fz_model.specs.Joint.{Joint, JointEvent, Take, HoldOwn, FinishOwn, Forfeit, JointAnswer, JointStep}

-- whatever the reply and the new state are, the reply is this refusal
abbrev pub AlwaysRefuses : State → Event → Refusal → Type 0
AlwaysRefuses s e r = (reply : Result (Answer e) Refusal) (new : State) → Step s e reply new → reply ≡ Err r

-- the same of a call
abbrev pub AlwaysRefusesCall : State → Call → Refusal → Type 0
AlwaysRefusesCall s call r = AlwaysRefuses s (Make call) r

abbrev pub HasSlot : State → Slot → Type 0
HasSlot s slot = (slot.frame < length s.frames) × (slot.slot < SLOTS)

abbrev pub LacksSlot : State → Slot → Type 0
LacksSlot s slot = HasSlot s slot → ⊥

-- the slot's word points to no object
abbrev pub PointsNowhere : State → Slot → Type 0
PointsNowhere s slot = points s.objects (slot_word s.frames slot) ≡ None

-- the slot's word points to an object that ends before the place
abbrev pub EndsBefore : State → Place → Type 0
EndsBefore s place =
    (start : ℕ) × (o : Object) × (points s.objects (slot_word s.frames place.slot) ≡ Some start) × (get s.objects start ≡ Some o) × (start + length o.words ≤ address_of s.frames place)

-- the place lies in the object to which the slot's word points
abbrev pub HasPlace : State → Place → Type 0
HasPlace s place =
    (start : ℕ) × (o : Object) × (points s.objects (slot_word s.frames place.slot) ≡ Some start) × (get s.objects start ≡ Some o) × (address_of s.frames place < start + length o.words)

-- the slot's word is an interior pointer
abbrev pub PointsInside : State → Slot → Type 0
PointsInside s slot = (start : ℕ) × (points s.objects (slot_word s.frames slot) ≡ Some start) × (get s.objects (slot_word s.frames slot) ≡ None)

-- a missing slot comes before all other causes, the first slot of the call before the second
pub record SlotsComeFirst (s : State) (slot : Slot) (lacks : LacksSlot s slot) : Type 0 where
  pub alloc : (size : ℕ) (kind : ObjKind) → AlwaysRefusesCall s (Alloc slot size kind) BadSlot
  pub load : (offset : ℕ) (to : Slot) → AlwaysRefusesCall s (Load (record { slot = slot; offset = offset }) to) BadSlot
  pub load_to : (place : Place) → AlwaysRefusesCall s (Load place slot) BadSlot
  pub store : (offset : ℕ) (from : Slot) → AlwaysRefusesCall s (Store (record { slot = slot; offset = offset }) from) BadSlot
  pub store_from : (place : Place) → AlwaysRefusesCall s (Store place slot) BadSlot
  pub set : (word : ℕ) → AlwaysRefusesCall s (Set slot word) BadSlot
  pub copy : (to : Slot) → AlwaysRefusesCall s (Copy slot to) BadSlot
  pub copy_to : (first : Slot) → AlwaysRefusesCall s (Copy first slot) BadSlot
  pub register : (finalizer : Finalizer) → AlwaysRefusesCall s (Register slot finalizer) BadSlot
  pub unregister : AlwaysRefusesCall s (Unregister slot) BadSlot
  pub link : (which : LinkKind) (offset : ℕ) (target : Slot) → AlwaysRefusesCall s (Link which (record { slot = slot; offset = offset }) target) BadSlot
  pub link_to : (which : LinkKind) (place : Place) → AlwaysRefusesCall s (Link which place slot) BadSlot
  pub unlink : (which : LinkKind) (offset : ℕ) → AlwaysRefusesCall s (Unlink which (record { slot = slot; offset = offset })) BadSlot
  pub move : (which : LinkKind) (offset : ℕ) (to : Place) → AlwaysRefusesCall s (Move which (record { slot = slot; offset = offset }) to) BadSlot
  pub move_to : (which : LinkKind) (place : Place) (offset : ℕ) → AlwaysRefusesCall s (Move which place (record { slot = slot; offset = offset })) BadSlot
  pub hold : (entry : Entry) → AlwaysRefuses s (Hold slot entry) BadSlot

-- if both slots exist, the place of a link comes before its target, and the old place of a move before the new one; a word that points to no object comes
-- before every other cause of a place or target
pub record PlacesComeFirst (s : State) (place to : Place) (here : HasSlot s place.slot) (there : HasSlot s to.slot) : Type 0 where
  pub load_nowhere : PointsNowhere s place.slot → AlwaysRefusesCall s (Load place to.slot) NotPointer
  pub load_outside : EndsBefore s place → AlwaysRefusesCall s (Load place to.slot) OutsideObject
  pub store_nowhere : PointsNowhere s place.slot → AlwaysRefusesCall s (Store place to.slot) NotPointer
  pub store_outside : EndsBefore s place → AlwaysRefusesCall s (Store place to.slot) OutsideObject
  pub unlink_nowhere : (which : LinkKind) → PointsNowhere s place.slot → AlwaysRefusesCall s (Unlink which place) NotPointer
  pub unlink_outside : (which : LinkKind) → EndsBefore s place → AlwaysRefusesCall s (Unlink which place) OutsideObject
  pub link_nowhere : (which : LinkKind) → PointsNowhere s place.slot → AlwaysRefusesCall s (Link which place to.slot) NotPointer
  pub link_outside : (which : LinkKind) → EndsBefore s place → AlwaysRefusesCall s (Link which place to.slot) OutsideObject
  pub link_to_nowhere : (which : LinkKind) → HasPlace s place → PointsNowhere s to.slot → AlwaysRefusesCall s (Link which place to.slot) NotPointer
  pub link_to_inside : (which : LinkKind) → HasPlace s place → PointsInside s to.slot → AlwaysRefusesCall s (Link which place to.slot) NotStart
  pub move_nowhere : (which : LinkKind) → PointsNowhere s place.slot → AlwaysRefusesCall s (Move which place to) NotPointer
  pub move_outside : (which : LinkKind) → EndsBefore s place → AlwaysRefusesCall s (Move which place to) OutsideObject
  pub move_to_nowhere : (which : LinkKind) → HasPlace s place → PointsNowhere s to.slot → AlwaysRefusesCall s (Move which place to) NotPointer
  pub move_to_outside : (which : LinkKind) → HasPlace s place → EndsBefore s to → AlwaysRefusesCall s (Move which place to) OutsideObject

-- if the slot exists, a wrong size comes before exhausted births, and these before a full heap
pub record SizesComeFirst (s : State) (slot : Slot) (size : ℕ) (kind : ObjKind) (here : HasSlot s slot) : Type 0 where
  pub wrong : (size ≡ 0) ⊎ (MAX_OBJECT_WORDS < size) → AlwaysRefusesCall s (Alloc slot size kind) BadSize
  pub births : 1 ≤ size → size ≤ MAX_OBJECT_WORDS → COUNT_LIMIT ≤ s.next_birth → AlwaysRefusesCall s (Alloc slot size kind) Exhausted

-- if the slot's word lies in the heap, what it points to comes before exhausted registration numbers, and these before a full table
pub record ObjectsComeFirst (s : State) (slot : Slot) (finalizer : Finalizer) (here : HasSlot s slot) (low : HEAP_START ≤ slot_word s.frames slot) (high : slot_word s.frames slot < heap_end s.blocks) : Type 0 where
  pub nowhere : PointsNowhere s slot → AlwaysRefusesCall s (Register slot finalizer) NotPointer
  pub inside : PointsInside s slot → AlwaysRefusesCall s (Register slot finalizer) NotStart
  pub numbers : (start : ℕ) (o : Object) → points s.objects (slot_word s.frames slot) ≡ Some start → get s.objects (slot_word s.frames slot) ≡ Some o → COUNT_LIMIT ≤ s.next_number → AlwaysRefusesCall s (Register slot finalizer) Exhausted
  pub unregister_nowhere : PointsNowhere s slot → AlwaysRefusesCall s (Unregister slot) NotPointer
  pub unregister_inside : PointsInside s slot → AlwaysRefusesCall s (Unregister slot) NotStart

-- a budget of 0 comes before a cycle that isn't open, and an open cycle before exhausted pass numbers
pub record CyclesComeFirst (s : State) : Type 0 where
  pub mark : AlwaysRefusesCall s (Mark 0) BadCount
  pub begin : IsTrue s.cycle → AlwaysRefusesCall s Begin CycleOpen
  pub collect : IsTrue s.cycle → AlwaysRefusesCall s Collect CycleOpen

-- which refusal each call returns if two causes apply
pub record FirstIsTold (s : State) : Type 0 where
  pub slots : (slot : Slot) (lacks : LacksSlot s slot) → SlotsComeFirst s slot lacks
  pub places : (place to : Place) (here : HasSlot s place.slot) (there : HasSlot s to.slot) → PlacesComeFirst s place to here there
  pub sizes : (slot : Slot) (size : ℕ) (kind : ObjKind) (here : HasSlot s slot) → SizesComeFirst s slot size kind here
  pub objects : (slot : Slot) (finalizer : Finalizer) (here : HasSlot s slot) (low : HEAP_START ≤ slot_word s.frames slot) (high : slot_word s.frames slot < heap_end s.blocks) → ObjectsComeFirst s slot finalizer here low high
  pub cycles : CyclesComeFirst s

-- the same for an event of a joint run
abbrev pub AlwaysRefusesEvent : Joint → JointEvent → Refusal → Type 0
AlwaysRefusesEvent j e r = (reply : Result (JointAnswer e) Refusal) (new : Joint) → JointStep j e reply new → reply ≡ Err r

-- a missing worker comes before an empty hand, and before all causes of the call
pub record WorkersComeFirst (j : Joint) (w : ℕ) (missing : length j.workers ≤ w) : Type 0 where
  pub take : AlwaysRefusesEvent j (Take w) SeatsMissing
  pub hold : (slot : Slot) → AlwaysRefusesEvent j (HoldOwn w slot) SeatsMissing
  pub finish : AlwaysRefusesEvent j (FinishOwn w) SeatsMissing
  pub forfeit : AlwaysRefusesEvent j (Forfeit w) SeatsMissing

-- ---- memory, sizes, counts and tables

-- the event creates something: an object, a registration, a link, or a moved link
pub data MakesSomething : Event → Type 0 where
  AnObject : (slot : Slot) (size : ℕ) (kind : ObjKind) → MakesSomething (Make (Alloc slot size kind))
  ARegistration : (slot : Slot) (finalizer : Finalizer) → MakesSomething (Make (Register slot finalizer))
  ALink : (which : LinkKind) (place : Place) (target : Slot) → MakesSomething (Make (Link which place target))
  AMovedLink : (which : LinkKind) (place to : Place) → MakesSomething (Make (Move which place to))

-- the table is full and doesn't have this key
abbrev pub IsFullFor : {X : Type 0} → Map X → ℕ → Type 0
IsFullFor table key = (TABLE_LIMIT ≤ len table) × (get table key ≡ None)

-- `NoMemory` occurs only where something is created; `BadSize`, `Exhausted` and `TableFull` occur only where they are true
pub record RefusedForACause (s : State) : Type 0 where
  pub memory : (e : Event) (new : State) → Step s e (Err NoMemory) new → MakesSomething e
  pub size : (slot : Slot) (size : ℕ) (kind : ObjKind) (new : State) → Step s (Make (Alloc slot size kind)) (Err BadSize) new → (size ≡ 0) ⊎ (MAX_OBJECT_WORDS < size)
  pub births : (slot : Slot) (size : ℕ) (kind : ObjKind) (new : State) → Step s (Make (Alloc slot size kind)) (Err Exhausted) new → COUNT_LIMIT ≤ s.next_birth
  pub numbers : (slot : Slot) (finalizer : Finalizer) (new : State) → Step s (Make (Register slot finalizer)) (Err Exhausted) new → COUNT_LIMIT ≤ s.next_number
  pub passes : (new : State) → Step s (Make Begin) (Err Exhausted) new ⊎ Step s (Make Collect) (Err Exhausted) new → COUNT_LIMIT ≤ s.passes + 1
  pub registrations : (slot : Slot) (finalizer : Finalizer) (new : State) → Step s (Make (Register slot finalizer)) (Err TableFull) new → IsFullFor s.registrations (slot_word s.frames slot)
  pub short : (place : Place) (target : Slot) (new : State) → Step s (Make (Link Short place target)) (Err TableFull) new → IsFullFor s.short (address_of s.frames place)
  pub long : (place : Place) (target : Slot) (new : State) → Step s (Make (Link Long place target)) (Err TableFull) new → IsFullFor s.long (address_of s.frames place)
