-- Laws that test the definitions of the calls on slots, on words and on new objects. They state what one expects of each call, in other words than its
-- definition.
-- code: fz_model/src/laws.rt (every_call)
use Rattle.std.specs.Prelude.{◌≡◌, ◌≢◌, ℕ, ◌+◌, ◌*◌, ◌<◌, ◌≤◌, ◌⊎◌, List, length, None, Some, slice_get, Result, Ok, Err, IsTrue}
use Rattle.std.specs.FinMap.{get}
use Rattle.fz_model.specs.declared.call.Call.TheVariants.{Alloc, Load, Store, Set, Copy, Begin, Mark, Close}
use Rattle.fz_model.specs.declared.places.Slot.{Slot}
use Rattle.fz_model.specs.declared.places.Place.{Place}
use Rattle.fz_model.specs.declared.kinds.ObjKind.{ObjKind}
use Rattle.fz_model.specs.declared.answers.Entry.{Entry}
use Rattle.fz_model.specs.declared.answers.Progress.{Progress}
use Rattle.fz_model.specs.declared.limits.TheConstants.{HEAP_START, BLOCK_WORDS}
use Rattle.fz_model.specs.declared.refusal.Refusal.{Refusal}
use Rattle.fz_model.specs.declared.refusal.Refusal.TheVariants.{NoSpace}
use Rattle.fz_model.specs.State.{Map, Object, State}
use Rattle.fz_model.specs.Memory.{points, slot_word, address_of}
use Rattle.fz_model.specs.Events.{Make, Hold, Queue}
use Rattle.fz_model.specs.Steps.{Step}
use Rattle.fz_model.specs.CallLaws.{Stands}

-- ---- slots

-- the slot has the word, every other slot is unchanged, and the number of frames is the same
pub record SlotGets (old : State) (slot : Slot) (word : ℕ) (new : State) : Type 0 where
  pub gets : slot_word new.frames slot ≡ word
  pub others : (other : Slot) → other ≢ slot → slot_word new.frames other ≡ slot_word old.frames other
  pub number : length new.frames ≡ length old.frames

-- nothing but slots has changed
abbrev pub OnlySlotsChange : State → State → Type 0
OnlySlotsChange old new = new.core ≡ record old.core { frames = new.frames }

-- a slot gets the given word, or the word of another slot, which keeps it
pub record SlotsAreSet (s : State) : Type 0 where
  pub set : (slot : Slot) (word : ℕ) (answer : Unit {0}) (new : State) → Step s (Make (Set slot word)) (Ok answer) new → SlotGets s slot word new × OnlySlotsChange s new
  pub copy : (slot to : Slot) (answer : Unit {0}) (new : State) → Step s (Make (Copy slot to)) (Ok answer) new → SlotGets s to (slot_word s.frames slot) new × (slot_word new.frames slot ≡ slot_word s.frames slot) × OnlySlotsChange s new

-- what the calls other than passes leave unchanged: a hold sets only its slot, a begin only opens a cycle, and a close only closes the world; marking and
-- reading the queue change nothing
pub record RestIsKept (s : State) : Type 0 where
  pub hold : (slot : Slot) (entry : Entry) (answer : Unit {0}) (new : State) → Step s (Hold slot entry) (Ok answer) new → SlotGets s slot (slot_word new.frames slot) new × OnlySlotsChange s new
  pub begin : (answer : Unit {0}) (new : State) → Step s (Make Begin) (Ok answer) new → IsTrue new.cycle × (new.core ≡ record s.core { cycle = new.cycle })
  pub close : (answer : Unit {0}) (new : State) → Step s (Make Close) (Ok answer) new → IsTrue new.closed × (new.core ≡ record s.core { closed = new.closed })
  pub mark : (budget : ℕ) (answer : Progress) (new : State) → Step s (Make (Mark budget)) (Ok answer) new → new.core ≡ s.core
  pub queue : (answer : List Entry) (new : State) → Step s Queue (Ok answer) new → (answer ≡ new.queue) × (new.core ≡ s.core)

-- ---- words

-- the object to which the place's slot points has this word at the place
pub record HasWord (s : State) (place : Place) (word : ℕ) : Type 0 where
  pub start : ℕ
  pub object : Object
  pub pointed : points s.objects (slot_word s.frames place.slot) ≡ Some start
  pub here : get s.objects start ≡ Some object
  pub index : ℕ
  pub address : address_of s.frames place ≡ start + index
  pub within : slice_get object.words index ≡ Some word

-- the second slot gets the word at the place
abbrev pub WordsAreLoaded : State → Type 0
WordsAreLoaded s =
    (place : Place) (to : Slot) (word : ℕ) (new : State) → Step s (Make (Load place to)) (Ok word) new
    → HasWord s place word × SlotGets s to word new × OnlySlotsChange s new

-- the same object with the same words, except the word at one address
pub record IsSameButAt (address a : ℕ) (before after : Object) : Type 0 where
  pub birth : after.birth ≡ before.birth
  pub kind : after.kind ≡ before.kind
  pub size : length after.words ≡ length before.words
  pub words : (k : ℕ) → a + k ≢ address → slice_get after.words k ≡ slice_get before.words k

-- no object has changed, except the word at the address
pub record ChangesOnly (address : ℕ) (old new : Map Object) : Type 0 where
  pub stays : (a : ℕ) (before : Object) → get old a ≡ Some before → (after : Object) × (get new a ≡ Some after) × IsSameButAt address a before after
  pub no_more : (a : ℕ) → Stands new a → Stands old a

-- a load returns what was stored, and nothing else has changed
pub record WordsAreStored (s : State) : Type 0 where
  pub stores : (place : Place) (from : Slot) (answer : Unit {0}) (new : State) → Step s (Make (Store place from)) (Ok answer) new → ChangesOnly (address_of s.frames place) s.objects new.objects × (new.core ≡ record s.core { objects = new.objects })
  pub loads : (place : Place) (from to : Slot) (answer : Unit {0}) (stored : State) (word : ℕ) (loaded : State) → Step s (Make (Store place from)) (Ok answer) stored → Step stored (Make (Load place to)) (Ok word) loaded → word ≡ slot_word s.frames from

-- ---- new objects

-- all words of the new object are zero, and the slot has its address; births count the allocations, so no other object has this birth
pub record IsMade (old : State) (slot : Slot) (size : ℕ) (kind : ObjKind) (a birth : ℕ) (new : State) : Type 0 where
  pub object : Object
  pub here : get new.objects a ≡ Some object
  pub kind_is : object.kind ≡ kind
  pub birth_is : object.birth ≡ birth
  pub size_is : length object.words ≡ size
  pub zero : (k : ℕ) → k < size → slice_get object.words k ≡ Some 0
  pub slots : SlotGets old slot a new
  pub counted : (birth ≡ old.next_birth) × (new.next_birth ≡ birth + 1)
  pub youngest : (b : ℕ) (o : Object) → get old.objects b ≡ Some o → o.birth < birth
  -- the address was free; every other object and everything else is unchanged
  pub free : get old.objects a ≡ None
  pub others : (b : ℕ) → b ≢ a → get new.objects b ≡ get old.objects b
  pub rest : new.core ≡ record old.core { objects = new.objects; frames = new.frames; next_birth = new.next_birth }

abbrev pub ObjectsAreMade : State → Type 0
ObjectsAreMade s =
    (slot : Slot) (size : ℕ) (kind : ObjKind) (answer : ℕ × ℕ) (new : State) → Step s (Make (Alloc slot size kind)) (Ok answer) new
    → IsMade s slot size kind answer.0 answer.1 new

-- ---- blocks

abbrev pub IsInBlock : ℕ → ℕ → Type 0
IsInBlock block address = (HEAP_START + BLOCK_WORDS * block ≤ address) × (address < HEAP_START + BLOCK_WORDS * (block + 1))

-- objects with words in one block have the same size and kind, and an object larger than a block shares no block
abbrev pub BlocksAreShared : State → Type 0
BlocksAreShared s =
    (block a b i j : ℕ) (o p : Object) → get s.objects a ≡ Some o → get s.objects b ≡ Some p → i < length o.words → j < length p.words
    → IsInBlock block (a + i) → IsInBlock block (b + j) → (length o.words ≡ length p.words) × (o.kind ≡ p.kind) × (BLOCK_WORDS < length o.words → a ≡ b)

-- no object has a word in the `count` blocks that begin with this one
abbrev pub AreEmpty : State → ℕ → ℕ → Type 0
AreEmpty s block count =
    (a : ℕ) (o : Object) → get s.objects a ≡ Some o → (a + length o.words ≤ HEAP_START + BLOCK_WORDS * block) ⊎ (HEAP_START + BLOCK_WORDS * (block + count) ≤ a)

-- an object takes no more blocks than it fills: if that many neighbouring blocks are empty, the allocation doesn't fail with `NoSpace`
abbrev pub EmptyBlocksAreRoom : State → Type 0
EmptyBlocksAreRoom s =
    (block count size : ℕ) (kind : ObjKind) (slot : Slot) (reply : Result (ℕ × ℕ) Refusal) (new : State) → block + count ≤ s.blocks → size ≤ BLOCK_WORDS * count
    → AreEmpty s block count → Step s (Make (Alloc slot size kind)) reply new → reply ≢ Err NoSpace
