-- Objects, their words, slots of root frames, and what a word points to.
-- code: fz_heap/src/heap.rt (resolve, read, write), fz_world/src/frames.rt
use Rattle.std.specs.Prelude.{replicate, ℕ, ◌==◌, ◌+◌, ◌-◌, Bool, not, ◌&&◌, if◌then◌else◌, List, [], ◌∷◌, length, Option, nat_lt, slice_index, slice_index_or, slice_set, unwrap_or, option_map, option_and_then}
use Rattle.std.specs.FinMap.{get}
use Rattle.fz_model.specs.declared.kinds.ObjKind.{ObjKind}
use Rattle.fz_model.specs.declared.limits.TheConstants.{SLOTS}
use Rattle.fz_model.specs.declared.places.Slot.{Slot}
use Rattle.fz_model.specs.declared.places.Place.{Place}
use Rattle.fz_model.specs.State.{Map, Object}
use Rattle.fz_model.specs.Extents.{mapped, extents, points_in}

-- all words of a new object are zero
abbrev pub new_object : ObjKind → ℕ → ℕ → Object
new_object kind birth size = record { kind = kind; birth = birth; words = replicate size 0 }

-- the object within which the word's value lies, if there is one
abbrev pub points : Map Object → ℕ → Option ℕ
points objects word = points_in (extents objects) word

-- the words, of which the first has this address; each word whose address passes the test is replaced by the value
abbrev pub fill : (ℕ → Bool) → ℕ → ℕ → List ℕ → List ℕ
fill test value address [] = []
fill test value address (w ∷ ws) = (if test address then value else w) ∷ fill test value (address + 1) ws

-- the same for all objects
abbrev pub filled : (ℕ → Bool) → ℕ → Map Object → Map Object
filled test value objects = mapped (λ start (o : Object). record o { words = fill test value start o.words }) objects

-- the objects, with the value stored at one address
unfoldable pub written : ℕ → ℕ → Map Object → Map Object
written address value objects = filled (λ a. a == address) value objects

-- the word at an address; 0 if no object has it
abbrev pub word_at : Map Object → ℕ → ℕ
word_at objects address =
    unwrap_or (option_and_then (λ start. option_map (λ (o : Object). slice_index o.words (address - start)) (get objects start)) (points objects address)) 0

-- the frame doesn't exist, or has no such slot
abbrev pub lacks_slot : List (List ℕ) → Slot → Bool
lacks_slot frames slot = not (nat_lt slot.frame (length frames) && nat_lt slot.slot SLOTS)

-- the word in a slot, and the frames after the word in a slot is replaced
abbrev pub slot_word : List (List ℕ) → Slot → ℕ
slot_word frames slot = slice_index (slice_index_or frames slot.frame []) slot.slot

abbrev pub with_slot : List (List ℕ) → Slot → ℕ → List (List ℕ)
with_slot frames slot word = slice_set frames slot.frame (slice_set (slice_index_or frames slot.frame []) slot.slot word)

-- the address of a place: the slot's word plus the offset
abbrev pub address_of : List (List ℕ) → Place → ℕ
address_of frames place = slot_word frames place.slot + place.offset
