-- Why a call is refused. Each call has a list of causes in a fixed order. It returns the first cause that applies.
-- code: fz_world/src/objects.rt, registrations.rt, links.rt, cycles.rt, entries.rt; fz_heap/src/heap.rt (read, write); fz_table/src/table.rt
use Rattle.std.specs.Prelude.{◌≡◌, ℕ, ◌+◌, Bool, true, false, ◌||◌, ◌&&◌, not, nat_le, nat_lt, if◌then◌else◌, ◌⊎◌, List, [], ◌∷◌, Option, Some, None, is_none, IsTrue, Result, Ok, Err}
use Rattle.std.specs.Option.{option_map_or}
use Rattle.std.specs.FinMap.{get, len, contains_key}
use Rattle.fz_model.specs.declared.kinds.ObjKind.{ObjKind}
use Rattle.fz_model.specs.declared.answers.Registration.{Registration}
use Rattle.fz_model.specs.declared.refusal.Refusal.{Refusal}
use Rattle.fz_model.specs.declared.refusal.Refusal.TheVariants.{BadSlot, NotPointer, OutsideObject, BadSize, NoSpace, NotStart, BadCount, NoMemory, Exhausted, TableFull}
use Rattle.fz_model.specs.declared.limits.TheConstants.{HEAP_START, MAX_OBJECT_WORDS, TABLE_LIMIT, COUNT_LIMIT}
use Rattle.fz_model.specs.declared.places.Slot.{Slot}
use Rattle.fz_model.specs.State.{Map, Object}
use Rattle.fz_model.specs.declared.extent.Extent.{Extent}
use Rattle.fz_model.specs.Extents.{heap_end, covers, extents, points_in}
use Rattle.fz_model.specs.Memory.{lacks_slot}
use Rattle.fz_model.specs.Allocation.{place_in}

-- a list of causes: for each whether it applies, and the refusal that it gives
abbrev pub Causes : Type 0
Causes = List (Bool × Refusal)

-- the refusal of the first cause that applies
abbrev pub first_cause : Causes → Option Refusal
first_cause [] = None
first_cause (cause ∷ causes) = if cause.0 then Some cause.1 else first_cause causes

-- refused for the first cause that applies; if none does, a call that may allocate can fail with `NoMemory`
abbrev pub IsRefusedFor : Causes → Bool → Refusal → Type 0
IsRefusedFor causes takes_memory r =
    (first_cause causes ≡ Some r) ⊎ ((first_cause causes ≡ None) × (r ≡ NoMemory) × IsTrue takes_memory)

-- accepted if no cause applies, and else refused for the first that does
abbrev pub IsJudgedBy : {A : Type 0} → Causes → Result A Refusal → Type 0
IsJudgedBy causes (Ok x) = first_cause causes ≡ None
IsJudgedBy causes (Err r) = first_cause causes ≡ Some r

-- the same for a call that may also run out of memory, if no cause applies
abbrev pub IsJudgedOrLacks : {A : Type 0} → Causes → Result A Refusal → Type 0
IsJudgedOrLacks causes (Ok x) = first_cause causes ≡ None
IsJudgedOrLacks causes (Err r) = IsRefusedFor causes true r

-- the slot has to exist
abbrev pub slot_causes : List (List ℕ) → Slot → Causes
slot_causes frames slot = (lacks_slot frames slot, BadSlot) ∷ []

-- a counter has reached its limit
abbrev pub exhausted : ℕ → Bool × Refusal
exhausted count = (nat_le COUNT_LIMIT count, Exhausted)

-- a count has to be from 1 to a limit
abbrev pub bad_count : ℕ → ℕ → Bool × Refusal
bad_count limit count = (not (nat_le 1 count && nat_le count limit), BadCount)

-- the word is zero, or lies outside the heap
abbrev pub is_off_heap : ℕ → ℕ → Bool
is_off_heap blocks word = nat_lt word HEAP_START || nat_le (heap_end blocks) word

-- the word points to no object
abbrev pub no_extent : Map Extent → ℕ → Bool × Refusal
no_extent extents word = (is_none (points_in extents word), NotPointer)

abbrev pub no_object : Map Object → ℕ → Bool × Refusal
no_object objects word = no_extent (extents objects) word

-- the address lies outside the object to which the word points
abbrev pub other_extent : Map Extent → ℕ → ℕ → Bool × Refusal
other_extent extents word address =
    (not (option_map_or (λ start. option_map_or (λ (x : Extent). covers (start, x) address) (get extents start) false) (points_in extents word) false), OutsideObject)

-- the word isn't the address of an object
abbrev pub no_start : Map Object → ℕ → Bool × Refusal
no_start objects word = (is_none (get objects word), NotStart)

-- the word has to be the address of an object
abbrev pub start_causes : Map Object → ℕ → Causes
start_causes objects word = no_object objects word ∷ no_start objects word ∷ []

-- the place is a word plus an offset, and has to lie in the object to which the word points
abbrev pub place_causes_in : Map Extent → ℕ → ℕ → Causes
place_causes_in extents word offset = no_extent extents word ∷ other_extent extents word (word + offset) ∷ []

abbrev pub place_causes : Map Object → ℕ → ℕ → Causes
place_causes objects word offset = place_causes_in (extents objects) word offset

-- the table is full and the key is new
abbrev pub full : {X : Type 0} → Map X → ℕ → Bool × Refusal
full table key = (not (contains_key table key) && nat_le TABLE_LIMIT (len table), TableFull)

abbrev pub bad_size : ℕ → Bool × Refusal
bad_size size = (not (nat_le 1 size && nat_le size MAX_OBJECT_WORDS), BadSize)

abbrev pub no_space : Map Extent → ℕ → ℕ → ObjKind → Bool × Refusal
no_space extents blocks size kind = (is_none (place_in extents blocks size kind), NoSpace)

-- the causes of an allocation
abbrev pub alloc_causes : Map Object → ℕ → ℕ → ℕ → ObjKind → Causes
alloc_causes objects blocks next_birth size kind =
    bad_size size ∷ exhausted next_birth ∷ no_space (extents objects) blocks size kind ∷ []

-- the causes of registering an object
abbrev pub register_causes : Map Registration → ℕ → ℕ → Causes
register_causes registrations next_number object = exhausted next_number ∷ full registrations object ∷ []
