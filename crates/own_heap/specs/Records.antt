-- The records as the objects of the model: each has one word for each field.
-- code: own_heap/src/record.rt, records.rt, host.rt, law.rt
use Rattle.std.specs.Prelude.{◌≡◌, ◌≢◌, ◌⊎◌, ◌↔◌, is_some, IsTrue, ◌<◌, ◌≤◌, length, Contains, option_map, slice_set, ℕ, ◌+◌, ◌-◌, ◌*◌, ◌/◌, ◌%◌, ◌==◌, ◌&&◌, if◌then◌else◌, List, [], ◌∷◌, map, Option, Some, None, nat_le, slice_index_or}
use Rattle.std.specs.List.{range_with_len}
use Rattle.std.specs.FinMap.{from_entries, insert}
use Rattle.fz_model.specs.declared.kinds.ObjKind.TheVariants.{Scanned}
use Rattle.fz_model.specs.State.{Map, Object}
use Rattle.fz_model.specs.Memory.{points, word_at}
use Rattle.fz_model.specs.Reachability.{Child, Leads}
use Rattle.fz_pass.specs.Places.{written_at}
use Rattle.own_heap.specs.declared.record.Field.{Field}
use Rattle.own_heap.specs.declared.record.Field.TheVariants.{Nothing, Number, Reference, Hidden}
use Rattle.own_heap.specs.declared.record.Record.{Record}
use Rattle.own_heap.specs.declared.record.RecordId.{RecordId}
use Rattle.own_heap.specs.declared.record.TheConstants.{FIELDS, SPACING}
use Rattle.own_heap.specs.Outside.{place_of_link}

-- the address of the record at an index, and the index of the record at an address
abbrev pub address_of : ℕ → ℕ
address_of place = (place + 1) * SPACING

unfoldable pub place_of : ℕ → Option ℕ
place_of address = if address % SPACING == 0 && nat_le SPACING address then Some (address / SPACING - 1) else None

-- the address of the record that would contain the word; of a number past the fields of a record it is no record's address
abbrev pub start_of : ℕ → ℕ
start_of word = word - word % FIELDS

-- a reference is the address of its record, and any other field points to nothing: a hidden reference is the number past the fields of its record
abbrev pub word_of : Field → ℕ
word_of Nothing = 0
word_of (Number n) = 0
word_of (Reference id) = address_of id.place
word_of (Hidden id) = address_of id.place + FIELDS

abbrev pub words_of : Record → List ℕ
words_of r = map (λ k. word_of (slice_index_or r.fields k Nothing)) (range_with_len 0 FIELDS)

abbrev pub object_of : Record → Object
object_of r = record { kind = Scanned; birth = 0; words = words_of r }

-- the words of these roots
abbrev pub addresses_of : List RecordId → List ℕ
addresses_of roots = map (λ (id : RecordId). address_of id.place) roots

-- the records from an index on, by address
abbrev pub object_entries : ℕ → List (Option Record) → List (ℕ × Object)
object_entries place [] = []
object_entries place (None ∷ slots) = object_entries (place + 1) slots
object_entries place (Some r ∷ slots) = (address_of place, object_of r) ∷ object_entries (place + 1) slots

unfoldable pub objects_of : List (Option Record) → Map Object
objects_of slots = from_entries (object_entries 0 slots)

-- the record at an index
abbrev pub slot : List (Option Record) → ℕ → Option Record
slot slots place = slice_index_or slots place None

-- no index is free, from one on
abbrev pub IsFull : List (Option Record) → ℕ → Type 0
IsFull slots from = (place : ℕ) → from ≤ place → place < length slots → slot slots place ≢ None

-- no index before this one is free
abbrev pub IsFullTo : List (Option Record) → ℕ → Type 0
IsFullTo slots to = (place : ℕ) → place < to → slot slots place ≢ None

-- a record was made at a free index
pub record IsMade (old new : List (Option Record)) (id : RecordId) (made : Record) : Type 0 where
  pub within : id.place < length old
  pub free : slot old id.place ≡ None
  pub is : new ≡ slice_set old id.place (Some made)

-- a record with another value in one field
abbrev pub with_field : ℕ → Field → Record → Record
with_field k value r = record r { fields = slice_set r.fields k value }

-- what is left of a field once it is cleared: a number stays, which points to nothing
abbrev pub cleared : Field → Field
cleared Nothing = Nothing
cleared (Number n) = Number n
cleared (Reference id) = Nothing
cleared (Hidden id) = Nothing

-- a record with one field cleared
abbrev pub with_cleared : ℕ → Record → Record
with_cleared k r = with_field k (cleared (slice_index_or r.fields k Nothing)) r

-- the records, one of them with another value in one field, or with one field cleared
abbrev pub with_field_at : ℕ → ℕ → Field → List (Option Record) → List (Option Record)
with_field_at place k value slots = slice_set slots place (option_map (with_field k value) (slot slots place))

abbrev pub with_cleared_at : ℕ → ℕ → List (Option Record) → List (Option Record)
with_cleared_at place k slots = slice_set slots place (option_map (with_cleared k) (slot slots place))

-- the field of the record at an index, if there is one
abbrev pub field_at : List (Option Record) → ℕ → ℕ → Option Field
field_at slots place k = option_map (λ (r : Record). slice_index_or r.fields k Nothing) (slot slots place)

-- each field is unchanged or was cleared
abbrev pub AreFieldsKept : List (Option Record) → List (Option Record) → Type 0
AreFieldsKept old new = (place k : ℕ) → (field_at new place k ≡ field_at old place k) ⊎ (field_at new place k ≡ option_map cleared (field_at old place k))

-- the same of the records that remain; the fields of the others are gone
abbrev pub AreFieldsLeft : List (Option Record) → List (Option Record) → Type 0
AreFieldsLeft old new = (place k : ℕ) → (field_at new place k ≡ None) ⊎ ((field_at new place k ≡ field_at old place k) ⊎ (field_at new place k ≡ option_map cleared (field_at old place k)))

-- the value of an ephemeron: the record that the field with this address hides
abbrev pub value_of : Map Object → ℕ → Option ℕ
value_of objects word = points objects (word_at objects word - FIELDS)

-- the record that contains the word reaches it
abbrev pub IsLedByWord : Map Object → ℕ → ℕ → Type 0
IsLedByWord objects word a = (from : ℕ) × (points objects word ≡ Some from) × Leads objects from a

-- one of these records reaches it
abbrev pub IsLedByRoot : Map Object → List RecordId → ℕ → Type 0
IsLedByRoot objects roots a = (id : RecordId) × Contains roots id × IsLedByWord objects (address_of id.place) a

-- a field of one record refers to another record that exists
pub record RefersTo (slots : List (Option Record)) (a b : RecordId) : Type 0 where
  pub from : Record
  pub at : slot slots a.place ≡ Some from
  pub field : ℕ
  pub within : field < FIELDS
  pub is : slice_index_or from.fields field Nothing ≡ Reference b
  pub stands : IsTrue (is_some (slot slots b.place))

-- the children of an object are the records to which its record refers
abbrev pub ReferencesAreChildren : List (Option Record) → Type 0
ReferencesAreChildren slots = (a b : RecordId) → RefersTo slots a b ↔ Child (objects_of slots) (address_of a.place) (address_of b.place)

-- a field of one record hides a reference to another record that exists
pub record Hides (slots : List (Option Record)) (a : RecordId) (field : ℕ) (b : RecordId) : Type 0 where
  pub from : Record
  pub at : slot slots a.place ≡ Some from
  pub is : slice_index_or from.fields field Nothing ≡ Hidden b
  pub exists : IsTrue (is_some (slot slots b.place))

-- the value of a field as an ephemeron is the record that it hides, if it hides one
abbrev pub HiddenAreValues : List (Option Record) → Type 0
HiddenAreValues slots = (a b : RecordId) (field : ℕ) → field < FIELDS → Hides slots a field b ↔ (value_of (objects_of slots) (address_of a.place + field) ≡ Some (address_of b.place))

-- clearing a word gives no ephemeron another value: it leaves the value, or takes it away
abbrev pub ValuesStay : Type 0
ValuesStay = (objects : Map Object) (cleared word first : ℕ) → points objects 0 ≡ None → value_of (written_at place_of_link cleared objects) word ≡ Some first → value_of objects word ≡ Some first

-- making a record adds exactly one object
abbrev pub MadeIsInserted : List (Option Record) → List (Option Record) → Type 0
MadeIsInserted old new = (id : RecordId) (made : Record) → IsMade old new id made → objects_of new ≡ insert (objects_of old) (address_of id.place) (object_of made)
