-- Parsing a line word by word, as the code does. Means only: no public contract cites this file, and no statement depends on it. The contracts of private
-- functions cite it.
-- code: fz_script/src/reading.rt, fields.rt, words.rt
use Rattle.std.specs.Prelude.{ℕ, List, [], ◌∷◌, codes, Option, Some, None, if◌then◌else◌, ◌==◌, ◌&&◌, nat_lt, ◌^◌, decimal}
use Rattle.std.specs.Str.{bytes_eq}
use Rattle.std.specs.Str.Parse.{digits_value}
use Rattle.std.specs.List.{slice_split, find}
use Rattle.fz_script.specs.declared.words.Words.{Words}
use Rattle.fz_script.specs.Spelling.{obj_kind, reg_kind, link_kind}
use Rattle.fz_model.specs.declared.kinds.ObjKind.{ObjKind}
use Rattle.fz_model.specs.declared.kinds.ObjKind.TheVariants.{Scanned, Atomic}
use Rattle.fz_model.specs.declared.kinds.RegKind.{RegKind}
use Rattle.fz_model.specs.declared.kinds.RegKind.TheVariants.{Normal, IgnoreSelf, NoOrder}
use Rattle.fz_model.specs.declared.kinds.LinkKind.{LinkKind}
use Rattle.fz_model.specs.declared.kinds.LinkKind.TheVariants.{Short, Long}
use Rattle.fz_model.specs.declared.places.Slot.{Slot}
use Rattle.fz_model.specs.declared.places.Place.{Place}
use Rattle.fz_script.specs.declared.step.Step.{Step}
use Rattle.fz_script.specs.declared.step.Step.TheVariants.{Open, Call, Take, Hold, Finish, Forfeit}
use Rattle.fz_model.specs.declared.call.Call.{Call as WorldCall}
use Rattle.fz_model.specs.declared.call.Call.TheVariants as calls
use denote.Bor.{Bor}

-- the operator `?` of the code
infixl 10 ◌>>=◌
abbrev pub ◌>>=◌ : {A B : Type 0} → Option A → (A → Option B) → Option B
(Some x) >>= f = f x
None >>= f = None

-- the parts of a line between spaces
abbrev pub words_of : List ℕ → List (List ℕ)
words_of line = slice_split (λ byte. byte == 32) line

abbrev pub words_in : Option (Bor (List ℕ)) → List (List ℕ)
words_in None = []
words_in (Some rest) = words_of rest.now

-- the words that weren't read yet
abbrev pub words_left : Words → List (List ℕ)
words_left words = words_in words.rest

-- what was read, with the remaining words
abbrev pub with_rest : {A : Type 0} → Option A → List (List ℕ) → Option (A × List (List ℕ))
with_rest (Some x) rest = Some (x, rest)
with_rest None rest = None

abbrev pub word_at : List (List ℕ) → Option (List ℕ × List (List ℕ))
word_at [] = None
word_at (word ∷ rest) = Some (word, rest)

-- the value of a decimal word, if it is spelled without leading zeros and is less than 2 ^ 64
unfoldable pub number : List ℕ → Option ℕ
number word = let n = digits_value 10 word in if nat_lt n (2 ^ 64) && bytes_eq word (decimal n) then Some n else None

-- the same, for numbers less than 256
abbrev pub byte : List ℕ → Option ℕ
byte word = number word >>= λ n. if nat_lt n (2 ^ 8) then Some n else None

-- the first of these that has this spelling
abbrev pub find_text : {A : Type 0} → (A → List ℕ) → List A → List ℕ → Option A
find_text text xs word = find (λ x. bytes_eq (text x) word) xs

abbrev pub kind_at : {A : Type 0} → (A → List ℕ) → List A → List (List ℕ) → Option (A × List (List ℕ))
kind_at text xs words = word_at words >>= λ first. with_rest (find_text text xs first.0) first.1

abbrev pub number_at : List (List ℕ) → Option (ℕ × List (List ℕ))
number_at words = word_at words >>= λ first. with_rest (number first.0) first.1

abbrev pub byte_at : List (List ℕ) → Option (ℕ × List (List ℕ))
byte_at words = word_at words >>= λ first. with_rest (byte first.0) first.1

-- an optional field at the end of a line
abbrev pub optional_at : {A : Type 0} → (List (List ℕ) → Option (A × List (List ℕ))) → List (List ℕ) → Option (Option A × List (List ℕ))
optional_at field [] = Some (None, [])
optional_at field (word ∷ rest) = field (word ∷ rest) >>= λ x. Some (Some x.0, x.1)

abbrev pub obj_kind_at : List (List ℕ) → Option (ObjKind × List (List ℕ))
obj_kind_at words = kind_at obj_kind (Scanned ∷ Atomic ∷ []) words

abbrev pub reg_kind_at : List (List ℕ) → Option (RegKind × List (List ℕ))
reg_kind_at words = kind_at reg_kind (Normal ∷ IgnoreSelf ∷ NoOrder ∷ []) words

abbrev pub link_kind_at : List (List ℕ) → Option (LinkKind × List (List ℕ))
link_kind_at words = kind_at link_kind (Short ∷ Long ∷ []) words

-- several fields in sequence
abbrev pub two_at : {A B : Type 0} → (List (List ℕ) → Option (A × List (List ℕ))) → (List (List ℕ) → Option (B × List (List ℕ))) → List (List ℕ) → Option ((A × B) × List (List ℕ))
two_at first second words = first words >>= λ x. second x.1 >>= λ y. Some ((x.0, y.0), y.1)

abbrev pub three_at : {A B C : Type 0} → (List (List ℕ) → Option (A × List (List ℕ))) → (List (List ℕ) → Option (B × List (List ℕ))) → (List (List ℕ) → Option (C × List (List ℕ))) → List (List ℕ) → Option ((A × B × C) × List (List ℕ))
three_at first second third words = first words >>= λ x. second x.1 >>= λ y. third y.1 >>= λ z. Some ((x.0, y.0, z.0), z.1)

-- a slot, and a place, made from the numbers read
abbrev pub slot_of : ℕ × ℕ → Slot
slot_of x = record { frame = x.0; slot = x.1 }

abbrev pub place_of : Slot × ℕ → Place
place_of x = record { slot = x.0; offset = x.1 }

abbrev pub slot_at : List (List ℕ) → Option (Slot × List (List ℕ))
slot_at words = two_at number_at number_at words >>= λ x. Some (slot_of x.0, x.1)

abbrev pub place_at : List (List ℕ) → Option (Place × List (List ℕ))
place_at words = two_at slot_at number_at words >>= λ x. Some (place_of x.0, x.1)

-- the possible field lists of a verb
pub data Fields : Type 0 where
  nothing : Fields
  a_number : Fields
  a_slot : Fields
  a_place : Fields
  an_obj_kind : Fields
  a_reg_kind : Fields
  a_link_kind : Fields
  a_rank : Fields
  two : (first second : Fields) → Fields
  three : (first second third : Fields) → Fields

abbrev pub Values : Fields → Type 0
Values nothing = Unit {0}
Values a_number = ℕ
Values a_slot = Slot
Values a_place = Place
Values an_obj_kind = ObjKind
Values a_reg_kind = RegKind
Values a_link_kind = LinkKind
Values a_rank = Option ℕ
Values (two first second) = Values first × Values second
Values (three first second third) = Values first × Values second × Values third

abbrev pub values_at : (fields : Fields) → List (List ℕ) → Option (Values fields × List (List ℕ))
values_at nothing words = Some (tt, words)
values_at a_number words = number_at words
values_at a_slot words = slot_at words
values_at a_place words = place_at words
values_at an_obj_kind words = obj_kind_at words
values_at a_reg_kind words = reg_kind_at words
values_at a_link_kind words = link_kind_at words
values_at a_rank words = optional_at byte_at words
values_at (two first second) words = two_at (values_at first) (values_at second) words
values_at (three first second third) words = three_at (values_at first) (values_at second) (values_at third) words

-- a verb: its name, its fields, and the step that they make
pub record Verb : Type 0 where
  pub name : List ℕ
  pub fields : Fields
  pub make : Values fields → Step

abbrev pub verb : (name : List ℕ) (fields : Fields) → (Values fields → Step) → Verb
verb name fields make = record { name = name; fields = fields; make = make }

abbrev pub call_verb : (name : List ℕ) (fields : Fields) → (Values fields → WorldCall) → Verb
call_verb name fields make = verb name fields (λ x. Call (make x))

-- one verb per line
abbrev pub verbs : List Verb
verbs =
    verb (codes "open") (three a_number a_number a_number) (λ x. Open x.0 x.1 x.2)
    ∷ call_verb (codes "new") (three a_slot a_number an_obj_kind) (λ x. calls.Alloc x.0 x.1 x.2)
    ∷ call_verb (codes "set") (two a_slot a_number) (λ x. calls.Set x.0 x.1)
    ∷ call_verb (codes "copy") (two a_slot a_slot) (λ x. calls.Copy x.0 x.1)
    ∷ call_verb (codes "load") (two a_place a_slot) (λ x. calls.Load x.0 x.1)
    ∷ call_verb (codes "store") (two a_place a_slot) (λ x. calls.Store x.0 x.1)
    ∷ call_verb (codes "register") (three a_slot a_reg_kind (three a_number a_number a_rank)) (λ x. calls.Register x.0 (record { kind = x.1; procedure = x.2.0; client_data = x.2.1; rank = x.2.2 }))
    ∷ call_verb (codes "unregister") a_slot (λ x. calls.Unregister x)
    ∷ call_verb (codes "link") (three a_link_kind a_place a_slot) (λ x. calls.Link x.0 x.1 x.2)
    ∷ call_verb (codes "unlink") (two a_link_kind a_place) (λ x. calls.Unlink x.0 x.1)
    ∷ call_verb (codes "move") (three a_link_kind a_place a_place) (λ x. calls.Move x.0 x.1 x.2)
    ∷ call_verb (codes "begin") nothing (λ x. calls.Begin)
    ∷ call_verb (codes "mark") a_number (λ x. calls.Mark x)
    ∷ call_verb (codes "pause") nothing (λ x. calls.Pause)
    ∷ call_verb (codes "collect") nothing (λ x. calls.Collect)
    ∷ verb (codes "take") a_number (λ x. Take x)
    ∷ verb (codes "hold") (two a_number a_slot) (λ x. Hold x.0 x.1)
    ∷ verb (codes "finish") a_number (λ x. Finish x)
    ∷ verb (codes "forfeit") a_number (λ x. Forfeit x)
    ∷ call_verb (codes "close") nothing (λ x. calls.Close)
    ∷ call_verb (codes "outstanding") nothing (λ x. calls.Outstanding)
    ∷ []

abbrev pub verb_named : List ℕ → Option Verb
verb_named word = find (λ (v : Verb). bytes_eq v.name word) verbs

-- the step of the verb with this name, whose fields come next
unfoldable pub named_at : List ℕ → List (List ℕ) → Option (Step × List (List ℕ))
named_at name words = verb_named name >>= λ v. values_at v.fields words >>= λ x. Some (v.make x.0, x.1)

-- the step whose verb and fields come next
abbrev pub step_at : List (List ℕ) → Option (Step × List (List ℕ))
step_at words = word_at words >>= λ first. named_at first.0 first.1

-- `Some` if no words are left
abbrev pub end_at : List (List ℕ) → Option (Unit {0})
end_at [] = Some tt
end_at (word ∷ rest) = None

-- the step of a line's words
unfoldable pub step_in : List (List ℕ) → Option Step
step_in words = step_at words >>= λ step. end_at step.1 >>= λ _. Some step.0
