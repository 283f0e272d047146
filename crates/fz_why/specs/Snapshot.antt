-- A copy of a host's heap: the words that were listed, each with its object, and the links that denote them.
-- code: fz_why/src/snapshot.rt; fz_why/src/snapshot/listing.rt
use Rattle.std.specs.Prelude.{◌≡◌, ℕ, ◌+◌, ◌-◌, ◌^◌, ◌<◌, ◌++◌, ◌||◌, Bool, true, false, if◌then◌else◌, is_some, nat_eq, List, [], ◌∷◌, length, slice_get, Option, Some, None, Result, Ok, Err, option_map, option_and_then}
use Rattle.std.specs.FinMap.{get, insert, empty}
use Rattle.std.specs.Map.{lookup}
use Rattle.std.specs.Option.{option_map_or}
use Rattle.fz_model.specs.declared.kinds.ObjKind.TheVariants.{Scanned}
use Rattle.fz_model.specs.Memory.{points, word_at}
use Rattle.fz_model.specs.State.{Map, Object}
use Rattle.fz_pass.specs.Marks.{AreRegistered, AreTargets}
use Rattle.fz_finalizers.specs.States.{State}
use Rattle.fz_why.specs.declared.snapshot.listing.Listed.{Listed}
use Rattle.fz_why.specs.declared.snapshot.listing.TheConstants.{HIDDEN}
use Rattle.fz_why.specs.declared.snapshot.listing.Cell.{Cell}

-- the words by address, and the links by number, each with the address of its word, both in the order in which they were listed
abbrev pub Cells : Type 0
Cells = List (ℕ × Cell)

abbrev pub Links : Type 0
Links = List (ℕ × ℕ)

-- The model of a copy.
pub record Copy : Type 0 where
  pub cells : Cells
  pub links : Links
  pub roots : List ℕ

-- the word of an object, as it is kept. For its object the word of an ephemeron contains a number that is no word's address.
abbrev pub cell_of : ℕ → Listed → Cell
cell_of object l =
    record { object = object; value = if l.is_ephemeron then HIDDEN else l.value; link = l.link; hidden = if l.is_ephemeron then l.value else 0 }

-- the words that were listed of an object
abbrev pub words_in : Map Object → ℕ → List ℕ
words_in objects a = option_map_or (λ (o : Object). o.words) (get objects a) []

-- the objects, with one more word at the end of its object
abbrev pub with_cell : Map Object → Cell → Map Object
with_cell objects c = insert objects c.object (record { kind = Scanned; birth = 0; words = words_in objects c.object ++ c.value ∷ [] })

-- the objects whose words these are
abbrev pub listed : Map Object → Cells → Map Object
listed objects [] = objects
listed objects (e ∷ es) = listed (with_cell objects e.1) es

unfoldable pub objects_of : Cells → Map Object
objects_of cells = listed empty cells

-- the word at an address is a word of its object
pub record IsWordOf (objects : Map Object) (word : ℕ) (c : Cell) : Type 0 where
  pub object : Object
  pub here : get objects c.object ≡ Some object
  pub index : ℕ
  pub at : word ≡ c.object + index
  pub is : slice_get object.words index ≡ Some c.value

-- the words are those of these objects, each at its object's address plus its index
pub record AreCells (objects : Map Object) (cells : Cells) : Type 0 where
  pub each : (word : ℕ) (c : Cell) → lookup (nat_eq word) cells ≡ Some c → IsWordOf objects word c
  pub whole : (a k value : ℕ) (o : Object) → get objects a ≡ Some o → slice_get o.words k ≡ Some value → (c : Cell) × (lookup (nat_eq (a + k)) cells ≡ Some c) × (c.object ≡ a) × (c.value ≡ value)
  pub some : (a : ℕ) (o : Object) → get objects a ≡ Some o → 0 < length o.words
  pub within : (word : ℕ) (c : Cell) → lookup (nat_eq word) cells ≡ Some c → (0 < c.object) × (word + 1 < 2 ^ 64)

abbrev pub is_same : Option ℕ → ℕ → Bool
is_same o n = option_map_or (λ m. nat_eq m n) o false

-- the value of the first function at x, if the second function maps it back to x
abbrev pub back : (ℕ → Option ℕ) → (ℕ → Option ℕ) → ℕ → Option ℕ
back f g x = option_and_then (λ y. if is_same (g y) x then Some y else None) (f x)

abbrev pub linked_at : Cells → ℕ → Option ℕ
linked_at cells word = option_and_then (λ (c : Cell). c.link) (lookup (nat_eq word) cells)

abbrev pub word_of : Links → ℕ → Option ℕ
word_of links number = lookup (nat_eq number) links

-- the word that a link denotes is the one that was listed with its number
abbrev pub place_of : Cells → Links → ℕ → Option ℕ
place_of cells links = back (word_of links) (linked_at cells)

abbrev pub link_of : Cells → Links → ℕ → Option ℕ
link_of cells links = back (linked_at cells) (word_of links)

-- the value of an ephemeron is the object to which its word points, if it was listed as one and isn't cleared
abbrev pub hidden_at : Cells → Map Object → ℕ → Option ℕ
hidden_at cells objects word = option_and_then (λ (c : Cell). points objects c.hidden) (lookup (nat_eq word) cells)

abbrev pub value_of : Cells → Links → Map Object → ℕ → Option ℕ
value_of cells links objects number = option_and_then (λ word. if nat_eq (word_at objects word) HIDDEN then hidden_at cells objects word else None) (place_of cells links number)

-- the registered objects, the targets of short links and the keys of short ephemerons are among the objects
pub record HasAll (objects : Map Object) (s : State) : Type 0 where
  pub registered : AreRegistered objects s.registrations
  pub short : AreTargets objects s.short
  pub keys : AreTargets objects s.ephemerons.short

-- the object to which the word at an address belongs
abbrev pub holder_of : Cells → ℕ → Option ℕ
holder_of cells word = option_map (λ (c : Cell). c.object) (lookup (nat_eq word) cells)

-- a word can't be listed: its address is 0 or 2^64 - 1, or another word has the address or the link
abbrev pub is_taken : Cells → Links → ℕ → Option ℕ → Bool
is_taken cells links word link =
    nat_eq word 0 || nat_eq word (2 ^ 64 - 1) || is_some (lookup (nat_eq word) cells) || option_map_or (λ number. is_some (word_of links number)) link false

-- the same links, with one more that denotes the word
abbrev pub links_to : Option ℕ → ℕ → (ℕ → Option ℕ) → ℕ → Option ℕ
links_to link word place number = if is_same link number then Some word else place number

-- a word was listed: it comes after those listed before, and its link, if it has one, denotes it
pub record Lists (cells new_cells : Cells) (links new_links : Links) (word : ℕ) (c : Cell) : Type 0 where
  pub at_end : new_cells ≡ cells ++ (word, c) ∷ []
  pub denotes : (number : ℕ) → word_of new_links number ≡ links_to c.link word (word_of links) number

-- the next word was listed of the object that has the word before it
abbrev pub ListsNext : Cells → Cells → Links → Links → ℕ → Listed → Type 0
ListsNext cells new_cells links new_links word l =
    (object : ℕ) × (holder_of cells (word - 1) ≡ Some object) × Lists cells new_cells links new_links word (cell_of object l)

-- nothing was listed
abbrev pub Keeps : Cells → Cells → Links → Links → Type 0
Keeps cells new_cells links new_links = (new_cells ≡ cells) × (new_links ≡ links)

-- if the result is true, the first holds; if it is false or an error, the second
abbrev pub DoesOrNot : {E : Type 0} → Result Bool E → Type 0 → Type 0 → Type 0
DoesOrNot (Ok true) done not_done = done
DoesOrNot (Ok false) done not_done = not_done
DoesOrNot (Err e) done not_done = not_done

-- an entry was put at the end of a table
pub record IsPut {X : Type 0} (old new : List (ℕ × X)) (key : ℕ) (x : X) : Type 0 where
  pub at_end : new ≡ old ++ (key, x) ∷ []
  pub found : (q : ℕ) → lookup (nat_eq q) new ≡ (if nat_eq key q then Some x else lookup (nat_eq q) old)

-- a word may be listed next: its address and its link are free, and it comes right after the last word of its object
pub record IsNext (cells : Cells) (links : Links) (word : ℕ) (c : Cell) : Type 0 where
  pub free : lookup (nat_eq word) cells ≡ None
  pub unlinked : (number : ℕ) → c.link ≡ Some number → lookup (nat_eq number) links ≡ None
  pub at : word ≡ c.object + length (words_in (objects_of cells) c.object)
  pub object : 0 < c.object
  pub fits : word + 1 < 2 ^ 64
