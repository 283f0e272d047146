-- The model of a marker, and the relations in its contracts.
-- code: fz_marker/src/marker.rt
use Rattle.std.specs.Prelude.{List, length, ℕ, Bool, false, not, ◌&&◌, ◌||◌, Option, None, Some, IsTrue, IsFalse, count_by, refl}
use Rattle.std.specs.Coded.{Coded, code_by, coded×, coded_ℕ}
use Rattle.std.specs.List.{list_any, range_with_len}
use Rattle.std.specs.Option.{option_map_or}
use Rattle.std.specs.FinSet as sets
use Rattle.std.specs.FinSet.{contains, insert}
use Rattle.std.specs.FinMap.{get, keys}
use Rattle.fz_model.specs.State.{Map, Object}
use Rattle.fz_model.specs.Reachability.{Child, Leads}
use Rattle.fz_model.specs.Allocation.{same_kind, block_of}
use Rattle.fz_model.specs.declared.kinds.ObjKind.TheVariants.{Scanned}
use Rattle.fz_bits.specs.Flags.{Set}

pub record Marking : Type 0 where
  pub size : ℕ  -- how many addresses it has room for
  pub marked : Set
  pub scanned : Set
  pub traced : Set  -- the second set of marks
  pub scans : ℕ  -- the number of scans in this cycle

abbrev pub marking_code : Coded Marking
marking_code =
    code_by (ℕ × (Set × (Set × (Set × ℕ)))) (coded× coded_ℕ (coded× (sets.code coded_ℕ) (coded× (sets.code coded_ℕ) (coded× (sets.code coded_ℕ) coded_ℕ))))
    (λ m. (m.size, (m.marked, (m.scanned, (m.traced, m.scans)))))
    (λ p. record { size = p.0; marked = p.1.0; scanned = p.1.1.0; traced = p.1.1.1.0; scans = p.1.1.1.1 }) (λ _. refl)

-- some member of the set reaches the object
abbrev pub IsLedFrom : Map Object → Set → ℕ → Type 0
IsLedFrom objects set a = (from : ℕ) × IsTrue (contains set from) × Leads objects from a

-- all children of the object are members of the set
abbrev pub HasChildrenIn : Map Object → Set → ℕ → Type 0
HasChildrenIn objects set a = (b : ℕ) → Child objects a b → IsTrue (contains set b)

-- the set is closed under children
abbrev pub IsClosed : Map Object → Set → Type 0
IsClosed objects set = (a : ℕ) → IsTrue (contains set a) → HasChildrenIn objects set a

-- whether the object at the address is of kind Scanned
abbrev pub is_readable : Map Object → ℕ → Bool
is_readable objects a = option_map_or (λ (o : Object). same_kind o.kind Scanned) (get objects a) false

-- how many objects of kind Scanned pass the test
abbrev pub readable_count : Map Object → (ℕ → Bool) → ℕ
readable_count objects test = count_by (λ a. test a && is_readable objects a) (keys objects)

-- every marked object was scanned; a pointer-free one needs no scan
abbrev pub AllScanned : Map Object → Marking → Type 0
AllScanned objects m = (a : ℕ) → IsTrue (contains m.marked a) → IsTrue (is_readable objects a) → IsTrue (contains m.scanned a)

-- a marked object of kind Scanned wasn't scanned
abbrev pub IsLeft : Map Object → Set → Set → Type 0
IsLeft objects marked scanned = (a : ℕ) × IsTrue (contains marked a) × IsTrue (is_readable objects a) × IsFalse (contains scanned a)

-- whether the address was added between the two sets
abbrev pub is_newly_in : Set → Set → ℕ → Bool
is_newly_in old new a = contains new a && not (contains old a)

-- the addresses of an object's words
abbrev pub addresses_of : Map Object → ℕ → List ℕ
addresses_of objects a = range_with_len a (option_map_or (λ (o : Object). length o.words) (get objects a) 0)

-- whether some word of the object lies on a dirty page
abbrev pub is_on_noted : Map Object → Set → ℕ → Bool
is_on_noted objects noted a = list_any (λ address. contains noted (block_of address)) (addresses_of objects a)

-- each scanned object that lies only on clean pages has marked children only
abbrev pub CleanAreClosed : Map Object → Marking → Set → Type 0
CleanAreClosed objects m noted = (a : ℕ) → IsTrue (contains m.scanned a) → IsFalse (is_on_noted objects noted a) → HasChildrenIn objects m.marked a

-- whether a marked object may be scanned at the end of a cycle
abbrev pub is_to_scan : Map Object → Marking → Set → Set → ℕ → Bool
is_to_scan objects old noted marked a = contains marked a && (not (contains old.scanned a) || is_on_noted objects noted a)

-- the set with the object to which a word points
abbrev pub with_target : Set → Option ℕ → Set
with_target set None = set
with_target set (Some a) = insert set a
