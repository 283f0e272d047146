-- The model of a heap: its size in blocks, its objects by address, the addresses of dead, unswept cells, and the next birth.
-- code: fz_heap/src/heap.rt
use Rattle.std.specs.Prelude.{ℕ, ◌+◌, List, [], if◌then◌else◌, length, refl, IsTrue, IsFalse}
use Rattle.std.specs.List.{sum_by}
use Rattle.std.specs.Coded.{Coded, code_by, coded×, coded_ℕ}
use Rattle.std.specs.FinMap as map
use Rattle.std.specs.FinMap.{get, contains_key, values}
use Rattle.std.specs.FinSet as sets
use Rattle.std.specs.FinSet.{contains}
use Rattle.std.specs.Option.{option_map_or}
use Rattle.fz_model.specs.declared.kinds.ObjKind.{ObjKind}
use Rattle.fz_model.specs.declared.kinds.ObjKind.TheVariants.{Scanned}
use Rattle.fz_model.specs.State.{Map, Object}
use Rattle.fz_model.specs.Codes.{object_code}
use Rattle.fz_model.specs.Allocation.{same_kind, block_of, blocks_for}
use Rattle.fz_model.specs.Condemned.{Addresses, swept}
use Rattle.fz_model.specs.Memory.{new_object}

pub record Contents : Type 0 where
  pub blocks : ℕ
  pub objects : Map Object
  pub condemned : Addresses
  pub next_birth : ℕ

abbrev pub contents_code : Coded Contents
contents_code =
    code_by (ℕ × (Map Object × (Addresses × ℕ))) (coded× coded_ℕ (coded× (map.code coded_ℕ object_code) (coded× (sets.code coded_ℕ) coded_ℕ))) (λ c. (c.blocks, (c.objects, (c.condemned, c.next_birth))))
    (λ p. record { blocks = p.0; objects = p.1.0; condemned = p.1.1.0; next_birth = p.1.1.1 }) (λ _. refl)

-- with a new object at the address, whose blocks are swept
abbrev pub with_made : Contents → ℕ → ℕ → ObjKind → Contents
with_made heap start size kind = record heap {
  objects = map.insert heap.objects start (new_object kind heap.next_birth size);
  condemned = swept heap.condemned (block_of start) (blocks_for size);
  next_birth = heap.next_birth + 1;
}

-- no object has the address of a dead cell
abbrev pub AreGone : Contents → Type 0
AreGone heap = (a : ℕ) → IsTrue (contains heap.condemned a) → IsFalse (contains_key heap.objects a)

-- the words of the scanned object at an address; none for a pointer-free object
abbrev pub pointers_of : Map Object → ℕ → List ℕ
pointers_of objects start = option_map_or (λ (o : Object). if same_kind o.kind Scanned then o.words else []) (get objects start) []

-- how many words the objects have together
abbrev pub words_of : Map Object → ℕ
words_of objects = sum_by (λ (o : Object). length o.words) (values objects)
