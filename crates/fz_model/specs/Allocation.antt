-- Where a new object goes: into a cell of a block that already has objects of its size and kind, or into neighbouring blocks without objects. Blocks have 64
-- words.
-- code: fz_blocks/src/block_map.rt (claim), fz_blocks/src/claims.rt, fz_heap/src/heap.rt (alloc)
use Rattle.std.specs.Prelude.{ℕ, ◌+◌, ◌-◌, ◌*◌, ◌/◌, Bool, ◌&&◌, ◌||◌, not, ◌==◌, nat_le, List, map, Option, is_none, option_map, flat_map, filter}
use Rattle.std.specs.List.{find, list_any, list_all, range_with_len}
use Rattle.std.specs.Option.{option_or}
use Rattle.std.specs.FinMap.{get, entries}
use Rattle.fz_model.specs.declared.kinds.ObjKind.{ObjKind}
use Rattle.fz_model.specs.declared.kinds.ObjKind.TheVariants.{Scanned, Atomic}
use Rattle.fz_model.specs.declared.extent.Extent.{Extent}
use Rattle.fz_model.specs.declared.limits.TheConstants.{HEAP_START, BLOCK_WORDS}
use Rattle.fz_model.specs.State.{Map, Object}
use Rattle.fz_model.specs.Extents.{covers, extents}

abbrev pub same_kind : ObjKind → ObjKind → Bool
same_kind Scanned Scanned = Bool.true
same_kind Scanned Atomic = Bool.false
same_kind Atomic Scanned = Bool.false
same_kind Atomic Atomic = Bool.true

abbrev pub block_start : ℕ → ℕ
block_start b = HEAP_START + BLOCK_WORDS * b

abbrev pub block_of : ℕ → ℕ
block_of address = (address - HEAP_START) / BLOCK_WORDS

-- whether an object of this size and kind starts in the block
abbrev pub has_class : Map Extent → ℕ → ObjKind → ℕ → Bool
has_class extents size kind b =
    list_any (λ e. (block_of e.0 == b) && (e.1.size == size && same_kind e.1.kind kind)) (entries extents)

-- whether no object starts at the address
abbrev pub is_free : Map Extent → ℕ → Bool
is_free extents a = is_none (get extents a)

-- whether an object has a word in the block: it starts there, or it contains the block's first word
abbrev pub meets : ℕ → ℕ × Extent → Bool
meets b (start, extent) = (block_of start == b) || covers (start, extent) (block_start b)

-- whether no object has a word in the block
abbrev pub is_bare : Map Extent → ℕ → Bool
is_bare extents b = not (list_any (meets b) (entries extents))

-- the starts of a block's cells, as many as fit completely: none if the size is larger than a block
abbrev pub cells : ℕ → ℕ → List ℕ
cells size b = map (λ i. block_start b + i * size) (range_with_len 0 (BLOCK_WORDS / size))

-- how many blocks an object takes that is the first of its size and kind there
abbrev pub blocks_for : ℕ → ℕ
blocks_for size = (size - 1) / BLOCK_WORDS + 1

-- whether `count` blocks without objects begin with block `b`
abbrev pub has_run : Map Extent → ℕ → ℕ → ℕ → Bool
has_run extents blocks count b = nat_le (b + count) blocks && list_all (is_bare extents) (range_with_len b count)

-- the lowest free cell among the blocks of this size and kind; if there is none, the start of the lowest run of empty blocks that is long enough
abbrev pub place_in : Map Extent → ℕ → ℕ → ObjKind → Option ℕ
place_in extents blocks size kind =
    option_or (find (is_free extents) (flat_map (cells size) (filter (has_class extents size kind) (range_with_len 0 blocks))))
    (option_map block_start (find (has_run extents blocks (blocks_for size)) (range_with_len 0 blocks)))

abbrev pub place_for : Map Object → ℕ → ℕ → ObjKind → Option ℕ
place_for objects blocks size kind = place_in (extents objects) blocks size kind
