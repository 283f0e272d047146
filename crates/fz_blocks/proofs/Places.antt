-- Where a new object goes, by the blocks.
use Rattle.std.proofs.Common.{◌≡◌, ℕ, suc, zero, ◌+◌, ◌-◌, ◌*◌, ◌/◌, ◌%◌, ◌<◌, ◌≤◌, Bool, true, false, cond, not, ◌||◌, ◌&&◌, ◌==◌, nat_le, List, [], ◌∷◌, filter, flat_map, length, Some, None, option_map, option_and_then, slice_get, refl, sym, ap, ◌∙◌, subst, ⊎_elim, arith, is_none}
use Rattle.std.proofs.Math.Nat.{div-add-mod, div-eq_of_lt, mul_comm, mul-mod_left, le-div_iff_mul-le, div-mul-le_self, mul-le-mul_right, suc-mul}
use Rattle.std.proofs.lemmas.Bool.{cases_Bool, cases_eq, and_parts, and_from, eq-eqb, eqb-true, eqb-false, le-leb, leb-true, both_ways, not-true, not_from_true, not_from_false}
use Rattle.std.proofs.lemmas.Option.{same_Some, slice_get_within}
use Rattle.std.proofs.lemmas.Map.Keys.{any_passes_from_place}
use Rattle.std.specs.List.{find, list_any, range_with_len}
use Rattle.std.specs.Option.{option_or}
use Rattle.std.specs.FinMap.{get, entries}
use Rattle.fz_model.specs.declared.kinds.ObjKind.{ObjKind}
use Rattle.fz_model.specs.declared.kinds.ObjKind.TheVariants.{Scanned, Atomic}
use Rattle.fz_model.specs.declared.extent.Extent.{Extent}
use Rattle.fz_model.specs.State.{Map}
use Rattle.fz_model.specs.Extents.{covers}
use Rattle.fz_model.specs.Allocation as allocation
use Rattle.fz_model.specs.Allocation.{block_start, block_of, cells, has_class, same_kind, is_free, meets, has_run, blocks_for, place_in}
use Rattle.fz_model.proofs.Lists.{any_at}
use Rattle.fz_model.proofs.MapEntries.{get_at, place_of_key}
use Rattle.fz_model.proofs.Objects.{kind_itself, kinds_same, to_covers}
use Rattle.fz_blocks.specs.declared.block.Block.{Block}
use Rattle.fz_blocks.specs.Classes.{class_of}
use Rattle.fz_blocks.specs.Cells.{is_cell}
use Rattle.fz_blocks.specs.Blocks.{starts_at, is_bare, is_full, extent_of, extent_in}
use Rattle.fz_blocks.specs.Layout.{extents_in, has_room, AreRuns}
use Rattle.fz_blocks.proofs.Bits.{same_test, cell_parts}
use Rattle.fz_model.proofs.Bits.{no_bits}
use Rattle.fz_model.specs.Bits.{has_bit}
use Rattle.fz_blocks.proofs.Objects.{none_bare, some_start, start_within, full_cells}
use Rattle.fz_blocks.proofs.Ranges.{find_first, find_nowhere, find_mapped, search_first, search_nowhere}
use Rattle.fz_blocks.proofs.Extents.{get-place, extent_is_at, extent_here, covered, Here, Back, IsFound}

pub item_at : {X : Type 0} (xs : List X) (i : ℕ) → i < length xs → (x : X) × (slice_get xs i ≡ Some x)
item_at [] i lt = absurd (omega (arith, lt))
item_at (x ∷ xs) zero lt = (x, refl)
item_at (x ∷ xs) (suc i) lt = item_at xs i (omega (arith, lt))

-- a class is one size and kind
pub one_class : (s t : ℕ) (k l : ObjKind) → 1 ≤ s → s ≤ 64 → 1 ≤ t → t ≤ 64 → class_of s k ≡ class_of t l → (s ≡ t) × (k ≡ l)
one_class s t Scanned Scanned s1 s64 t1 t64 e = (omega arith, refl)
one_class s t Scanned Atomic s1 s64 t1 t64 e = absurd (omega arith)
one_class s t Atomic Scanned s1 s64 t1 t64 e = absurd (omega arith)
one_class s t Atomic Atomic s1 s64 t1 t64 e = (omega arith, refl)

-- ---- cells by their number

pub cell_of_index : (size i : ℕ) → 1 ≤ size → i < 64 / size → (is_cell size (i * size) ≡ true) × (i * size < 64)
cell_of_index size i sized lt =
    let rows : suc i * size ≤ 64 / size * size = mul-le-mul_right size lt in
    let all = div-mul-le_self 64 size in
    let next = suc-mul i size in
    let fits : i * size + size ≤ 64 = omega (arith, rows, all, next) in
    (and_from (i * size % size == 0) _ (eq-eqb _ 0 (mul-mod_left i size)) (ap (λ t. (i * size == 0) || t) (le-leb (i * size + size) 64 fits) ∙ elim (i * size == 0) as (λ t. (t || true) ≡ true) [ true ↦ refl | false ↦ refl ]), omega (arith, fits, sized))

pub index_of_cell : (size place : ℕ) → 1 ≤ size → size ≤ 64 → is_cell size place ≡ true → (i : ℕ) × (i < 64 / size) × (i * size ≡ place)
index_of_cell size place sized small on =
    let parts = cell_parts size place on in
    let sum : size * (place / size) + place % size ≡ place = div-add-mod place size in
    let swap : place / size * size ≡ size * (place / size) = mul_comm (place / size) size in
    let whole = parts.0 in
    let at : place / size * size ≡ place = omega (arith, sum, swap, whole) in
    let fits : place + size ≤ 64 = ⊎_elim (λ (is : place ≡ 0). omega (arith, is, small)) parts.1 (cases_eq place 0) in
    let next = suc-mul (place / size) size in
    (place / size, (le-div_iff_mul-le {k = size} {x = suc (place / size)} {y = 64} sized).1 (omega (arith, next, at, fits)), at)

module _ (blocks : List Block) (runs : AreRuns blocks) where
  abbrev extents : Map Extent
  extents = extents_in blocks

  is_free-cell : (b p : ℕ) (block : Block) → slice_get blocks b ≡ Some block → p < 64 → is_free extents (block_start b + p) ≡ not (starts_at block p)
  is_free-cell b p block here small =
      ap is_none (get-place blocks b p small ∙ ap (option_and_then (extent_in p)) here)
      ∙ elim (starts_at block p) as (λ t. is_none (cond t (Some (extent_of block)) None) ≡ not t) [ true ↦ refl | false ↦ refl ]

  -- an extent that starts in the block is one of its objects
  in_block : (b a : ℕ) (block : Block) (x : Extent) → slice_get blocks b ≡ Some block → get extents a ≡ Some x → block_of a ≡ b → (place : ℕ) × (starts_at block place ≡ true) × (extent_of block ≡ x)
  in_block b a block x here there same =
      let at = extent_is_at blocks a x there in
      let start = at.at in
      let small = at.small in
      let own : at.block ≡ b = omega (arith, start, small, same) in
      let inside : at.inside ≡ block = same_Some _ _ (sym at.here ∙ ap (slice_get blocks) own ∙ here) in
      (at.place, subst (λ k. starts_at k at.place ≡ true) inside at.starts, ap extent_of (sym inside) ∙ at.is)

  -- a block in which an object starts has an extent
  extent_of_some : (b : ℕ) (block : Block) → slice_get blocks b ≡ Some block → (block.objects == 0) ≡ false → (a : ℕ) × (get extents a ≡ Some (extent_of block)) × (block_of a ≡ b)
  extent_of_some b block here some =
      let one = some_start block some in
      let small = start_within block one.0 one.1 in
      (block_start b + one.0, extent_here blocks b one.0 block here one.1, omega (arith, small))

  starts_some : (block : Block) (place : ℕ) → starts_at block place ≡ true → (block.objects == 0) ≡ false
  starts_some block place on = ⊎_elim (λ none. absurd (both_ways _ (ap (λ n. has_bit n place) (eqb-true block.objects 0 none) ∙ no_bits place) on)) (λ off. off) (cases_Bool (block.objects == 0))

  pub has_class-block : (b size : ℕ) (kind : ObjKind) (block : Block) → slice_get blocks b ≡ Some block → has_class extents size kind b ≡ (not (block.objects == 0) && (block.size == size && same_kind block.kind kind))
  has_class-block b size kind block here = same_test _ _ there back
    where
      test : ℕ × Extent → Bool
      test e = (block_of e.0 == b) && (e.1.size == size && same_kind e.1.kind kind)

      there : list_any test (entries extents) ≡ true → (not (block.objects == 0) && (block.size == size && same_kind block.kind kind)) ≡ true
      there on =
          let one = any_at test (entries extents) on in
          let parts = and_parts (block_of one.1.0 == b) (one.1.1.size == size && same_kind one.1.1.kind kind) one.3 in
          let facts = in_block b one.1.0 block one.1.1 here (get_at extents one.0 one.1 one.2) (eqb-true _ _ parts.0) in
          and_from (not (block.objects == 0)) (block.size == size && same_kind block.kind kind) (not_from_false _ (starts_some block facts.0 facts.1))
          (subst (λ (x : Extent). (x.size == size && same_kind x.kind kind) ≡ true) (sym facts.2) parts.1)

      back : (not (block.objects == 0) && (block.size == size && same_kind block.kind kind)) ≡ true → list_any test (entries extents) ≡ true
      back on =
          let parts = and_parts (not (block.objects == 0)) (block.size == size && same_kind block.kind kind) on in
          let one = extent_of_some b block here (not-true _ parts.0) in
          let at = place_of_key extents one.0 (extent_of block) one.1 in
          any_passes_from_place test (entries extents) at.0 (one.0, extent_of block) at.1 (and_from (block_of one.0 == b) _ (eq-eqb _ _ one.2) parts.1)

  pub is_bare-block : (b : ℕ) (block : Block) → slice_get blocks b ≡ Some block → allocation.is_bare extents b ≡ is_bare block
  is_bare-block b block here = at (is_bare block) refl
    where
      met : (a : ℕ) (x : Extent) → get extents a ≡ Some x → meets b (a, x) ≡ true → list_any (meets b) (entries extents) ≡ true
      met a x there on = let at = place_of_key extents a x there in any_passes_from_place (meets b) (entries extents) at.0 (a, x) at.1 on

      first_word : (block_start b - 65536) / 64 ≡ b
      first_word = omega arith

      -- a bare block has no word of an extent
      not_found : is_bare block ≡ true → (a : ℕ) → IsFound blocks (block_start b) a → ⊥
      not_found bare a (Here other there start in_cell e) =
          both_ways _ (none_bare block bare start) (subst (λ k. starts_at k start ≡ true) (same_Some other block (sym there ∙ ap (slice_get blocks) first_word ∙ here)) in_cell.starts)
      not_found bare a (Back later there some e) =
          let same : later.back ≡ block.back = ap (λ (k : Block). k.back) (same_Some later block (sym there ∙ ap (slice_get blocks) first_word ∙ here)) in
          let none = eqb-true block.back 0 (and_parts (block.objects == 0) (block.back == 0) bare).1 in
          omega (arith, same, none, some)

      at : (t : Bool) → is_bare block ≡ t → not (list_any (meets b) (entries extents)) ≡ t
      at true bare =
          not_from_false _ (⊎_elim
          (λ on.
          let one = any_at (meets b) (entries extents) on in
          let there = get_at extents one.0 one.1 one.2 in
          ⊎_elim
          (λ own. let facts = in_block b one.1.0 block one.1.1 here there (eqb-true _ _ own) in absurd (both_ways _ (none_bare block bare facts.0) facts.1))
          (λ other. absurd (not_found bare one.1.0 (covered blocks runs one.1.0 (block_start b) one.1.1 there (ap (λ t. t || covers one.1 (block_start b)) (sym other) ∙ one.3)).1))
          (cases_Bool (block_of one.1.0 == b)))
          (λ off. off)
          (cases_Bool (list_any (meets b) (entries extents))))
      at false some =
          not_from_true _ (⊎_elim
          (λ none.
          let back = eqb-false block.back 0 (ap (λ t. t && (block.back == 0)) (sym none) ∙ some) in
          let later = runs.behind b block here (omega (arith, back)) in
          let low = later.within in
          let reaches = later.reaches in
          met (block_start (b - block.back) + 0) (extent_of later.first) (extent_here blocks (b - block.back) 0 later.first later.here later.starts)
          (ap (λ t. (block_of (block_start (b - block.back) + 0) == b) || t) (to_covers (block_start (b - block.back) + 0) (block_start b) (extent_of later.first) (omega (arith, low)) (omega (arith, low, reaches)))
          ∙ elim (block_of (block_start (b - block.back) + 0) == b) as (λ t. (t || true) ≡ true) [ true ↦ refl | false ↦ refl ]))
          (λ some. let one = extent_of_some b block here some in met one.0 (extent_of block) one.1 (ap (λ t. t || covers (one.0, extent_of block) (block_start b)) (eq-eqb _ _ one.2)))
          (cases_Bool (block.objects == 0)))

  -- ---- the search for a place

  module _ (size : ℕ) (kind : ObjKind) (sized : 1 ≤ size) where
    -- a block of the class with no room has no free cell
    none_free : size ≤ 64 → (b : ℕ) (block : Block) → slice_get blocks b ≡ Some block → has_room (class_of size kind) block ≡ false → has_class extents size kind b ≡ true → find (is_free extents) (cells size b) ≡ None
    none_free small b block here off on =
        let parts = and_parts (not (block.objects == 0)) (block.size == size && same_kind block.kind kind) (sym (has_class-block b size kind block here) ∙ on) in
        let of_class = and_parts (block.size == size) (same_kind block.kind kind) parts.1 in
        let size_is = eqb-true block.size size of_class.0 in
        let class_is : class_of block.size block.kind ≡ class_of size kind = ap (λ n. class_of n block.kind) size_is ∙ ap (class_of size) (kinds_same block.kind kind of_class.1) in
        let full = is_full_then parts.0 size_is class_is in
        find_mapped (is_free extents) (λ i. block_start b + i * size) (range_with_len 0 (64 / size))
        ∙ ap (option_map (λ i. block_start b + i * size))
        (find_nowhere (λ i. is_free extents (block_start b + i * size)) 0 (64 / size) (λ i h lt.
        let cell = cell_of_index size i sized (omega (arith, lt)) in
        is_free-cell b (i * size) block here cell.1 ∙ not_from_true _ (full_cells block full (i * size) (ap (λ n. is_cell n (i * size)) size_is ∙ cell.0))))
      where
        is_full_then : not (block.objects == 0) ≡ true → block.size ≡ size → class_of block.size block.kind ≡ class_of size kind → is_full block ≡ true
        is_full_then some size_is same =
            ⊎_elim (λ full. full)
            (λ room. absurd (both_ways _ off (and_from (not (block.objects == 0)) _ some (and_from (not (is_full block)) _ (not_from_false _ room) (and_from (nat_le block.size 64) _ (le-leb block.size 64 (omega (arith, size_is, small))) (eq-eqb _ _ same))))))
            (cases_Bool (is_full block))

    -- the least free cell of the least block with room
    pub place_in_room : size ≤ 64 → (b start : ℕ) (block : Block) → slice_get blocks b ≡ Some block → has_room (class_of size kind) block ≡ true → ((c : ℕ) (other : Block) → c < b → slice_get blocks c ≡ Some other → has_room (class_of size kind) other ≡ false) → is_cell block.size start ≡ true → starts_at block start ≡ false → ((p : ℕ) → p < start → is_cell block.size p ≡ true → starts_at block p ≡ true) → place_in extents (length blocks) size kind ≡ Some (block_start b + start)
    place_in_room small b start block here room before cell free least =
        ap (λ o. option_or o (option_map block_start (find (has_run extents (length blocks) (blocks_for size)) (range_with_len 0 (length blocks)))))
        (search_first (is_free extents) (cells size) (has_class extents size kind) 0 (length blocks) b (block_start b + start) (omega arith) (omega (arith, in_list)) of_class found
        (λ c h lt on. let other = item_at blocks c (omega (arith, lt, in_list)) in none_free small c other.0 other.1 (before c other.0 lt other.1) on))
      where
        in_list : b < length blocks
        in_list = slice_get_within blocks b block here

        parts : (not (block.objects == 0) ≡ true) × ((not (is_full block) && (nat_le block.size 64 && class_of block.size block.kind == class_of size kind)) ≡ true)
        parts = and_parts (not (block.objects == 0)) _ room

        tests : (nat_le block.size 64 ≡ true) × ((class_of block.size block.kind == class_of size kind) ≡ true)
        tests = and_parts (nat_le block.size 64) _ (and_parts (not (is_full block)) _ parts.1).1

        class_is : (block.size ≡ size) × (block.kind ≡ kind)
        class_is = one_class block.size size block.kind kind block.sized (leb-true block.size 64 tests.0) sized small (eqb-true _ _ tests.1)

        of_class : has_class extents size kind b ≡ true
        of_class =
            has_class-block b size kind block here
            ∙ and_from (not (block.objects == 0)) _ parts.0 (and_from (block.size == size) _ (eq-eqb _ _ class_is.0) (subst (λ k. same_kind k kind ≡ true) (sym class_is.1) (kind_itself kind)))

        index : (i : ℕ) × (i < 64 / size) × (i * size ≡ start)
        index = index_of_cell size start sized small (ap (λ n. is_cell n start) (sym class_is.0) ∙ cell)

        found : find (is_free extents) (cells size b) ≡ Some (block_start b + start)
        found =
            find_mapped (is_free extents) (λ i. block_start b + i * size) (range_with_len 0 (64 / size))
            ∙ ap (option_map (λ i. block_start b + i * size))
            (find_first (λ i. is_free extents (block_start b + i * size)) 0 (64 / size) index.0 (omega arith) (omega (arith, index.1))
            (is_free-cell b (index.0 * size) block here (cell_of_index size index.0 sized index.1).1 ∙ not_from_false _ (ap (starts_at block) index.2 ∙ free))
            (λ i h lt.
            let low = index.1 in
            let this = cell_of_index size i sized (omega (arith, lt, low)) in
            let rows : suc i * size ≤ index.0 * size = mul-le-mul_right size lt in
            let next = suc-mul i size in
            let at = index.2 in
            is_free-cell b (i * size) block here this.1 ∙ not_from_true _ (least (i * size) (omega (arith, rows, next, at, sized)) (ap (λ n. is_cell n (i * size)) class_is.0 ∙ this.0))))
            ∙ ap (λ p. Some (block_start b + p)) index.2

    -- no free cell in a block of its class: then the least run
    abbrev pub IsNowhere : Type 0
    IsNowhere = find (is_free extents) (flat_map (cells size) (filter (has_class extents size kind) (range_with_len 0 (length blocks)))) ≡ None

    pub no_room : size ≤ 64 → ((c : ℕ) (other : Block) → slice_get blocks c ≡ Some other → has_room (class_of size kind) other ≡ false) → IsNowhere
    no_room small none = search_nowhere (is_free extents) (cells size) (has_class extents size kind) 0 (length blocks) (λ c h lt on. let other = item_at blocks c (omega (arith, lt)) in none_free small c other.0 other.1 (none c other.0 other.1) on)

    -- no block has cells of more than 64 words
    pub no_cells : 64 < size → IsNowhere
    no_cells long =
        let none : 64 / size ≡ 0 = div-eq_of_lt long in
        search_nowhere (is_free extents) (cells size) (has_class extents size kind) 0 (length blocks) (λ c h lt on. find_mapped (is_free extents) (λ i. block_start c + i * size) (range_with_len 0 (64 / size)) ∙ ap (λ n. option_map (λ i. block_start c + i * size) (find (λ i. is_free extents (block_start c + i * size)) (range_with_len 0 n))) none)

    pub place_in_run : IsNowhere → (b : ℕ) → b < length blocks → has_run extents (length blocks) (blocks_for size) b ≡ true → ((c : ℕ) → c < b → has_run extents (length blocks) (blocks_for size) c ≡ false) → place_in extents (length blocks) size kind ≡ Some (block_start b)
    place_in_run nowhere b lt run before =
        ap (λ o. option_or o (option_map block_start (find (has_run extents (length blocks) (blocks_for size)) (range_with_len 0 (length blocks))))) nowhere
        ∙ ap (option_map block_start) (find_first (has_run extents (length blocks) (blocks_for size)) 0 (length blocks) b (omega arith) (omega (arith, lt)) run (λ c h lt. before c lt))

    pub no_place : IsNowhere → ((c : ℕ) → has_run extents (length blocks) (blocks_for size) c ≡ false) → place_in extents (length blocks) size kind ≡ None
    no_place nowhere none =
        ap (λ o. option_or o (option_map block_start (find (has_run extents (length blocks) (blocks_for size)) (range_with_len 0 (length blocks))))) nowhere
        ∙ ap (option_map block_start) (find_nowhere (has_run extents (length blocks) (blocks_for size)) 0 (length blocks) (λ c h lt. none c))
