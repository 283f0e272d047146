-- One block: its objects, and what a claim and a release make of them.
use Rattle.std.proofs.Common.{◌≡◌, ◌≢◌, ℕ, ◌+◌, ◌*◌, ◌%◌, ◌^◌, ◌<◌, ◌≤◌, Bool, true, false, ◌||◌, ◌&&◌, ◌==◌, bit_and, bit_or, nat_le, nat_lt, refl, sym, ap, ◌∙◌, subst, ⊎_elim, arith, w64}
use Rattle.std.proofs.lemmas.Bool.{cases_eq, cases_lt, cases_Bool, eq-eqb, ne_eqb, eqb-true, eqb-false, and_parts, and_from, both_ways, not-true, not_from_false, le-leb, lt-ltb, ltb-true}
use Rattle.std.proofs.lemmas.Nat.{and_le_l}
use Rattle.std.proofs.Math.Nat.{mod-eq_of_lt, zero-mod}
use Rattle.std.proofs.lemmas.Nat.Bits.{same_from_bits}
use Rattle.std.specs.Int.{bit_at, bit_not, trailing_zeros}
use Rattle.fz_blocks.specs.declared.block.Block.{Block}
use Rattle.fz_model.specs.Bits.{has_bit}
use Rattle.fz_blocks.specs.Cells.{is_cell}
use Rattle.fz_blocks.specs.Blocks.{starts_at, is_bare, is_full, IsCellOf}
use Rattle.fz_blocks.proofs.Bits.{same_test, one_bit, fits_word, within_word, and_bit, and_bits, set_bit, lowest, cell_fits, cells_apart, multiples_apart, cell_parts}
use Rattle.fz_model.proofs.Bits.{bit_on, bit_off, no_bits, not_bit}

pub same_bits : (a b : ℕ) → ((i : ℕ) → has_bit a i ≡ has_bit b i) → a ≡ b
same_bits a b same = same_from_bits a b (λ i. at i (has_bit a i) refl)
  where
    at : (i : ℕ) (t : Bool) → has_bit a i ≡ t → bit_at a i ≡ bit_at b i
    at i true on = bit_on a i on ∙ sym (bit_on b i (sym (same i) ∙ on))
    at i false off = bit_off a i off ∙ sym (bit_off b i (sym (same i) ∙ off))

-- an object starts in a cell, of the block
pub object_cell : (block : Block) (place : ℕ) → starts_at block place ≡ true → is_cell block.size place ≡ true
object_cell block place on = sym (block.cells_are place) ∙ block.objects_are place on

pub start_within : (block : Block) (place : ℕ) → starts_at block place ≡ true → place < 64
start_within block place on = cell_fits block.size place block.sized (object_cell block place on)

-- one of more than a block is its block's first, and its only one
pub long_first : (block : Block) (place : ℕ) → starts_at block place ≡ true → 64 < place + block.size → place ≡ 0
long_first block place on long =
    ⊎_elim (λ (is : place ≡ 0). is)
    (λ (ne : place ≢ 0). let fits = (cell_parts block.size place (object_cell block place on)).1 ne in absurd (omega (arith, fits, long)))
    (cases_eq place 0)

pub objects_fit : (block : Block) → block.objects < 2 ^ 64
objects_fit block = fits_word block.objects (start_within block)

pub cells_fit_word : (block : Block) → block.cells < 2 ^ 64
cells_fit_word block = fits_word block.cells (λ place on. cell_fits block.size place block.sized (sym (block.cells_are place) ∙ on))

-- at most one object that starts in a block has a word of it
pub one_start : (block : Block) (place a b : ℕ) → IsCellOf block place a → IsCellOf block place b → a ≡ b
one_start block place a b one two =
    let low = one.first in
    let high = one.inside in
    let low_b = two.first in
    let high_b = two.inside in
    ⊎_elim
    (λ (lt : a < b). let apart = cells_apart block.size a b (object_cell block a one.starts) (object_cell block b two.starts) lt in absurd (omega (arith, apart, high, low_b)))
    (λ (ge : b ≤ a). ⊎_elim
    (λ (lt : b < a). let apart = cells_apart block.size b a (object_cell block b two.starts) (object_cell block a one.starts) lt in absurd (omega (arith, apart, high_b, low)))
    (λ (le : a ≤ b). omega (arith, ge, le))
    (cases_lt b a))
    (cases_lt a b)

-- ---- whether any, or all

pub none_bare : (block : Block) → is_bare block ≡ true → (place : ℕ) → starts_at block place ≡ false
none_bare block bare place = let none = eqb-true block.objects 0 (and_parts (block.objects == 0) (block.back == 0) bare).0 in ap (λ n. has_bit n place) none ∙ no_bits place

pub none_in_later : (block : Block) → 0 < block.back → (place : ℕ) → starts_at block place ≡ false
none_in_later block later place = ap (λ n. has_bit n place) (block.none_later later) ∙ no_bits place

-- a block in which an object starts isn't a later one of a run
pub start_own : (block : Block) (place : ℕ) → starts_at block place ≡ true → block.back ≡ 0
start_own block place on = ⊎_elim (λ (later : 0 < block.back). absurd (both_ways _ (none_in_later block later place) on)) (λ (none : block.back ≤ 0). omega (arith, none)) (cases_lt 0 block.back)

-- a block with no object that starts in it has none
pub some_start : (block : Block) → (block.objects == 0) ≡ false → (place : ℕ) × (starts_at block place ≡ true)
some_start block some = let at = lowest block.objects (trailing_zeros w64 block.objects) (eqb-false block.objects 0 some) (objects_fit block) refl in (trailing_zeros w64 block.objects, at.1)

pub full_cells : (block : Block) → is_full block ≡ true → (place : ℕ) → is_cell block.size place ≡ true → starts_at block place ≡ true
full_cells block full place on = ap (λ n. has_bit n place) (eqb-true block.objects block.cells full) ∙ block.cells_are place ∙ on

-- ---- the least free cell

module _ (block : Block) (room : is_full block ≡ false) where
  fits : block.objects < 2 ^ 64
  fits = objects_fit block

  cells_fit : block.cells < 2 ^ 64
  cells_fit = cells_fit_word block

  abbrev free : ℕ
  free = bit_and block.cells (bit_not w64 block.objects)

  free_fits : free < 2 ^ 64
  free_fits = let le = and_le_l block.cells (bit_not w64 block.objects) in omega (arith, le, cells_fit)

  -- a cell with no object is free
  is_free : (place : ℕ) → has_bit block.cells place ≡ true → starts_at block place ≡ false → has_bit free place ≡ true
  is_free place cell off = and_bit block.cells (bit_not w64 block.objects) place cell (not_bit block.objects place fits (within_word block.cells place cells_fit cell) ∙ not_from_false _ off)

  some_free : free ≢ 0
  some_free none =
      eqb-false block.objects block.cells room (same_bits block.objects block.cells (λ place. same_test _ _ (block.objects_are place) (λ cell. ⊎_elim (λ on. on) (λ off. absurd (both_ways _ (no_bits place) (ap (λ n. has_bit n place) (sym none) ∙ is_free place cell off))) (cases_Bool (starts_at block place)))))

  module _ (place : ℕ) (at : place ≡ trailing_zeros w64 free) where
    least : (place < 64) × (has_bit free place ≡ true) × ((i : ℕ) → i < place → has_bit free i ≡ false)
    least = lowest free place some_free free_fits at

    pub least_within : place < 64
    least_within = least.0

    parts : (has_bit block.cells place ≡ true) × (has_bit (bit_not w64 block.objects) place ≡ true)
    parts = and_bits block.cells (bit_not w64 block.objects) place least.1

    pub least_cell : has_bit block.cells place ≡ true
    least_cell = parts.0

    pub least_free : starts_at block place ≡ false
    least_free = not-true _ (sym (not_bit block.objects place fits least.0) ∙ parts.1)

    pub before_least : (i : ℕ) → i < place → is_cell block.size i ≡ true → starts_at block i ≡ true
    before_least i lt cell =
        ⊎_elim (λ on. on) (λ off. absurd (both_ways _ (least.2 i lt) (is_free i (block.cells_are i ∙ cell) off))) (cases_Bool (starts_at block i))

-- ---- the cells of a size

-- the cells below a place
abbrev pub AreCellsBelow : ℕ → ℕ → ℕ → Type 0
AreCellsBelow cells size next = (place : ℕ) → has_bit cells place ≡ (is_cell size place && (place == 0 || nat_lt place next))

pub first_cell : (size : ℕ) → 1 ≤ size → AreCellsBelow 1 size size
first_cell size sized place = one_bit 0 place (omega arith) ∙ same_test _ _ there back
  where
    there : (place == 0) ≡ true → (is_cell size place && (place == 0 || nat_lt place size)) ≡ true
    there on = let is = eqb-true place 0 on in subst (λ p. (is_cell size p && (p == 0 || nat_lt p size)) ≡ true) (sym is) (and_from (is_cell size 0) true (and_from (0 % size == 0) true (eq-eqb (0 % size) 0 (zero-mod size)) refl) refl)

    back : (is_cell size place && (place == 0 || nat_lt place size)) ≡ true → (place == 0) ≡ true
    back on =
        let both = and_parts (is_cell size place) (place == 0 || nat_lt place size) on in
        ⊎_elim (λ yes. yes)
        (λ no. let lt = ltb-true place size (ap (λ t. t || nat_lt place size) (sym no) ∙ both.1) in
        let whole = (cell_parts size place both.0).0 in
        eq-eqb place 0 (sym (mod-eq_of_lt lt) ∙ whole))
        (cases_Bool (place == 0))

pub next_cell : (cells size next : ℕ) → 1 ≤ size → next % size ≡ 0 → next ≢ 0 → next + size ≤ 64 → AreCellsBelow cells size next → AreCellsBelow (bit_or cells (1 * 2 ^ next % 2 ^ 64)) size (next + size)
next_cell cells size next sized whole some fits are place =
    set_bit cells next place (omega (arith, fits, sized)) ∙ ap (λ t. (place == next) || t) (are place) ∙ same_test _ _ there back
  where
    wider : (place == 0 || nat_lt place next) ≡ true → (place == 0 || nat_lt place (next + size)) ≡ true
    wider on =
        ⊎_elim (λ yes. ap (λ t. t || nat_lt place (next + size)) yes)
        (λ no. let lt = ltb-true place next (ap (λ t. t || nat_lt place next) (sym no) ∙ on) in ap (λ t. t || nat_lt place (next + size)) no ∙ lt-ltb place (next + size) (omega (arith, lt)))
        (cases_Bool (place == 0))

    there : ((place == next) || (is_cell size place && (place == 0 || nat_lt place next))) ≡ true → (is_cell size place && (place == 0 || nat_lt place (next + size))) ≡ true
    there on =
        ⊎_elim
        (λ yes. let is = eqb-true place next yes in subst (λ p. (is_cell size p && (p == 0 || nat_lt p (next + size))) ≡ true) (sym is)
        (and_from (is_cell size next) _ (and_from (next % size == 0) _ (eq-eqb (next % size) 0 whole) (ap (λ t. t || nat_le (next + size) 64) (ne_eqb next 0 some) ∙ le-leb (next + size) 64 fits)) (ap (λ t. t || nat_lt next (next + size)) (ne_eqb next 0 some) ∙ lt-ltb next (next + size) (omega (arith, sized)))))
        (λ no. let both = and_parts (is_cell size place) _ (ap (λ t. t || (is_cell size place && (place == 0 || nat_lt place next))) (sym no) ∙ on) in and_from (is_cell size place) _ both.0 (wider both.1))
        (cases_Bool (place == next))

    back : (is_cell size place && (place == 0 || nat_lt place (next + size))) ≡ true → ((place == next) || (is_cell size place && (place == 0 || nat_lt place next))) ≡ true
    back on =
        let both = and_parts (is_cell size place) (place == 0 || nat_lt place (next + size)) on in
        ⊎_elim
        (λ yes. ap (λ t. t || (is_cell size place && (place == 0 || nat_lt place next))) yes)
        (λ no. ap (λ t. t || (is_cell size place && (place == 0 || nat_lt place next))) no ∙ and_from (is_cell size place) _ both.0 (before (eqb-false place next no) both.0 both.1))
        (cases_Bool (place == next))
      where
        before : place ≢ next → is_cell size place ≡ true → (place == 0 || nat_lt place (next + size)) ≡ true → (place == 0 || nat_lt place next) ≡ true
        before ne cell on =
            ⊎_elim (λ yes. ap (λ t. t || nat_lt place next) yes)
            (λ no. let lt = ltb-true place (next + size) (ap (λ t. t || nat_lt place (next + size)) (sym no) ∙ on) in
            ap (λ t. t || nat_lt place next) no ∙ lt-ltb place next (⊎_elim (λ (less : place < next). less)
            (λ (ge : next ≤ place). let apart = multiples_apart size next place whole (cell_parts size place cell).0 (omega (arith, ge, ne)) in absurd (omega (arith, apart, lt)))
            (cases_lt place next)))
            (cases_Bool (place == 0))
