-- Where condemned cells start, and how many there are.
use Rattle.std.proofs.Common.{◌≡◌, ◌≢◌, ℕ, zero, suc, ◌+◌, ◌-◌, ◌*◌, ◌/◌, ◌%◌, ◌^◌, ◌<◌, ◌≤◌, ◌⊎◌, inl, inr, Bool, true, false, cond, not, ◌&&◌, ◌||◌, nat_le, nat_lt, nat_eq, nat_cmp, List, [], ◌∷◌, ◌++◌, map, length, set, take, get_or, Option, Some, None, slice_get, refl, sym, ap, ◌∙◌, ⊎_elim, arith, count_by, bit_or}
use Rattle.std.proofs.lemmas.Bool.{cond-true, cond-false, cases_eq, cases_lt, eq-eqb, ne_eqb, lt-ltb, le-ltb, leb-true, leb-false, ltb-true, ltb-false, and_left, and_right, and_parts, both_ways}
use Rattle.std.proofs.lemmas.Option.{slice_get_past, get_or_from_slice_get}
use Rattle.std.proofs.lemmas.List.{take_all}
use Rattle.std.proofs.lemmas.List.Sums.{sum_by-append, sum_by_more, sum_by-cons, sum_by-set, sum_by-le, count_by-le-length}
use Rattle.std.proofs.lemmas.Nat.Bits.{same_from_bits}
use Rattle.std.proofs.lemmas.Simd.{bit_mask_l, ones-mask_l}
use Rattle.std.specs.Simd.Lanes.{mask_l}
use Rattle.std.specs.Int.{bit_at}
use Rattle.std.specs.Int.Count.{ones}
use Rattle.std.specs.List.{range_with_len, sum_by}
use Rattle.std.specs.Cmp.{nat_cmp_total, ranked}
use Rattle.std.specs.Option.{option_map_or}
use Rattle.std.specs.declared.cmp.Ordering.TheVariants.{Equal}
use Rattle.std.specs.FinSet.{contains, insert, len, contains-empty, contains-retain, len-empty, len-insert}
use Rattle.fz_model.specs.Allocation.{block_start, block_of}
use Rattle.fz_model.specs.Extents.{IsInHeap, heap_end}
use Rattle.fz_model.specs.declared.limits.TheConstants.{HEAP_START}
use Rattle.fz_blocks.specs.declared.block.Block.{Block}
use Rattle.fz_model.specs.Bits.{has_bit}
use Rattle.fz_blocks.specs.Tabulated.{Addresses, gathered}
use Rattle.fz_blocks.specs.Claimed.{swept}
use Rattle.fz_blocks.specs.Layout.{is_condemned, condemned_in, waiting_in}
use Rattle.fz_blocks.specs.Runs.{FreesLater}
use Rattle.fz_blocks.proofs.Bits.{none_past, fits_word, cell_fits, or_is}
use Rattle.fz_model.proofs.Bits.{no_bits, bit_on, bit_off}
use Rattle.fz_blocks.proofs.Extents.{by_place}
use Rattle.fz_model.proofs.Sets.{contains-inserted, same_members}
use Rattle.fz_blocks.proofs.Places.{item_at}

-- ---- the set that a test gathers

module _ (test : ℕ → Bool) where
  pub contains-gathered : (n q : ℕ) → contains (gathered test n) q ≡ (nat_lt q n && test q)
  unfolding gathered
  contains-gathered zero q = contains-empty nat_cmp q ∙ sym (ap (λ t. t && test q) (le-ltb q 0 (omega arith)))
  contains-gathered (suc n) q = more (contains-gathered n q) (test n) refl
    where
      wider : q ≢ n → (nat_lt q n && test q) ≡ (nat_lt q (suc n) && test q)
      wider ne = ap (λ t. t && test q) (⊎_elim
          (λ (lt : q < n). lt-ltb q n lt ∙ sym (lt-ltb q (suc n) (omega arith)))
          (λ (ge : n ≤ q). le-ltb q n ge ∙ sym (le-ltb q (suc n) (omega arith)))
          (cases_lt q n))

      last : q ≡ n → (b : Bool) → test n ≡ b → (nat_lt q (suc n) && test q) ≡ b
      last is b on = ap (λ t. t && test q) (lt-ltb q (suc n) (omega arith)) ∙ ap test is ∙ on

      more : contains (gathered test n) q ≡ (nat_lt q n && test q) → (b : Bool) → test n ≡ b → contains (cond b (insert (gathered test n) n) (gathered test n)) q ≡ (nat_lt q (suc n) && test q)
      more before true on =
          contains-inserted (gathered test n) n q
          ∙ ⊎_elim
          (λ (is : q ≡ n). cond-true (nat_eq q n) true (contains (gathered test n) q) (eq-eqb q n is) ∙ sym (last is true on))
          (λ (ne : q ≢ n). cond-false (nat_eq q n) true (contains (gathered test n) q) (ne_eqb q n ne) ∙ before ∙ wider ne)
          (cases_eq q n)
      more before false off =
          before
          ∙ ⊎_elim
          (λ (is : q ≡ n). and_left (nat_lt q n) (test q) (le-ltb q n (omega arith)) ∙ sym (last is false off))
          (λ (ne : q ≢ n). wider ne)
          (cases_eq q n)

  one_gathered : (n : ℕ) → len (gathered test (suc n)) ≡ len (gathered test n) + cond (test n) 1 0
  unfolding gathered
  one_gathered n = more (test n)
    where
      absent : contains (gathered test n) n ≡ false
      absent = contains-gathered n n ∙ and_left (nat_lt n n) (test n) (le-ltb n n (omega arith))

      more : (b : Bool) → len (cond b (insert (gathered test n) n) (gathered test n)) ≡ len (gathered test n) + cond b 1 0
      more true = len-insert nat_cmp_total (gathered test n) n ∙ cond-false (contains (gathered test n) n) (len (gathered test n)) (len (gathered test n) + 1) absent
      more false = omega arith

  none_gathered : (n : ℕ) → ((a : ℕ) → a < n → test a ≡ false) → len (gathered test n) ≡ 0
  unfolding gathered
  none_gathered zero none = len-empty nat_cmp
  none_gathered (suc n) none = one_gathered n ∙ ap (λ t. len (gathered test n) + cond t 1 0) (none n (omega arith)) ∙ ap (λ k. k + 0) (none_gathered n (λ a lt. none a (omega arith)))

  -- how many of so many numbers from one on pass
  more_gathered : (n k : ℕ) → len (gathered test (n + k)) ≡ len (gathered test n) + count_by (λ i. test (n + i)) (range_with_len 0 k)
  more_gathered n zero = let same : n + 0 ≡ n = omega arith in ap (λ m. len (gathered test m)) same ∙ plus_zero (len (gathered test n))
    where
      plus_zero : (m : ℕ) → m ≡ m + 0
      plus_zero m = omega arith
  more_gathered n (suc k) =
      let next : n + suc k ≡ suc (n + k) = omega arith in
      ap (λ m. len (gathered test m)) next
      ∙ one_gathered (n + k)
      ∙ ap (λ m. m + cond (test (n + k)) 1 0) (more_gathered n k)
      ∙ regroup (len (gathered test n)) (count_by (λ i. test (n + i)) (range_with_len 0 k)) (cond (test (n + k)) 1 0)
      ∙ ap (λ m. len (gathered test n) + m) (sym (ap (count_by (λ i. test (n + i))) (range_last 0 k ∙ ap (λ m. range_with_len 0 k ++ m ∷ []) (zero_more k)) ∙ sum_by-append (λ i. cond (test (n + i)) 1 0) (range_with_len 0 k) (k ∷ []) ∙ ap (λ m. count_by (λ i. test (n + i)) (range_with_len 0 k) + m) (sum_by-cons (λ i. cond (test (n + i)) 1 0) k [])))
    where
      regroup : (x y z : ℕ) → (x + y) + z ≡ x + (y + (z + 0))
      regroup x y z = omega arith

      zero_more : (n : ℕ) → 0 + n ≡ n
      zero_more n = omega arith

      range_last : (a n : ℕ) → range_with_len a (suc n) ≡ range_with_len a n ++ (a + n) ∷ []
      range_last a zero = let e : a ≡ a + 0 = omega arith in ap (λ k. k ∷ []) e
      range_last a (suc n) = let e : (a + 1) + n ≡ a + suc n = omega arith in ap (λ ks. a ∷ ks) (range_last (a + 1) n ∙ ap (λ k. range_with_len (a + 1) n ++ k ∷ []) e)

-- ---- the bits of a word, counted

get_or-tests : (test : ℕ → Bool) (a n i : ℕ) → i < n → get_or (map test (range_with_len a n)) i false ≡ test (a + i)
get_or-tests test a zero i lt = absurd (omega (arith, lt))
get_or-tests test a (suc n) zero lt = let e : a ≡ a + 0 = omega arith in ap test e
get_or-tests test a (suc n) (suc i) lt = let e : (a + 1) + i ≡ a + suc i = omega arith in get_or-tests test (a + 1) n i (omega (arith, lt)) ∙ ap test e

get_or-tests_past : (test : ℕ → Bool) (a n i : ℕ) → n ≤ i → get_or (map test (range_with_len a n)) i false ≡ false
get_or-tests_past test a zero i le = refl
get_or-tests_past test a (suc n) zero le = absurd (omega (arith, le))
get_or-tests_past test a (suc n) (suc i) le = get_or-tests_past test (a + 1) n i (omega (arith, le))

pub ones-word : (word : ℕ) → word < 2 ^ 64 → ones word ≡ count_by (has_bit word) (range_with_len 0 64)
ones-word word fits = ap ones (same_from_bits word (mask_l (map (has_bit word) (range_with_len 0 64))) (λ i. sym (bit_mask_l (map (has_bit word) (range_with_len 0 64)) i ∙ at i))) ∙ ones-mask_l (has_bit word) (range_with_len 0 64)
  where
    zero_more : (n : ℕ) → 0 + n ≡ n
    zero_more n = omega arith

    bit_is : (i : ℕ) (t : Bool) → has_bit word i ≡ t → cond t 1 0 ≡ bit_at word i
    bit_is i true on = sym (bit_on word i on)
    bit_is i false off = sym (bit_off word i off)

    at : (i : ℕ) → cond (get_or (map (has_bit word) (range_with_len 0 64)) i false) 1 0 ≡ bit_at word i
    at i =
        ⊎_elim
        (λ (lt : i < 64). ap (λ t. cond t 1 0) (get_or-tests (has_bit word) 0 64 i lt ∙ ap (has_bit word) (zero_more i)) ∙ bit_is i (has_bit word i) refl)
        (λ (past : 64 ≤ i). ap (λ t. cond t 1 0) (get_or-tests_past (has_bit word) 0 64 i past) ∙ bit_is i false (none_past word i fits past))
        (cases_lt i 64)

count_range : (f g : ℕ → Bool) (a n : ℕ) → ((i : ℕ) → a ≤ i → i < a + n → f i ≡ g i) → count_by f (range_with_len a n) ≡ count_by g (range_with_len a n)
count_range f g a zero same = refl
count_range f g a (suc n) same =
    sum_by-cons (λ i. cond (f i) 1 0) a (range_with_len (a + 1) n)
    ∙ ap (λ t. cond t 1 0 + count_by f (range_with_len (a + 1) n)) (same a (omega arith) (omega arith))
    ∙ ap (λ m. cond (g a) 1 0 + m) (count_range f g (a + 1) n (λ i low lt. same i (omega arith) (omega (arith, lt))))
    ∙ sym (sum_by-cons (λ i. cond (g i) 1 0) a (range_with_len (a + 1) n))

count_apart : (f g h : ℕ → Bool) (a n : ℕ) → ((i : ℕ) → h i ≡ (f i || g i)) → ((i : ℕ) → g i ≡ true → f i ≡ false) → count_by h (range_with_len a n) ≡ count_by f (range_with_len a n) + count_by g (range_with_len a n)
count_apart f g h a zero either apart = refl
count_apart f g h a (suc n) either apart =
    sum_by-cons (λ i. cond (h i) 1 0) a (range_with_len (a + 1) n)
    ∙ ap (λ t. cond t 1 0 + count_by h (range_with_len (a + 1) n)) (either a)
    ∙ ap (λ m. cond (f a || g a) 1 0 + m) (count_apart f g h (a + 1) n either apart)
    ∙ one (f a) (g a) (apart a) (count_by f (range_with_len (a + 1) n)) (count_by g (range_with_len (a + 1) n))
    ∙ ap (λ m. m + (cond (g a) 1 0 + count_by g (range_with_len (a + 1) n))) (sym (sum_by-cons (λ i. cond (f i) 1 0) a (range_with_len (a + 1) n)))
    ∙ ap (λ m. count_by f (range_with_len a (suc n)) + m) (sym (sum_by-cons (λ i. cond (g i) 1 0) a (range_with_len (a + 1) n)))
  where
    one : (x y : Bool) → (y ≡ true → x ≡ false) → (p q : ℕ) → cond (x || y) 1 0 + (p + q) ≡ (cond x 1 0 + p) + (cond y 1 0 + q)
    one true true off p q = absurd (both_ways true (off refl) refl)
    one true false off p q = omega arith
    one false true off p q = omega arith
    one false false off p q = omega arith

-- words with no bit in common
pub ones-or : (a b : ℕ) → a < 2 ^ 64 → b < 2 ^ 64 → bit_or a b < 2 ^ 64 → ((i : ℕ) → has_bit b i ≡ true → has_bit a i ≡ false) → ones (bit_or a b) ≡ ones a + ones b
ones-or a b fits small both apart =
    ones-word (bit_or a b) both ∙ count_apart (has_bit a) (has_bit b) (has_bit (bit_or a b)) 0 64 (or_is a b) apart
    ∙ ap (λ n. n + count_by (has_bit b) (range_with_len 0 64)) (sym (ones-word a fits)) ∙ ap (λ n. ones a + n) (sym (ones-word b small))

pub condemned_fit : (block : Block) → block.condemned < 2 ^ 64
condemned_fit block = fits_word block.condemned (λ place on. cell_fits block.size place block.sized (sym (block.cells_are place) ∙ block.condemned_are place on))

pub few_condemned : (block : Block) → ones block.condemned ≤ 64
few_condemned block = let few = count_by-le-length (has_bit block.condemned) (range_with_len 0 64) in let is = ones-word block.condemned (condemned_fit block) in omega (arith, few, is)

-- ---- the condemned starts of blocks

module _ (blocks : List Block) where
  contains-condemned_in : (a : ℕ) → contains (condemned_in blocks) a ≡ is_condemned blocks a
  contains-condemned_in a =
      contains-gathered (is_condemned blocks) (65536 + 64 * length blocks) a
      ∙ ⊎_elim
      (λ (lt : a < 65536 + 64 * length blocks). ap (λ t. t && is_condemned blocks a) (lt-ltb a (65536 + 64 * length blocks) lt))
      (λ (past : 65536 + 64 * length blocks ≤ a).
      and_left (nat_lt a (65536 + 64 * length blocks)) (is_condemned blocks a) (le-ltb a (65536 + 64 * length blocks) past)
      ∙ sym (cond-false (nat_lt a 65536) false _ (le-ltb a 65536 (omega (arith, past))) ∙ ap (λ o. option_map_or (λ (block : Block). has_bit block.condemned ((a - 65536) % 64)) o false) (slice_get_past blocks ((a - 65536) / 64) (omega (arith, past)))))
      (cases_lt a (65536 + 64 * length blocks))

  none_low : (a : ℕ) → a < 65536 → is_condemned blocks a ≡ false
  none_low a low = cond-true (nat_lt a 65536) false _ (lt-ltb a 65536 low)

  inside : (b p : ℕ) → p < 64 → is_condemned blocks (block_start b + p) ≡ option_map_or (λ (block : Block). has_bit block.condemned p) (slice_get blocks b) false
  inside b p small =
      let block_is : (block_start b + p - 65536) / 64 ≡ b = omega (arith, small) in
      let place_is : (block_start b + p - 65536) % 64 ≡ p = omega (arith, small) in
      cond-false (nat_lt (block_start b + p) 65536) false _ (le-ltb (block_start b + p) 65536 (omega arith))
      ∙ ap (λ q. option_map_or (λ (block : Block). has_bit block.condemned q) (slice_get blocks ((block_start b + p - 65536) / 64)) false) place_is
      ∙ ap (λ c. option_map_or (λ (block : Block). has_bit block.condemned p) (slice_get blocks c) false) block_is

  pub low_condemned : (a : ℕ) → a < 65536 → contains (condemned_in blocks) a ≡ false
  low_condemned a low = contains-condemned_in a ∙ none_low a low

  pub condemned-place : (b p : ℕ) → p < 64 → contains (condemned_in blocks) (block_start b + p) ≡ option_map_or (λ (block : Block). has_bit block.condemned p) (slice_get blocks b) false
  condemned-place b p small = contains-condemned_in (block_start b + p) ∙ inside b p small

  -- a set that has just the condemned cells of the blocks
  pub condemned_are : (s : Addresses) → ((a : ℕ) → a < 65536 → contains s a ≡ false) → ((b p : ℕ) → p < 64 → contains s (block_start b + p) ≡ option_map_or (λ (block : Block). has_bit block.condemned p) (slice_get blocks b) false) → condemned_in blocks ≡ s
  condemned_are s low high =
      same_members _ _ (by_place (λ a. contains (condemned_in blocks) a ≡ contains s a) (λ a lt. low_condemned a lt ∙ sym (low a lt)) (λ b p small. condemned-place b p small ∙ sym (high b p small)))

  -- how many there are
  pub len-condemned_in : len (condemned_in blocks) ≡ waiting_in blocks
  len-condemned_in = up_to (length blocks) (omega arith) ∙ ap (λ bs. sum_by (λ (block : Block). ones block.condemned) bs) (take_all (length blocks) blocks (omega arith))
    where
      up_to : (k : ℕ) → k ≤ length blocks → len (gathered (is_condemned blocks) (65536 + 64 * k)) ≡ sum_by (λ (block : Block). ones block.condemned) (take k blocks)
      up_to zero le = none_gathered (is_condemned blocks) 65536 none_low
      up_to (suc k) le =
          let found = item_at blocks k (omega (arith, le)) in
          let next : 65536 + 64 * suc k ≡ 65536 + 64 * k + 64 = omega arith in
          let more : suc k ≡ k + 1 = omega arith in
          ap (λ n. len (gathered (is_condemned blocks) n)) next
          ∙ more_gathered (is_condemned blocks) (65536 + 64 * k) 64
          ∙ ap (λ n. n + count_by (λ i. is_condemned blocks (65536 + 64 * k + i)) (range_with_len 0 64)) (up_to k (omega (arith, le)))
          ∙ ap (λ n. sum_by (λ (block : Block). ones block.condemned) (take k blocks) + n) (count_range (λ i. is_condemned blocks (65536 + 64 * k + i)) (has_bit found.0.condemned) 0 64 (λ i low lt. inside k i (omega (arith, lt)) ∙ ap (λ o. option_map_or (λ (block : Block). has_bit block.condemned i) o false) found.1) ∙ sym (ones-word found.0.condemned (condemned_fit found.0)) ∙ ap (λ (block : Block). ones block.condemned) (sym (get_or_from_slice_get blocks k found.0 found.0 found.1)))
          ∙ sym (ap (λ n. sum_by (λ (block : Block). ones block.condemned) (take n blocks)) more ∙ sum_by_more (λ (block : Block). ones block.condemned) blocks k found.0 (omega (arith, le)))

  -- they lie in the heap
  pub condemned_within : (a : ℕ) → contains (condemned_in blocks) a ≡ true → IsInHeap (length blocks) a
  condemned_within a on = (low, high)
    where
      low : HEAP_START ≤ a
      low = ⊎_elim (λ lt. absurd (both_ways _ (low_condemned a lt) on)) (λ ge. ge) (cases_lt a HEAP_START)

      high : a < heap_end (length blocks)
      high = ltb-true a (heap_end (length blocks)) (and_parts _ (is_condemned blocks a) (sym (contains-gathered (is_condemned blocks) (heap_end (length blocks)) a) ∙ on)).0

-- ---- what changes

contains-swept : (s : Addresses) (b count a : ℕ) → contains (swept s b count) a ≡ (contains s a && not (nat_le b (block_of a) && nat_lt (block_of a) (b + count)))
contains-swept s b count a = contains-retain s (λ a. not (nat_le b (block_of a) && nat_lt (block_of a) (b + count))) a (λ x e. ap (λ a. not (nat_le b (block_of a) && nat_lt (block_of a) (b + count))) (sym (ranked a x Equal (sym e))))

pub swept_is : (old new : List Block) (b count : ℕ) → ((c : ℕ) → (c < b) ⊎ (b + count ≤ c) → slice_get new c ≡ slice_get old c) → ((c : ℕ) (block : Block) → b ≤ c → c < b + count → slice_get new c ≡ Some block → block.condemned ≡ 0) → condemned_in new ≡ swept (condemned_in old) b count
swept_is old new b count others clean =
    condemned_are new (swept (condemned_in old) b count) (λ a lt. contains-swept (condemned_in old) b count a ∙ and_left (contains (condemned_in old) a) _ (low_condemned old a lt)) (λ c p small.
    let block_is : (block_start c + p - 65536) / 64 ≡ c = omega (arith, small) in
    contains-swept (condemned_in old) b count (block_start c + p)
    ∙ ap (λ n. contains (condemned_in old) (block_start c + p) && not (nat_le b n && nat_lt n (b + count))) block_is
    ∙ ap (λ t. t && not (nat_le b c && nat_lt c (b + count))) (condemned-place old c p small)
    ∙ at c p (nat_le b c) (nat_lt c (b + count)) refl refl)
  where
    none : (o : Option Block) (p : ℕ) → ((block : Block) → o ≡ Some block → block.condemned ≡ 0) → false ≡ option_map_or (λ (block : Block). has_bit block.condemned p) o false
    none None p are = refl
    none (Some block) p are = sym (ap (λ n. has_bit n p) (are block refl) ∙ no_bits p)

    kept : (c p : ℕ) → (c < b) ⊎ (b + count ≤ c) → (option_map_or (λ (block : Block). has_bit block.condemned p) (slice_get old c) false && true) ≡ option_map_or (λ (block : Block). has_bit block.condemned p) (slice_get new c) false
    kept c p out = and_true _ ∙ ap (λ o. option_map_or (λ (block : Block). has_bit block.condemned p) o false) (sym (others c out))
      where
        and_true : (t : Bool) → (t && true) ≡ t
        and_true true = refl
        and_true false = refl

    at : (c p : ℕ) (from to : Bool) → nat_le b c ≡ from → nat_lt c (b + count) ≡ to → (option_map_or (λ (block : Block). has_bit block.condemned p) (slice_get old c) false && not (from && to)) ≡ option_map_or (λ (block : Block). has_bit block.condemned p) (slice_get new c) false
    at c p true true from to = and_right (option_map_or (λ (block : Block). has_bit block.condemned p) (slice_get old c) false) false refl ∙ none (slice_get new c) p (λ block. clean c block (leb-true b c from) (ltb-true c (b + count) to))
    at c p true false from to = kept c p (inr (ltb-false c (b + count) to))
    at c p false to from _ = kept c p (inl (leb-false b c from))

-- where the later blocks of a run become bare, all stays condemned that was
pub condemned_later : (old new : List Block) (b count : ℕ) → FreesLater old new b count → condemned_in new ≡ condemned_in old
condemned_later old new b count frees = condemned_are new (condemned_in old) (low_condemned old) (λ c p small. condemned-place old c p small ∙ at c p)
  where
    at : (c p : ℕ) → option_map_or (λ (block : Block). has_bit block.condemned p) (slice_get old c) false ≡ option_map_or (λ (block : Block). has_bit block.condemned p) (slice_get new c) false
    at c p =
        ⊎_elim
        (λ (before : c < b + 1). ap (λ o. option_map_or (λ (block : Block). has_bit block.condemned p) o false) (sym (frees.others c (inl (omega (arith, before))))))
        (λ (after : b + 1 ≤ c).
        ⊎_elim
        (λ (within : c < b + count).
        let is = frees.later (c - b) (omega (arith, after)) (omega (arith, after, within)) in
        let at : b + (c - b) ≡ c = omega (arith, after) in
        ap (λ o. option_map_or (λ (block : Block). has_bit block.condemned p) o false) (ap (slice_get old) (sym at) ∙ is.2)
        ∙ ap (λ n. has_bit n p) (sym is.4.condemned)
        ∙ ap (λ o. option_map_or (λ (block : Block). has_bit block.condemned p) o false) (sym (ap (slice_get new) (sym at) ∙ is.3)))
        (λ (past : b + count ≤ c). ap (λ o. option_map_or (λ (block : Block). has_bit block.condemned p) o false) (sym (frees.others c (inr past))))
        (cases_lt c (b + count)))
        (cases_lt c (b + 1))

-- ---- how many there are, as one block changes

pub waiting_set : (blocks : List Block) (at : ℕ) (old new : Block) → at < length blocks → slice_get blocks at ≡ Some old → waiting_in (set blocks at new) + ones old.condemned ≡ waiting_in blocks + ones new.condemned
waiting_set blocks at old new lt here = ap (λ (block : Block). waiting_in (set blocks at new) + ones block.condemned) (sym (get_or_from_slice_get blocks at old old here)) ∙ sum_by-set (λ (block : Block). ones block.condemned) blocks at new old lt

pub few_waiting : (blocks : List Block) → waiting_in blocks ≤ length blocks * 64
few_waiting blocks = sum_by-le (λ (block : Block). ones block.condemned) 64 blocks (λ i d lt. few_condemned (get_or blocks i d))
