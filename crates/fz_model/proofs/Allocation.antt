-- Objects of a reached state lie apart, in the heap.
use Rattle.std.proofs.Common.{◌≡◌, ℕ, ◌+◌, ◌-◌, ◌*◌, ◌/◌, ◌<◌, ◌≤◌, ◌==◌, ◌&&◌, ◌⊎◌, inl, inr, ⊎_elim, Bool, true, List, [], ◌∷◌, length, Option, Some, None, option_map, refl, sym, ap, ◌∙◌, subst, arith, zero, suc, slice_get, flat_map, filter, nat_le, replicate}
use Rattle.std.proofs.lemmas.Bool.{cases_lt, cases_eq, and_parts, eqb-true, eq-eqb, leb-true, or_left, or_right, not-true, both_ways}
use Rattle.std.proofs.lemmas.Option.{same_Some, none-some, get_or_from_slice_get, slice_get_within, slice_get-get_or}
use Rattle.std.proofs.lemmas.List.{length-replicate}
use Rattle.std.proofs.lemmas.List.FromFn.{get_or-range_with_len, length-range_with_len}
use Rattle.std.proofs.lemmas.Map.Keys.{any_passes_from_place}
use Rattle.std.proofs.Math.Nat.{div-mul-le_self, mul-le-mul_right}
use Rattle.std.specs.List.{find, list_all, range_with_len}
use Rattle.std.specs.Option.{option_or}
use Rattle.std.specs.FinMap.{get, insert, entries, get-empty}
use Rattle.std.specs.Ordering.{nat_cmp}
use Rattle.fz_model.specs.declared.extent.Extent.{Extent}
use Rattle.fz_model.specs.declared.kinds.ObjKind.{ObjKind}
use Rattle.fz_model.specs.declared.limits.TheConstants.{HEAP_START}
use Rattle.fz_model.specs.State.{Map, Object, Core, State, opening}
use Rattle.fz_model.specs.Extents.{covers, heap_end, extents, extent_of, AreApart, AreWithin}
use Rattle.fz_model.specs.Allocation.{block_start, block_of, has_class, is_free, meets, is_bare, cells, blocks_for, has_run, place_in, same_kind}
use Rattle.fz_model.specs.declared.answers.Passed.{Passed}
use Rattle.fz_model.specs.Memory.{new_object, written}
use Rattle.fz_model.specs.Pass.{Passes}
use Rattle.fz_model.specs.Events.{Event}
use Rattle.fz_model.specs.Steps.{IsReached}
use Rattle.fz_model.proofs.Lists.{find_place, any_at, map_at, filter_at}
use Rattle.fz_model.proofs.MapEntries.{get_at, place_of_key}
use Rattle.fz_model.proofs.Maps.{get-insert_same, get-insert_other, extents-insert, extents-filled}
use Rattle.fz_model.proofs.Objects.{from_covers, to_covers}
use Rattle.fz_model.proofs.Standing.{flat_at, extent_back, get_extent, left, left_before, passed_size}
use Rattle.fz_model.proofs.Effects.{some_words, IsAllowed, Effect, Made, Wrote, Ended, reached_keeps}

-- ---- where extents start, block by block

-- an extent starts at the start of its block, or at a whole multiple of its size, and then ends within the block
abbrev IsCell : ℕ → ℕ → Type 0
IsCell a size = (i : ℕ) × (a ≡ block_start (block_of a) + i * size) × ((i ≡ 0) ⊎ (i * size + size ≤ 64))

pub record AreLaid (blocks : ℕ) (m : Map Extent) : Type 0 where
  pub within : AreWithin blocks m
  pub cell : (a : ℕ) (x : Extent) → get m a ≡ Some x → IsCell a x.size
  -- those that start in one block have one size
  pub alike : (a b : ℕ) (x y : Extent) → get m a ≡ Some x → get m b ≡ Some y → block_of a ≡ block_of b → x.size ≡ y.size
  -- none starts in a block whose first word is that of an extent from before it
  pub clear : (a b : ℕ) (x y : Extent) → get m a ≡ Some x → get m b ≡ Some y → covers (a, x) (block_start (block_of b)) ≡ true → block_of a ≡ block_of b

-- a cell ends before the next begins
step_over : (i j size : ℕ) → i < j → i * size + size ≤ j * size
step_over i j size lt =
    let more = mul-le-mul_right {m = i + 1} {n = j} size (omega (arith, lt)) in
    let spread : (i + 1) * size ≡ i * size + size = omega arith in
    omega (arith, more, spread)

-- those of one block
same_block : (blocks : ℕ) (m : Map Extent) → AreLaid blocks m → (a b word : ℕ) (x y : Extent) → get m a ≡ Some x → get m b ≡ Some y → block_of a ≡ block_of b → a ≤ word → word < a + x.size → b ≤ word → word < b + y.size → a ≡ b
same_block blocks m h a b word x y ha hb same from_a to_a from_b to_b =
    let i = h.cell a x ha in
    let j = h.cell b y hb in
    let size = h.alike a b x y ha hb same in
    let bj : b ≡ block_start (block_of a) + j.0 * x.size = j.1 ∙ ap (λ q. block_start q + j.0 * y.size) (sym same) ∙ ap (λ n. block_start (block_of a) + j.0 * n) (sym size) in
    ⊎_elim
    (λ (lt : i.0 < j.0). let over = step_over i.0 j.0 x.size lt in let ai = i.1 in absurd (omega (arith, over, ai, bj, to_a, from_b)))
    (λ le. ⊎_elim
    (λ (lt : j.0 < i.0). let over = step_over j.0 i.0 x.size lt in let ai = i.1 in absurd (omega (arith, over, ai, bj, to_b, from_a, size)))
    (λ ge. let one : i.0 ≡ j.0 = omega (arith, le, ge) in i.1 ∙ ap (λ k. block_start (block_of a) + k * x.size) one ∙ sym bj)
    (cases_lt j.0 i.0))
    (cases_lt i.0 j.0)

-- those of two blocks
other_block : (blocks : ℕ) (m : Map Extent) → AreLaid blocks m → (a b word : ℕ) (x y : Extent) → get m a ≡ Some x → get m b ≡ Some y → block_of a < block_of b → word < a + x.size → b ≤ word → ⊥
other_block blocks m h a b word x y ha hb before to_a from_b =
    let wa = h.within a x ha in
    let wb = h.within b y hb in
    let low_a = wa.0 in
    let low_b = wb.0 in
    let first : a ≤ block_start (block_of b) = omega (arith, before, low_a) in
    let last : block_start (block_of b) < a + x.size = omega (arith, low_b, to_a, from_b) in
    let same = h.clear a b x y ha hb (to_covers a (block_start (block_of b)) x first last) in
    omega (arith, same, before)

pub laid_apart : (blocks : ℕ) (m : Map Extent) → AreLaid blocks m → AreApart m
laid_apart blocks m h a b word x y ha hb ca cb =
    let in_a = from_covers a word x ca in
    let in_b = from_covers b word y cb in
    ⊎_elim (λ lt. absurd (other_block blocks m h a b word x y ha hb lt in_a.1 in_b.0))
    (λ le. ⊎_elim (λ lt. absurd (other_block blocks m h b a word y x hb ha lt in_b.1 in_a.0))
    (λ ge. let same : block_of a ≡ block_of b = omega (arith, le, ge) in same_block blocks m h a b word x y ha hb same in_a.0 in_a.1 in_b.0 in_b.1)
    (cases_lt (block_of b) (block_of a)))
    (cases_lt (block_of a) (block_of b))

-- ---- fewer extents

pub fewer_laid : (blocks : ℕ) (m fewer : Map Extent) → ((a : ℕ) (x : Extent) → get fewer a ≡ Some x → get m a ≡ Some x) → AreLaid blocks m → AreLaid blocks fewer
fewer_laid blocks m fewer part h = record {
  within = λ a x e. h.within a x (part a x e);
  cell = λ a x e. h.cell a x (part a x e);
  alike = λ a b x y e f. h.alike a b x y (part a x e) (part b y f);
  clear = λ a b x y e f. h.clear a b x y (part a x e) (part b y f);
}

-- ---- one more

-- what makes room for a new extent
pub record Fits (blocks : ℕ) (m : Map Extent) (p size : ℕ) : Type 0 where
  pub low : HEAP_START ≤ p
  pub high : p + size ≤ heap_end blocks
  pub cell : IsCell p size
  pub alike : (a : ℕ) (x : Extent) → get m a ≡ Some x → block_of a ≡ block_of p → x.size ≡ size
  pub clear_before : (a : ℕ) (x : Extent) → get m a ≡ Some x → covers (a, x) (block_start (block_of p)) ≡ true → block_of a ≡ block_of p
  pub clear_after : (b : ℕ) (y : Extent) → get m b ≡ Some y → p ≤ block_start (block_of b) → block_start (block_of b) < p + size → block_of p ≡ block_of b

module _ (blocks : ℕ) (m : Map Extent) (p : ℕ) (new : Extent) (some : 1 ≤ new.size) (fits : Fits blocks m p new.size) (h : AreLaid blocks m) where
  abbrev more : Map Extent
  more = insert m p new

  which : (a : ℕ) (x : Extent) → get more a ≡ Some x → ((a ≡ p) × (x ≡ new)) ⊎ (get m a ≡ Some x)
  which a x e =
      ⊎_elim
      (λ same. inl (same, sym (same_Some new x (sym (get-insert_same m p new) ∙ ap (get more) (sym same) ∙ e))))
      (λ other. inr (sym (get-insert_other m p new a other) ∙ e))
      (cases_eq a p)

  new_within : (a : ℕ) (x : Extent) → a ≡ p → x ≡ new → (HEAP_START ≤ a) × (1 ≤ x.size) × (a + x.size ≤ heap_end blocks)
  new_within a x is_p is_new =
      subst (λ (z : Extent). (HEAP_START ≤ a) × (1 ≤ z.size) × (a + z.size ≤ heap_end blocks)) (sym is_new)
      (subst (λ b. (HEAP_START ≤ b) × (1 ≤ new.size) × (b + new.size ≤ heap_end blocks)) (sym is_p) (fits.low, some, fits.high))

  pub more_laid : AreLaid blocks more
  more_laid = record {
    within = λ a x e. ⊎_elim (λ n. new_within a x n.0 n.1) (h.within a x) (which a x e);
    cell = λ a x e. ⊎_elim (λ n. subst (λ b. IsCell b x.size) (sym n.0) (subst (λ (z : Extent). IsCell p z.size) (sym n.1) fits.cell)) (h.cell a x) (which a x e);
    alike = λ a b x y e f same.
        ⊎_elim
        (λ n. ⊎_elim
        (λ k. ap (λ (z : Extent). z.size) (n.1 ∙ sym k.1))
        (λ old. ap (λ (z : Extent). z.size) n.1 ∙ sym (fits.alike b y old (sym same ∙ ap block_of n.0)))
        (which b y f))
        (λ old. ⊎_elim
        (λ k. fits.alike a x old (same ∙ ap block_of k.0) ∙ sym (ap (λ (z : Extent). z.size) k.1))
        (λ other. h.alike a b x y old other same)
        (which b y f))
        (which a x e);
    clear = λ a b x y e f on.
        ⊎_elim
        (λ n. ⊎_elim
        (λ k. ap block_of (n.0 ∙ sym k.0))
        (λ old.
        let c = from_covers a (block_start (block_of b)) x on in
        let size = ap (λ (z : Extent). z.size) n.1 in
        let start = n.0 in
        ap block_of n.0 ∙ fits.clear_after b y old (omega (arith, c.0, start)) (omega (arith, c.1, start, size)))
        (which b y f))
        (λ old. ⊎_elim
        (λ k. fits.clear_before a x old (subst (λ z. covers (a, x) (block_start (block_of z)) ≡ true) k.0 on) ∙ ap block_of (sym k.0))
        (λ other. h.clear a b x y old other on)
        (which b y f))
        (which a x e);
  }

-- ---- the place of a new object fits

range_at : (a n k i : ℕ) → slice_get (range_with_len a n) k ≡ Some i → (k < n) × (i ≡ a + k)
range_at a n k i e =
    let lt = slice_get_within (range_with_len a n) k i e in
    let size = length-range_with_len a n in
    let within : k < n = omega (arith, lt, size) in
    (within, sym (get_or_from_slice_get (range_with_len a n) k i 0 e) ∙ get_or-range_with_len a n k 0 within)

all_at : {X : Type 0} (test : X → Bool) (xs : List X) (k : ℕ) (x : X) → list_all test xs ≡ true → slice_get xs k ≡ Some x → test x ≡ true
all_at test [] k x all e = absurd (none-some x e)
all_at test (y ∷ xs) zero x all e = ap test (sym (same_Some y x e)) ∙ (and_parts (test y) (list_all test xs) all).0
all_at test (y ∷ xs) (suc k) x all e = all_at test xs k x (and_parts (test y) (list_all test xs) all).1 e

-- so far into a block is in it
block_of_word : (b t : ℕ) → t < 64 → block_of (block_start b + t) ≡ b
block_of_word b t lt = omega (arith, lt)

-- a cell is in its block
pub own_block : (b i size p : ℕ) → 1 ≤ size → i < 64 / size → block_start b + i * size ≡ p → block_of p ≡ b
own_block b i size p some below is =
    let up = mul-le-mul_right {m = i + 1} {n = 64 / size} size (omega (arith, below)) in
    let all = div-mul-le_self 64 size in
    let spread : (i + 1) * size ≡ i * size + size = omega arith in
    ap block_of (sym is) ∙ block_of_word b (i * size) (omega (arith, up, all, spread, some))

-- a cell of a block that has such objects
cell_fits : (blocks : ℕ) (m : Map Extent) (size p b i : ℕ) (kind : ObjKind) → 1 ≤ size → AreLaid blocks m → b < blocks → has_class m size kind b ≡ true → i < 64 / size → block_start b + i * size ≡ p → Fits blocks m p size
cell_fits blocks m size p b i kind some h inside class below is =
    let t = i * size in
    let up = mul-le-mul_right {m = i + 1} {n = 64 / size} size (omega (arith, below)) in
    let all = div-mul-le_self 64 size in
    let spread : (i + 1) * size ≡ i * size + size = omega arith in
    let ends : t + size ≤ 64 = omega (arith, up, all, spread) in
    let e = any_at (λ (e : ℕ × Extent). (block_of e.0 == b) && (e.1.size == size && same_kind e.1.kind kind)) (entries m) class in
    let first = and_parts (block_of e.1.0 == b) (e.1.1.size == size && same_kind e.1.1.kind kind) e.3 in
    let there = get_at m e.0 e.1 e.2 in
    let its_block : block_of e.1.0 ≡ b = eqb-true (block_of e.1.0) b first.0 in
    let its_size : e.1.1.size ≡ size = eqb-true e.1.1.size size (and_parts (e.1.1.size == size) (same_kind e.1.1.kind kind) first.1).0 in
    let own_block : block_of p ≡ b = own_block b i size p some below is in
    record {
      low = omega (arith, is);
      high = omega (arith, is, ends, inside);
      cell = (i, sym is ∙ ap (λ q. block_start q + i * size) (sym own_block), inr ends);
      alike = λ a x here same. h.alike a e.1.0 x e.1.1 here there (same ∙ own_block ∙ sym its_block) ∙ its_size;
      clear_before = λ a x here on. h.clear a e.1.0 x e.1.1 here there (subst (λ q. covers (a, x) (block_start q) ≡ true) (own_block ∙ sym its_block) on) ∙ its_block ∙ sym own_block;
      clear_after = λ c y here from to. own_block ∙ omega (arith, from, to, is, ends);
    }

-- nothing meets a bare block
pub bare_meets : (m : Map Extent) (q a : ℕ) (x : Extent) → is_bare m q ≡ true → get m a ≡ Some x → meets q (a, x) ≡ true → ⊥
bare_meets m q a x bare here on =
    let at = place_of_key m a x here in
    both_ways _ (not-true _ bare) (any_passes_from_place (meets q) (entries m) at.0 (a, x) at.1 on)

-- each block of a run is bare
pub run_is_bare : (m : Map Extent) (size b : ℕ) → list_all (is_bare m) (range_with_len b (blocks_for size)) ≡ true → (q : ℕ) → b ≤ q → q < b + blocks_for size → is_bare m q ≡ true
run_is_bare m size b all q from to =
    let n = length-range_with_len b (blocks_for size) in
    let place : b + (q - b) ≡ q = omega (arith, from) in
    let lt : q - b < blocks_for size = omega (arith, from, to) in
    all_at (is_bare m) (range_with_len b (blocks_for size)) (q - b) q all
    (slice_get-get_or (range_with_len b (blocks_for size)) (q - b) 0 (omega (arith, lt, n)) ∙ ap Some (get_or-range_with_len b (blocks_for size) (q - b) 0 lt ∙ place))

-- the first of so many blocks without objects
run_fits : (blocks : ℕ) (m : Map Extent) (size p b : ℕ) → 1 ≤ size → has_run m blocks (blocks_for size) b ≡ true → block_start b ≡ p → Fits blocks m p size
run_fits blocks m size p b some run is =
    let k = blocks_for size in
    let both = and_parts (nat_le (b + k) blocks) (list_all (is_bare m) (range_with_len b k)) run in
    let inside = leb-true (b + k) blocks both.0 in
    let room : size ≤ 64 * k = omega (arith, some) in
    let own_block : block_of p ≡ b = ap block_of (sym is) ∙ omega arith in
    record {
      low = omega (arith, is);
      high = omega (arith, is, room, inside);
      cell = (0, sym is ∙ ap block_start (sym own_block) ∙ omega arith, inl refl);
      alike = λ a x here same. absurd (bare_meets m b a x (run_is_bare m size b both.1 b (omega arith) (omega arith)) here (or_left (block_of a == b) (covers (a, x) (block_start b)) (eq-eqb (block_of a) b (same ∙ own_block))));
      clear_before = λ a x here on. absurd (bare_meets m b a x (run_is_bare m size b both.1 b (omega arith) (omega arith)) here (or_right (block_of a == b) (covers (a, x) (block_start b)) (subst (λ q. covers (a, x) (block_start q) ≡ true) own_block on)));
      clear_after = λ c y here from to.
          absurd (bare_meets m (block_of c) c y (run_is_bare m size b both.1 (block_of c) (omega (arith, from, is)) (omega (arith, to, is, room))) here (or_left (block_of c == block_of c) (covers (c, y) (block_start (block_of c))) (eq-eqb (block_of c) (block_of c) refl)));
    }

-- a new object's place is a cell of a block that has such objects, or the first word of a run of bare blocks
pub record IsCellOf (blocks : ℕ) (m : Map Extent) (size p : ℕ) (kind : ObjKind) : Type 0 where
  pub block : ℕ
  pub index : ℕ
  pub inside : block < blocks
  pub class : has_class m size kind block ≡ true
  pub below : index < 64 / size
  pub is : block_start block + index * size ≡ p

pub record BeginsRun (blocks : ℕ) (m : Map Extent) (size p : ℕ) : Type 0 where
  pub block : ℕ
  pub run : has_run m blocks (blocks_for size) block ≡ true
  pub is : block_start block ≡ p

pub place_cases : (blocks : ℕ) (m : Map Extent) (size p : ℕ) (kind : ObjKind) → place_in m blocks size kind ≡ Some p → IsCellOf blocks m size p kind ⊎ BeginsRun blocks m size p
place_cases blocks m size p kind e = cases _ refl e
  where
    by_run : (o : Option ℕ) → find (has_run m blocks (blocks_for size)) (range_with_len 0 blocks) ≡ o → option_map block_start o ≡ Some p → BeginsRun blocks m size p
    by_run None is e = absurd (none-some p e)
    by_run (Some b) is e = record { block = b; run = (find_place (has_run m blocks (blocks_for size)) (range_with_len 0 blocks) b is).2; is = same_Some (block_start b) p e }

    cases : (o : Option ℕ) → find (is_free m) (flat_map (cells size) (filter (has_class m size kind) (range_with_len 0 blocks))) ≡ o → option_or o (option_map block_start (find (has_run m blocks (blocks_for size)) (range_with_len 0 blocks))) ≡ Some p → IsCellOf blocks m size p kind ⊎ BeginsRun blocks m size p
    cases None is e = inr (by_run _ refl e)
    cases (Some c) is e =
        let at = find_place (is_free m) (flat_map (cells size) (filter (has_class m size kind) (range_with_len 0 blocks))) c is in
        let block = flat_at (cells size) (filter (has_class m size kind) (range_with_len 0 blocks)) at.0 c at.1 in
        let b = block.0 in
        let class = filter_at (has_class m size kind) (range_with_len 0 blocks) block.3 b block.4 in
        let inside = range_at 0 blocks class.0 b class.1 in
        let index = map_at (λ i. block_start b + i * size) (range_with_len 0 (64 / size)) block.1 c block.2 in
        let below = range_at 0 (64 / size) block.1 index.0 index.1 in
        inl (record {
          block = b;
          index = index.0;
          inside = omega (arith, inside.0, inside.1);
          class = class.2;
          below = omega (arith, below.0, below.1);
          is = index.2 ∙ same_Some c p e;
        })

place_fits : (blocks : ℕ) (m : Map Extent) (size p : ℕ) (kind : ObjKind) → 1 ≤ size → AreLaid blocks m → place_in m blocks size kind ≡ Some p → Fits blocks m p size
place_fits blocks m size p kind some h e =
    ⊎_elim
    (λ (c : IsCellOf blocks m size p kind). cell_fits blocks m size p c.block c.index kind some h c.inside c.class c.below c.is)
    (λ (r : BeginsRun blocks m size p). run_fits blocks m size p r.block some r.run r.is)
    (place_cases blocks m size p kind e)

-- ---- each call

abbrev pub Laid : Core → Type 0
Laid c = AreLaid c.blocks (extents c.objects)

-- an object that a pass leaves has the extent that it had
pub left_extent : (c : Core) (found kept : ℕ → Bool) (a : ℕ) (x : Extent) → get (extents (left c found kept)) a ≡ Some x → get (extents c.objects) a ≡ Some x
left_extent c found kept a x e =
    let q = extent_back (left c found kept) a x e in
    let b = left_before c found kept a q.0 q.1 in
    let kind = ap (λ (o : Object). o.kind) b.3 in
    let size = ap (λ (o : Object). length o.words) b.3 ∙ passed_size c found kept a b.0 in
    let same : extent_of q.0 ≡ extent_of b.0 = λ i. record { size = size i; kind = kind i } in
    get_extent c.objects a b.0 b.1 ∙ ap Some (sym same ∙ q.2)

pass_laid : (c : Core) (found : ℕ → Bool) (passed : Passed) (new : Core) → Laid c → Passes c found passed new → Laid new
pass_laid c found passed new h p =
    subst Laid (sym p.is) (fewer_laid c.blocks (extents c.objects) (extents (left c found p.kept)) (left_extent c found p.kept) h)

effect_laid : (c : Core) (e : Event) (new : Core) → IsAllowed c e → Laid c → Effect c e new → Laid new
unfolding written
effect_laid c e new allowed h (Made slot size a kind here none place) =
    let v = new_object kind c.next_birth size in
    let n : length {A = ℕ} (replicate size 0) ≡ size = length-replicate {A = ℕ} size 0 in
    let some = some_words size (none allowed).0 in
    let fits = place_fits c.blocks (extents c.objects) size a kind (omega (arith, some, n)) h place in
    subst (AreLaid c.blocks) (sym (extents-insert c.objects a v)) (more_laid c.blocks (extents c.objects) a (extent_of v) some (subst (Fits c.blocks (extents c.objects) a) (sym n) fits) h)
effect_laid c e new allowed h (Wrote place word here) = subst (AreLaid c.blocks) (sym (extents-filled (λ x. x == place) word c.objects)) h
effect_laid c e new allowed h (Ended here p) = pass_laid c p.found p.passed new h p.passes
effect_laid c e new allowed h _ = h

-- ---- reached states

opening_laid : (blocks frames : ℕ) → Laid (opening blocks frames).core
opening_laid blocks frames =
    record { within = λ a x e. absurd (nothing a x e); cell = λ a x e. absurd (nothing a x e); alike = λ a b x y e f same. absurd (nothing a x e); clear = λ a b x y e f on. absurd (nothing a x e) }
  where
    nothing : (a : ℕ) (x : Extent) → get (extents (opening blocks frames).objects) a ≡ Some x → ⊥
    nothing a x e = let o = extent_back (opening blocks frames).objects a x e in none-some o.0 (sym (get-empty nat_cmp a) ∙ o.1)

pub reached_laid : (s : State) → IsReached s → Laid s.core
reached_laid = reached_keeps Laid effect_laid opening_laid
