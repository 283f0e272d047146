-- Objects whose words lie in one list: their extents, and the effect of a write and of a new object.
use Rattle.std.proofs.Common.{take, drop, add-one, [], None, Bool, subst, if◌then◌else◌, ◌≡◌, ◌≢◌, ℕ, zero, suc, ◌+◌, ◌-◌, ◌*◌, ◌<◌, ◌≤◌, cond, ◌==◌, List, ◌∷◌, length, Some, option_map, option_and_then, unwrap_or, refl, sym, ap, ◌∙◌, ⊎_elim, arith, slice_index, set, replicate, get_or-set_same, get_or-set_other}
use Rattle.std.proofs.lemmas.Bool.{cases_eq, cases_lt, eq-eqb, ne_eqb}
use Rattle.std.proofs.Math.Seq.{drop-cons}
use Rattle.std.specs.FinMap.{get, insert, retain_keys}
use Rattle.std.specs.Option.{option_map_or}
use Rattle.fz_model.specs.declared.kinds.ObjKind.TheVariants.{Scanned}
use Rattle.fz_model.specs.declared.limits.TheConstants.{HEAP_START}
use Rattle.fz_model.specs.State.{Map, Object}
use Rattle.fz_model.specs.declared.extent.Extent.{Extent}
use Rattle.fz_model.specs.Extents.{extents, points_in, AreApart, AreWithin}
use Rattle.fz_model.specs.Memory.{fill, written, word_at, new_object}
use Rattle.fz_model.proofs.Maps.{get-insert_same, get-insert_other, get-mapped, mapped_here, extents-made}
use Rattle.fz_model.proofs.Objects.{from_covers, to_covers, points_at}
use Rattle.fz_model.specs.Allocation.{block_of, blocks_for, same_kind}
use Rattle.fz_model.specs.Condemned.{swept}
use Rattle.fz_blocks.specs.Claimed.{Claimed}
use Rattle.fz_heap.specs.Layout.{IsHeap}
use Rattle.fz_heap.specs.Contents.{pointers_of}
use Rattle.fz_heap.specs.Flat.{words_from, object_at, objects_of, IsPlace, IsZeroedAt}
use Rattle.fz_heap.proofs.Extents.{points_itself, apart_retained, within_retained}
use Rattle.fz_heap.proofs.Mapped.{mapped-insert, mapped-mapped}

-- ---- words

pub length-words_from : (words : List ℕ) (first n : ℕ) → length (words_from words first n) ≡ n
length-words_from words first zero = refl
length-words_from words first (suc n) = ap suc (length-words_from words (first + 1) n)

-- a slice of so many words from a place on
pub words_taken : (words : List ℕ) (first n : ℕ) → first + n ≤ length words → take (first + n - first) (drop first words) ≡ words_from words first n
words_taken words first n within = let back : first + n - first ≡ n = omega arith in rw back (taken first n within)
  where
    taken : (first n : ℕ) → first + n ≤ length words → take n (drop first words) ≡ words_from words first n
    taken first zero within = refl
    taken first (suc n) within =
        ap (take (suc n)) (drop-cons words first 0 (omega (arith, within)))
        ∙ ap (λ k. slice_index words first ∷ take n (drop k words)) (sym (add-one first))
        ∙ ap (λ ws. slice_index words first ∷ ws) (taken (first + 1) n (omega (arith, within)))

word_of : (words : List ℕ) (first n i : ℕ) → i < n → slice_index (words_from words first n) i ≡ slice_index words (first + i)
word_of words first zero i h = absurd (omega (arith, h))
word_of words first (suc n) zero h = let e : first ≡ first + 0 = omega arith in ap (slice_index words) e
word_of words first (suc n) (suc i) h =
    let e : (first + 1) + i ≡ first + suc i = omega arith in word_of words (first + 1) n i (omega (arith, h)) ∙ ap (slice_index words) e

words_same : (xs ys : List ℕ) (first n : ℕ) → ((i : ℕ) → first ≤ i → i < first + n → slice_index xs i ≡ slice_index ys i) → words_from xs first n ≡ words_from ys first n
words_same xs ys first zero same = refl
words_same xs ys first (suc n) same =
    ap (λ w. w ∷ words_from xs (first + 1) n) (same first (omega arith) (omega arith))
    ∙ ap (λ ws. slice_index ys first ∷ ws) (words_same xs ys (first + 1) n (λ i low high. same i (omega (arith, low)) (omega (arith, high))))

words_zero : (xs : List ℕ) (first n : ℕ) → ((i : ℕ) → first ≤ i → i < first + n → slice_index xs i ≡ 0) → words_from xs first n ≡ replicate n 0
words_zero xs first zero none = refl
words_zero xs first (suc n) none =
    ap (λ w. w ∷ words_from xs (first + 1) n) (none first (omega arith) (omega arith))
    ∙ ap (λ ws. 0 ∷ ws) (words_zero xs (first + 1) n (λ i low high. none i (omega (arith, low)) (omega (arith, high))))

fill_words : (words : List ℕ) (value t place a first n : ℕ) → t ≡ 65536 + place → a ≡ 65536 + first → place < length words → fill (λ x. x == t) value a (words_from words first n) ≡ words_from (set words place value) first n
fill_words words value t place a first zero at from lt = refl
fill_words words value t place a first (suc n) at from lt =
    ap (λ w. w ∷ fill (λ x. x == t) value (a + 1) (words_from words (first + 1) n)) head
    ∙ ap (λ ws. slice_index (set words place value) first ∷ ws) (fill_words words value t place (a + 1) (first + 1) n at (omega (arith, from)) lt)
  where
    head : cond (a == t) value (slice_index words first) ≡ slice_index (set words place value) first
    head =
        ⊎_elim
        (λ (is : first ≡ place). ap (λ b. cond b value (slice_index words first)) (eq-eqb a t (omega (arith, at, from, is))) ∙ sym (get_or-set_same words place value 0 lt) ∙ ap (slice_index (set words place value)) (sym is))
        (λ (ne : first ≢ place). ap (λ b. cond b value (slice_index words first)) (ne_eqb a t (λ e. ne (omega (arith, at, from, e)))) ∙ sym (get_or-set_other words place first value 0 ne))
        (cases_eq first place)

-- ---- objects

pub extents_flat : (m : Map Extent) (words births : List ℕ) → extents (objects_of m words births) ≡ m
extents_flat m words births = extents-made (object_at words births) (λ a x i. record { size = length-words_from words (a - 65536) x.size i; kind = x.kind }) m

-- the pointers of the object at a start, by its extent; none where no object starts
pub pointers_here : (m : Map Extent) (words births : List ℕ) (start : ℕ) (x : Extent) → Some x ≡ get m start → pointers_of (objects_of m words births) start ≡ (if same_kind x.kind Scanned then words_from words (start - HEAP_START) x.size else [])
pointers_here m words births start x here =
    ap (λ o. option_map_or (λ (o : Object). if same_kind o.kind Scanned then o.words else []) o []) (mapped_here (object_at words births) m start x (sym here))

pub pointers_nowhere : (m : Map Extent) (words births : List ℕ) (start : ℕ) → None ≡ get m start → pointers_of (objects_of m words births) start ≡ []
pointers_nowhere m words births start none =
    ap (λ o. option_map_or (λ (o : Object). if same_kind o.kind Scanned then o.words else []) o []) (get-mapped (object_at words births) m start ∙ ap (option_map (object_at words births start)) (sym none))

module _ (blocks : ℕ) (m : Map Extent) (apart : AreApart m) (within : AreWithin blocks m) where
  pub word_read : (words births : List ℕ) (word offset place : ℕ) → IsPlace m word offset place → word_at (objects_of m words births) (word + offset) ≡ slice_index words place
  word_read words births word offset place is =
      ap (λ e. unwrap_or (option_and_then (λ start. option_map (λ (o : Object). slice_index o.words (word + offset - start)) (get (objects_of m words births) start)) (points_in e (word + offset))) 0) (extents_flat m words births)
      ∙ ap (λ p. unwrap_or (option_and_then (λ start. option_map (λ (o : Object). slice_index o.words (word + offset - start)) (get (objects_of m words births) start)) p) 0) (points_at m apart is.start (word + offset) is.extent is.here is.inside)
      ∙ ap (λ g. unwrap_or (option_map (λ (o : Object). slice_index o.words (word + offset - is.start)) g) 0) (mapped_here (object_at words births) m is.start is.extent is.here)
      ∙ word_of words (is.start - 65536) is.extent.size (word + offset - is.start) (omega (arith, inside))
      ∙ ap (slice_index words) there
    where
      inside : (is.start ≤ word + offset) × (word + offset < is.start + is.extent.size)
      inside = from_covers is.start (word + offset) is.extent is.inside

      there : (is.start - 65536) + (word + offset - is.start) ≡ place
      there = let at = is.at in let above = within is.start is.extent is.here in omega (arith, inside, at, above)

  pub word_written : (words births : List ℕ) (address place value : ℕ) → address ≡ 65536 + place → place < length words → written address value (objects_of m words births) ≡ objects_of m (set words place value) births
  unfolding written
  word_written words births address place value at lt =
      mapped-mapped (λ start (o : Object). record o { words = fill (λ a. a == address) value start o.words }) (object_at words births) (object_at (set words place value) births) m
      (λ q x here. let from = (within q x here).0 in ap (λ ws. record { kind = x.kind; birth = slice_index births (q - 65536); words = ws }) (fill_words words value address place q (q - 65536) x.size at (omega (arith, from)) lt))

-- ---- where objects are gone

pub retained_heap : (old new : Claimed) (p : ℕ → Bool) (words births : List ℕ) → new.blocks ≡ old.blocks → new.extents ≡ retain_keys old.extents p → IsHeap old words births → IsHeap new words births
retained_heap old new p words births same left h = record {
  few = omega (arith, same, h.few);
  apart = subst AreApart (sym left) (apart_retained old.extents p h.apart);
  within = subst (λ n. AreWithin n new.extents) (sym same) (subst (AreWithin old.blocks) (sym left) (within_retained old.blocks old.extents p h.within));
  words_len = omega (arith, same, h.words_len);
  births_len = omega (arith, same, h.births_len);
}

-- ---- a new object, whose extent is apart from all others

module _ (old new : Claimed) (start : ℕ) (x : Extent) (is : new ≡ record old { extents = insert old.extents start x; condemned = swept old.condemned (block_of start) (blocks_for x.size) }) (apart : AreApart new.extents) (within : AreWithin new.blocks new.extents) where
  here_new : get new.extents start ≡ Some x
  here_new = ap (λ (m : Claimed). get m.extents start) is ∙ get-insert_same old.extents start x

  here_old : (q : ℕ) (y : Extent) → q ≢ start → get old.extents q ≡ Some y → get new.extents q ≡ Some y
  here_old q y ne here = ap (λ (m : Claimed). get m.extents q) is ∙ get-insert_other old.extents start x q ne ∙ here

  same_blocks : new.blocks ≡ old.blocks
  same_blocks = ap (λ (m : Claimed). m.blocks) is

  pub new_within : (65536 ≤ start) × (1 ≤ x.size) × (start + x.size ≤ 65536 + 64 * old.blocks)
  new_within = let at = within start x here_new in (at.0, at.1, omega (arith, at, same_blocks))

  pub new_start : points_in new.extents start ≡ Some start
  new_start = points_itself new.blocks new.extents apart within start x here_new

  pub still_heap : (ws bs words births : List ℕ) → IsHeap old ws bs → length words ≡ length ws → length births ≡ length bs → IsHeap new words births
  still_heap ws bs words births h same same_births = record {
    few = omega (arith, same_blocks, h.few);
    apart = apart;
    within = within;
    words_len = omega (arith, same, same_blocks, h.words_len);
    births_len = omega (arith, same_births, same_blocks, h.births_len);
  }

  pub new_object_made : (words zeroed births : List ℕ) (birth : ℕ) → IsZeroedAt words zeroed (start - 65536) x.size → start - 65536 < length births → objects_of new.extents zeroed (set births (start - 65536) birth) ≡ insert (objects_of old.extents words births) start (new_object x.kind birth x.size)
  new_object_made words zeroed births birth are lt =
      ap (λ (m : Claimed). objects_of m.extents zeroed (set births (start - 65536) birth)) is
      ∙ mapped-insert (object_at words births) (object_at zeroed (set births (start - 65536) birth)) old.extents start x (new_object x.kind birth x.size) others own
    where
      own : object_at zeroed (set births (start - 65536) birth) start x ≡ new_object x.kind birth x.size
      own = λ i. record { kind = x.kind; birth = get_or-set_same births (start - 65536) birth 0 lt i; words = words_zero zeroed (start - 65536) x.size are.zeroed i }

      others : (q : ℕ) (y : Extent) → q ≢ start → get old.extents q ≡ Some y → object_at zeroed (set births (start - 65536) birth) q y ≡ object_at words births q y
      others q y ne here =
          let other : q - 65536 ≢ start - 65536 = λ e. ne (omega (arith, e, from, new_within.0)) in
          λ i. record { kind = y.kind; birth = get_or-set_other births (start - 65536) (q - 65536) birth 0 other i; words = words_same zeroed words (q - 65536) y.size untouched i }
        where
          from : 65536 ≤ q
          from = (within q y (here_old q y ne here)).0

          untouched : (i : ℕ) → q - 65536 ≤ i → i < (q - 65536) + y.size → slice_index zeroed i ≡ slice_index words i
          untouched i above below =
              ⊎_elim
              (λ before. are.before i before)
              (λ reached.
              ⊎_elim
              (λ under.
              let in_new = to_covers start (65536 + i) x (omega (arith, reached, new_within.0)) (omega (arith, under, new_within.0)) in
              let in_old = to_covers q (65536 + i) y (omega (arith, above, from)) (omega (arith, below, from)) in
              absurd (ne (apart q start (65536 + i) y x (here_old q y ne here) here_new in_old in_new)))
              (λ past. are.after i past)
              (cases_lt i ((start - 65536) + x.size)))
              (cases_lt i (start - 65536))
