-- Blocks that no object meets.
use Rattle.std.proofs.Common.{All, ◌≡◌, ◌≢◌, ℕ, zero, suc, ◌+◌, ◌*◌, ◌<◌, ◌≤◌, true, false, cond, not, ◌==◌, List, length, replicate, Option, Some, None, option_and_then, slice_get, nat_lt, nat_eq, nat_cmp, refl, sym, ap, ◌∙◌, subst, ⊎_elim, arith}
use Rattle.std.proofs.lemmas.Bool.{cond-true, cond-false, cases_eq, cases_lt, and_left, and_parts, eq-eqb, ne_eqb, eqb-true, lt-ltb, le-ltb, not_from_true, both_ways}
use Rattle.std.proofs.lemmas.Option.{same_Some, none-some, slice_get_past}
use Rattle.std.proofs.lemmas.List.{length-replicate}
use Rattle.std.specs.Option.{option_map_or}
use Rattle.std.specs.FinMap as maps
use Rattle.std.specs.FinMap.{get-empty}
use Rattle.std.specs.FinSet as sets
use Rattle.std.specs.FinSet.{contains, contains-empty}
use Rattle.fz_model.specs.Allocation.{block_start}
use Rattle.fz_model.specs.declared.limits.TheConstants.{MAX_BLOCKS}
use Rattle.fz_blocks.specs.declared.block.Block.{Block}
use Rattle.fz_blocks.specs.BlockSets.{no_room}
use Rattle.fz_bits.specs.Flags.{Flagged}
use Rattle.fz_model.specs.Bits.{has_bit}
use Rattle.std.specs.Int.Count.{ones}
use Rattle.std.proofs.lemmas.Nat.{ones_le_self}
use Rattle.std.proofs.lemmas.List.Folds.{sum_by-replicate}
use Rattle.fz_blocks.specs.Blocks.{is_bare, starts_at, extent_of, extent_in}
use Rattle.fz_blocks.specs.Layout.{extents_in, condemned_in, waiting_in, has_room, IsMap}
use Rattle.fz_blocks.specs.Listed.{AreListed, AreNew}
use Rattle.fz_blocks.proofs.Objects.{none_bare}
use Rattle.fz_model.proofs.Bits.{no_bits}
use Rattle.fz_blocks.proofs.Condemned.{condemned_are}
use Rattle.fz_blocks.proofs.Extents.{extents_are}

of_replicate : {X : Type 0} (n : ℕ) (x : X) (i : ℕ) → i < n → slice_get (replicate n x) i ≡ Some x
of_replicate zero x i lt = absurd (omega (arith, lt))
of_replicate (suc n) x zero lt = refl
of_replicate (suc n) x (suc i) lt = of_replicate n x i (omega (arith, lt))

module _ (blocks : List Block) (n : ℕ) (block : Block) (are : blocks ≡ replicate n block) (bare : is_bare block ≡ true) (clean : block.condemned ≡ 0) where
  len : length blocks ≡ n
  len = ap length are ∙ length-replicate n block

  only : (b : ℕ) (k : Block) → slice_get blocks b ≡ Some k → k ≡ block
  only b k here =
      ⊎_elim
      (λ (lt : b < n). sym (same_Some block k (sym (ap (λ bs. slice_get bs b) are ∙ of_replicate n block b lt) ∙ here)))
      (λ (past : n ≤ b). absurd (none-some k (sym (slice_get_past blocks b (omega (arith, len, past))) ∙ here)))
      (cases_lt b n)

  pub all_new : AreNew blocks n
  all_new = record { long = len; bare = λ b k here. subst (λ k. is_bare k ≡ true) (sym (only b k here)) bare; clean = λ b k here. ap (λ (k : Block). k.condemned) (only b k here) ∙ clean }

  pub listed_new : n ≤ MAX_BLOCKS → (all : Flagged) (rooms : List Flagged) → n ≤ all.size → ((b : ℕ) → contains all.members b ≡ nat_lt b n) → length rooms ≡ 128 → All (λ s. (s.members ≡ sets.empty) × (n ≤ s.size)) rooms → AreListed blocks all rooms
  listed_new few all rooms wide all_are classes none = record {
    few = subst (λ m. m ≤ MAX_BLOCKS) (sym len) few;
    classes = classes;
    bare_room = omega (arith, len, wide);
    rooms_room = λ class lt. let made = (none class no_room (subst (λ m. class < m) (sym classes) lt)).1 in omega (arith, len, made);
    bare_are = λ b. all_are b ∙ ⊎_elim
        (λ (lt : b < n). lt-ltb b n lt ∙ sym (ap (λ o. option_map_or is_bare o false) (ap (λ bs. slice_get bs b) are ∙ of_replicate n block b lt) ∙ bare))
        (λ (past : n ≤ b). le-ltb b n past ∙ sym (ap (λ o. option_map_or is_bare o false) (slice_get_past blocks b (omega (arith, len, past)))))
        (cases_lt b n);
    rooms_are = λ class b lt. ap (λ s. contains s b) (none class no_room (subst (λ m. class < m) (sym classes) lt)).0 ∙ contains-empty nat_cmp b ∙ sym (lacks_room class b (slice_get blocks b) (only b));
  }
    where
      lacks_room : (class b : ℕ) (o : Option Block) → ((k : Block) → o ≡ Some k → k ≡ block) → option_map_or (has_room class) o false ≡ false
      lacks_room class b None is = refl
      lacks_room class b (Some k) is = and_left (not (k.objects == 0)) _ (not_from_true _ (and_parts (k.objects == 0) (k.back == 0) (subst (λ k. is_bare k ≡ true) (sym (is k refl)) bare)).0)

pub none_waiting : (n : ℕ) (block : Block) → block.condemned ≡ 0 → waiting_in (replicate n block) ≡ 0
none_waiting n block none =
    let few = ones_le_self block.condemned in
    let zero : ones block.condemned ≡ 0 = omega (arith, few, none) in
    sum_by-replicate (λ (block : Block). ones block.condemned) n block ∙ ap (λ m. n * m) zero ∙ no_terms n
  where
    no_terms : (n : ℕ) → n * 0 ≡ 0
    no_terms n = omega arith

-- ---- a map of them

module _ (blocks : List Block) (n : ℕ) (new : AreNew blocks n) where
  pub none_new : extents_in blocks ≡ maps.empty
  none_new = extents_are blocks maps.empty (λ a lt. get-empty nat_cmp a) (λ b p small. get-empty nat_cmp (block_start b + p) ∙ sym (inside p (slice_get blocks b) (new.bare b)))
    where
      inside : (p : ℕ) (o : Option Block) → ((k : Block) → o ≡ Some k → is_bare k ≡ true) → option_and_then (extent_in p) o ≡ None
      inside p None bare = refl
      inside p (Some k) bare = cond-false (starts_at k p) (Some (extent_of k)) None (none_bare k (bare k refl) p)

  pub clean_new : condemned_in blocks ≡ sets.empty
  clean_new = condemned_are blocks sets.empty (λ a lt. contains-empty nat_cmp a) (λ b p small. contains-empty nat_cmp (block_start b + p) ∙ sym (inside p (slice_get blocks b) (new.clean b)))
    where
      inside : (p : ℕ) (o : Option Block) → ((k : Block) → o ≡ Some k → k.condemned ≡ 0) → option_map_or (λ (block : Block). has_bit block.condemned p) o false ≡ false
      inside p None clean = refl
      inside p (Some k) clean = ap (λ n. has_bit n p) (clean k refl) ∙ no_bits p

  own_new : (b : ℕ) (k : Block) → slice_get blocks b ≡ Some k → k.back ≡ 0
  own_new b k here = eqb-true k.back 0 (and_parts (k.objects == 0) (k.back == 0) (new.bare b k here)).1

  pub map_new : 1 ≤ n → n ≤ MAX_BLOCKS → IsMap blocks
  map_new some few = record {
    some = subst (λ m. 1 ≤ m) (sym new.long) some;
    few = subst (λ m. m ≤ MAX_BLOCKS) (sym new.long) few;
    runs = record {
      ahead = λ b k first here on low reach. absurd (both_ways _ (none_bare first (new.bare b first here) 0) on);
      behind = λ b later here low. let own = own_new b later here in absurd (omega (arith, own, low));
    };
  }

-- the numbers below one more
pub one_more : (b n : ℕ) → cond (nat_eq b n) true (nat_lt b n) ≡ nat_lt b (n + 1)
one_more b n =
    ⊎_elim
    (λ (is : b ≡ n). cond-true (nat_eq b n) true (nat_lt b n) (eq-eqb b n is) ∙ sym (lt-ltb b (n + 1) (omega arith)))
    (λ (ne : b ≢ n). cond-false (nat_eq b n) true (nat_lt b n) (ne_eqb b n ne) ∙ ⊎_elim
    (λ (lt : b < n). lt-ltb b n lt ∙ sym (lt-ltb b (n + 1) (omega arith)))
    (λ (ge : n ≤ b). le-ltb b n ge ∙ sym (le-ltb b (n + 1) (omega arith)))
    (cases_lt b n))
    (cases_eq b n)
