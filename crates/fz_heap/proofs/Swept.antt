-- A sweep of all blocks, one after the other: what is left in between, and that nothing is left in the end.
use Rattle.std.proofs.Common.{◌≡◌, ℕ, ◌+◌, ◌<◌, ◌≤◌, Bool, true, false, not, ◌&&◌, nat_le, nat_lt, nat_cmp, refl, sym, ap, ◌∙◌, ⊎_elim, arith}
use Rattle.std.proofs.lemmas.Bool.{cases_lt, and_left, and_right, le-leb, lt-ltb, le-ltb}
use Rattle.std.specs.Cmp.{nat_cmp_total, ranked}
use Rattle.std.specs.declared.cmp.Ordering.TheVariants.{Equal}
use Rattle.std.specs.FinSet.{contains, empty, contains-empty, contains-retain, same_set, nat_cmp-IsAntisymmetric}
use Rattle.fz_model.specs.Allocation.{block_of}
use Rattle.fz_model.specs.Extents.{IsInHeap}
use Rattle.fz_model.specs.Condemned.{Addresses, swept}

abbrev is_swept : ℕ → ℕ → ℕ → Bool
is_swept b count a = nat_le b (block_of a) && nat_lt (block_of a) (b + count)

contains-swept : (s : Addresses) (b count a : ℕ) → contains (swept s b count) a ≡ (contains s a && not (is_swept b count a))
contains-swept s b count a = contains-retain s (λ a. not (is_swept b count a)) a (λ x e. ap (λ a. not (is_swept b count a)) (sym (ranked a x Equal (sym e))))

inside : (b count a : ℕ) → b ≤ block_of a → block_of a < b + count → is_swept b count a ≡ true
inside b count a low high = ap (λ t. t && nat_lt (block_of a) (b + count)) (le-leb b (block_of a) low) ∙ lt-ltb (block_of a) (b + count) high

past : (b count a : ℕ) → b + count ≤ block_of a → is_swept b count a ≡ false
past b count a high = and_right (nat_le b (block_of a)) (nat_lt (block_of a) (b + count)) (le-ltb (block_of a) (b + count) high)

gone : (c t : Bool) → t ≡ true → (c && not t) ≡ false
gone c t on = and_right c (not t) (ap not on)

stays : (c t : Bool) → t ≡ false → (c && not t) ≡ c
stays true t off = ap not off
stays false t off = refl

-- the blocks below one are swept, and then this one
pub swept_next : (s : Addresses) (b : ℕ) → swept (swept s 0 b) b 1 ≡ swept s 0 (b + 1)
swept_next s b =
    same_set nat_cmp_total nat_cmp-IsAntisymmetric _ _ (λ a.
    contains-swept (swept s 0 b) b 1 a
    ∙ ap (λ t. t && not (is_swept b 1 a)) (contains-swept s 0 b a)
    ∙ ⊎_elim
    (λ (low : block_of a < b). and_left (contains s a && not (is_swept 0 b a)) _ (gone (contains s a) _ (inside 0 b a (omega arith) (omega (arith, low)))) ∙ sym (gone (contains s a) _ (inside 0 (b + 1) a (omega arith) (omega (arith, low)))))
    (λ (from : b ≤ block_of a).
    ⊎_elim
    (λ (here : block_of a < b + 1). gone (contains s a && not (is_swept 0 b a)) _ (inside b 1 a from here) ∙ sym (gone (contains s a) _ (inside 0 (b + 1) a (omega arith) (omega (arith, here)))))
    (λ (high : b + 1 ≤ block_of a). stays (contains s a && not (is_swept 0 b a)) _ (past b 1 a high) ∙ stays (contains s a) _ (past 0 b a (omega (arith, from))) ∙ sym (stays (contains s a) _ (past 0 (b + 1) a (omega (arith, high)))))
    (cases_lt (block_of a) (b + 1)))
    (cases_lt (block_of a) b)
    ∙ sym (contains-swept s 0 (b + 1) a))

-- before the first block nothing is swept
pub swept_none : (s : Addresses) → swept s 0 0 ≡ s
swept_none s = same_set nat_cmp_total nat_cmp-IsAntisymmetric _ _ (λ a. contains-swept s 0 0 a ∙ stays (contains s a) _ (past 0 0 a (omega arith)))

-- all condemned cells start in the heap, so nothing is left once all its blocks are swept
pub swept_all : (s : Addresses) (blocks : ℕ) → ((a : ℕ) → contains s a ≡ true → IsInHeap blocks a) → swept s 0 blocks ≡ empty
swept_all s blocks within = same_set nat_cmp_total nat_cmp-IsAntisymmetric _ _ (λ a. contains-swept s 0 blocks a ∙ none a (contains s a) refl ∙ sym (contains-empty nat_cmp a))
  where
    none : (a : ℕ) (c : Bool) → contains s a ≡ c → (c && not (is_swept 0 blocks a)) ≡ false
    none a false is = refl
    none a true is = let high = within a is in gone true _ (inside 0 blocks a (omega arith) (omega (arith, high)))
