-- Cleanups that are listed and sorted are in order.
use Rattle.std.proofs.Common.{◌&&◌, not, None, nat_le, ◌≡◌, ◌≢◌, ◌≤◌, ◌<◌, ◌+◌, ◌*◌, ◌^◌, ◌++◌, ◌∷◌, ◌∙◌, [], ℕ, zero, suc, Bool, true, false, cond, List, length, filter, map, set, get_or, Some, All, AllPairs, nat_eq, refl, sym, ap, subst, inl, inr, ⊎_elim, arith, IsTrue}
use Rattle.std.proofs.lemmas.Bool.{and_parts, both_ways, cases_lt, eq-eqb, eqb-true}
use Rattle.std.proofs.lemmas.List.{get_or-map, length-map, map-set}
use Rattle.std.proofs.lemmas.List.Elements.{All-filter, All-push, filter_passes}
use Rattle.std.proofs.lemmas.List.Sorted.{All-permutation, Contains-permutation, IsPermutation-map}
use Rattle.std.proofs.lemmas.Map.Keys.{IsDistinct-IsPermutation, apart_from_distinct}
use Rattle.std.proofs.lemmas.Map.Made.{IsDistinct-keys_filter}
use Rattle.std.specs.FinMap.{get}
use Rattle.std.specs.List.{IsDistinct, swap}
use Rattle.std.specs.List.Sorted.{IsNonDecreasingBy, IsPermutation, SwapsInRange, apply_swaps}
use Rattle.std.specs.Map.{keys_of}
use Rattle.fz_model.specs.State.{Map}
use Rattle.fz_model.specs.declared.kinds.LinkKind.{LinkKind}
use Rattle.fz_model.proofs.KeyedEntries.{listed}
use Rattle.fz_model.proofs.Maps.{get-retain, retained_back}
use Rattle.fz_model.proofs.Lists.{contains_at, place_of}
use Rattle.fz_pass.proofs.Picked.{same_test}
use Rattle.fz_finalizers.specs.declared.cleanups.Attached.{Attached}
use Rattle.fz_finalizers.specs.Cleanups.{ComesFirst, is_when}
use Rattle.fz_finalizers.proofs.Promised.{kept_in}
use Rattle.fz_machine.specs.declared.item.Item.{Item}
use Rattle.fz_machine.specs.Items.{AreCleanups, AreEntriesOf, is_listed, of_cleanup}
use Rattle.fz_machine.specs.Regions.{is_marked, is_unmarked}
use Rattle.fz_machine.proofs.Among.{each_all}
use Rattle.fz_machine.proofs.Entered.{stands}

-- what is mapped is moved as what it is mapped from

module _ {X Y : Type 0} (f : X → Y) where
  swapped : (xs : List X) (i j : ℕ) → swap (map f xs) i j ≡ map f (swap xs i j)
  swapped [] i j = refl
  swapped (x ∷ xs) i j =
      let ys = x ∷ xs in
      sym (map-set f (set ys i (get_or ys j x)) j (get_or ys i x) ∙ (λ t. set ((map-set f ys i (get_or ys j x) ∙ ap (set (map f ys) i) (sym (at ys j x))) t) j (sym (at ys i x) t)))
    where
      at : (ys : List X) (k : ℕ) (d : X) → get_or (map f ys) k (f d) ≡ f (get_or ys k d)
      at [] k d = refl
      at (y ∷ ys) zero d = refl
      at (y ∷ ys) (suc k) d = at ys k d

  moved : (xs : List X) (moves : List (ℕ × ℕ)) → apply_swaps (map f xs) moves ≡ map f (apply_swaps xs moves)
  moved xs [] = refl
  moved xs (p ∷ ps) = ap (λ (ys : List Y). swap ys p.0 p.1) (moved xs ps) ∙ swapped (apply_swaps xs ps) p.0 p.1

  pub unmapped : (xs : List X) (ys : List Y) → IsPermutation (map f xs) ys → (zs : List X) × IsPermutation xs zs × (ys ≡ map f zs)
  unmapped xs ys p =
      (apply_swaps xs p.moves, record { moves = p.moves; below = subst (λ n. SwapsInRange n p.moves) (length-map xs f) p.below; is = refl }, p.is ∙ moved xs p.moves)

-- the sort key of a cleanup
abbrev pub numbered : Item → ℕ
numbered i = i.turn * 2 ^ 64 + i.word

-- numbers that fit into a word
abbrev pub AreWords : List Item → Type 0
AreWords = All (λ (i : Item). i.word < 2 ^ 64)

pub words_more : (b : Bool) (xs : List Item) (x : Item) → x.word < 2 ^ 64 → AreWords xs → AreWords (cond b (xs ++ x ∷ []) xs)
words_more true xs x lt all = All-push (λ (i : Item). i.word < 2 ^ 64) xs x all lt
words_more false xs x lt all = all

module _ (from : ℕ) (told : List (ℕ × ℕ)) (when : LinkKind) where
  abbrev test : ℕ × Attached → Bool
  test = is_listed from told when

  abbrev item_of : ℕ × Attached → Item
  item_of e = of_cleanup (is_unmarked told e.1.object) e

  module _ (cleanups : Map Attached) (es : List (ℕ × Attached)) (are : AreEntriesOf cleanups es) (cs : List (ℕ × Attached)) (same : IsPermutation (filter test es) cs) where
    abbrev IsOne : ℕ × Attached → Type 0
    IsOne e = (get cleanups e.0 ≡ Some e.1) × IsTrue (test e)

    ones : All IsOne cs
    ones = All-permutation IsOne (filter test es) cs same
        (λ k d within. (All-filter test (λ e. get cleanups e.0 ≡ Some e.1) es (each_all (λ e. get cleanups e.0 ≡ Some e.1) es (stands cleanups es are)) k d within, filter_passes test es k d within))

    apart : (i j : ℕ) (d : ℕ × Attached) → i < j → j < length cs → (get_or cs i d).0 ≢ (get_or cs j d).0
    apart i j d lt within is =
        let keys = λ (e : ℕ × Attached). e.0 in
        let once : IsDistinct nat_eq (keys_of cs) = IsDistinct-IsPermutation nat_eq flips (keys_of (filter test es)) (keys_of cs) (IsPermutation-map keys (filter test es) cs same) (IsDistinct-keys_filter nat_eq test es are.1) in
        let long = length-map cs keys in
        let differ = apart_from_distinct nat_eq (keys_of cs) i j d.0 once lt (omega (arith, within, long)) in
        both_ways (nat_eq (get_or (keys_of cs) i d.0) (get_or (keys_of cs) j d.0)) differ
        (eq-eqb (get_or (keys_of cs) i d.0) (get_or (keys_of cs) j d.0) (get_or-map keys cs i d d.0 (omega (arith, lt, within)) ∙ is ∙ sym (get_or-map keys cs j d d.0 within)))
      where
        flips : (x y : ℕ) → nat_eq x y ≡ nat_eq y x
        flips x y = same_test (nat_eq x y) (nat_eq y x) (λ on. eq-eqb y x (sym (eqb-true x y on))) (λ on. eq-eqb x y (sym (eqb-true y x on)))

    in_order : AreWords (map item_of cs) → IsNonDecreasingBy numbered (map item_of cs) → AllPairs ComesFirst cs
    in_order words up i j d lt within =
        let x = get_or cs i d in
        let y = get_or cs j d in
        let long = length-map cs item_of in
        let first : i < length cs = omega (arith, lt, within) in
        let at_x = get_or-map item_of cs i d (item_of d) first in
        let at_y = get_or-map item_of cs j d (item_of d) within in
        let below : y.0 < 2 ^ 64 = subst (λ (k : Item). k.word < 2 ^ 64) at_y (words j (item_of d) (omega (arith, within, long))) in
        let under : x.0 < 2 ^ 64 = subst (λ (k : Item). k.word < 2 ^ 64) at_x (words i (item_of d) (omega (arith, first, long))) in
        let le : numbered (item_of x) ≤ numbered (item_of y) = subst (λ (k : Item). numbered k ≤ numbered (item_of y)) at_x (subst (λ (k : Item). numbered (get_or (map item_of cs) i (item_of d)) ≤ numbered k) at_y (up i j (item_of d) (omega (arith, lt)) (omega (arith, within, long)))) in
        by x y under below le (apart i j d lt within)
      where
        by : (x y : ℕ × Attached) → x.0 < 2 ^ 64 → y.0 < 2 ^ 64 → numbered (item_of x) ≤ numbered (item_of y) → x.0 ≢ y.0 → ComesFirst x y
        by x y under below le differ =
            ⊎_elim (λ (lower : x.1.cleanup.rank < y.1.cleanup.rank). inl lower)
            (λ (higher : y.1.cleanup.rank ≤ x.1.cleanup.rank).
            let ranks : x.1.cleanup.rank ≡ y.1.cleanup.rank = omega (arith, higher, under, below, le) in
            let numbers : x.0 < y.0 = omega (arith, ranks, le, differ) in
            inr (ranks, numbers))
            (cases_lt x.1.cleanup.rank y.1.cleanup.rank)

    pub are_cleanups : (items : List Item) → items ≡ map item_of cs → AreWords items → IsNonDecreasingBy numbered items → AreCleanups from told when cleanups items
    are_cleanups items is words up = (
      cs,
      record {
        each = λ k d within.
            let e = get_or cs k d in
            let one = ones k d within in
            let parts = and_parts (nat_le from e.0) (is_when when e.1.cleanup.when && not (is_marked told e.1.object)) one.1 in
            (get-retain cleanups (nat_le from) e.0 ∙ ap (λ t. cond t (get cleanups e.0) None) parts.0 ∙ one.0, parts.1);
        whole = λ number c here on.
            let back = retained_back cleanups (nat_le from) number c here in
            let found = place_of es (number, c) (listed es number c (ap (λ (m : Map Attached). get m number) are.0 ∙ back.1)) in
            let left = kept_in test es found.0 (number, c) found.1 (λ i. back.0 i && on i) in
            Contains-permutation (filter test es) cs (number, c) same (contains_at (filter test es) left.0 (number, c) left.1);
        ordered = in_order (subst AreWords is words) (subst (IsNonDecreasingBy numbered) is up);
      },
      is,
    )
