-- Counts by members: where each that passes a test has a member of a set of its own, no more pass than the set has members.
use Rattle.std.proofs.Common.{T, ◌≡◌, ◌≢◌, ℕ, zero, suc, ◌+◌, ◌-◌, ◌≤◌, ◌&&◌, Bool, true, false, not, cond, List, [], ◌∷◌, length, Some, nat_cmp, nat_eq, slice_get, filter, count_by, refl, sym, ap, ◌∙◌, subst, arith, IsTrue}
use Rattle.std.proofs.lemmas.Bool.{both_ways, eq-eqb, eqb-true, or_left}
use Rattle.std.proofs.lemmas.Option.{same_Some, none-some}
use Rattle.std.proofs.lemmas.List.Sums.{length-filter}
use Rattle.std.proofs.lemmas.Map.Keys.{any_passes_from_place}
use Rattle.std.proofs.lemmas.Map.Views.{any-filter_same}
use Rattle.std.specs.Cmp.{nat_cmp_total}
use Rattle.std.specs.List.{list_any}
use Rattle.std.specs.Ordering.{eq_by_cmp}
use Rattle.std.specs.FinMap.Entries.{below_all}
use Rattle.std.specs.FinMap.{keys, entries, entries_sorted, is_sorted}
use Rattle.std.specs.FinSet.{contains, empty, from_list, items, len, remove, contains-empty, contains-from_list_nat, contains-items, contains-remove, empty_of_len, len-empty, len-insert, len-remove}
use Rattle.fz_model.specs.State.{Map}
use Rattle.fz_model.proofs.Lists.{count_cons, map_at}
use Rattle.fz_model.proofs.MapEntries.{T-first, T-second, below_at, own_key, other_key}
use Rattle.fz_bits.specs.Flags.{Set}
use Rattle.fz_model.proofs.Sets.{same_members}

-- ---- a map's list of keys has each key once

abbrev pub StandOnce : List ℕ → Type 0
StandOnce xs = (i j a : ℕ) → slice_get xs i ≡ Some a → slice_get xs j ≡ Some a → i ≡ j

module _ {X : Type 0} where
  entries_once : (es : List (ℕ × X)) → T (is_sorted nat_cmp es) → (i j : ℕ) (d e : ℕ × X) → slice_get es i ≡ Some d → slice_get es j ≡ Some e → d.0 ≡ e.0 → i ≡ j
  entries_once [] sorted i j d e h k same = absurd (none-some d h)
  entries_once (f ∷ es) sorted zero zero d e h k same = refl
  entries_once (f ∷ es) sorted zero (suc j) d e h k same =
      let low = below_at f.0 es j e (T-first (below_all nat_cmp f.0 es) (is_sorted nat_cmp es) sorted) k in
      let first = ap (λ (g : ℕ × X). g.0) (same_Some f d h) in
      absurd (omega (arith, low, first, same))
  entries_once (f ∷ es) sorted (suc i) zero d e h k same =
      let low = below_at f.0 es i d (T-first (below_all nat_cmp f.0 es) (is_sorted nat_cmp es) sorted) h in
      let first = ap (λ (g : ℕ × X). g.0) (same_Some f e k) in
      absurd (omega (arith, low, first, same))
  entries_once (f ∷ es) sorted (suc i) (suc j) d e h k same = ap suc (entries_once es (T-second (below_all nat_cmp f.0 es) (is_sorted nat_cmp es) sorted) i j d e h k same)

  pub keys_once : (m : Map X) → StandOnce (keys m)
  keys_once m i j a h k =
      let d = map_at (λ (e : ℕ × X). e.0) (entries m) i a h in
      let e = map_at (λ (e : ℕ × X). e.0) (entries m) j a k in
      entries_once (entries m) (entries_sorted m) i j d.0 e.0 d.1 e.1 (d.2 ∙ sym e.2)

-- ---- sets

some_member : (s : Set) (k : ℕ) → IsTrue (contains s k) → 1 ≤ len s
some_member s k has = at (len s) refl
  where
    at : (n : ℕ) → len s ≡ n → 1 ≤ len s
    at zero e = absurd (both_ways (contains s k) (ap (λ (t : Set). contains t k) (empty_of_len s e) ∙ contains-empty nat_cmp k) has)
    at (suc n) e = omega (arith, e)

pub member_of : (s : Set) → 1 ≤ len s → (k : ℕ) × IsTrue (contains s k)
member_of s some = at (items s) refl
  where
    at : (ks : List ℕ) → items s ≡ ks → (k : ℕ) × IsTrue (contains s k)
    at [] none =
        let is : s ≡ empty = same_members s empty (λ q. contains-items s q ∙ ap (list_any (eq_by_cmp nat_cmp q)) none ∙ sym (contains-empty nat_cmp q)) in
        let zero_ : len s ≡ 0 = ap len is ∙ len-empty nat_cmp in
        absurd (omega (arith, some, zero_))
    at (k ∷ ks) are = (k, contains-items s k ∙ ap (list_any (eq_by_cmp nat_cmp k)) are ∙ or_left (eq_by_cmp nat_cmp k k) _ (own_key k))

pub still_in : (s : Set) (k q : ℕ) → q ≢ k → IsTrue (contains s q) → IsTrue (contains (remove s k) q)
still_in s k q ne has = contains-remove nat_cmp_total s k q ∙ ap (λ b. not b && contains s q) (other_key q k ne) ∙ has

pub one_fewer : (s : Set) (k : ℕ) → IsTrue (contains s k) → len (remove s k) + 1 ≡ len s
one_fewer s k has =
    let gone = len-remove nat_cmp_total s k ∙ ap (λ b. cond b (len s - 1) (len s)) has in
    let some = some_member s k has in
    omega (arith, gone, some)

-- a list's set has no more members than the list has places
pub len_listed : (ws : List ℕ) → len (from_list {R = nat_cmp} ws) ≤ length ws
len_listed [] = let none = len-empty nat_cmp in omega (arith, none)
len_listed (w ∷ ws) = at (contains (from_list {R = nat_cmp} ws) w) (len-insert nat_cmp_total (from_list ws) w) (len_listed ws)
  where
    at : (b : Bool) → len (from_list {R = nat_cmp} (w ∷ ws)) ≡ cond b (len (from_list {R = nat_cmp} ws)) (len (from_list {R = nat_cmp} ws) + 1) → len (from_list {R = nat_cmp} ws) ≤ length ws → len (from_list {R = nat_cmp} (w ∷ ws)) ≤ suc (length ws)
    at true e few = omega (arith, e, few)
    at false e few = omega (arith, e, few)

-- ---- counts

module _ (test : ℕ → Bool) (Has : ℕ → ℕ → Type 0) (one : (a b w : ℕ) → Has a w → Has b w → a ≡ b) where
  -- each that passes has a member
  abbrev pub HaveMembers : Set → List ℕ → Type 0
  HaveMembers set xs = (i a : ℕ) → slice_get xs i ≡ Some a → IsTrue (test a) → (w : ℕ) × IsTrue (contains set w) × Has a w

  pub count_members : (set : Set) (xs : List ℕ) → StandOnce xs → HaveMembers set xs → count_by test xs ≤ len set
  count_members set [] once have = omega arith
  count_members set (x ∷ xs) once have = at (λ fewer. count_members fewer xs later) (test x) refl
    where
      later : StandOnce xs
      later i j a h k = let e = once (suc i) (suc j) a h k in omega (arith, e)

      at : ((fewer : Set) → HaveMembers fewer xs → count_by test xs ≤ len fewer) → (b : Bool) → test x ≡ b → count_by test (x ∷ xs) ≤ len set
      at rest false off =
          let all = count_cons test x xs ∙ ap (λ b. cond b 1 0 + count_by test xs) off in
          let few = rest set (λ i a here passes. have (suc i) a here passes) in
          omega (arith, all, few)
      at rest true on =
          let own = have 0 x refl on in
          let all = count_cons test x xs ∙ ap (λ b. cond b 1 0 + count_by test xs) on in
          let few = rest (remove set own.0) (λ i a here passes.
          let other = have (suc i) a here passes in
          let apart : other.0 ≢ own.0 = λ same. let e = once 0 (suc i) a (ap Some (one x a own.0 own.2 (subst (Has a) same other.2))) here in absurd (omega (arith, e)) in
          (other.0, still_in set own.0 other.0 apart other.1, other.2)) in
          let fewer = one_fewer set own.0 own.1 in
          omega (arith, all, few, fewer)

-- if all that pass one test are in a list and pass another, no more do
pub count_among : (p q : ℕ → Bool) (xs ys : List ℕ) → StandOnce xs → ((i a : ℕ) → slice_get xs i ≡ Some a → IsTrue (p a) → ((j : ℕ) × (slice_get ys j ≡ Some a)) × IsTrue (q a)) → count_by p xs ≤ count_by q ys
count_among p q xs ys once each =
    let few = count_members p (λ a w. a ≡ w) (λ a b w e f. e ∙ sym f) (from_list (filter q ys)) xs once (λ i a here passes. (a, listed i a here passes, refl)) in
    let listed_ = len_listed (filter q ys) in
    let kept = length-filter q ys in
    omega (arith, few, listed_, kept)
  where
    listed : (i a : ℕ) → slice_get xs i ≡ Some a → IsTrue (p a) → IsTrue (contains (from_list {R = nat_cmp} (filter q ys)) a)
    listed i a here passes =
        let there = each i a here passes in
        contains-from_list_nat (filter q ys) a
        ∙ any-filter_same (λ y. nat_eq y a) q true (λ k same. ap q (eqb-true k a same) ∙ there.1) ys
        ∙ any_passes_from_place (λ y. nat_eq y a) ys there.0.0 a there.0.1 (eq-eqb a a refl)
