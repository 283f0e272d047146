-- What is known of each view, after a step of one of them.
use Rattle.std.proofs.Common.{◌≡◌, ◌≢◌, ℕ, ◌<◌, ◌≤◌, List, [], ◌∷◌, ◌++◌, set, sym, subst, ⊎_elim, arith}
use Rattle.std.specs.List.{AllByRecursion}
use mathlib.Core.Option.{some}
use lib.ListN.{get_elem?}
use Rattle.crossbeam_deque.proofs.Lists.{at_set, at_snoc}
use Rattle.fz_model.specs.declared.answers.Entry.{Entry}
use Rattle.fz_line.specs.declared.protocol.View.{View}
use Rattle.fz_line.specs.Rule.{IsSeatList}
use Rattle.fz_line.proofs.Totals.{AllByRecursion-more}

-- what is known of a seat's list stays when more entries leave
pub taken_later : (n m : ℕ) → n ≤ m → (xs : List Entry) → IsSeatList n xs → IsSeatList m xs
taken_later n m le xs h = let k = h.2 in (h.0, AllByRecursion-more (λ (e : Entry). e.seq < n) (λ (e : Entry). e.seq < m) (λ e lt. omega arith) xs h.1, omega arith)

pub all_later : (n m : ℕ) → n ≤ m → (ls : List (List Entry)) → AllByRecursion (IsSeatList n) ls → AllByRecursion (IsSeatList m) ls
all_later n m le ls = AllByRecursion-more (IsSeatList n) (IsSeatList m) (taken_later n m le) ls

-- after a change of one view
pub each_set : (F : ℕ → View → Type 0) (views : List View) (port : ℕ) (w : View) → ((j : ℕ) (u : View) → j ≢ port → get_elem? views j ≡ some u → F j u) → F port w → (j : ℕ) (u : View) → get_elem? (set views port w) j ≡ some u → F j u
each_set F views port w others mine j u e =
    ⊎_elim
    (λ (x : (j ≡ port) × (w ≡ u)). subst (λ (y : ℕ × View). F y.0 y.1) (λ i. (sym x.0 i, x.1 i)) mine)
    (λ (x : (j ≢ port) × (get_elem? views j ≡ some u)). others j u x.0 x.1)
    (at_set views port j w u e)

-- one view more
pub each_snoc : (F : ℕ → View → Type 0) (views : List View) (w : View) → ((j : ℕ) (u : View) → get_elem? views j ≡ some u → F j u) → ((j : ℕ) → F j w) → (j : ℕ) (u : View) → get_elem? (views ++ w ∷ []) j ≡ some u → F j u
each_snoc F views w old new j u e =
    ⊎_elim
    (λ (was : get_elem? views j ≡ some u). old j u was)
    (λ (same : w ≡ u). subst (F j) same (new j))
    (at_snoc views w u j e)
