-- Links that move.
use Rattle.std.proofs.Common.{◌≡◌, ◌≢◌, ℕ, zero, suc, ◌+◌, ◌-◌, cond, is_some, true≢false, false, refl, List, [], ◌∷◌, ◌++◌, slice_get, Option, Some, None, nat_eq, sym, ap, subst, ◌∙◌, ⊎_elim, arith}
use Rattle.std.proofs.lemmas.Bool.{cases_eq}
use Rattle.std.proofs.lemmas.Option.{none-some}
use Rattle.std.specs.Map.{lookup}
use Rattle.std.specs.Cmp.{nat_cmp_total}
use Rattle.std.specs.FinMap.{get, len, insert, remove, from_entries, len-insert, len-remove, same_map, nat_cmp-IsAntisymmetric}
use Rattle.fz_model.specs.State.{Map}
use Rattle.fz_model.specs.Steps.{moved_to}
use Rattle.fz_model.proofs.Tables.{get_made}
use Rattle.fz_model.proofs.Maps.{get-remove_same, get-remove_other, get-insert_same, get-insert_other}

module _ {X : Type 0} where
  -- a key whose value moves to a new key
  pub moved_turns : (m : Map X) (k n : ℕ) (x : X) → n ≢ k → remove (insert m n x) k ≡ insert (remove m k) n x
  moved_turns m k n x ne =
      same_map nat_cmp_total nat_cmp-IsAntisymmetric _ _ (λ q. ⊎_elim (at_old q) (λ (other : q ≢ k). ⊎_elim (at_new q) (elsewhere q other) (cases_eq q n)) (cases_eq q k))
    where
      at_old : (q : ℕ) → q ≡ k → get (remove (insert m n x) k) q ≡ get (insert (remove m k) n x) q
      at_old q is = subst (λ q. get (remove (insert m n x) k) q ≡ get (insert (remove m k) n x) q) (sym is) (get-remove_same (insert m n x) k ∙ sym (get-insert_other (remove m k) n x k (λ e. ne (sym e)) ∙ get-remove_same m k))

      at_new : (q : ℕ) → q ≡ n → get (remove (insert m n x) k) q ≡ get (insert (remove m k) n x) q
      at_new q is = subst (λ q. get (remove (insert m n x) k) q ≡ get (insert (remove m k) n x) q) (sym is) (get-remove_other (insert m n x) k n ne ∙ get-insert_same m n x ∙ sym (get-insert_same (remove m k) n x))

      elsewhere : (q : ℕ) → q ≢ k → q ≢ n → get (remove (insert m n x) k) q ≡ get (insert (remove m k) n x) q
      elsewhere q old new = get-remove_other (insert m n x) k q old ∙ get-insert_other m n x q new ∙ sym (get-insert_other (remove m k) n x q new ∙ get-remove_other m k q old)

  -- leaves as many as there were
  len_moved : (m : Map X) (k n : ℕ) (x y : X) → get m k ≡ Some y → get m n ≡ None → len (remove (insert m n x) k) ≡ len m
  len_moved m k n x y old new =
      let grown = len-insert nat_cmp_total m n x ∙ ap (λ b. cond b (len m) (len m + 1)) (ap is_some new) in
      let apart : n ≢ k = λ same. none-some y (sym new ∙ ap (get m) same ∙ old) in
      let there = ap is_some (get-insert_other m n x k (λ same. apart (sym same)) ∙ old) in
      let less = len-remove nat_cmp_total (insert m n x) k ∙ ap (λ b. cond b (len (insert m n x) - 1) (len (insert m n x))) there in
      omega (arith, grown, less)

  -- a key without a value has none when another goes
  pub absent_after : (m : Map X) (k n : ℕ) → is_some (get m n) ≡ false → get (remove m k) n ≡ None
  absent_after m k n free = ⊎_elim (λ (is : n ≡ k). ap (get (remove m k)) is ∙ get-remove_same m k) (λ (ne : n ≢ k). get-remove_other m k n ne ∙ none (get m n) free) (cases_eq n k)
    where
      none : (o : Option X) → is_some o ≡ false → o ≡ None
      none None e = refl
      none (Some x) e = absurd (true≢false e)

  -- what a look-up among the entries finds
  pub looked_up : (es : List (ℕ × X)) (m : Map X) (k : ℕ) (o : Option X) → from_entries es ≡ m → o ≡ lookup (nat_eq k) es → get m k ≡ o
  looked_up es m k o made is = ap (λ (t : Map X). get t k) (sym made) ∙ get_made es k ∙ sym is

-- a move leaves as many links
pub len_moved_to : (links : Map ℕ) (old new : ℕ) → len (moved_to links old new (get links old)) ≡ len links
len_moved_to links old new = by (get links old) refl
  where
    at_new : (target : ℕ) → get links old ≡ Some target → (o : Option ℕ) → get links new ≡ o → len (cond (is_some o) links (insert (remove links old) new target)) ≡ len links
    at_new target here (Some x) there = refl
    at_new target here None there =
        let apart : new ≢ old = λ same. none-some target (sym there ∙ ap (get links) same ∙ here) in
        ap len (sym (moved_turns links old new target apart)) ∙ len_moved links old new target target here there

    by : (o : Option ℕ) → get links old ≡ o → len (moved_to links old new o) ≡ len links
    by None here = refl
    by (Some target) here = at_new target here (get links new) refl

-- an item keeps its place when another goes last
pub place_kept : {X : Type 0} (xs : List X) (i : ℕ) (x y : X) → slice_get xs i ≡ Some x → slice_get (xs ++ y ∷ []) i ≡ Some x
place_kept [] i x y at = absurd (none-some x at)
place_kept (z ∷ xs) zero x y at = at
place_kept (z ∷ xs) (suc i) x y at = place_kept xs i x y at
