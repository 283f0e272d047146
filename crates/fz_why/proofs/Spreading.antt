-- Steps from one object on a trail after the other.
use Rattle.std.proofs.Common.{◌≡◌, ℕ, ◌+◌, ◌<◌, ◌≤◌, Bool, List, [], ◌∷◌, get_or, length, Some, None, slice_get, refl, sym, ap, ◌∙◌, subst, inl, inr, ⊎_elim, arith, IsTrue}
use Rattle.std.proofs.lemmas.Bool.{cases_lt}
use Rattle.std.proofs.lemmas.Option.{none-some, same_Some, slice_get_within, slice_get-get_or}
use Rattle.fz_why.specs.declared.origin.Origin.{Origin}
use Rattle.fz_why.specs.declared.origin.Origin.TheVariants.{After}
use Rattle.fz_why.specs.Trail.{Rows, Trail, has, Adds, AreValuesOn, Gains, IsAfter, IsAfterRow, IsAt, IsHeldBefore, Spreads, SpreadsAll}
use Rattle.fz_why.proofs.Trails.{at_some}
use Rattle.fz_why.proofs.Adding.{still}

-- past the end there is nothing
pub past_end : {X : Type 0} (xs : List X) (k : ℕ) → slice_get xs k ≡ None → length xs ≤ k
past_end xs k none = ⊎_elim (λ low. absurd (within low)) (λ h. h) (cases_lt k (length xs))
  where
    within : k < length xs → ⊥
    within low = inside xs k low none
      where
        inside : {X : Type 0} (xs : List X) (k : ℕ) → k < length xs → slice_get xs k ≡ None → ⊥
        inside [] k low none = absurd (omega (arith, low))
        inside (x ∷ xs) k low none = absurd (none-some (get_or (x ∷ xs) k x) (sym none ∙ slice_get-get_or (x ∷ xs) k x low))

-- two objects at one index are the same
pub same_at : (es : Trail) (k a b : ℕ) (o p : Origin) → slice_get es k ≡ Some (a, o) → slice_get es k ≡ Some (b, p) → a ≡ b
same_at es k a b o p h q = ap (λ (x : ℕ × Origin). x.0) (same_Some (a, o) (b, p) (sym h ∙ q))

module _ (Step : ℕ → ℕ → Type 0) where
  pub after_kept : (old new : Trail) → ((k : ℕ) (x : ℕ × Origin) → slice_get old k ≡ Some x → slice_get new k ≡ Some x) → (k : ℕ) (x : ℕ × Origin) → IsAfter Step old k x → IsAfter Step new k x
  after_kept old new kept k x h = record { before = h.before; after = h.after; earlier = h.earlier; from = h.from; at = (h.at.0, kept h.before (h.from, h.at.0) h.at.1); step = h.step }

  -- a value that was added stays one, on a longer trail
  pub row_kept : (Row : Rows) (behind : ℕ → Bool) (old new : Trail) → ((k : ℕ) (x : ℕ × Origin) → slice_get old k ≡ Some x → slice_get new k ≡ Some x) → (k : ℕ) (x : ℕ × Origin) → IsAfterRow Row behind old k x → IsAfterRow Row behind new k x
  row_kept Row behind old new kept k x h = record {
    before = h.before;
    after = h.after;
    earlier = h.earlier;
    key = h.key;
    holder = h.holder;
    row = h.row;
    held = (stays h.key h.held.0, λ q is. stays q (h.held.1 q is));
    from = ⊎_elim (λ at. inl (at.0, kept h.before (h.key, at.0) at.1)) (λ q. inr (q.0, q.1, (q.2.0, kept h.before (q.0, q.2.0) q.2.1))) h.from;
  }
    where
      stays : (a : ℕ) → IsHeldBefore behind old k a → IsHeldBefore behind new k a
      stays a = ⊎_elim inl (λ j. inr (j.0, j.1, (j.2.0, kept j.0 (a, j.2.0) j.2.1)))

  module _ (Row : Rows) (behind : ℕ → Bool) where
    pub spreads_begin : (es : Trail) → Spreads Step Row behind 0 es es
    spreads_begin es = record { kept = λ k x h. h; each = λ k x. inl; whole = λ k a b low. absurd (omega (arith, low)) }

    pub spreads_gain : (old c new : Trail) (scanned : ℕ) → scanned ≤ length c → Spreads Step Row behind scanned old c → Gains Row behind c new → Spreads Step Row behind scanned old new
    spreads_gain old c new scanned within s g = record {
      kept = λ k x at. g.kept k x (s.kept k x at);
      each = λ k x at.
          ⊎_elim (λ was. ⊎_elim inl (⊎_elim (λ p. inr (inl (after_kept c new g.kept k x p))) (λ p. inr (inr (row_kept Row behind c new g.kept k x p)))) (s.each k x was)) (λ q. inr (inr q)) (g.each k x at);
      whole = λ k a b low at step.
          let was = slice_get-get_or c k (a, at.0) (omega (arith, low, within)) in
          let same : Some (a, at.0) ≡ slice_get c k = sym at.1 ∙ g.kept k _ was ∙ sym was in
          still c new g.kept b (s.whole k a b low (at.0, sym same) step);
    }

    pub spreads_more : (old c new : Trail) (place object : ℕ) (o : Origin) → Spreads Step Row behind place old c → slice_get c place ≡ Some (object, o) → Adds (λ origin b. (origin ≡ After place) × Step object b) c new → Spreads Step Row behind (place + 1) old new
    spreads_more old c new place object o s here g = record {
      kept = λ k x at. g.kept k x (s.kept k x at);
      each = λ k x at.
          ⊎_elim (λ was. ⊎_elim inl (⊎_elim (λ p. inr (inl (after_kept c new g.kept k x p))) (λ p. inr (inr (row_kept Row behind c new g.kept k x p)))) (s.each k x was))
          (λ q. inr (inl (now k x q.0 q.1.0 q.1.1))) (g.each k x at);
      whole = λ k a b low at step. ⊎_elim (λ before. earlier k a b before at step) (λ past. this k a b (omega arith) at step) (cases_lt k place);
    }
      where
        low_place : place < length c
        low_place = slice_get_within c place (object, o) here

        now : (k : ℕ) (x : ℕ × Origin) → slice_get c k ≡ None → x.1 ≡ After place → Step object x.0 → IsAfter Step new k x
        now k x none is step = let far = past_end c k none in record { before = place; after = is; earlier = omega (arith, low_place, far); from = object; at = (o, g.kept place (object, o) here); step = step }

        earlier : (k a b : ℕ) → k < place → IsAt new k a → Step a b → IsTrue (has new b)
        earlier k a b low at step =
            let was = slice_get-get_or c k (object, o) (omega (arith, low_place)) in
            let same : Some (a, at.0) ≡ slice_get c k = sym at.1 ∙ g.kept k _ was ∙ sym was in
            still c new g.kept b (s.whole k a b low (at.0, sym same) step)

        this : (k a b : ℕ) → k ≡ place → IsAt new k a → Step a b → IsTrue (has new b)
        this k a b is at step =
            let same : a ≡ object = same_at new place a object at.0 o (ap (slice_get new) (sym is) ∙ at.1) (g.kept place (object, o) here) in
            g.whole (After place) b (refl, subst (λ y. Step y b) same step)

    pub spreads_done : (old new : Trail) (place : ℕ) → Spreads Step Row behind place old new → slice_get new place ≡ None → AreValuesOn Row behind new new → SpreadsAll Step Row behind old new
    spreads_done old new place s none values = record {
      kept = s.kept;
      each = s.each;
      whole = λ a b on step. let at = at_some new a on in s.whole at.0 a b (omega (arith, slice_get_within new at.0 (a, at.1.0) at.1.1, past_end new place none)) at.1 step;
      values = values;
    }
