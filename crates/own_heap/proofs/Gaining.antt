-- How marks gain records that wait.
use Rattle.std.proofs.Common.{◌≡◌, ◌≢◌, ℕ, ◌+◌, ◌<◌, ◌↔◌, ◌⊎◌, not, Bool, true, false, List, [], ◌∷◌, ◌++◌, length, set, get_or, Option, Some, None, refl, sym, ap, ◌∙◌, subst, inl, inr, ⊎_elim, arith, count_by, length-append, get_or-set_same, get_or-set_other, IsTrue, IsFalse, Contains}
use Rattle.std.proofs.lemmas.Bool.{both_ways, cases_eq}
use Rattle.std.proofs.lemmas.Option.{none-some, same_Some}
use Rattle.std.proofs.lemmas.List.Elements.{Contains-append_left, Contains-push, Contains-push_cases}
use Rattle.std.specs.Option.{option_map_or}
use Rattle.own_heap.specs.declared.marks.Marks.{Marks}
use Rattle.own_heap.specs.Records.{address_of, place_of}
use Rattle.own_heap.specs.Marking.{is_in, is_marked, Gains}
use Rattle.own_heap.proofs.Slots.{address_at}

pub not_on : (b : Bool) → not b ≡ true → b ≡ false
not_on true e = absurd (both_ways false refl e)
not_on false e = refl

pub not_off : (b : Bool) → not b ≡ false → b ≡ true
not_off true e = refl
not_off false e = absurd (both_ways true e refl)

-- a place is marked
pub marked_at : (marked : List Bool) (place object : ℕ) → place_of object ≡ Some place → place < length marked → (a : ℕ) → IsTrue (is_in (set marked place true) a) ↔ (IsTrue (is_in marked a) ⊎ (a ≡ object))
marked_at marked place object is low a = at (place_of a) refl
  where
    Claim : Option ℕ → Type 0
    Claim p = IsTrue (option_map_or (λ i. get_or (set marked place true) i false) p false) ↔ (IsTrue (option_map_or (λ i. get_or marked i false) p false) ⊎ (a ≡ object))

    at : (p : Option ℕ) → place_of a ≡ p → Claim p
    at None none = (λ h. absurd (both_ways false refl h), ⊎_elim (λ h. h) (λ same. absurd (none-some place (sym none ∙ ap place_of same ∙ is))))
    at (Some i) here =
        ⊎_elim
        (λ (same : i ≡ place). (
          λ _. inr (address_at a i here ∙ ap address_of same ∙ sym (address_at object place is)),
          λ _. ap (λ k. get_or (set marked place true) k false) same ∙ get_or-set_same marked place true false low,
        ))
        (λ (other : i ≢ place). (
          λ h. inl (sym (get_or-set_other marked place i true false other) ∙ h),
          ⊎_elim (λ h. get_or-set_other marked place i true false other ∙ h) (λ same. absurd (other (same_Some i place (sym here ∙ ap place_of same ∙ is)))),
        ))
        (cases_eq i place)

-- nothing is new
pub gains_known : (m : Marks) (P : ℕ → Type 0) → ((a : ℕ) → P a → IsTrue (is_marked m a)) → Gains m m P
gains_known m P known = record {
  size = refl;
  marked = λ a. (inl, ⊎_elim (λ h. h) (known a));
  waiting = λ a. (inl, ⊎_elim (λ h. h) (λ (now, not_yet). absurd (both_ways (is_marked m a) not_yet now)));
  counted = refl;
}

module _ (old new : Marks) (x : ℕ) (size : length new.marked.items ≡ length old.marked.items) (marked : (a : ℕ) → IsTrue (is_marked new a) ↔ (IsTrue (is_marked old a) ⊎ (a ≡ x))) where
  -- one was there
  pub gains_again : IsTrue (is_marked old x) → new.waiting.items ≡ old.waiting.items → count_by not new.marked.items ≡ count_by not old.marked.items → Gains old new (λ a. a ≡ x)
  gains_again known waits count = record {
    size = size;
    marked = marked;
    waiting = λ a. (
      λ h. inl (subst (λ ws. Contains ws a) waits h),
      ⊎_elim (subst (λ ws. Contains ws a) (sym waits))
          (λ (now, not_yet). absurd (both_ways (is_marked old a) not_yet (⊎_elim (λ h. h) (λ same. subst (λ y. IsTrue (is_marked old y)) (sym same) known) ((marked a).0 now)))),
    );
    counted = omega (arith, ap length waits, count);
  }

  -- one is new
  pub gains_one : IsFalse (is_marked old x) → new.waiting.items ≡ old.waiting.items ++ x ∷ [] → count_by not new.marked.items + 1 ≡ count_by not old.marked.items → Gains old new (λ a. a ≡ x)
  gains_one fresh waits count = record {
    size = size;
    marked = marked;
    waiting = λ a. (
      λ h. ⊎_elim inl (λ is. inr ((marked a).1 (inr (sym is)), subst (λ y. IsFalse (is_marked old y)) is fresh)) (Contains-push_cases old.waiting.items x a (subst (λ ws. Contains ws a) waits h)),
      λ h. subst (λ ws. Contains ws a) (sym waits)
          (⊎_elim (Contains-append_left old.waiting.items (x ∷ []) a)
          (λ (now, not_yet). ⊎_elim (λ was. absurd (both_ways (is_marked old a) not_yet was)) (λ (is : a ≡ x). subst (λ y. Contains (old.waiting.items ++ x ∷ []) y) (sym is) (Contains-push old.waiting.items x)) ((marked a).0 now)) h),
    );
    counted = omega (arith, ap length waits, length-append old.waiting.items (x ∷ []), count);
  }

-- one gain after another
pub gains_on : {s t u : Marks} {P Q : ℕ → Type 0} → (R : ℕ → Type 0) → Gains s t P → Gains t u Q → ((a : ℕ) → R a ↔ (P a ⊎ Q a)) → Gains s u R
gains_on {s} {t} {u} {P} {Q} R g h both = record {
  size = h.size ∙ g.size;
  marked = λ a. (
    λ now. ⊎_elim (λ mid. ⊎_elim inl (λ p. inr ((both a).1 (inl p))) ((g.marked a).0 mid)) (λ q. inr ((both a).1 (inr q))) ((h.marked a).0 now),
    ⊎_elim (λ old. (h.marked a).1 (inl ((g.marked a).1 (inl old)))) (λ r. ⊎_elim (λ p. (h.marked a).1 (inl ((g.marked a).1 (inr p)))) (λ q. (h.marked a).1 (inr q)) ((both a).0 r)),
  );
  waiting = λ a. (
    λ now. ⊎_elim (λ mid. ⊎_elim inl (λ (in_mid, not_yet). inr ((h.marked a).1 (inl in_mid), not_yet)) ((g.waiting a).0 mid)) (λ (in_new, not_mid). inr (in_new, before a not_mid)) ((h.waiting a).0 now),
    ⊎_elim (λ old. (h.waiting a).1 (inl ((g.waiting a).1 (inl old)))) (λ (in_new, not_yet). at a in_new not_yet (is_marked t a) refl),
  );
  counted = h.counted ∙ g.counted;
}
  where
    before : (a : ℕ) → IsFalse (is_marked t a) → IsFalse (is_marked s a)
    before a off = none (is_marked s a) refl
      where
        none : (b : Bool) → is_marked s a ≡ b → IsFalse (is_marked s a)
        none true on = absurd (both_ways (is_marked t a) off ((g.marked a).1 (inl on)))
        none false e = e

    at : (a : ℕ) → IsTrue (is_marked u a) → IsFalse (is_marked s a) → (b : Bool) → is_marked t a ≡ b → Contains u.waiting.items a
    at a in_new not_yet true on = (h.waiting a).1 (inl ((g.waiting a).1 (inr (on, not_yet))))
    at a in_new not_yet false off = (h.waiting a).1 (inr (in_new, off))

-- the same gain in other words
pub gains_as : {s t : Marks} {P : ℕ → Type 0} → (Q : ℕ → Type 0) → Gains s t P → ((a : ℕ) → P a ↔ Q a) → Gains s t Q
gains_as Q g both = record {
  size = g.size;
  marked = λ a. (λ h. ⊎_elim inl (λ p. inr ((both a).0 p)) ((g.marked a).0 h), ⊎_elim (λ old. (g.marked a).1 (inl old)) (λ q. (g.marked a).1 (inr ((both a).1 q))));
  waiting = g.waiting;
  counted = g.counted;
}
