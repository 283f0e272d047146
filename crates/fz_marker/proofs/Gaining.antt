-- How a set gains members that wait.
use Rattle.std.proofs.Common.{◌≡◌, ◌≢◌, ℕ, ◌+◌, ◌<◌, ◌≤◌, ◌↔◌, ◌⊎◌, ◌||◌, not, Bool, true, false, List, [], ◌∷◌, ◌++◌, length, take, get_or, Option, Some, None, refl, sym, ap, ◌∙◌, subst, inl, inr, ⊎_elim, arith, rules, option_to_list, IfSome, length-append, IsTrue, IsFalse, Contains}
use Rattle.std.proofs.lemmas.Bool.{both_ways, cases_eq, eq-eqb, ne_eqb}
use Rattle.std.proofs.lemmas.List.{take_more}
use Rattle.std.proofs.lemmas.List.Elements.{Contains-append_left, Contains-push, Contains-push_cases}
use Rattle.std.specs.FinSet.{contains, insert, len}
use Rattle.fz_model.specs.declared.limits.TheConstants.{HEAP_START}
use Rattle.fz_model.specs.State.{Map, Object}
use Rattle.fz_model.specs.Memory.{points}
use Rattle.fz_bits.specs.Flags.{Set}
use Rattle.fz_model.proofs.Sets.{has_inserted, len_inserted}
use Rattle.fz_marker.specs.Frontiers.{Frontier, Gains, IsAmong, IsPointedAt}

pub not_on : (b : Bool) → not b ≡ true → b ≡ false
not_on true e = absurd (both_ways false refl e)
not_on false e = refl

pub not_off : (b : Bool) → not b ≡ false → b ≡ true
not_off true e = refl
not_off false e = absurd (both_ways true e refl)

pub inserted_cases : (s : Set) (x a : ℕ) → IsTrue (contains (insert s x) a) ↔ (IsTrue (contains s a) ⊎ (a ≡ x))
inserted_cases s x a = (
  λ h. ⊎_elim inr (λ (ne : a ≢ x). inl (sym (has_inserted s x a ∙ ap (λ t. t || contains s a) (ne_eqb a x ne)) ∙ h)) (cases_eq a x),
  λ h. ⊎_elim (λ old. ⊎_elim here (λ (ne : a ≢ x). has_inserted s x a ∙ ap (λ t. t || contains s a) (ne_eqb a x ne) ∙ old) (cases_eq a x)) here h,
)
  where
    here : a ≡ x → IsTrue (contains (insert s x) a)
    here is = has_inserted s x a ∙ ap (λ t. t || contains s a) (eq-eqb a x is)

-- ---- what waits lies in the heap

pub push_within : (work : List ℕ) (x size : ℕ) → ((a : ℕ) → Contains work a → IsAmong size a) → IsAmong size x → (a : ℕ) → Contains (work ++ x ∷ []) a → IsAmong size a
push_within work x size within here a h = ⊎_elim (within a) (λ is. subst (IsAmong size) is here) (Contains-push_cases work x a h)

pub popped_within : (old new : List ℕ) (found : Option ℕ) → old ≡ new ++ option_to_list found → (size : ℕ) → ((a : ℕ) → Contains old a → IsAmong size a) → IfSome found (IsAmong size)
popped_within old new None is size within = search rules
popped_within old new (Some x) is size within = within x (subst (λ ws. Contains ws x) (sym is) (Contains-push new x))

-- ---- gains

-- nothing is new
pub gains_known : (f : Frontier) (P : ℕ → Type 0) → len f.members ≤ f.size → ((a : ℕ) → P a → IsTrue (contains f.members a)) → Gains f f P
gains_known f P few known = record {
  size = refl;
  members = λ a. (inl, ⊎_elim (λ h. h) (known a));
  waiting = λ a. (inl, ⊎_elim (λ h. h) (λ (now, not_yet). absurd (both_ways (contains f.members a) not_yet now)));
  counted = refl;
  few = few;
  low = λ a. inl;
}

-- one is
pub gains_one : (f : Frontier) (x : ℕ) → IsFalse (contains f.members x) → len (insert f.members x) ≤ f.size → HEAP_START ≤ x → Gains f (record { size = f.size; members = insert f.members x; waiting = f.waiting ++ x ∷ [] }) (λ a. a ≡ x)
gains_one f x fresh few low = record {
  size = refl;
  members = inserted_cases f.members x;
  waiting = λ a. (
    λ h. ⊎_elim inl (λ is. inr ((inserted_cases f.members x a).1 (inr (sym is)), subst (λ y. IsFalse (contains f.members y)) is fresh)) (Contains-push_cases f.waiting x a h),
    ⊎_elim (λ h. Contains-append_left f.waiting (x ∷ []) a h)
        (λ (now, not_yet). ⊎_elim (λ old. absurd (both_ways (contains f.members a) not_yet old)) (λ (is : a ≡ x). subst (λ y. Contains (f.waiting ++ x ∷ []) y) (sym is) (Contains-push f.waiting x)) ((inserted_cases f.members x a).0 now)),
  );
  counted = let more = len_inserted f.members x fresh in let long = length-append f.waiting (x ∷ []) in omega (arith, more, long);
  few = few;
  low = λ a h. ⊎_elim inl (λ is. inr (subst (λ y. HEAP_START ≤ y) (sym is) low)) ((inserted_cases f.members x a).0 h);
}

-- one gain after another
pub gains_on : {s t u : Frontier} {P Q : ℕ → Type 0} → (R : ℕ → Type 0) → Gains s t P → Gains t u Q → ((a : ℕ) → R a ↔ (P a ⊎ Q a)) → Gains s u R
gains_on {s} {t} {u} {P} {Q} R g h both = record {
  size = h.size ∙ g.size;
  members = λ a. (
    λ now. ⊎_elim (λ mid. ⊎_elim inl (λ p. inr ((both a).1 (inl p))) ((g.members a).0 mid)) (λ q. inr ((both a).1 (inr q))) ((h.members a).0 now),
    ⊎_elim (λ old. (h.members a).1 (inl ((g.members a).1 (inl old)))) (λ r. ⊎_elim (λ p. (h.members a).1 (inl ((g.members a).1 (inr p)))) (λ q. (h.members a).1 (inr q)) ((both a).0 r)),
  );
  waiting = λ a. (
    λ now. ⊎_elim (λ mid. ⊎_elim inl (λ (in_mid, not_yet). inr ((h.members a).1 (inl in_mid), not_yet)) ((g.waiting a).0 mid)) (λ (in_new, not_mid). inr (in_new, before a not_mid)) ((h.waiting a).0 now),
    ⊎_elim (λ old. (h.waiting a).1 (inl ((g.waiting a).1 (inl old))))
        (λ (in_new, not_yet). at a in_new not_yet (contains t.members a) refl),
  );
  counted = omega (arith, g.counted, h.counted);
  few = h.few;
  low = λ a now. ⊎_elim (g.low a) inr (h.low a now);
}
  where
    before : (a : ℕ) → IsFalse (contains t.members a) → IsFalse (contains s.members a)
    before a off = no (contains s.members a) refl
      where
        no : (b : _) → contains s.members a ≡ b → IsFalse (contains s.members a)
        no true on = absurd (both_ways (contains t.members a) off ((g.members a).1 (inl on)))
        no false e = e

    at : (a : ℕ) → IsTrue (contains u.members a) → IsFalse (contains s.members a) → (b : _) → contains t.members a ≡ b → Contains u.waiting a
    at a in_new not_yet true on = (h.waiting a).1 (inl ((g.waiting a).1 (inr (on, not_yet))))
    at a in_new not_yet false off = (h.waiting a).1 (inr (in_new, off))

-- ---- what words point to

module _ (objects : Map Object) (words : List ℕ) where
  pub no_words : (a : ℕ) → IsPointedAt objects (take 0 words) a → ⊥
  no_words a p = let h = p.within in absurd (omega (arith, h.1))

  module _ (i word : ℕ) (within : i < length words) (is : word ≡ get_or words i word) where
    more : take (i + 1) words ≡ take i words ++ word ∷ []
    more = take_more words i word within ∙ ap (λ w. take i words ++ w ∷ []) (sym is)

    pub one_more_word : (found : Option ℕ) → points objects word ≡ found → (a : ℕ) → IsPointedAt objects (take (i + 1) words) a ↔ (IsPointedAt objects (take i words) a ⊎ (found ≡ Some a))
    one_more_word found is_found a = (
      λ p. ⊎_elim (λ early. inl (record { word = p.word; within = early; pointed = p.pointed })) (λ last. inr (sym is_found ∙ ap (points objects) last ∙ p.pointed)) (Contains-push_cases (take i words) word p.word (subst (λ ws. Contains ws p.word) more p.within)),
      ⊎_elim (λ p. record { word = p.word; within = subst (λ ws. Contains ws p.word) (sym more) (Contains-append_left (take i words) (word ∷ []) p.word p.within); pointed = p.pointed })
          (λ now. record { word = word; within = subst (λ ws. Contains ws word) (sym more) (Contains-push (take i words) word); pointed = is_found ∙ now }),
    )
