-- What a trail says of what some objects reach.
use Rattle.std.proofs.Common.{◌≡◌, ℕ, ◌+◌, ◌<◌, ◌↔◌, ◌⊎◌, Bool, List, [], ◌∷◌, Option, Some, None, slice_get, refl, sym, ap, ◌∙◌, subst, inl, inr, ⊎_elim, arith, zero, suc, IsTrue}
use Rattle.std.proofs.lemmas.Option.{none-some, same_Some}
use Rattle.fz_model.specs.State.{Map, Object}
use Rattle.fz_model.specs.Reachability.{Child}
use Rattle.fz_pass.specs.Holds.{Holds, Member, ByChild, ByHolder, ByKey, IsHolder}
use Rattle.fz_why.specs.declared.origin.Origin.{Origin}
use Rattle.fz_why.specs.declared.origin.Origin.TheVariants.{Root, Itself, First, After}
use Rattle.fz_why.specs.Paths.{IsPath, IsStep}
use Rattle.fz_why.specs.Trail.{Rows, Trail, has, Adds, AreBoth, IsHeldBefore, IsHeldIn, IsNext, IsOrdered, IsReachedTrail, IsRow, IsStart, SpreadsAll}
use Rattle.fz_why.proofs.Trails.{at_some, has_at}
use Rattle.fz_why.proofs.Adding.{still}
use Rattle.fz_why.proofs.Spreading.{same_at}

-- a path by one relation is a path by another
pub path_as : (R S : ℕ → ℕ → Type 0) → ((a b : ℕ) → R a b → S a b) → (a : ℕ) (xs : List ℕ) (b : ℕ) → IsPath R a xs b → IsPath S a xs b
path_as R S into a [] b h = h
path_as R S into a (x ∷ xs) b h = (into a x h.0, path_as R S into x xs b h.1)

abbrev before_of : ℕ → Origin → ℕ
before_of d (After k) = k
before_of d (Root r) = d
before_of d Itself = d
before_of d (First f) = d

-- some starts were added to nothing, and then all that they reach
pub reached_trail : (objects : Map Object) (Step : ℕ → ℕ → Type 0) (By Row : Rows) (behind : ℕ → Bool) (Comes Start : Origin → ℕ → Type 0) (mid new : Trail) → Adds Comes [] mid → SpreadsAll Step By behind mid new
    → ((a b : ℕ) → Step a b ↔ Child objects a b) → ((key : ℕ) (holder : Option ℕ) (b : ℕ) → By key holder b ↔ Row key holder b) → ((o : Origin) (b : ℕ) → Comes o b ↔ Start o b) → IsReachedTrail objects Row behind Start new
reached_trail objects Step By Row behind Comes Start mid new g s child row start = record {
  each = λ k x at.
      ⊎_elim (λ was. ⊎_elim (λ none. absurd (none-some x none)) (λ q. inl ((start x.1 x.0).0 q.1)) (g.each k x was))
      (⊎_elim (λ h. inr (inl (record { before = h.before; after = h.after; earlier = h.earlier; from = h.from; at = h.at; step = (child h.from x.0).0 h.step })))
      (λ h. inr (inr (record { before = h.before; after = h.after; earlier = h.earlier; key = h.key; holder = h.holder; row = (row h.key h.holder x.0).0 h.row; held = h.held; from = h.from })))) (s.each k x at);
  starts = λ o b begins. still mid new s.kept b (g.whole o b ((start o b).1 begins));
  closed = λ a b on step. s.whole a b on ((child a b).1 step);
  values = λ key holder b is. s.values key holder b ((row key holder b).1 is);
}

module _ (objects : Map Object) (Row : Rows) (behind : ℕ → Bool) (Start : Origin → ℕ → Type 0) (es : Trail) (t : IsReachedTrail objects Row behind Start es) (begins : (o : Origin) (b : ℕ) → Start o b → IsStart o) where
  not_after : (o : Origin) (k : ℕ) → IsStart o → o ≡ After k → ⊥
  not_after o k start is = subst IsStart is start

  pub ordered : IsOrdered es
  ordered k before x at is =
      ⊎_elim (λ start. absurd (not_after x.1 before (begins x.1 x.0 start) is))
      (⊎_elim (λ h. let same : before ≡ h.before = ap (before_of 0) (sym is ∙ h.after) in subst (λ n. n < k) (sym same) h.earlier)
      (λ h. let same : before ≡ h.before = ap (before_of 0) (sym is ∙ h.after) in subst (λ n. n < k) (sym same) h.earlier)) (t.each k x at)

  pub start_of : (place first : ℕ) (o : Origin) → slice_get es place ≡ Some (first, o) → IsStart o → Start o first
  start_of place first o at start =
      ⊎_elim (λ h. h) (⊎_elim (λ h. absurd (not_after o h.before start h.after)) (λ h. absurd (not_after o h.before start h.after))) (t.each place (first, o) at)

  held_now : (k a : ℕ) → IsHeldBefore behind es k a → IsHeldIn behind es a
  held_now k a = ⊎_elim inl (λ h. inr (has_at es h.0 a h.2))

  -- the step to an object on the trail after another
  abbrev IsNextBy : ℕ → ℕ → Type 0
  IsNextBy a b = Child objects a b ⊎ ((key : ℕ) × (holder : Option ℕ) × Row key holder b × AreBoth (IsHeldIn behind es) key holder × ((a ≡ key) ⊎ (holder ≡ Some a)))

  pub next_by : (a b : ℕ) → IsNext es a b → IsNextBy a b
  next_by a b n =
      ⊎_elim (λ start. absurd (not_after (After n.1) n.1 (begins (After n.1) b start) refl))
      (⊎_elim
      (λ h.
      let same : h.before ≡ n.1 = ap (before_of 0) (sym h.after) in
      let from : h.from ≡ a = same_at es n.1 h.from a h.at.0 n.2.0 (ap (slice_get es) (sym same) ∙ h.at.1) n.2.1 in
      inl (subst (λ y. Child objects y b) from h.step))
      (λ h.
      let same : h.before ≡ n.1 = ap (before_of 0) (sym h.after) in
      inr (
        h.key,
        h.holder,
        h.row,
        (held_now n.0 h.key h.held.0, λ q is. held_now n.0 q (h.held.1 q is)),
        ⊎_elim (λ at. inl (same_at es n.1 a h.key n.2.0 at.0 n.2.1 (ap (slice_get es) (sym same) ∙ at.1)))
            (λ q. let is : q.0 ≡ a = same_at es n.1 q.0 a q.2.0 n.2.0 (ap (slice_get es) (sym same) ∙ q.2.1) n.2.1 in inr (q.1 ∙ ap Some is)) h.from,
      ))) (t.each n.0 (b, After n.1) n.3)

  -- what is on it is in each set that has the starts and what is behind the trail, and is closed under children and values
  module _ (Set : ℕ → Type 0) (start : (o : Origin) (b : ℕ) → Start o b → Set b) (child : (a b : ℕ) → Set a → Child objects a b → Set b)
      (row : (key : ℕ) (holder : Option ℕ) (b : ℕ) → Row key holder b → AreBoth Set key holder → Set b) (back : (a : ℕ) → IsTrue (behind a) → Set a) where
    upto : (n k : ℕ) → k < n → (x : ℕ × Origin) → slice_get es k ≡ Some x → Set x.0
    upto zero k low x at = absurd (omega (arith, low))
    upto (suc n) k low x at =
        ⊎_elim (start x.1 x.0)
        (⊎_elim (λ h. child h.from x.0 (upto n h.before (omega (arith, h.earlier, low)) (h.from, h.at.0) h.at.1) h.step)
        (λ h.
        row h.key h.holder x.0 h.row (
          ⊎_elim (back h.key) (λ j. upto n j.0 (omega (arith, j.1, low)) (h.key, j.2.0) j.2.1) h.held.0,
          λ q is. ⊎_elim (back q) (λ j. upto n j.0 (omega (arith, j.1, low)) (q, j.2.0) j.2.1) (h.held.1 q is),
        ))) (t.each k x at)

    pub has_set : (a : ℕ) → IsTrue (has es a) → Set a
    has_set a on = let at = at_some es a on in upto (at.0 + 1) at.0 (omega arith) (a, at.1.0) at.1.1

    pub in_set : (a : ℕ) → IsHeldIn behind es a → Set a
    in_set a = ⊎_elim (back a) (has_set a)

-- ---- what sets hold

module _ (place : ℕ → Option ℕ) (value : Map Object → ℕ → Option ℕ) (objects : Map Object) (IsOf : ℕ → ℕ → Type 0) where
  -- a set that is closed under values, step by step
  pub by_value : (Set : ℕ → Type 0) (a b key : ℕ) (holder : Option ℕ) → IsRow place value objects IsOf key holder b → AreBoth Set key holder → (a ≡ key) ⊎ (holder ≡ Some a) → IsStep place value objects IsOf Set a b
  by_value Set a b key None r both from =
      inr (record { word = r.0; key = key; is = r.1; keyed = both.0; held = inl r.2; valued = r.3; from = ⊎_elim inl (λ is. absurd (none-some a is)) from })
  by_value Set a b key (Some q) r both from =
      inr (record { word = r.0; key = key; is = r.1; keyed = both.0; held = inr (q, r.2, both.1 q refl); valued = r.3; from = ⊎_elim inl (λ is. inr (subst (IsHolder place objects r.0) (same_Some q a is) r.2)) from })

  pub holds_row : (set : ℕ → Type 0) (key : ℕ) (holder : Option ℕ) (b : ℕ) → IsRow place value objects IsOf key holder b → AreBoth (Holds place value objects IsOf set) key holder → Holds place value objects IsOf set b
  holds_row set key None b r both = ByKey r.1 both.0 r.2 r.3
  holds_row set key (Some q) b r both = ByHolder r.1 both.0 r.2 (both.1 q refl) r.3

  -- a step from what a set holds
  pub holds_step : (set : ℕ → Type 0) (a b : ℕ) → Holds place value objects IsOf set a → IsStep place value objects IsOf (Holds place value objects IsOf set) a b → Holds place value objects IsOf set b
  holds_step set a b h =
      ⊎_elim (ByChild h) (λ v. ⊎_elim (λ nowhere. ByKey v.is v.keyed nowhere v.valued) (λ q. ByHolder v.is v.keyed q.1 q.2 v.valued) v.held)

  pub holds_path : (set : ℕ → Type 0) (a : ℕ) (xs : List ℕ) (b : ℕ) → Holds place value objects IsOf set a → IsPath (IsStep place value objects IsOf (Holds place value objects IsOf set)) a xs b → Holds place value objects IsOf set b
  holds_path set a [] b h is = subst (Holds place value objects IsOf set) is h
  holds_path set a (x ∷ xs) b h p = holds_path set x xs b (holds_step set a x h p.0) p.1

  module _ (behind : ℕ → Bool) (Start : Origin → ℕ → Type 0) (es : Trail) (t : IsReachedTrail objects (IsRow place value objects IsOf) behind Start es) where
    -- a trail with a set that is closed
    module _ (closed : (a b : ℕ) → IsTrue (behind a) → Child objects a b → IsTrue (behind b))
        (rows : (key : ℕ) (holder : Option ℕ) (b : ℕ) → IsRow place value objects IsOf key holder b → AreBoth (λ a. IsTrue (behind a)) key holder → IsTrue (behind b)) where
      pub child_in : (a b : ℕ) → IsHeldIn behind es a → Child objects a b → IsHeldIn behind es b
      child_in a b h child = ⊎_elim (λ on. inl (closed a b on child)) (λ on. inr (t.closed a b on child)) h

      pub row_in : (key : ℕ) (holder : Option ℕ) (b : ℕ) → IsRow place value objects IsOf key holder b → AreBoth (IsHeldIn behind es) key holder → IsHeldIn behind es b
      row_in key None b r h =
          ⊎_elim (λ on. inl (rows key None b r (on, λ q is. absurd (none-some q is)))) (λ on. inr (t.values key None b r h (inl on))) h.0
      row_in key (Some q) b r h =
          ⊎_elim
          (λ on.
          ⊎_elim (λ held. inl (rows key (Some q) b r (on, λ z is. subst (λ y. IsTrue (behind y)) (same_Some q z is) held)))
          (λ held. inr (t.values key (Some q) b r h (inr (q, refl, held)))) (h.1 q refl))
          (λ on. inr (t.values key (Some q) b r h (inl on))) h.0

      -- what is held is behind the trail or on it
      pub held_in : (set : ℕ → Type 0) → ((a : ℕ) → set a → IsHeldIn behind es a) → (a : ℕ) → Holds place value objects IsOf set a → IsHeldIn behind es a
      held_in set all a (Member h) = all a h
      held_in set all a (ByChild {a = b} h child) = child_in b a (held_in set all b h) child
      held_in set all a (ByHolder {word = w} {key = k} {holder = o} is key holder there points) =
          row_in k (Some o) a (w, is, holder, points) (held_in set all k key, λ z e. subst (IsHeldIn behind es) (same_Some o z e) (held_in set all o there))
      held_in set all a (ByKey {word = w} {key = k} is key nowhere points) =
          row_in k None a (w, is, nowhere, points) (held_in set all k key, λ z e. absurd (none-some z e))

    -- what is on it is held, and each step along it is one by what is held
    module _ (begins : (o : Origin) (b : ℕ) → Start o b → IsStart o) (set : ℕ → Type 0) (start : (o : Origin) (b : ℕ) → Start o b → Holds place value objects IsOf set b)
        (back : (a : ℕ) → IsTrue (behind a) → Holds place value objects IsOf set a) where
      pub has_held : (a : ℕ) → IsTrue (has es a) → Holds place value objects IsOf set a
      has_held = has_set objects (IsRow place value objects IsOf) behind Start es t begins (Holds place value objects IsOf set) start (λ a b. ByChild) (holds_row set) back

      pub next_is : (a b : ℕ) → IsNext es a b → IsStep place value objects IsOf (Holds place value objects IsOf set) a b
      next_is a b n =
          let held = in_set objects (IsRow place value objects IsOf) behind Start es t begins (Holds place value objects IsOf set) start (λ a b. ByChild) (holds_row set) back in
          ⊎_elim inl (λ h. by_value (Holds place value objects IsOf set) a b h.0 h.1 h.2 (held h.0 h.3.0, λ q is. held q (h.3.1 q is)) h.4)
          (next_by objects (IsRow place value objects IsOf) behind Start es t begins a b n)
