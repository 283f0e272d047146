-- Marks become whole, one ephemeron after another.
use Rattle.std.proofs.Common.{◌≡◌, ◌≤◌, ◌+◌, ℕ, ◌++◌, ◌∷◌, [], List, Bool, true, false, ◌||◌, length, length-append, Option, refl, sym, ap, ◌∙◌, subst, inl, inr, ⊎_elim, arith, Contains, IsTrue}
use Rattle.std.proofs.lemmas.Bool.{true≢false}
use Rattle.std.proofs.lemmas.List.Elements.{Contains-append_left, Contains-push, Contains-push_cases}
use Rattle.fz_model.specs.Reachability.{Itself}
use Rattle.fz_model.specs.State.{Map, Object}
use Rattle.fz_pass.specs.Holds.{Member, Settles}
use Rattle.fz_pass.specs.Marks.{IsClosed}
use Rattle.fz_pass.specs.Places.{is_held}
use Rattle.fz_pass.specs.Settling.{IsListedOf, IsThrough, LetsThrough, PutsOff, Rounds, SettlesOne, Waits}
use Rattle.fz_pass.proofs.Holding.{holds_all, holds_value, holder_of, held_by, held_nowhere, whole_from}

module _ (Exact : Type 0) (place : ℕ → Option ℕ) (value : Map Object → ℕ → Option ℕ) (objects : Map Object) where
  abbrev R : List (ℕ × ℕ) → (ℕ → Bool) → List (ℕ × ℕ) → List (ℕ × ℕ) → (ℕ → Bool) → Bool → Type 0
  R = Rounds Exact place value objects

  none_in : {A : Type 0} (x : ℕ × ℕ) → Contains [] x → A
  none_in x is_in = absurd (omega (arith, is_in.1))

  pub round_begins : (start : List (ℕ × ℕ)) (old : ℕ → Bool) → IsClosed objects old → R start old start [] old false
  round_begins start old closed = record {
    closed = closed;
    more = λ a on. on;
    most = λ e a on. Member on;
    left_in = λ x is_in. is_in;
    rest_in = λ x is_in. none_in x is_in;
    through = λ x is_in. inl is_in;
    waits = λ off x is_in. none_in x is_in;
  }

  -- before the first round
  pub none_yet : (start : List (ℕ × ℕ)) (old : ℕ → Bool) → IsClosed objects old → R start old [] start old true
  none_yet start old closed = record {
    closed = closed;
    more = λ a on. on;
    most = λ e a on. Member on;
    left_in = λ x is_in. none_in x is_in;
    rest_in = λ x is_in. is_in;
    through = λ x is_in. inr (inl is_in);
    waits = λ off. absurd (true≢false off);
  }

  -- one that waits is put off
  pub one_off : (start : List (ℕ × ℕ)) (old now new : ℕ → Bool) (left rest new_rest : List (ℕ × ℕ)) (x : ℕ × ℕ) (again marked : Bool)
      → R start old (left ++ x ∷ []) rest now again → PutsOff Exact place value objects x now new rest new_rest marked → R start old left new_rest new (again || marked)
  one_off start old now new left rest new_rest x again marked r p = subst (λ (m : ℕ → Bool). R start old left new_rest m (again || marked)) (sym p.same) (subst (λ ys. R start old left ys now (again || marked)) (sym p.off) (record {
    closed = r.closed;
    more = r.more;
    most = r.most;
    left_in = λ y is_in. r.left_in y (Contains-append_left left (x ∷ []) y is_in);
    rest_in = λ y is_in. ⊎_elim (r.rest_in y) (λ is. r.left_in y (subst (Contains (left ++ x ∷ [])) is (Contains-push left x))) (Contains-push_cases rest x y is_in);
    through = λ y is_in. ⊎_elim
        (λ in_left. ⊎_elim inl (λ is. inr (inl (subst (Contains (rest ++ x ∷ [])) is (Contains-push rest x)))) (Contains-push_cases left x y in_left))
        (⊎_elim (λ in_rest. inr (inl (Contains-append_left rest (x ∷ []) y in_rest))) (λ on. inr (inr on)))
        (r.through y is_in);
    waits = λ off y is_in. ⊎_elim (λ old_one. r.waits (first_no again marked off) y old_one) (λ is. subst (Waits Exact place value objects now) is p.waits) (Contains-push_cases rest x y is_in);
  }))
    where
      first_no : (a b : Bool) → (a || b) ≡ false → a ≡ false
      first_no false b off = refl
      first_no true b off = off

  -- one is let through
  pub one_through : (start : List (ℕ × ℕ)) (old now new : ℕ → Bool) (left rest new_rest : List (ℕ × ℕ)) (x : ℕ × ℕ) (again marked : Bool)
      → R start old (left ++ x ∷ []) rest now again → LetsThrough Exact place value objects x now new rest new_rest marked → R start old left new_rest new (again || marked)
  one_through start old now new left rest new_rest x again marked r p = subst (λ ys. R start old left ys new (again || marked)) (sym p.same) (record {
    closed = p.marks.closed;
    more = λ a on. on_still a (r.more a on);
    most = λ e a on. ⊎_elim (r.most e a) (λ of. holds_value place value objects (IsListedOf start) (λ b. IsTrue (old b)) now (r.most e) x.0 x.1 (r.left_in x (Contains-push left x)) p.key p.holder a of) (p.marks.most e a on);
    left_in = λ y is_in. r.left_in y (Contains-append_left left (x ∷ []) y is_in);
    rest_in = r.rest_in;
    through = λ y is_in. ⊎_elim
        (λ in_left. ⊎_elim inl (λ is. inr (inr (subst (IsThrough Exact place value objects new) is (λ v points. p.marks.least v (inr (v, points, Itself)))))) (Contains-push_cases left x y in_left))
        (⊎_elim (λ in_rest. inr (inl in_rest)) (λ on. inr (inr (λ v points. on_still v (on v points)))))
        (r.through y is_in);
    waits = λ off y is_in key holder. r.waits (both_no again marked off).0 y is_in (p.nothing (both_no again marked off).1 y.1 key) (held_before (both_no again marked off).1 y.0 holder);
  })
    where
      on_still : (a : ℕ) → IsTrue (now a) → IsTrue (new a)
      on_still a on = p.marks.least a (inl on)

      both_no : (a b : Bool) → (a || b) ≡ false → (a ≡ false) × (b ≡ false)
      both_no false b off = (refl, off)
      both_no true b off = absurd (true≢false off)

      held_before : marked ≡ false → (w : ℕ) → IsTrue (is_held place objects new w) → IsTrue (is_held place objects now w)
      held_before off w held = ⊎_elim (held_nowhere place value objects now w) (λ (h, holder, on). held_by place value objects now w h holder (p.nothing off h on)) (holder_of place value objects new w held)

  pub one_more : (start : List (ℕ × ℕ)) (old now new : ℕ → Bool) (left rest new_rest : List (ℕ × ℕ)) (x : ℕ × ℕ) (again marked : Bool)
      → R start old (left ++ x ∷ []) rest now again → SettlesOne Exact place value objects x now new rest new_rest marked → R start old left new_rest new (again || marked)
  one_more start old now new left rest new_rest x again marked r = ⊎_elim (one_off start old now new left rest new_rest x again marked r) (one_through start old now new left rest new_rest x again marked r)

  -- one round after another
  pub rounds_on : (start mid end : List (ℕ × ℕ)) (old now new : ℕ → Bool) (before again : Bool) → R start old [] mid now before → R mid now [] end new again → R start old [] end new again
  rounds_on start mid end old now new before again p q = record {
    closed = q.closed;
    more = λ a on. q.more a (p.more a on);
    most = λ e a on. holds_all place value objects (IsListedOf mid) (IsListedOf start) (λ b. IsTrue (now b)) (λ b. IsTrue (old b)) (λ w k is_in. p.rest_in (w, k) is_in) (p.most e) a (q.most e a on);
    left_in = p.left_in;
    rest_in = λ x is_in. p.rest_in x (q.rest_in x is_in);
    through = λ x is_in. ⊎_elim (none_in x) (⊎_elim (q.through x) (λ on. inr (inr (λ v points. q.more v (on v points))))) (p.through x is_in);
    waits = q.waits;
  }

  -- after a round that marked nothing the marks are whole
  pub settled : (start end : List (ℕ × ℕ)) (old new : ℕ → Bool) (again : Bool) → again ≡ false → R start old [] end new again → Settles place value objects (IsListedOf start) Exact old new
  settled start end old new again off r = record {
    more = r.more;
    whole = whole_from place value objects (IsListedOf start) new r.closed
        (λ w k is_in key holder v points. ⊎_elim (none_in (w, k)) (⊎_elim (λ left. absurd (r.waits off (w, k) left key holder)) (λ on. on v points)) (r.through (w, k) is_in));
    most = r.most;
  }

  -- ---- how many are left

  pub one_fewer : (x : ℕ × ℕ) (now new : ℕ → Bool) (rest new_rest : List (ℕ × ℕ)) (marked : Bool) → SettlesOne Exact place value objects x now new rest new_rest marked
      → (length new_rest ≤ length rest + 1) × (marked ≡ true → length new_rest ≡ length rest)
  one_fewer x now new rest new_rest marked (inl p) = (let long = ap length p.off ∙ length-append rest (x ∷ []) in omega (arith, long), λ yes. absurd (true≢false (sym yes ∙ p.nothing)))
  one_fewer x now new rest new_rest marked (inr p) = (let same = ap length p.same in omega (arith, same), λ yes. ap length p.same)
