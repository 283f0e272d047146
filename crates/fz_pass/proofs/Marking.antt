-- How the marks grow.
use Rattle.std.proofs.Common.{◌≡◌, ℕ, ◌↔◌, ◌⊎◌, ◌++◌, ◌∷◌, [], List, Bool, true, false, not, refl, sym, ap, subst, inl, inr, ⊎_elim, IsTrue, nat_eq, is_some}
use Rattle.std.proofs.lemmas.Bool.{both_ways, true≢false, cases_eq, and_parts, and_from}
use Rattle.std.specs.List.{IsDistinct}
use Rattle.std.specs.Map.{keys_of}
use Rattle.std.specs.FinMap.{from_entries, contains_key}
use Rattle.fz_model.specs.declared.answers.Registration.{Registration}
use Rattle.fz_model.specs.declared.kinds.RegKind.{RegKind}
use Rattle.fz_model.specs.declared.kinds.RegKind.TheVariants.{Normal, IgnoreSelf, NoOrder}
use Rattle.fz_model.specs.State.{Map, Object}
use Rattle.fz_model.specs.Pass.{LeadsFirst, is_outside}
use Rattle.fz_model.specs.Reachability.{Child, Leads, Itself, OneMore}
use Rattle.fz_pass.specs.Leading.{AnyOf, IsLeading, AreLeading, is_unreachable}
use Rattle.fz_pass.proofs.AnyOf.{any_push, leading_entries, LeadsIf}
use Rattle.fz_pass.proofs.Children.{first_child}
use Rattle.fz_pass.specs.Marks.{IsClosed, Marks, IsLeadingBut, IsLastToMark, AreRegistered}

module _ (Exact : Type 0) (objects : Map Object) where
  -- what is closed has all that a member leads to
  pub closed_leads : (m : ℕ → Bool) → IsClosed objects m → (a b : ℕ) → IsTrue (m a) → Leads objects a b → IsTrue (m b)
  closed_leads m closed a b on Itself = on
  closed_leads m closed a b on (OneMore {b = c} leads child) = closed c b (closed_leads m closed a c on leads) child

  pub closed_leading : (m : ℕ → Bool) → IsClosed objects m → (o : ℕ) (kind : RegKind) (a : ℕ) → IsTrue (m o) → IsLeading objects o kind a → IsTrue (m a)
  closed_leading m closed o kind a on (first, step, rest) = closed_leads m closed first a (closed o first on (first_child objects o kind first step)) rest

  -- nothing comes
  pub marks_none : (m : ℕ → Bool) (P : ℕ → Type 0) → IsClosed objects m → ((a : ℕ) → P a → IsTrue (m a)) → Marks Exact objects m m P
  marks_none m P closed none = record { closed = closed; least = λ a. ⊎_elim (λ h. h) (none a); most = λ e a. inl }

  -- the same in other words
  pub marks_as : (old new : ℕ → Bool) (P Q : ℕ → Type 0) → ((a : ℕ) → P a ↔ Q a) → Marks Exact objects old new P → Marks Exact objects old new Q
  marks_as old new P Q same p = record {
    closed = p.closed;
    least = λ a. ⊎_elim (λ h. p.least a (inl h)) (λ y. p.least a (inr ((same a).1 y)));
    most = λ e a h. ⊎_elim inl (λ x. inr ((same a).0 x)) (p.most e a h);
  }

  -- an object's children come by its kind
  pub by_normal : (o a : ℕ) → IsLeadingBut objects false o a ↔ IsLeading objects o Normal a
  by_normal o a = (λ (first, child, _, rest). (first, child, rest), λ (first, child, rest). (first, child, (λ on. absurd (true≢false (sym on))), rest))

  pub by_ignoring : (o a : ℕ) → IsLeadingBut objects true o a ↔ IsLeading objects o IgnoreSelf a
  by_ignoring o a = (λ (first, child, apart, rest). (first, (child, apart refl), rest), λ (first, step, rest). (first, step.0, (λ on. step.1), rest))

  pub by_none : (o a : ℕ) → IsLeading objects o NoOrder a → ⊥
  by_none o a (first, step, rest) = step

  -- an object leads to itself, or by another child than itself
  pub by_another : (o a : ℕ) → Leads objects o a → (a ≡ o) ⊎ IsLeading objects o IgnoreSelf a
  by_another o a Itself = inl refl
  by_another o a (OneMore {b = b} leads child) = ⊎_elim (λ same. first (subst (λ x. Child objects x a) same child)) (λ (c, step, rest). inr (c, step, OneMore rest child)) (by_another o b leads)
    where
      first : Child objects o a → (a ≡ o) ⊎ IsLeading objects o IgnoreSelf a
      first child = ⊎_elim inl (λ apart. inr (a, (child, apart), Itself)) (cases_eq a o)

  -- so an object of another kind than NoOrder is the last to be marked where what it leads to is
  pub last_to_mark : (m : ℕ → Bool) (o : ℕ) (kind : RegKind) → (kind ≡ Normal) ⊎ (kind ≡ IgnoreSelf) → ((a : ℕ) → IsLeading objects o kind a → IsTrue (m a)) → IsLastToMark objects m o
  last_to_mark m o kind is led a leads = ⊎_elim inr (λ (c, step, rest). inl (led a (c, by_kind c step is, rest))) (by_another o a leads)
    where
      by_kind : (c : ℕ) → LeadsFirst objects o IgnoreSelf c → (kind ≡ Normal) ⊎ (kind ≡ IgnoreSelf) → LeadsFirst objects o kind c
      by_kind c step (inl normal) = subst (λ k. LeadsFirst objects o k c) (sym normal) step.0
      by_kind c step (inr ignoring) = subst (λ k. LeadsFirst objects o k c) (sym ignoring) step

  -- and what it leads to is marked with it
  pub marks_last : (old new : ℕ → Bool) (o : ℕ) → IsLastToMark objects old o → Marks Exact objects old new (λ a. a ≡ o) → Marks Exact objects old new (Leads objects o)
  marks_last old new o last p = record {
    closed = p.closed;
    least = λ a. ⊎_elim (λ h. p.least a (inl h)) (λ leads. ⊎_elim (λ h. p.least a (inl h)) (λ same. p.least a (inr same)) (last a leads));
    most = λ e a h. ⊎_elim inl (λ same. inr (subst (Leads objects o) (sym same) Itself)) (p.most e a h);
  }

  -- what unmarked objects of the entries so far lead to, and then another's
  pub marks_more : (old mid new : ℕ → Bool) (es : List (ℕ × Registration)) (e : ℕ × Registration)
      → Marks Exact objects old mid (AnyOf es (LeadsIf objects (λ a. not (old a)))) → Marks Exact objects mid new (λ a. IsTrue (not (mid e.0)) × IsLeading objects e.0 e.1.kind a)
      → Marks Exact objects old new (AnyOf (es ++ e ∷ []) (LeadsIf objects (λ a. not (old a))))
  marks_more old mid new es e p q = record {
    closed = q.closed;
    least = λ a. ⊎_elim (λ h. kept a (p.least a (inl h))) (λ any. ⊎_elim (λ some. kept a (p.least a (inr some))) (λ (_, leads). comes a leads (mid e.0) refl) ((any_push P es e a).1 any));
    most = λ exact a h. ⊎_elim
        (λ was. ⊎_elim inl (λ any. inr ((any_push P es e a).0 (inl any))) (p.most exact a was))
        (λ (off, leads). inr ((any_push P es e a).0 (inr (ap not (off_before (old e.0) refl off), leads))))
        (q.most exact a h);
  }
    where
      P : ℕ × Registration → ℕ → Type 0
      P = LeadsIf objects (λ a. not (old a))

      kept : (a : ℕ) → IsTrue (mid a) → IsTrue (new a)
      kept a h = q.least a (inl h)

      off_before : (b : Bool) → old e.0 ≡ b → IsTrue (not (mid e.0)) → old e.0 ≡ false
      off_before false is off = is
      off_before true is off = absurd (both_ways (mid e.0) (not_on (mid e.0) off) (p.least e.0 (inl is)))
        where
          not_on : (b : Bool) → not b ≡ true → b ≡ false
          not_on true n = sym n
          not_on false n = refl

      comes : (a : ℕ) → IsLeading objects e.0 e.1.kind a → (b : Bool) → mid e.0 ≡ b → IsTrue (new a)
      comes a leads true is = kept a (closed_leading mid p.closed e.0 e.1.kind a is leads)
      comes a leads false is = q.least a (inr (ap not is, leads))

  -- the unreachable registrations
  pub unreachable_entries : (old : ℕ → Bool) (es : List (ℕ × Registration)) → IsDistinct nat_eq (keys_of es) → AreRegistered objects (from_entries es)
      → (a : ℕ) → AnyOf es (LeadsIf objects (λ a. not (old a))) a ↔ AreLeading objects (from_entries es) (is_unreachable objects (from_entries es) old) a
  unreachable_entries old es once registered a = (
    λ any. let l = (leading_entries objects (λ a. not (old a)) es once a).0 any in there l,
    λ (o, r, here, on, leads). (leading_entries objects (λ a. not (old a)) es once a).1 (o, r, here, (and_parts (contains_key objects o) (not (old o)) (and_parts (contains_key (from_entries es) o) (is_outside objects old o) on).1).1, leads),
  )
    where
      there : AreLeading objects (from_entries es) (λ a. not (old a)) a → AreLeading objects (from_entries es) (is_unreachable objects (from_entries es) old) a
      there (o, r, here, off, leads) = (o, r, here, and_from (contains_key (from_entries es) o) (is_outside objects old o) (ap is_some here) (and_from (contains_key objects o) (not (old o)) (registered o r here) off), leads)
