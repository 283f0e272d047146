-- All that some objects lead to.
use Rattle.std.proofs.Common.{◌≡◌, ℕ, ◌↔◌, ◌⊎◌, Bool, true, false, [], ◌∷◌, ◌++◌, refl, sym, ap, ◌∙◌, subst, inl, inr, ⊎_elim, arith, IsTrue, Contains}
use Rattle.std.proofs.lemmas.List.Elements.{Contains-append_left, Contains-push, Contains-push_cases}
use Rattle.std.specs.FinSet.{contains, insert}
use Rattle.fz_bits.specs.Flags.{Set}
use Rattle.fz_marker.proofs.Gaining.{inserted_cases}
use Rattle.fz_model.specs.State.{Map, Object}
use Rattle.fz_model.specs.Reachability.{Child, Leads, Itself, OneMore}
use Rattle.fz_marker.specs.Frontiers.{Frontier, Gains, IsTracing}
use Rattle.fz_marker.specs.Marking.{HasChildrenIn, IsClosed}

pub nothing_waits : (a : ℕ) → Contains [] a → ⊥
nothing_waits a h = absurd (omega (arith, h.1))

module _ (objects : Map Object) (first c popped new : Frontier) (x : ℕ) (t : IsTracing objects first c) (size : popped.size ≡ c.size) (members : popped.members ≡ c.members) (waiting : c.waiting ≡ popped.waiting ++ x ∷ []) (g : Gains popped new (Child objects x)) where
  to_popped : (a : ℕ) → IsTrue (contains c.members a) → IsTrue (contains popped.members a)
  to_popped a h = subst (λ m. IsTrue (contains m a)) (sym members) h

  from_popped : (a : ℕ) → IsTrue (contains popped.members a) → IsTrue (contains c.members a)
  from_popped a h = subst (λ m. IsTrue (contains m a)) members h

  itself : IsTrue (contains c.members x)
  itself = t.waiting x (subst (λ ws. Contains ws x) (sym waiting) (Contains-push popped.waiting x))

  old_read : (a : ℕ) → IsTrue (contains c.members a) → Contains new.waiting a ⊎ HasChildrenIn objects new.members a
  old_read a h =
      ⊎_elim
      (λ waits. ⊎_elim (λ rest. inl ((g.waiting a).1 (inl rest))) (λ is. inr (λ b child. (g.members b).1 (inr (subst (λ y. Child objects y b) (sym is) child)))) (Contains-push_cases popped.waiting x a (subst (λ ws. Contains ws a) waiting waits)))
      (λ done. inr (λ b child. (g.members b).1 (inl (to_popped b (done b child)))))
      (t.read a h)

  pub tracing_goes_on : IsTracing objects first new
  tracing_goes_on = record {
    size = g.size ∙ size ∙ t.size;
    few = g.few;
    kept = λ a h. (g.members a).1 (inl (to_popped a (t.kept a h)));
    led = λ a h. ⊎_elim (λ old. t.led a (from_popped a old)) (λ child. let from = t.led x itself in (from.0, from.1, OneMore from.2 child)) ((g.members a).0 h);
    waiting = λ a h. ⊎_elim (λ old. (g.members a).1 (inl (to_popped a (t.waiting a (subst (λ ws. Contains ws a) (sym waiting) (Contains-append_left popped.waiting (x ∷ []) a old)))))) (λ both. both.0) ((g.waiting a).0 h);
    read = λ a h. at a h (contains popped.members a) refl;
  }
    where
      at : (a : ℕ) → IsTrue (contains new.members a) → (b : Bool) → contains popped.members a ≡ b → Contains new.waiting a ⊎ HasChildrenIn objects new.members a
      at a h true on = old_read a (from_popped a on)
      at a h false off = inl ((g.waiting a).1 (inr (h, off)))

-- an object becomes a member of a closed set, where nothing waits, and its children are added
module _ (objects : Map Object) (old entered added : Frontier) (x : ℕ) (closed : IsClosed objects old.members) (idle : old.waiting ≡ []) (is : entered ≡ record old { members = insert old.members x }) (g : Gains entered added (Child objects x)) where
  by_case : (a : ℕ) → IsTrue (contains entered.members a) ↔ (IsTrue (contains old.members a) ⊎ (a ≡ x))
  by_case a = subst (λ (f : Frontier). IsTrue (contains f.members a) ↔ (IsTrue (contains old.members a) ⊎ (a ≡ x))) (sym is) (inserted_cases old.members x a)

  none_waits : (a : ℕ) → Contains entered.waiting a → ⊥
  none_waits a h = nothing_waits a (subst (λ ws. Contains ws a) (ap (λ (f : Frontier). f.waiting) is ∙ idle) h)

  pub tracing_begins : IsTracing objects added added
  tracing_begins = record {
    size = refl;
    few = g.few;
    kept = λ a h. h;
    led = λ a h. (a, h, Itself);
    waiting = λ a h. ⊎_elim (λ before. absurd (none_waits a before)) (λ both. both.0) ((g.waiting a).0 h);
    read = λ a h. at a h (contains entered.members a) refl;
  }
    where
      at : (a : ℕ) → IsTrue (contains added.members a) → (b : Bool) → contains entered.members a ≡ b → Contains added.waiting a ⊎ HasChildrenIn objects added.members a
      at a h true on =
          inr (λ b child. ⊎_elim (λ was. (g.members b).1 (inl ((by_case b).1 (inl (closed a was b child))))) (λ same. (g.members b).1 (inr (subst (λ y. Child objects y b) same child))) ((by_case a).0 on))
      at a h false off = inl ((g.waiting a).1 (inr (h, off)))

  stays : (from a : ℕ) → IsTrue (contains old.members from) → Leads objects from a → IsTrue (contains old.members a)
  stays from a h Itself = h
  stays from a h (OneMore {b = b} leads child) = closed b (stays from b h leads) a child

  further : (from a : ℕ) → Child objects x from → Leads objects from a → Leads objects x a
  further from a child Itself = OneMore Itself child
  further from a child (OneMore {b = b} leads last) = OneMore (further from b child leads) last

  pub tracing_ends : (new : Frontier) → IsTracing objects added new → new.waiting ≡ [] → (a : ℕ) → IsTrue (contains new.members a) ↔ (IsTrue (contains old.members a) ⊎ Leads objects x a)
  tracing_ends new t none a = (
    λ h.
        let from = t.led a h in
        ⊎_elim
        (λ before. ⊎_elim (λ was. inl (stays from.0 a was from.2)) (λ same. inr (subst (λ y. Leads objects y a) same from.2)) ((by_case from.0).0 before))
        (λ child. inr (further from.0 a child from.2))
        ((g.members from.0).0 from.1),
    ⊎_elim (λ was. t.kept a ((g.members a).1 (inl ((by_case a).1 (inl was))))) (follow a),
  )
    where
      closed_now : IsClosed objects new.members
      closed_now a h = ⊎_elim (λ waits. absurd (nothing_waits a (subst (λ ws. Contains ws a) none waits))) (λ done. done) (t.read a h)

      follow : (a : ℕ) → Leads objects x a → IsTrue (contains new.members a)
      follow a Itself = t.kept a ((g.members a).1 (inl ((by_case a).1 (inr refl))))
      follow a (OneMore {b = b} leads child) = closed_now b (follow b leads) a child

-- an object that is a member of a closed set adds nothing
module _ (objects : Map Object) (old : Set) (x : ℕ) (closed : IsClosed objects old) (here : contains old x ≡ true) where
  pub led_stays : (a : ℕ) → Leads objects x a → IsTrue (contains old a)
  led_stays a Itself = here
  led_stays a (OneMore {b = b} leads child) = closed b (led_stays b leads) a child
