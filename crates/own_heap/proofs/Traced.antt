-- All that some records lead to.
use Rattle.std.proofs.Common.{◌≡◌, ℕ, ◌↔◌, ◌⊎◌, Bool, true, false, [], ◌∷◌, ◌++◌, length, refl, sym, ap, ◌∙◌, subst, inl, inr, ⊎_elim, arith, IsTrue, Contains}
use Rattle.std.proofs.lemmas.List.Elements.{Contains-append_left, Contains-push, Contains-push_cases}
use Rattle.fz_model.specs.State.{Map, Object}
use Rattle.fz_model.specs.Reachability.{Child, Leads, Itself, OneMore}
use Rattle.fz_pass.specs.Marks.{IsClosed}
use Rattle.fz_pass.specs.Marks as pass
use Rattle.own_heap.specs.declared.marks.Marks.{Marks}
use Rattle.own_heap.specs.Marking.{is_in, is_marked, Gains, IsRead, IsTracing}

nothing_waits : (a : ℕ) → Contains [] a → ⊥
nothing_waits a h = absurd (omega (arith, h.1))

-- one that waited is read
module _ (objects : Map Object) (first c popped new : Marks) (x : ℕ) (t : IsTracing objects first c) (same : popped.marked ≡ c.marked) (waiting : c.waiting.items ≡ popped.waiting.items ++ x ∷ []) (g : Gains popped new (Child objects x)) where
  to_popped : (a : ℕ) → IsTrue (is_marked c a) → IsTrue (is_marked popped a)
  to_popped a h = ap (λ m. is_in m.items a) same ∙ h

  from_popped : (a : ℕ) → IsTrue (is_marked popped a) → IsTrue (is_marked c a)
  from_popped a h = sym (ap (λ m. is_in m.items a) same) ∙ h

  itself : IsTrue (is_marked c x)
  itself = t.waiting x (subst (λ ws. Contains ws x) (sym waiting) (Contains-push popped.waiting.items x))

  old_read : (a : ℕ) → IsTrue (is_marked c a) → Contains new.waiting.items a ⊎ IsRead objects new a
  old_read a h =
      ⊎_elim
      (λ waits. ⊎_elim (λ rest. inl ((g.waiting a).1 (inl rest))) (λ is. inr (λ b child. (g.marked b).1 (inr (subst (λ y. Child objects y b) (sym is) child)))) (Contains-push_cases popped.waiting.items x a (subst (λ ws. Contains ws a) waiting waits)))
      (λ done. inr (λ b child. (g.marked b).1 (inl (to_popped b (done b child)))))
      (t.read a h)

  pub tracing_goes_on : IsTracing objects first new
  tracing_goes_on = record {
    size = g.size ∙ ap (λ m. length m.items) same ∙ t.size;
    kept = λ a h. (g.marked a).1 (inl (to_popped a (t.kept a h)));
    led = λ a h. ⊎_elim (λ old. t.led a (from_popped a old)) (λ child. let from = t.led x itself in (from.0, from.1, OneMore from.2 child)) ((g.marked a).0 h);
    waiting = λ a h. ⊎_elim (λ old. (g.marked a).1 (inl (to_popped a (t.waiting a (subst (λ ws. Contains ws a) (sym waiting) (Contains-append_left popped.waiting.items (x ∷ []) a old)))))) (λ both. both.0) ((g.waiting a).0 h);
    read = λ a h. at a h (is_marked popped a) refl;
  }
    where
      at : (a : ℕ) → IsTrue (is_marked new a) → (b : Bool) → is_marked popped a ≡ b → Contains new.waiting.items a ⊎ IsRead objects new a
      at a h true on = old_read a (from_popped a on)
      at a h false off = inl ((g.waiting a).1 (inr (h, off)))

-- nothing changes
pub tracing_still : (objects : Map Object) (first c new : Marks) → IsTracing objects first c → new.marked ≡ c.marked → new.waiting.items ≡ c.waiting.items → IsTracing objects first new
tracing_still objects first c new t same waits =
    let on : (a : ℕ) → is_marked new a ≡ is_marked c a = λ a. ap (λ m. is_in m.items a) same in
    record {
      size = ap (λ m. length m.items) same ∙ t.size;
      kept = λ a h. on a ∙ t.kept a h;
      led = λ a h. t.led a (sym (on a) ∙ h);
      waiting = λ a h. on a ∙ t.waiting a (subst (λ ws. Contains ws a) waits h);
      read = λ a h. ⊎_elim (λ w. inl (subst (λ ws. Contains ws a) (sym waits) w)) (λ done. inr (λ b child. on b ∙ done b child)) (t.read a (sym (on a) ∙ h));
    }

-- some records came to closed marks, where none waited
module _ (objects : Map Object) (old added : Marks) (seed : ℕ → Type 0) (closed : IsClosed objects (is_marked old)) (idle : old.waiting.items ≡ []) (g : Gains old added seed) where
  pub tracing_begins : IsTracing objects added added
  tracing_begins = record {
    size = refl;
    kept = λ a h. h;
    led = λ a h. (a, h, Itself);
    waiting = λ a h. ⊎_elim (λ before. absurd (nothing_waits a (subst (λ ws. Contains ws a) idle before))) (λ both. both.0) ((g.waiting a).0 h);
    read = λ a h. at a h (is_marked old a) refl;
  }
    where
      at : (a : ℕ) → IsTrue (is_marked added a) → (b : Bool) → is_marked old a ≡ b → Contains added.waiting.items a ⊎ IsRead objects added a
      at a h true on = inr (λ b child. (g.marked b).1 (inl (closed a b on child)))
      at a h false off = inl ((g.waiting a).1 (inr (h, off)))

  stays : (from a : ℕ) → IsTrue (is_marked old from) → Leads objects from a → IsTrue (is_marked old a)
  stays from a h Itself = h
  stays from a h (OneMore {b = b} leads child) = closed b a (stays from b h leads) child

  module _ (new : Marks) (t : IsTracing objects added new) (none : new.waiting.items ≡ []) where
    pub closed_now : IsClosed objects (is_marked new)
    closed_now a b h child = ⊎_elim (λ waits. absurd (nothing_waits a (subst (λ ws. Contains ws a) none waits))) (λ done. done b child) (t.read a h)

    follow : (from a : ℕ) → IsTrue (is_marked new from) → Leads objects from a → IsTrue (is_marked new a)
    follow from a h Itself = h
    follow from a h (OneMore {b = b} leads child) = closed_now b a (follow from b h leads) child

    pub traced : (a : ℕ) → IsTrue (is_marked new a) ↔ (IsTrue (is_marked old a) ⊎ ((from : ℕ) × seed from × Leads objects from a))
    traced a = (
      λ h.
          let from = t.led a h in
          ⊎_elim (λ was. inl (stays from.0 a was from.2)) (λ new. inr (from.0, new, from.2)) ((g.marked from.0).0 from.1),
      ⊎_elim (λ was. t.kept a ((g.marked a).1 (inl was))) (λ (from, new, leads). follow from a (t.kept from ((g.marked from).1 (inr new))) leads),
    )

    -- in the words of a pass
    pub marks_as : (P : ℕ → Type 0) → ((a : ℕ) → ((from : ℕ) × seed from × Leads objects from a) ↔ P a) → pass.Marks (Unit {0}) objects (is_marked old) (is_marked new) P
    marks_as P both = record {
      closed = closed_now;
      least = λ a h. (traced a).1 (⊎_elim inl (λ p. inr ((both a).1 p)) h);
      most = λ _ a h. ⊎_elim inl (λ s. inr ((both a).0 s)) ((traced a).0 h);
    }

-- one whose children are marked, but maybe itself, is marked
pub marks_alone : (objects : Map Object) (old new : Marks) (x : ℕ) → IsClosed objects (is_marked old) → pass.IsLastToMark objects (is_marked old) x → ((a : ℕ) → IsTrue (is_marked new a) ↔ (IsTrue (is_marked old a) ⊎ (a ≡ x))) → pass.Marks (Unit {0}) objects (is_marked old) (is_marked new) (λ a. a ≡ x)
marks_alone objects old new x closed last marked = record {
  closed = λ a b on child. ⊎_elim (λ was. (marked b).1 (inl (closed a b was child))) (λ same. (marked b).1 (last b (OneMore Itself (subst (λ y. Child objects y b) same child)))) ((marked a).0 on);
  least = λ a. (marked a).1;
  most = λ _ a. (marked a).0;
}
