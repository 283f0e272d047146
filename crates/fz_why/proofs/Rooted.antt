-- Roots, in the words of a search and in those of an answer.
use Rattle.std.proofs.Common.{◌≡◌, ℕ, ◌↔◌, ◌⊎◌, List, refl, sym, ap, ◌∙◌, inl, inr, ⊎_elim}
use Rattle.fz_model.specs.State.{Map, Object}
use Rattle.fz_model.specs.Memory.{points}
use Rattle.fz_finalizers.specs.States.{State, unfinished}
use Rattle.fz_why.specs.declared.origin.Origin.{Origin}
use Rattle.fz_why.specs.declared.origin.Origin.TheVariants.{Root}
use Rattle.fz_why.specs.declared.reason.RootOf.{RootOf}
use Rattle.fz_why.specs.declared.reason.RootOf.TheVariants.{Host, RegisteredData, CleanupData, HeldObject, HeldData}
use Rattle.fz_why.specs.Why.{IsRooted}
use Rattle.fz_why.specs.Trail.{IsByHost, IsByRegistration, IsByCleanup, IsByEntry, IsByRoot}

module _ (objects : Map Object) (roots : List ℕ) (s : State) where
  -- by a root of one of the four sorts
  abbrev pub Comes : Origin → ℕ → Type 0
  Comes o b = ((IsByHost objects roots o b ⊎ IsByRegistration objects s.registrations o b) ⊎ IsByCleanup objects s.cleanups o b) ⊎ IsByEntry objects (unfinished s) o b

  by_entry : (o : Origin) (b : ℕ) → IsByEntry objects (unfinished s) o b → IsByRoot objects roots s o b
  by_entry o b h =
      ⊎_elim (λ q. (HeldObject h.0.seq, q.0, (h.0.obj, (h.0, h.1, refl, refl), q.1))) (λ q. (HeldData h.0.seq, q.0, (h.0.cd, (h.0, h.1, refl, refl), q.1))) h.2

  to_comes : (o : Origin) (b : ℕ) (root : RootOf) → o ≡ Root root → IsRooted objects roots s root b → Comes o b
  to_comes o b (Host index) is h = inl (inl (inl (index, h.0, h.1, is, h.2)))
  to_comes o b (RegisteredData number) is h =
      let r = h.1 in
      inl (inl (inr (r.0, r.1, r.2, is ∙ ap (λ n. Root (RegisteredData n)) (sym r.3), ap (points objects) r.4 ∙ h.2)))
  to_comes o b (CleanupData number) is h = let r = h.1 in inl (inr (number, r.0, r.1, is, ap (points objects) r.2 ∙ h.2))
  to_comes o b (HeldObject seq) is h = let r = h.1 in inr (r.0, r.1, inl (is ∙ ap (λ n. Root (HeldObject n)) (sym r.2), ap (points objects) r.3 ∙ h.2))
  to_comes o b (HeldData seq) is h = let r = h.1 in inr (r.0, r.1, inr (is ∙ ap (λ n. Root (HeldData n)) (sym r.2), ap (points objects) r.3 ∙ h.2))

  pub comes_by_root : (o : Origin) (b : ℕ) → Comes o b ↔ IsByRoot objects roots s o b
  comes_by_root o b = (
    ⊎_elim
        (⊎_elim (⊎_elim (λ h. (Host h.0, h.3, (h.1, h.2, h.4))) (λ h. (RegisteredData h.1.number, h.3, (h.1.cd, (h.0, h.1, h.2, refl, refl), h.4))))
        (λ h. (CleanupData h.0, h.3, (h.1.cleanup.client_data, (h.1, h.2, refl), h.4))))
        (by_entry o b),
    λ h. to_comes o b h.0 h.1 h.2,
  )
