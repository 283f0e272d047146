-- Objects that are to be queued are marked, with all that they lead to, one object after another.
use Rattle.std.proofs.Common.{◌≡◌, ◌⊎◌, ◌∷◌, ◌∙◌, ℕ, Bool, true, false, not, List, Some, sym, ap, subst, inl, inr, ⊎_elim, IsTrue}
use Rattle.std.proofs.lemmas.Bool.{both_ways}
use Rattle.std.specs.FinMap.{get}
use Rattle.fz_model.specs.declared.answers.Registration.{Registration}
use Rattle.fz_model.specs.State.{Map, Object}
use Rattle.fz_model.specs.Reachability.{Leads}
use Rattle.fz_pass.specs.Marks.{AreReached, IsClosed, Marks}
use Rattle.fz_machine.specs.declared.item.Item.{Item}
use Rattle.fz_machine.specs.Graph.{Graph}
use Rattle.fz_machine.proofs.Among.{OneOf}

module _ (E : Type 0) (clear : Map Object) (all : Map Registration) (marked : ℕ → Bool) (skip : ℕ → Bool) where
  -- what the items that are done lead to is marked
  pub record AreReaching (left : List Item) (h : Graph) : Type 0 where
    pub objects : h.objects ≡ clear
    pub closed : IsClosed clear h.marked
    pub least : (a : ℕ) → IsTrue (marked a) → IsTrue (h.marked a)
    pub most : E → (a : ℕ) → IsTrue (h.marked a) → IsTrue (marked a) ⊎ AreReached clear all skip a
    pub reached : (o : ℕ) (r : Registration) → get all o ≡ Some r → skip o ≡ false → OneOf (λ (i : Item). i.object ≡ o) left ⊎ ((a : ℕ) → Leads clear o a → IsTrue (h.marked a))

  pub reaching_begins : (items : List Item) (h : Graph) → h.objects ≡ clear → h.marked ≡ marked → IsClosed clear marked
      → ((o : ℕ) (r : Registration) → get all o ≡ Some r → skip o ≡ false → OneOf (λ (i : Item). i.object ≡ o) items) → AreReaching items h
  reaching_begins items h objects same closed listed = record {
    objects = objects;
    closed = subst (IsClosed clear) (sym same) closed;
    least = λ a on. subst (λ (m : ℕ → Bool). IsTrue (m a)) (sym same) on;
    most = λ exact a on. inl (subst (λ (m : ℕ → Bool). IsTrue (m a)) same on);
    reached = λ o r here off. inl (listed o r here off);
  }

  module _ (item : Item) (left : List Item) (h new : Graph) (l : AreReaching (item ∷ left) h) where
    -- one is passed over
    pub reach_none : skip item.object ≡ true → new ≡ h → AreReaching left new
    reach_none apart same = subst (AreReaching left) (sym same) (record {
      objects = l.objects;
      closed = l.closed;
      least = l.least;
      most = l.most;
      reached = λ o r here off. ⊎_elim (by o off) inr (l.reached o r here off);
    })
      where
        by : (o : ℕ) → skip o ≡ false → OneOf (λ (i : Item). i.object ≡ o) (item ∷ left) → OneOf (λ (i : Item). i.object ≡ o) left ⊎ ((a : ℕ) → Leads clear o a → IsTrue (h.marked a))
        by o off (inl at) = absurd (both_ways (skip o) off (ap skip (sym at) ∙ apart))
        by o off (inr k) = inl k

    -- one more is marked
    pub reach_more : (r : Registration) → get all item.object ≡ Some r → skip item.object ≡ false → new.objects ≡ h.objects → Marks E clear h.marked new.marked (Leads clear item.object) → AreReaching left new
    reach_more r here off same m = record {
      objects = same ∙ l.objects;
      closed = m.closed;
      least = λ a on. m.least a (inl (l.least a on));
      most = λ exact a on. ⊎_elim (l.most exact a) (λ leads. inr (item.object, r, here, ap not off, leads)) (m.most exact a on);
      reached = λ o s there un. ⊎_elim (by o) (λ f. inr (λ a leads. m.least a (inl (f a leads)))) (l.reached o s there un);
    }
      where
        by : (o : ℕ) → OneOf (λ (i : Item). i.object ≡ o) (item ∷ left) → OneOf (λ (i : Item). i.object ≡ o) left ⊎ ((a : ℕ) → Leads clear o a → IsTrue (new.marked a))
        by o (inl at) = inr (λ a leads. m.least a (inr (subst (λ x. Leads clear x a) (sym at) leads)))
        by o (inr k) = inl k
