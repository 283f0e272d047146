-- What an answer marks of a picked object.
use Rattle.std.proofs.Common.{◌≡◌, ◌⊎◌, ◌∙◌, ℕ, Bool, false, Some, refl, sym, ap, subst, inl, inr, IsTrue, Option}
use Rattle.std.specs.FinMap.{contains_key}
use Rattle.fz_model.specs.declared.kinds.RegKind.{RegKind}
use Rattle.fz_model.specs.declared.kinds.RegKind.TheVariants as table
use Rattle.fz_model.specs.State.{Map, Object}
use Rattle.fz_model.specs.Reachability.{Leads}
use Rattle.fz_pass.specs.Leading.{IsLeading}
use Rattle.fz_pass.specs.Marks.{IsClosed, Marks, IsLastToMark}
use Rattle.fz_pass.proofs.Marking.{last_to_mark, marks_last}
use Rattle.fz_finalizers.specs.Kinds.{of_table}
use Rattle.fz_machine.specs.declared.question.Ask.TheVariants.{MarkAlone}
use Rattle.fz_machine.specs.Graph.{Graph, CanMark, IsHonest}
use Rattle.fz_machine.specs.Phases.{pick_ask}

module _ (E : Type 0) (word_of : ℕ → Option ℕ) (value : Map Object → ℕ → Option ℕ) (clear : Map Object) (o : ℕ) (h new : Graph) (objects : h.objects ≡ clear) (closed : IsClosed clear h.marked) (there : IsTrue (contains_key clear o)) where
  pub can_mark : CanMark h o
  can_mark = (ap (λ (m : Map Object). contains_key m o) objects ∙ there, subst (λ (m : Map Object). IsClosed m h.marked) (sym objects) closed)

  abbrev Marked : Type 0
  Marked = (new.objects ≡ h.objects) × Marks E clear h.marked new.marked (Leads clear o)

  pub marked_alone : (kind : RegKind) → (kind ≡ table.Normal) ⊎ (kind ≡ table.IgnoreSelf) → ((a : ℕ) → IsLeading clear o kind a → IsTrue (h.marked a)) → (answer : Bool) → IsHonest E word_of value (Some MarkAlone) o h answer new → Marked
  marked_alone kind is led answer honest =
      let last = last_to_mark E clear h.marked o kind is led in
      let gains = honest (can_mark, subst (λ (m : Map Object). IsLastToMark m h.marked o) (sym objects) last) in
      (gains.0, marks_last E clear h.marked new.marked o last (subst (λ (m : Map Object). Marks E m h.marked new.marked (λ a. a ≡ o)) objects gains.1))

  pub marked_by_kind : (kind : RegKind) → ((a : ℕ) → IsLeading clear o kind a → IsTrue (h.marked a)) → (answer : Bool) → IsHonest E word_of value (pick_ask (of_table false kind)) o h answer new → Marked
  marked_by_kind table.Normal led answer honest = marked_alone table.Normal (inl refl) led answer honest
  marked_by_kind table.IgnoreSelf led answer honest = marked_alone table.IgnoreSelf (inr refl) led answer honest
  marked_by_kind table.NoOrder led answer honest = let gains = honest can_mark in (gains.0, subst (λ (m : Map Object). Marks E m h.marked new.marked (Leads m o)) objects gains.1)
