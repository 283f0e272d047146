-- The children of unmarked objects are marked, one object after another.
use Rattle.std.proofs.Common.{◌≡◌, ◌⊎◌, ◌∷◌, ◌∙◌, [], ℕ, Bool, true, false, not, List, Some, refl, sym, ap, subst, inl, inr, ⊎_elim, is_some, IsTrue, Option}
use Rattle.std.proofs.lemmas.Bool.{and_parts, and_from, not-true}
use Rattle.std.proofs.lemmas.Option.{same_Some}
use Rattle.std.specs.FinMap.{get, contains_key}
use Rattle.std.specs.FinSet.{contains}
use Rattle.fz_model.specs.declared.answers.Registration.{Registration}
use Rattle.fz_model.specs.declared.kinds.RegKind.{RegKind}
use Rattle.fz_model.specs.declared.kinds.RegKind.TheVariants as table
use Rattle.fz_model.specs.State.{Map, Object}
use Rattle.fz_model.specs.Pass.{is_outside}
use Rattle.fz_table.specs.Tabled.{Set}
use Rattle.fz_pass.specs.Flagged.{AreNormal}
use Rattle.fz_pass.specs.Leading.{IsLeading, AreLeading, is_unreachable}
use Rattle.fz_pass.specs.Marks.{IsClosed, Marks, IsLeadingBut, AreRegistered}
use Rattle.fz_pass.specs.Queued.{MarksLed}
use Rattle.fz_pass.proofs.Marking.{marks_as, marks_none, by_normal, by_ignoring, by_none}
use Rattle.fz_finalizers.specs.declared.kinds.Kind.{Kind}
use Rattle.fz_finalizers.specs.Kinds.{of_table}
use Rattle.fz_machine.specs.declared.item.Item.{Item}
use Rattle.fz_machine.specs.Graph.{Graph, CanMark, Gains, IsHonest}
use Rattle.fz_machine.specs.Phases.{child_ask}
use Rattle.fz_machine.proofs.Among.{OneOf}
use Rattle.fz_machine.proofs.Entered.{IsOfEither}

module _ (E : Type 0) (word_of : ℕ → Option ℕ) (value : Map Object → ℕ → Option ℕ) (clear : Map Object) (all : Map Registration) (late : Set) (found : ℕ → Bool) where
  abbrev IsLed : ℕ → Type 0
  IsLed a = AreLeading clear all (is_unreachable clear all found) a

  -- what the items that are done lead to is marked
  pub record AreLed (left : List Item) (h : Graph) : Type 0 where
    pub objects : h.objects ≡ clear
    pub closed : IsClosed clear h.marked
    pub least : (a : ℕ) → IsTrue (found a) → IsTrue (h.marked a)
    pub most : E → (a : ℕ) → IsTrue (h.marked a) → IsTrue (found a) ⊎ IsLed a
    pub led : (o : ℕ) (r : Registration) → get all o ≡ Some r → found o ≡ false → OneOf (λ (i : Item). i.object ≡ o) left ⊎ ((a : ℕ) → IsLeading clear o r.kind a → IsTrue (h.marked a))

  pub leading_begins : (items : List Item) (h : Graph) → h.objects ≡ clear → h.marked ≡ found → IsClosed clear found
      → ((o : ℕ) → IsTrue (contains_key all o) → found o ≡ false → OneOf (λ (i : Item). i.object ≡ o) items) → AreLed items h
  leading_begins items h objects marked closed listed = record {
    objects = objects;
    closed = subst (IsClosed clear) (sym marked) closed;
    least = λ a on. subst (λ (m : ℕ → Bool). IsTrue (m a)) (sym marked) on;
    most = λ exact a on. inl (subst (λ (m : ℕ → Bool). IsTrue (m a)) marked on);
    led = λ o r here off. inl (listed o (ap is_some here) off);
  }

  module _ (registered : AreRegistered clear all) (normal : AreNormal all (contains late)) where
    is_there : (o : ℕ) (r : Registration) → get all o ≡ Some r → IsTrue (contains_key clear o)
    is_there o r here = registered o r here

    -- all that are led to are marked, once none is left
    pub led_all : (h : Graph) → AreLed [] h → MarksLed E clear found h.marked all
    led_all h l = record {
      closed = l.closed;
      least = λ a. ⊎_elim (l.least a) (λ (o, r, here, on, leads). ⊎_elim (λ none. absurd none) (λ f. f a leads)
          (l.led o r here (not-true (found o) (and_parts (contains_key clear o) (not (found o)) (and_parts (contains_key all o) (is_outside clear found o) on).1).1)));
      most = l.most;
    }

    module _ (item : Item) (left : List Item) (h new : Graph) (l : AreLed (item ∷ left) h) (off : found item.object ≡ false) where
      -- one more object's
      leads_on : (r : Registration) → get all item.object ≡ Some r → new.objects ≡ h.objects → Marks E clear h.marked new.marked (IsLeading clear item.object r.kind) → AreLed left new
      leads_on r here same m = record {
        objects = same ∙ l.objects;
        closed = m.closed;
        least = λ a on. m.least a (inl (l.least a on));
        most = λ exact a on. ⊎_elim (l.most exact a) (λ leads. inr (item.object, r, here, unreachable, leads)) (m.most exact a on);
        led = λ o s there un. ⊎_elim (by o s there) (λ f. inr (λ a leads. m.least a (inl (f a leads)))) (l.led o s there un);
      }
        where
          unreachable : IsTrue (is_unreachable clear all found item.object)
          unreachable = and_from (contains_key all item.object) (is_outside clear found item.object) (ap is_some here) (and_from (contains_key clear item.object) (not (found item.object)) (is_there item.object r here) (ap not off))

          by : (o : ℕ) (s : Registration) → get all o ≡ Some s → OneOf (λ (i : Item). i.object ≡ o) (item ∷ left) → OneOf (λ (i : Item). i.object ≡ o) left ⊎ ((a : ℕ) → IsLeading clear o s.kind a → IsTrue (new.marked a))
          by o s there (inl at) =
              let one : s ≡ r = same_Some s r (sym there ∙ ap (get all) (sym at) ∙ here) in
              inr (λ a leads. m.least a (inr (subst (λ x. IsLeading clear x r.kind a) (sym at) (subst (λ (q : Registration). IsLeading clear o q.kind a) one leads))))
          by o s there (inr k) = inl k

      pub can_mark : (r : Registration) → get all item.object ≡ Some r → CanMark h item.object
      can_mark r here = (ap (λ (m : Map Object). contains_key m item.object) l.objects ∙ is_there item.object r here, subst (λ (m : Map Object). IsClosed m h.marked) (sym l.objects) l.closed)

      gains : (P : Map Object → ℕ → Type 0) → Gains E h new (P h.objects) → Marks E clear h.marked new.marked (P clear)
      gains P g = subst (λ (m : Map Object). Marks E m h.marked new.marked (P m)) l.objects g.1

      -- by its kind
      by_kind : (r : Registration) → get all item.object ≡ Some r → (kind : RegKind) → r.kind ≡ kind → (answer : Bool) → IsHonest E word_of value (child_ask (of_table false kind)) item.object h answer new → AreLed left new
      by_kind r here table.Normal is answer honest =
          let g = honest (can_mark r here) in
          leads_on r here g.0 (subst (λ k. Marks E clear h.marked new.marked (IsLeading clear item.object k)) (sym is)
          (marks_as E clear h.marked new.marked _ _ (by_normal E clear item.object) (gains (λ m. IsLeadingBut m false item.object) g)))
      by_kind r here table.IgnoreSelf is answer honest =
          let g = honest (can_mark r here) in
          leads_on r here g.0 (subst (λ k. Marks E clear h.marked new.marked (IsLeading clear item.object k)) (sym is)
          (marks_as E clear h.marked new.marked _ _ (by_ignoring E clear item.object) (gains (λ m. IsLeadingBut m true item.object) g)))
      by_kind r here table.NoOrder is answer same =
          leads_on r here (ap (λ (x : Graph). x.objects) same) (subst (λ (x : Graph). Marks E clear h.marked x.marked (IsLeading clear item.object r.kind)) (sym same)
          (marks_none E clear h.marked (IsLeading clear item.object r.kind) l.closed (λ a leads. absurd (by_none E clear item.object a (subst (λ k. IsLeading clear item.object k a) is leads)))))

      pub lead_more : IsOfEither all late item → (answer : Bool) → IsHonest E word_of value (child_ask item.kind) item.object h answer new → AreLed left new
      lead_more (inl (r, here, off, is)) answer honest = by_kind r here r.kind refl answer (subst (λ (k : Kind). IsHonest E word_of value (child_ask k) item.object h answer new) (ap (λ (i : Item). i.kind) is) honest)
      lead_more (inr (r, here, on, is)) answer honest =
          by_kind r here table.Normal (normal item.object r here on) answer (subst (λ (k : Kind). IsHonest E word_of value (child_ask k) item.object h answer new) (ap (λ (i : Item). i.kind) is) honest)
