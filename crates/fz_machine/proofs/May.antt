-- What a host may be asked in each phase of a pass over a graph.
use Rattle.std.proofs.Common.{◌≡◌, ◌⊎◌, ◌∷◌, ◌∙◌, ℕ, false, List, Some, refl, sym, ap, subst, inl, inr, ⊎_elim, not, IsTrue, Option}
use Rattle.std.specs.FinMap.{get}
use Rattle.fz_model.specs.declared.answers.Registration.{Registration}
use Rattle.fz_model.specs.declared.kinds.RegKind.{RegKind}
use Rattle.fz_model.specs.declared.kinds.RegKind.TheVariants as table
use Rattle.fz_model.specs.State.{Map, Object}
use Rattle.fz_pass.specs.Leading.{IsLeading}
use Rattle.fz_pass.specs.Marks.{IsLastToMark}
use Rattle.fz_pass.proofs.Marking.{last_to_mark}
use Rattle.fz_finalizers.specs.declared.kinds.Kind.{Kind}
use Rattle.fz_finalizers.specs.declared.kinds.Kind.TheVariants.{Normal, IgnoreSelf, NoOrder, Unreachable}
use Rattle.fz_finalizers.specs.Kinds.{of_table}
use Rattle.fz_finalizers.specs.States.{State}
use Rattle.fz_machine.specs.declared.item.Item.{Item}
use Rattle.fz_machine.specs.declared.phase.Moment.{Moment}
use Rattle.fz_machine.specs.declared.phase.Moment.TheVariants as moments
use Rattle.fz_machine.specs.declared.phase.Phase.{Phase}
use Rattle.fz_machine.specs.declared.phase.Phase.TheVariants.{Keys, KeysAgain, Holders, Values, Regions, ShortCleanups, ShortTargets, ShortWords, ShortKeys, ShortKeyWords, Objects, Children, Again, Picks, Entries, LateAgain, LatePicks, LongTargets, LongWords, LongKeys, LongKeyWords, ShortHolders, LongHolders, ShortKeyHolders, LongKeyHolders, LongCleanups}
use Rattle.fz_machine.specs.declared.question.Ask.TheVariants.{MarkAlone}
use Rattle.fz_machine.specs.Graph.{Graph, CanMark, MayAsk, graph_of}
use Rattle.fz_machine.specs.Off.{PutOff}
use Rattle.fz_machine.specs.Phases.{ask_of, child_ask, pick_ask, subject}
use Rattle.fz_machine.proofs.Begun.{HasBegun, late_led, late_there, normal, others_led, registered}
use Rattle.fz_machine.proofs.Entered.{IsOfEither}
use Rattle.fz_machine.proofs.Cleaning.{after_due}
use Rattle.fz_machine.proofs.Led.{can_mark}
use Rattle.fz_machine.proofs.Parted.{IsAllowed}
use Rattle.fz_machine.proofs.Phased as phased
use Rattle.fz_machine.proofs.Phased.{LeadsOn, PicksLate, PicksOn, clear, judged}
use Rattle.fz_machine.proofs.Choosing as choosing
use Rattle.fz_machine.proofs.Opening.{IsFollowing, IsIn, IsOpening, begin_found}
use Rattle.fz_machine.proofs.Rounds as rounds
use Rattle.fz_machine.proofs.Waiting.{looks_may}

child_may : (k : Kind) (o : ℕ) (h : Graph) → CanMark h o → IsAllowed (child_ask k) o h
child_may Normal o h can = can
child_may IgnoreSelf o h can = can
child_may NoOrder o h can = tt
child_may Unreachable o h can = can

module _ (E : Type 0) (word_of : ℕ → Option ℕ) (value : Map Object → ℕ → Option ℕ) (b : State) (before : Graph) (begin : HasBegun word_of value b before) where
  abbrev clearly : Map Object
  clearly = clear E word_of value b before

  alone_may : (o : ℕ) (h : Graph) (kind : RegKind) → (kind ≡ table.Normal) ⊎ (kind ≡ table.IgnoreSelf) → h.objects ≡ clearly → CanMark h o → ((a : ℕ) → IsLeading clearly o kind a → IsTrue (h.marked a)) → MayAsk MarkAlone o h
  alone_may o h kind is objects can led = (can, subst (λ (m : Map Object). IsLastToMark m h.marked o) (sym objects) (last_to_mark E clearly h.marked o kind is led))

  pick_may : (o : ℕ) (h : Graph) (kind : RegKind) → h.objects ≡ clearly → CanMark h o → ((a : ℕ) → IsLeading clearly o kind a → IsTrue (h.marked a)) → IsAllowed (pick_ask (of_table false kind)) o h
  pick_may o h table.Normal objects can led = alone_may o h table.Normal (inl refl) objects can led
  pick_may o h table.IgnoreSelf objects can led = alone_may o h table.IgnoreSelf (inr refl) objects can led
  pick_may o h table.NoOrder objects can led = can

  children_may : (s : State) (kept left : List Item) (item : Item) (h : Graph) → LeadsOn E word_of value b before s kept (item ∷ left) h → IsAllowed (child_ask item.kind) item.object h
  children_may s kept left item h p = by p.left_are.0.0
    where
      may_mark : (r : Registration) → get b.registrations item.object ≡ Some r → IsAllowed (child_ask item.kind) item.object h
      may_mark r here = child_may item.kind item.object h (can_mark E word_of value clearly b.registrations b.late before.marked (registered E word_of value b before begin) (normal E word_of value b before begin) item left h h p.are p.left_are.0.1 r here)

      by : IsOfEither b.registrations b.late item → IsAllowed (child_ask item.kind) item.object h
      by (inl other) = may_mark other.0 other.1
      by (inr late) = may_mark late.0 late.1

  picks_may : (s : State) (kept left : List Item) (item : Item) (h : Graph) → PicksOn E word_of value b before s kept (item ∷ left) h → IsAllowed (pick_ask item.kind) item.object h
  picks_may s kept left item h p = by p.left_are.0.0
    where
      by : IsOfEither b.registrations b.late item → IsAllowed (pick_ask item.kind) item.object h
      by (inl (r, here, off, is)) =
          subst (λ (k : Kind). IsAllowed (pick_ask k) item.object h) (sym (ap (λ (i : Item). i.kind) is))
          (pick_may item.object h r.kind p.are.objects
          (choosing.can_mark E word_of value clearly item.object h h p.are.objects p.are.closed (registered E word_of value b before begin item.object r here))
          (λ a leads. p.are.least a (others_led E word_of value b before begin p.leading item.object r here (ap not p.left_are.0.1) a leads)))
      by (inr late) = subst (λ (k : Kind). IsAllowed (pick_ask k) item.object h) (sym (ap (λ (i : Item). i.kind) late.3)) tt

  late_may : (s : State) (left : List Item) (item : Item) (h : Graph) → PicksLate E word_of value b before s (item ∷ left) h → MayAsk MarkAlone item.object h
  late_may s left item h p =
      let r = p.left_are.0.0.0 in
      let here = p.left_are.0.0.1 in
      let on = p.left_are.0.0.2 in
      alone_may item.object h r.kind (inl (normal E word_of value b before begin item.object r here on)) p.are.objects
      (choosing.can_mark E word_of value clearly item.object h h p.are.objects p.are.closed (registered E word_of value b before begin item.object r here))
      (λ a leads. p.are.least a (late_led E word_of value b before begin p.first item.object r (late_there E word_of value b before begin p.first item.object on ∙ here) (ap not p.left_are.0.1) a leads))

  settles_may : (moment : Moment) (phase : Phase) (s : State) (kept left aside : List Item) (off : PutOff) (item : Item) (h : Graph) → phased.IsSettling E word_of value b before moment phase s kept (item ∷ left) aside off h → IsAllowed (ask_of phase item) (subject phase item) h
  settles_may moments.First phase s kept left aside off item h p = absurd p
  settles_may moments.Led phase s kept left aside off item h (w, p) = looks_may E word_of value clearly (judged E word_of value b before) w.marked phase kept left off item h p
  settles_may moments.Picked phase s kept left aside off item h (w, p) = looks_may E word_of value clearly (judged E word_of value b before) w.marked phase kept left off item h p
  settles_may moments.Last phase s kept left aside off item h (w, p) = looks_may E word_of value clearly (judged E word_of value b before) w.marked phase kept left off item h p

  may : (phase : Phase) (s : State) (kept left aside : List Item) (off : PutOff) (item : Item) (h : Graph) → phased.IsIn E word_of value b before phase s kept (item ∷ left) aside off h → IsAllowed (ask_of phase item) (subject phase item) h
  may (Keys moment) s kept left aside off item h p = tt
  may (KeysAgain moment) s kept left aside off item h p = tt
  may (Holders moment) s kept left aside off item h p = tt
  may (Values moment) s kept left aside off item h p = settles_may moment (Values moment) s kept left aside off item h p
  may (Regions sweep) s kept left aside off item h p = absurd p
  may ShortCleanups s kept left aside off item h p = tt
  may ShortTargets s kept left aside off item h p = tt
  may ShortWords s kept left aside off item h p = tt
  may ShortKeys s kept left aside off item h p = tt
  may ShortKeyWords s kept left aside off item h p = tt
  may Objects s kept left aside off item h p = tt
  may Children s kept left aside off item h p = children_may s kept left item h p
  may Again s kept left aside off item h p = tt
  may Picks s kept left aside off item h p = picks_may s kept left item h p
  may Entries s kept left aside off item h p = tt
  may LateAgain s kept left aside off item h p = tt
  may LatePicks s kept left aside off item h p = late_may s left item h p
  may LongTargets s kept left aside off item h p = tt
  may LongWords s kept left aside off item h p = tt
  may LongKeys s kept left aside off item h p = tt
  may LongKeyWords s kept left aside off item h p = tt
  may ShortHolders s kept left aside off item h p = tt
  may LongHolders s kept left aside off item h p = tt
  may ShortKeyHolders s kept left aside off item h p = tt
  may LongKeyHolders s kept left aside off item h p = tt
  may LongCleanups s kept left aside off item h p = tt

module _ (E : Type 0) (word_of : ℕ → Option ℕ) (value : Map Object → ℕ → Option ℕ) (b : State) (before : Graph) (begin : HasBegun word_of value b before) where
  -- in the round over short cleanups, too
  may_in_rounds : (phase : Phase) (s : State) (kept left aside : List Item) (off : PutOff) (item : Item) (h : Graph) → rounds.IsIn E word_of value b before phase s kept (item ∷ left) aside off h → IsAllowed (ask_of phase item) (subject phase item) h
  may_in_rounds phase s kept left aside off item h p =
      ⊎_elim (λ (q : rounds.IsFirst E word_of value b before phase s (item ∷ left) h). subst (λ (o : Phase). IsAllowed (ask_of o item) (subject o item) h) (sym q.0) tt)
      (λ (q : rounds.IsBehind E word_of value b before phase s kept (item ∷ left) aside off h).
      may E word_of value (after_due b q.0) before (rounds.begin_behind E word_of value b before begin q.0) phase s kept left aside off item h q.2) p

module _ (E : Type 0) (word_of : ℕ → Option ℕ) (value : Map Object → ℕ → Option ℕ) (b : State) (before : Graph) (begin : HasBegun word_of value b before) where
  -- and before it, while the marks become whole
  pub may_ever : (phase : Phase) (s : State) (kept left aside : List Item) (off : PutOff) (item : Item) (h : Graph) → IsIn E word_of value b before phase s kept (item ∷ left) aside off h → IsAllowed (ask_of phase item) (subject phase item) h
  may_ever phase s kept left aside off item h p =
      ⊎_elim (λ (q : IsOpening E word_of value b before phase s kept (item ∷ left) off h). looks_may E word_of value before.objects b.ephemerons before.marked phase kept left off item h q.2)
      (λ (q : IsFollowing E word_of value b before phase s kept (item ∷ left) aside off h).
      may_in_rounds E word_of value b (graph_of before.objects q.0) (begin_found E word_of value b before begin q.0 q.1) phase s kept left aside off item h q.2) p
