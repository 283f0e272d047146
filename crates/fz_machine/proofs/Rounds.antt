-- What holds in each phase once the marks are whole: first in the round over short cleanups, and then in a pass over what it leaves.
use Rattle.std.proofs.Common.{◌≡◌, ◌⊎◌, ◌∷◌, ◌∙◌, [], ℕ, Bool, false, true≢false, List, Option, Some, None, refl, sym, ap, subst, inl, inr, ⊎_elim, IsTrue}
use Rattle.fz_model.specs.declared.kinds.LinkKind.TheVariants.{Short}
use Rattle.fz_model.specs.State.{Map, Object}
use Rattle.fz_finalizers.specs.declared.cleanups.Attached.{Attached}
use Rattle.fz_finalizers.specs.Cleanups.{AreDue, is_due}
use Rattle.fz_finalizers.specs.States.{State}
use Rattle.fz_finalizers.proofs.Cleaned.{without_back}
use Rattle.fz_machine.specs.declared.item.Item.{Item}
use Rattle.fz_machine.specs.declared.phase.Moment.{Moment}
use Rattle.fz_machine.specs.declared.phase.Phase.{Phase}
use Rattle.fz_machine.specs.declared.phase.Phase.TheVariants.{ShortCleanups, ShortTargets, Values}
use Rattle.fz_machine.specs.declared.phase.Sweep.TheVariants as sweeps
use Rattle.fz_machine.specs.declared.question.Ask.TheVariants.{Marks}
use Rattle.fz_machine.specs.Graph.{AreHonestWords, Graph, IsHonest}
use Rattle.fz_machine.specs.Items.{AreCleanups, AreLinks}
use Rattle.fz_machine.specs.Items as the
use Rattle.fz_machine.specs.Machines.{TellsIn}
use Rattle.fz_machine.specs.Off.{PutOff, looks_again, put_off}
use Rattle.fz_machine.specs.Phases.{after, ask_of, is_known, keeps, next_phase, settles, subject}
use Rattle.fz_machine.specs.Regions.{IsOfSweep}
use Rattle.fz_machine.proofs.Begun.{HasBegun, young_attached}
use Rattle.fz_machine.proofs.Cleaning.{Cleaning, after_due, cleaning_all, cleaning_begins, cleaning_on}
use Rattle.fz_machine.proofs.Among.{Each}
use Rattle.fz_machine.proofs.Honest.{IsFalseOf, Knows, knows, object_of}
use Rattle.fz_machine.proofs.Keeping as keeping
use Rattle.fz_machine.proofs.Parted.{AreOff, IsParted}
use Rattle.fz_machine.proofs.Phased as phased
use Rattle.fz_machine.proofs.Phasing.{kept_on, targets_begin}
use Rattle.fz_machine.proofs.Stated.{as_begun}
use Rattle.fz_machine.proofs.Swept.{Begins}
use Rattle.fz_machine.proofs.Turning as turning

module _ (E : Type 0) (word_of : ℕ → Option ℕ) (value : Map Object → ℕ → Option ℕ) (b : State) (before : Graph) where
  abbrev pub AreShort : List (ℕ × Attached) → Type 0
  AreShort = AreDue (is_due Short before.marked) b.cleanups

  -- the first round
  abbrev pub IsFirst : Phase → State → List Item → Graph → Type 0
  IsFirst phase s left h = (phase ≡ ShortCleanups) × Cleaning E word_of value Short b before.objects before.marked s left h × Each (IsFalseOf before.marked object_of) left

  -- the pass behind it, over what it leaves
  abbrev pub IsBehind : Phase → State → List Item → List Item → List Item → PutOff → Graph → Type 0
  IsBehind phase s kept left aside off h = (due : List (ℕ × Attached)) × AreShort due × phased.IsIn E word_of value (after_due b due) before phase s kept left aside off h

  abbrev pub IsIn : Phase → State → List Item → List Item → List Item → PutOff → Graph → Type 0
  IsIn phase s kept left aside off h = IsFirst phase s left h ⊎ IsBehind phase s kept left aside off h

  abbrev pub IsAtEnd : State → Graph → Type 0
  IsAtEnd s h = (due : List (ℕ × Attached)) × AreShort due × phased.IsAtEnd E word_of value (after_due b due) before s h

  -- the next phase, whatever it lists, or the end
  abbrev pub IsAfter : ℕ → Option Phase → State → List Item → List Item → PutOff → Graph → Type 0
  IsAfter from None s kept aside off h = IsAtEnd s h
  IsAfter from (Some p) s kept aside off h = Begins word_of IsIn from p s kept aside off h

  module _ (begin : HasBegun word_of value b before) where
    abbrev pub begin_behind : (due : List (ℕ × Attached)) → HasBegun word_of value (after_due b due) before
    begin_behind due = record {
      may = record { registered = begin.registered; short = begin.short; long = begin.long; short_keys = begin.short_keys; long_keys = begin.long_keys; zero = begin.zero; closed = begin.closed; births = begin.births; starts = begin.starts; apart = begin.apart; values = begin.values };
      flags = begin.flags;
      single = begin.single;
      from = begin.from;
      seen = record { registered = begin.seen.registered; attached = λ number c here lt. begin.seen.attached number c (without_back b.cleanups due number c here).0 lt };
    }

    pub keep : (phase : Phase) (s : State) (kept left aside : List Item) (off : PutOff) (item : Item) (h new : Graph) → IsIn phase s kept (item ∷ left) aside off h → (answer : Bool)
        → IsHonest E word_of value (ask_of phase item) (subject phase item) h answer new
        → IsIn phase (after phase item answer s) (kept_on (keeps phase item answer) kept item) left aside (put_off phase item answer off) new
    keep phase s kept left aside off item h new p answer honest = ⊎_elim first behind p
      where
        first : IsFirst phase s (item ∷ left) h → IsIn phase (after phase item answer s) (kept_on (keeps phase item answer) kept item) left aside (put_off phase item answer off) new
        first (is, c, known) =
            let told = subst (λ (q : Phase). IsHonest E word_of value (ask_of q item) (subject q item) h answer new) is honest in
            inl (is, subst (λ (q : Phase). Cleaning E word_of value Short b before.objects before.marked (after q item answer s) left new) (sym is) (cleaning_on E word_of value Short b before.objects before.marked s left item h new c answer told), known.1)

        behind : IsBehind phase s kept (item ∷ left) aside off h → IsIn phase (after phase item answer s) (kept_on (keeps phase item answer) kept item) left aside (put_off phase item answer off) new
        behind (due, are, q) = inr (due, are, keeping.keep E word_of value (after_due b due) before (begin_behind due) phase s kept left aside off item h new q answer honest)

    -- an item that isn't asked about would be answered by false
    pub known_so : (phase : Phase) (s : State) (kept left aside : List Item) (off : PutOff) (item : Item) (h : Graph) → IsIn phase s kept (item ∷ left) aside off h → IsTrue (is_known phase item)
        → IsHonest E word_of value (ask_of phase item) (subject phase item) h false h
    known_so phase s kept left aside off item h p is = ⊎_elim first behind p
      where
        first : IsFirst phase s (item ∷ left) h → IsHonest E word_of value (ask_of phase item) (subject phase item) h false h
        first (at, c, known) = subst (λ (q : Phase). IsHonest E word_of value (ask_of q item) (subject q item) h false h) (sym at)
            (λ may. (sym (ap (λ (m : ℕ → Bool). m item.object) c.marks_are ∙ known.0 (subst (λ (q : Phase). IsTrue (is_known q item)) at is)), refl))

        behind : IsBehind phase s kept (item ∷ left) aside off h → IsHonest E word_of value (ask_of phase item) (subject phase item) h false h
        behind (due, are, q) = keeping.known_so E word_of value (after_due b due) before (begin_behind due) phase s kept left aside off item h q is

    -- the host tells a key
    pub told : (key : ℕ) (phase : Phase) (s : State) (kept left aside : List Item) (was now : PutOff) (h : Graph) → TellsIn (Some phase) key was now → IsIn phase s kept left aside was h → IsIn phase s kept left aside now h
    told key phase s kept left aside was now h tells p =
        ⊎_elim (λ (q : IsFirst phase s left h). inl q) (λ (q : IsBehind phase s kept left aside was h). inr (q.0, q.1, keeping.told E word_of value (after_due b q.0) before (begin_behind q.0) key phase s kept left aside was now h tells q.2)) p

    -- behind the first round short links are asked about
    links_begin : (s : State) (h : Graph) → Cleaning E word_of value Short b before.objects before.marked s [] h → (told : List (ℕ × ℕ)) → AreHonestWords word_of Marks (IsOfSweep sweeps.ShortTargets s) h told
        → (items : List Item) → AreLinks the.target_of told s.short items → (aside : List Item) (off : PutOff) → IsIn ShortTargets s [] items aside off h
    links_begin s h c told true_words items are aside off =
        let cleans = cleaning_all E word_of value Short b before.objects before.marked s h c in
        let n = after_due b cleans.0 in
        let listed : AreLinks the.target_of told b.short items = subst (λ (t : State). AreLinks the.target_of told t.short items) cleans.2 are in
        let known : Knows before.marked (IsOfSweep sweeps.ShortTargets n) told =
        subst (λ (m : ℕ → Bool). Knows m (IsOfSweep sweeps.ShortTargets n) told) c.marks_are
        (subst (λ (t : State). Knows h.marked (IsOfSweep sweeps.ShortTargets t) told) cleans.2 (knows word_of Marks (IsOfSweep sweeps.ShortTargets s) h told true_words)) in
        inr (cleans.0, cleans.1, targets_begin E word_of value _ before.objects b.short before.marked told known s items h (cleans.2 ∙ as_begun n) c.objects_are c.marks_are listed)

    behind_on : (due : List (ℕ × Attached)) → AreShort due → (next : Option Phase) (s : State) (kept aside : List Item) (off : PutOff) (h : Graph) → phased.IsAfter E word_of value (after_due b due) before begin.from next s kept aside off h → IsAfter begin.from next s kept aside off h
    behind_on due are None s kept aside off h end = (due, are, end)
    behind_on due are (Some p) s kept aside off h on = λ told true_words items lists. inr (due, are, on told true_words items lists)

    -- once the marks are whole, each ephemeron is put off or is past
    pub settled_all : (moment : Moment) (s : State) (kept aside : List Item) (off : PutOff) (h : Graph) → IsIn (Values moment) s kept [] aside off h → AreOff E word_of value s off h
    settled_all moment s kept aside off h p =
        ⊎_elim (λ (q : IsFirst (Values moment) s [] h). absurd (true≢false (ap settles q.0)))
        (λ (q : IsBehind (Values moment) s kept [] aside off h). turning.settled_all E word_of value (after_due b q.0) before (begin_behind q.0) moment s kept aside off h q.2) p

    pub turn : (phase : Phase) (s : State) (kept aside : List Item) (off : PutOff) (h : Graph) → IsIn phase s kept [] aside off h → IsParted E word_of value b.ephemerons phase s off h → IsAfter begin.from (next_phase phase (looks_again off)) s kept aside off h
    turn phase s kept aside off h p parted =
        ⊎_elim (λ (q : IsFirst phase s [] h). subst (λ (o : Phase). IsAfter begin.from (next_phase o (looks_again off)) s kept aside off h) (sym q.0) (λ told true_words items are. links_begin s h q.1 told true_words items are aside off))
        (λ (q : IsBehind phase s kept [] aside off h). behind_on q.0 q.1 (next_phase phase (looks_again off)) s kept aside off h (turning.turn E word_of value (after_due b q.0) before (begin_behind q.0) phase s kept aside off h q.2 parted)) p

    -- the round begins
    pub cleanups_begin : (s : State) (h : Graph) → s ≡ b → h.objects ≡ before.objects → h.marked ≡ before.marked → (told : List (ℕ × ℕ)) → AreHonestWords word_of Marks (IsOfSweep sweeps.ShortCleanups s) h told
        → (items : List Item) → AreCleanups begin.from told Short s.cleanups items → (aside : List Item) (off : PutOff) → IsIn ShortCleanups s [] items aside off h
    cleanups_begin s h state objects_are marks_are told true_words items are aside off =
        let known : Knows before.marked (IsOfSweep sweeps.ShortCleanups b) told =
        subst (λ (m : ℕ → Bool). Knows m (IsOfSweep sweeps.ShortCleanups b) told) marks_are
        (subst (λ (t : State). Knows h.marked (IsOfSweep sweeps.ShortCleanups t) told) state (knows word_of Marks (IsOfSweep sweeps.ShortCleanups s) h told true_words)) in
        let cleaning = cleaning_begins E word_of value Short b before.objects before.marked begin.from told known s items h (young_attached E word_of value b before begin before.marked (λ a on. on)) state objects_are marks_are
        (subst (λ (t : State). AreCleanups begin.from told Short t.cleanups items) state are) in
        inl (refl, cleaning.0, cleaning.1)
