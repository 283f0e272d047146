-- What holds in each phase of a pass: first while the marks become whole, and then in a pass over the graph in which they are.
use Rattle.std.proofs.Common.{◌≡◌, ◌⊎◌, ◌∷◌, [], ℕ, Bool, true, false, true≢false, List, Option, Some, None, refl, sym, ap, subst, ◌∙◌, inl, inr, ⊎_elim, IsTrue}
use Rattle.fz_model.specs.declared.kinds.LinkKind.TheVariants.{Short}
use Rattle.fz_model.specs.State.{Map, Object}
use Rattle.fz_pass.specs.Holds.{IsOfKey, Settles, no_ephemerons}
use Rattle.fz_pass.proofs.Holding.{whole_closed}
use Rattle.fz_finalizers.specs.States.{State}
use Rattle.fz_machine.specs.declared.item.Item.{Item}
use Rattle.fz_machine.specs.declared.phase.Moment.{Moment}
use Rattle.fz_machine.specs.declared.phase.Moment.TheVariants.{First}
use Rattle.fz_machine.specs.declared.phase.Phase.{Phase}
use Rattle.fz_machine.specs.declared.phase.Phase.TheVariants.{Keys, KeysAgain, Holders, Values, ShortCleanups}
use Rattle.fz_machine.specs.declared.phase.Sweep.TheVariants as sweeps
use Rattle.fz_machine.specs.declared.question.Ask.TheVariants.{Marks}
use Rattle.fz_machine.specs.Graph.{AreHonestWords, Graph, IsHonest, graph_of}
use Rattle.fz_machine.specs.Items.{AreCleanups, AreEphemerons}
use Rattle.fz_machine.specs.Machines.{TellsIn}
use Rattle.fz_machine.specs.Off.{PutOff, looks_again, none_off, put_off}
use Rattle.fz_machine.specs.Phases.{after, ask_of, is_known, keeps, next_phase, subject}
use Rattle.fz_machine.specs.Regions.{IsOfSweep}
use Rattle.fz_machine.proofs.Begun.{HasBegun}
use Rattle.fz_machine.proofs.Parted.{AreOff, IsParted}
use Rattle.fz_machine.proofs.Phasing.{kept_on}
use Rattle.fz_machine.proofs.Rounds as rounds
use Rattle.fz_machine.proofs.Swept.{Begins}
use Rattle.fz_machine.proofs.Waiting.{Looks, is_settled, looked_all, looks_first, looks_on, looks_told, to_holders, to_keys, to_values}

-- the phases that make the marks whole before everything else
abbrev pub IsOfFirst : Phase → Type 0
IsOfFirst (Keys moment) = moment ≡ First
IsOfFirst (KeysAgain moment) = moment ≡ First
IsOfFirst (Holders moment) = moment ≡ First
IsOfFirst (Values moment) = moment ≡ First
IsOfFirst phase = ⊥

-- in them the finalizers stay
opening_stays : (phase : Phase) (item : Item) (answer : Bool) (s : State) → IsOfFirst phase → after phase item answer s ≡ s
opening_stays (Keys moment) item answer s at = refl
opening_stays (KeysAgain moment) item answer s at = refl
opening_stays (Holders moment) item answer s at = refl
opening_stays (Values moment) item answer s at = refl
opening_stays phase item answer s at = absurd at

-- and nothing is known
opening_unknown : (phase : Phase) (item : Item) → IsOfFirst phase → is_known phase item ≡ false
opening_unknown (Keys moment) item at = refl
opening_unknown (KeysAgain moment) item at = refl
opening_unknown (Holders moment) item at = refl
opening_unknown (Values moment) item at = refl
opening_unknown phase item at = absurd at

module _ (E : Type 0) (word_of : ℕ → Option ℕ) (value : Map Object → ℕ → Option ℕ) (b : State) (before : Graph) where
  abbrev LooksFirst : Phase → List Item → List Item → PutOff → Graph → Type 0
  LooksFirst = Looks E word_of value before.objects b.ephemerons before.marked

  abbrev pub IsOpening : Phase → State → List Item → List Item → PutOff → Graph → Type 0
  IsOpening phase s kept left off h = IsOfFirst phase × (s ≡ b) × LooksFirst phase kept left off h

  -- what the marked objects hold is found; without ephemerons nothing else is
  pub record IsFound (found : ℕ → Bool) : Type 0 where
    pub settled : Settles word_of value before.objects (IsOfKey b.ephemerons) E before.marked found
    pub none : b.ephemerons ≡ no_ephemerons → found ≡ before.marked

  abbrev pub IsFollowing : Phase → State → List Item → List Item → List Item → PutOff → Graph → Type 0
  IsFollowing phase s kept left aside off h = (found : ℕ → Bool) × IsFound found × rounds.IsIn E word_of value b (graph_of before.objects found) phase s kept left aside off h

  abbrev pub IsIn : Phase → State → List Item → List Item → List Item → PutOff → Graph → Type 0
  IsIn phase s kept left aside off h = IsOpening phase s kept left off h ⊎ IsFollowing phase s kept left aside off h

  abbrev pub IsAtEnd : State → Graph → Type 0
  IsAtEnd s h = (found : ℕ → Bool) × IsFound found × rounds.IsAtEnd E word_of value b (graph_of before.objects found) s h

  -- the next phase, whatever it lists, or the end
  abbrev pub IsAfter : ℕ → Option Phase → State → List Item → List Item → PutOff → Graph → Type 0
  IsAfter from None s kept aside off h = IsAtEnd s h
  IsAfter from (Some p) s kept aside off h = Begins word_of IsIn from p s kept aside off h

  module _ (begin : HasBegun word_of value b before) where
    abbrev pub begin_found : (found : ℕ → Bool) → IsFound found → HasBegun word_of value b (graph_of before.objects found)
    begin_found found is = record {
      may = record {
        registered = begin.registered;
        short = begin.short;
        long = begin.long;
        short_keys = begin.short_keys;
        long_keys = begin.long_keys;
        zero = begin.zero;
        closed = whole_closed word_of value before.objects (IsOfKey b.ephemerons) found is.settled.whole;
        births = begin.births;
        starts = begin.starts;
        apart = begin.apart;
        values = begin.values;
      };
      flags = begin.flags;
      single = begin.single;
      from = begin.from;
      seen = record {
        registered = λ object r here lt. is.settled.more object (begin.seen.registered object r here lt);
        attached = λ number c here lt. is.settled.more c.object (begin.seen.attached number c here lt);
      };
    }

    pub keep : (phase : Phase) (s : State) (kept left aside : List Item) (off : PutOff) (item : Item) (h new : Graph) → IsIn phase s kept (item ∷ left) aside off h → (answer : Bool)
        → IsHonest E word_of value (ask_of phase item) (subject phase item) h answer new
        → IsIn phase (after phase item answer s) (kept_on (keeps phase item answer) kept item) left aside (put_off phase item answer off) new
    keep phase s kept left aside off item h new p answer honest = ⊎_elim opening following p
      where
        opening : IsOpening phase s kept (item ∷ left) off h → IsIn phase (after phase item answer s) (kept_on (keeps phase item answer) kept item) left aside (put_off phase item answer off) new
        opening (at, is, q) =
            inl (at, opening_stays phase item answer s at ∙ is, looks_on E word_of value before.objects b.ephemerons before.marked phase kept left off item h new q answer honest)

        following : IsFollowing phase s kept (item ∷ left) aside off h → IsIn phase (after phase item answer s) (kept_on (keeps phase item answer) kept item) left aside (put_off phase item answer off) new
        following (found, is, q) = inr (found, is, rounds.keep E word_of value b (graph_of before.objects found) (begin_found found is) phase s kept left aside off item h new q answer honest)

    -- an item that isn't asked about would be answered by false
    pub known_so : (phase : Phase) (s : State) (kept left aside : List Item) (off : PutOff) (item : Item) (h : Graph) → IsIn phase s kept (item ∷ left) aside off h → IsTrue (is_known phase item)
        → IsHonest E word_of value (ask_of phase item) (subject phase item) h false h
    known_so phase s kept left aside off item h p is =
        ⊎_elim (λ (q : IsOpening phase s kept (item ∷ left) off h). absurd (true≢false (sym is ∙ opening_unknown phase item q.0)))
        (λ (q : IsFollowing phase s kept (item ∷ left) aside off h). rounds.known_so E word_of value b (graph_of before.objects q.0) (begin_found q.0 q.1) phase s kept left aside off item h q.2 is) p

    -- the host tells a key
    pub told : (key : ℕ) (phase : Phase) (s : State) (kept left aside : List Item) (was now : PutOff) (h : Graph) → TellsIn (Some phase) key was now → IsIn phase s kept left aside was h → IsIn phase s kept left aside now h
    told key phase s kept left aside was now h tells p =
        ⊎_elim (λ (q : IsOpening phase s kept left was h). inl (q.0, q.1, looks_told E word_of value before.objects b.ephemerons before.marked key phase kept left was now h tells q.2))
        (λ (q : IsFollowing phase s kept left aside was h). inr (q.0, q.1, rounds.told E word_of value b (graph_of before.objects q.0) (begin_found q.0 q.1) key phase s kept left aside was now h tells q.2)) p

    -- the marks are whole
    cleanups_next : (s : State) (off : PutOff) (h : Graph) → looks_again off ≡ false → s ≡ b → LooksFirst (Values First) [] [] off h → (told : List (ℕ × ℕ)) → AreHonestWords word_of Marks (IsOfSweep sweeps.ShortCleanups s) h told
        → (items : List Item) → AreCleanups begin.from told Short s.cleanups items → IsIn ShortCleanups s [] items [] off h
    cleanups_next s off h over is q told true_words items are =
        let settled = is_settled E word_of value before.objects b.ephemerons before.marked off h over q in
        let found : IsFound h.marked = record { settled = settled; none = q.settling.none } in
        inr (h.marked, found, rounds.cleanups_begin E word_of value b (graph_of before.objects h.marked) (begin_found h.marked found) s h is q.settling.objects_are refl told true_words items are [] off)

    turn_opening : (phase : Phase) (s : State) (kept aside : List Item) (off : PutOff) (h : Graph) → IsOpening phase s kept [] off h → IsAfter begin.from (next_phase phase (looks_again off)) s kept aside off h
    turn_opening (Keys moment) s kept aside off h (at, is, q) = λ told none items same. inl (at, is, to_holders E word_of value before.objects b.ephemerons before.marked kept items off h q same)
    turn_opening (KeysAgain moment) s kept aside off h (at, is, q) = λ told none items same. inl (at, is, to_holders E word_of value before.objects b.ephemerons before.marked kept items off h q same)
    turn_opening (Holders moment) s kept aside off h (at, is, q) = λ told none items same. inl (at, is, to_values E word_of value before.objects b.ephemerons before.marked kept items off h q same)
    turn_opening (Values moment) s kept aside off h (at, is, q) = by (looks_again off) refl
      where
        by : (more : Bool) → looks_again off ≡ more → IsAfter begin.from (next_phase (Values moment) more) s kept aside off h
        by false over = subst (λ (m : Moment). IsAfter begin.from (next_phase (Values m) false) s kept aside off h) (sym at) (λ told true_words items are. cleanups_next s off h over is q told true_words items are)
        by true again = λ told none items same. inl (at, is, to_keys E word_of value before.objects b.ephemerons before.marked items off h q same)
    turn_opening phase s kept aside off h (at, is, q) = absurd at

    following_on : (found : ℕ → Bool) → IsFound found → (next : Option Phase) (s : State) (kept aside : List Item) (off : PutOff) (h : Graph) → rounds.IsAfter E word_of value b (graph_of before.objects found) begin.from next s kept aside off h → IsAfter begin.from next s kept aside off h
    following_on found is None s kept aside off h end = (found, is, end)
    following_on found is (Some p) s kept aside off h on = λ told true_words items lists. inr (found, is, on told true_words items lists)

    -- once the marks are whole, each ephemeron is put off or is past
    pub settled_all : (moment : Moment) (s : State) (kept aside : List Item) (off : PutOff) (h : Graph) → IsIn (Values moment) s kept [] aside off h → AreOff E word_of value s off h
    settled_all moment s kept aside off h p =
        ⊎_elim (λ (q : IsOpening (Values moment) s kept [] off h). looked_all E word_of value before.objects b.ephemerons before.marked s off h (ap (λ (t : State). t.ephemerons) q.1) q.2)
        (λ (q : IsFollowing (Values moment) s kept [] aside off h). rounds.settled_all E word_of value b (graph_of before.objects q.0) (begin_found q.0 q.1) moment s kept aside off h q.2) p

    pub turn : (phase : Phase) (s : State) (kept aside : List Item) (off : PutOff) (h : Graph) → IsIn phase s kept [] aside off h → IsParted E word_of value b.ephemerons phase s off h → IsAfter begin.from (next_phase phase (looks_again off)) s kept aside off h
    turn phase s kept aside off h p parted =
        ⊎_elim (turn_opening phase s kept aside off h)
        (λ (q : IsFollowing phase s kept [] aside off h). following_on q.0 q.1 (next_phase phase (looks_again off)) s kept aside off h (rounds.turn E word_of value b (graph_of before.objects q.0) (begin_found q.0 q.1) phase s kept aside off h q.2 parted)) p

    pub opens : (items aside : List Item) (h : Graph) → h ≡ before → AreEphemerons b.ephemerons items → IsIn (Keys First) b [] items aside none_off h
    opens items aside h is are =
        subst (λ (x : Graph). IsIn (Keys First) b [] items aside none_off x) (sym is) (inl (refl, refl, looks_first E word_of value before.objects b.ephemerons before.marked items before refl refl begin.closed are))
