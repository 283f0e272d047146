-- Marks become whole: first the keys of ephemerons are asked for, then their holders, and then values are marked; and again for those that are put off.
use Rattle.std.proofs.Common.{◌≡◌, ◌⊎◌, ◌++◌, ◌∷◌, ◌∙◌, [], ℕ, Bool, true, false, cond, List, IsPermutation, Option, Some, nat_cmp, refl, sym, ap, subst, inl, inr, ⊎_elim, IsTrue}
use Rattle.std.proofs.lemmas.Bool.{both_ways, true≢false}
use Rattle.std.proofs.lemmas.Option.{none-some}
use Rattle.std.specs.FinMap.{get, get-empty}
use Rattle.fz_model.specs.Reachability.{Itself}
use Rattle.fz_model.specs.State.{Map, Object}
use Rattle.fz_pass.specs.Holds.{Ephemerons, Holds, IsOfKey, IsOfValue, Member, Settles, no_ephemerons}
use Rattle.fz_pass.specs.Marks.{IsClosed, Marks}
use Rattle.fz_pass.specs.Places.{is_held}
use Rattle.fz_pass.specs.Settling.{Waits}
use Rattle.fz_pass.proofs.Holding.{holds_value, whole_from}
use Rattle.fz_finalizers.specs.States.{State}
use Rattle.fz_machine.specs.declared.item.Item.{Item}
use Rattle.fz_machine.specs.declared.phase.Phase.{Phase}
use Rattle.fz_machine.specs.declared.phase.Phase.TheVariants.{Keys, KeysAgain, Holders, Values}
use Rattle.fz_machine.specs.declared.question.Ask.TheVariants.{IsMarked, IsHolderMarked, MarkValue}
use Rattle.fz_machine.specs.Graph.{Graph, IsHonest}
use Rattle.fz_machine.specs.Items.{AreEphemerons, target_of}
use Rattle.fz_machine.specs.Machines.{TellsIn}
use Rattle.fz_machine.specs.Off.{PutOff, all_off, is_again, looked_at, looking, looks_again, put_off, stuck_with}
use Rattle.fz_machine.specs.Phases.{ask_of, keeps, subject}
use Rattle.fz_machine.proofs.Among.{Each, OneOf, each_append, each_as, each_parts, each_permuted, each_push, one_last, one_left, one_part, one_permuted, one_right}
use Rattle.fz_machine.proofs.Entered.{links_all, links_each}
use Rattle.fz_machine.proofs.Phasing.{kept_on}
use Rattle.fz_machine.proofs.Sifting.{IsAt}
use Rattle.fz_machine.proofs.Delayed.{all_with, tells_again, tells_moves}
use Rattle.fz_machine.proofs.Parted.{AreOff, IsAllowed, IsPast, held_on, past_on}

-- no value was marked
none_marked : (again answer : Bool) → cond answer true again ≡ false → (answer ≡ false) × (again ≡ false)
none_marked again true off = absurd (true≢false off)
none_marked again false off = (refl, off)

-- no round follows, so no value was marked
not_again : (again : Bool) (told : List Item) → is_again again told ≡ false → again ≡ false
not_again again [] off = off
not_again again (item ∷ told) off = absurd (true≢false off)

module _ (E : Type 0) (word_of : ℕ → Option ℕ) (value : Map Object → ℕ → Option ℕ) (objects : Map Object) (ephemerons : Ephemerons) (old : ℕ → Bool) where
  abbrev pub IsRow : Item → Type 0
  IsRow i = IsOfKey ephemerons i.word i.object

  abbrev HasKey : (ℕ → Bool) → Item → Type 0
  HasKey m i = IsRow i × IsTrue (m i.object)

  abbrev HasBoth : (ℕ → Bool) → Item → Type 0
  HasBoth m i = HasKey m i × IsTrue (is_held word_of objects m i.word)

  abbrev IsWaiting : (ℕ → Bool) → Item → Type 0
  IsWaiting m i = Waits E word_of value objects m (i.word, i.object)

  -- those that are put off wait, unless a value was marked since
  pub record Settling (off : List Item) (again : Bool) (h : Graph) : Type 0 where
    pub objects_are : h.objects ≡ objects
    pub closed : IsClosed objects h.marked
    pub more : (a : ℕ) → IsTrue (old a) → IsTrue (h.marked a)
    pub most : E → (a : ℕ) → IsTrue (h.marked a) → Holds word_of value objects (IsOfKey ephemerons) (λ b. IsTrue (old b)) a
    pub none : ephemerons ≡ no_ephemerons → h.marked ≡ old
    pub off_are : Each IsRow off
    pub waits : again ≡ false → Each (IsWaiting h.marked) off

  -- each ephemeron is kept, remains, is put off or is past
  abbrev AreAll : List Item → List Item → List Item → (ℕ → Bool) → Type 0
  AreAll kept left off m =
      (word key : ℕ) → IsOfKey ephemerons word key → OneOf (IsAt key word) kept ⊎ (OneOf (IsAt key word) left ⊎ (OneOf (IsAt key word) off ⊎ IsPast E word_of value objects m (word, key)))

  pub record Sweeps (Left Kept : (ℕ → Bool) → Item → Type 0) (kept left off : List Item) (again : Bool) (h : Graph) : Type 0 where
    pub settling : Settling off again h
    pub kept_are : Each (Kept h.marked) kept
    pub left_are : Each (Left h.marked) left
    pub all : AreAll kept left off h.marked

  pub record Marking (left off : List Item) (again : Bool) (h : Graph) : Type 0 where
    pub settling : Settling off again h
    pub left_are : Each (HasBoth h.marked) left
    pub all : AreAll [] left off h.marked

  abbrev pub Looks : Phase → List Item → List Item → PutOff → Graph → Type 0
  Looks (Keys moment) kept left off h = Sweeps (λ m. IsRow) HasKey kept left (all_off off) off.again h
  Looks (KeysAgain moment) kept left off h = Sweeps (λ m. IsRow) HasKey kept left (all_off off) off.again h
  Looks (Holders moment) kept left off h = Sweeps HasKey HasBoth kept left (all_off off) off.again h
  Looks (Values moment) kept left off h = Marking left (all_off off) off.again h
  Looks phase kept left off h = ⊥

  -- ---- one answer

  module _ (Left Kept : (ℕ → Bool) → Item → Type 0) (kept left off : List Item) (again : Bool) (item : Item) (h : Graph) (s : Sweeps Left Kept kept (item ∷ left) off again h) where
    passes : Kept h.marked item → Sweeps Left Kept (kept ++ item ∷ []) left off again h
    passes on = record {
      settling = s.settling;
      kept_are = each_push (Kept h.marked) kept item s.kept_are on;
      left_are = s.left_are.1;
      all = λ word key of. ⊎_elim (λ k. inl (one_left (IsAt key word) kept (item ∷ []) k)) (⊎_elim (by word key) (λ others. inr (inr others))) (s.all word key of);
    }
      where
        by : (word key : ℕ) → OneOf (IsAt key word) (item ∷ left)
            → OneOf (IsAt key word) (kept ++ item ∷ []) ⊎ (OneOf (IsAt key word) left ⊎ (OneOf (IsAt key word) off ⊎ IsPast E word_of value objects h.marked (word, key)))
        by word key (inl at) = inl (one_last (IsAt key word) kept item at)
        by word key (inr k) = inr (inl k)

    stays : IsRow item → IsWaiting h.marked item → Sweeps Left Kept kept left (off ++ item ∷ []) again h
    stays row waits = record {
      settling = record {
        objects_are = s.settling.objects_are;
        closed = s.settling.closed;
        more = s.settling.more;
        most = s.settling.most;
        none = s.settling.none;
        off_are = each_push IsRow off item s.settling.off_are row;
        waits = λ none. each_push (IsWaiting h.marked) off item (s.settling.waits none) waits;
      };
      kept_are = s.kept_are;
      left_are = s.left_are.1;
      all = λ word key of. ⊎_elim inl (⊎_elim (by word key) (⊎_elim (λ k. inr (inr (inl (one_left (IsAt key word) off (item ∷ []) k)))) (λ on. inr (inr (inr on))))) (s.all word key of);
    }
      where
        by : (word key : ℕ) → OneOf (IsAt key word) (item ∷ left)
            → OneOf (IsAt key word) kept ⊎ (OneOf (IsAt key word) left ⊎ (OneOf (IsAt key word) (off ++ item ∷ []) ⊎ IsPast E word_of value objects h.marked (word, key)))
        by word key (inl at) = inr (inr (inl (one_last (IsAt key word) off item at)))
        by word key (inr k) = inr (inl k)

  module _ (Left Kept : (ℕ → Bool) → Item → Type 0) (kept left : List Item) (off : PutOff) (item : Item) (h : Graph) (s : Sweeps Left Kept kept (item ∷ left) (all_off off) off.again h) where
    abbrev SweepsOn : List Item → PutOff → Graph → Type 0
    SweepsOn now past new = Sweeps Left Kept now left (all_off past) past.again new

    -- as the test of this phase says
    sweeps_on : (test answer : Bool) → answer ≡ test → IsRow item → (test ≡ true → Kept h.marked item) → (test ≡ false → IsWaiting h.marked item)
        → SweepsOn (kept_on answer kept item) (cond answer off (stuck_with off item)) h
    sweeps_on test true is row on waits = passes Left Kept kept left (all_off off) off.again item h s (on (sym is))
    sweeps_on test false is row on waits =
        subst (λ xs. Sweeps Left Kept kept left xs off.again h) (sym (all_with off item)) (stays Left Kept kept left (all_off off) off.again item h s row (waits (sym is)))

  module _ (kept left : List Item) (off : PutOff) (item : Item) (h new : Graph) where
    keys_on : Sweeps (λ m. IsRow) HasKey kept (item ∷ left) (all_off off) off.again h → (answer : Bool) → IsHonest E word_of value (Some IsMarked) item.object h answer new
        → Sweeps (λ m. IsRow) HasKey (kept_on answer kept item) left (all_off (cond answer off (stuck_with off item))) (cond answer off (stuck_with off item)).again new
    keys_on s answer honest =
        let is = honest tt in
        let row = s.left_are.0 in
        let now : PutOff = cond answer off (stuck_with off item) in
        subst (λ (x : Graph). Sweeps (λ m. IsRow) HasKey (kept_on answer kept item) left (all_off now) now.again x) (sym is.1)
        (sweeps_on (λ m. IsRow) HasKey kept left off item h s (h.marked item.object) answer is.0 row (λ on. (row, on)) (λ none key. absurd (both_ways (h.marked item.object) none key)))

    holders_on : Sweeps HasKey HasBoth kept (item ∷ left) (all_off off) off.again h → (answer : Bool) → IsHonest E word_of value (Some IsHolderMarked) item.word h answer new
        → Sweeps HasKey HasBoth (kept_on answer kept item) left (all_off (cond answer off (stuck_with off item))) (cond answer off (stuck_with off item)).again new
    holders_on s answer honest =
        let is = honest tt in
        let held : Bool = is_held word_of objects h.marked item.word in
        let now : PutOff = cond answer off (stuck_with off item) in
        subst (λ (x : Graph). Sweeps HasKey HasBoth (kept_on answer kept item) left (all_off now) now.again x) (sym is.1)
        (sweeps_on HasKey HasBoth kept left off item h s held answer (is.0 ∙ ap (λ (m : Map Object). is_held word_of m h.marked item.word) s.settling.objects_are) s.left_are.0.0
        (λ on. (s.left_are.0, on)) (λ none key holder. absurd (both_ways held none holder)))

  -- a holder stays marked
  held_still : (now new : ℕ → Bool) → ((a : ℕ) → IsTrue (now a) → IsTrue (new a)) → (w : ℕ) → IsTrue (is_held word_of objects now w) → IsTrue (is_held word_of objects new w)
  held_still now new on w held = held_on E word_of value objects objects now new on (λ a. refl) w held

  no_row : (word key : ℕ) → ephemerons ≡ no_ephemerons → IsOfKey ephemerons word key → ⊥
  no_row word key none = ⊎_elim (λ here. none-some key (sym (ap (λ (e : Ephemerons). get e.short word) none ∙ get-empty nat_cmp word) ∙ here)) (λ here. none-some key (sym (ap (λ (e : Ephemerons). get e.long word) none ∙ get-empty nat_cmp word) ∙ here))

  module _ (left off : List Item) (again : Bool) (item : Item) (h new : Graph) (s : Marking (item ∷ left) off again h) (answer : Bool) (same : new.objects ≡ h.objects) (m : Marks E objects h.marked new.marked (IsOfValue value objects item.word))
      (nothing : answer ≡ false → (a : ℕ) → IsTrue (new.marked a) → IsTrue (h.marked a)) where
    on_still : (a : ℕ) → IsTrue (h.marked a) → IsTrue (new.marked a)
    on_still a on = m.least a (inl on)

    still_waits : answer ≡ false → (x : Item) → IsWaiting h.marked x → IsWaiting new.marked x
    still_waits none x waits key holder = waits (nothing none x.object key) (held_still new.marked h.marked (nothing none) x.word holder)

    still_both : (x : Item) → HasBoth h.marked x → HasBoth new.marked x
    still_both x on = ((on.0.0, on_still x.object on.0.1), held_still h.marked new.marked on_still x.word on.1)

    marks_value : Marking left off (cond answer true again) new
    marks_value = record {
      settling = record {
        objects_are = same ∙ s.settling.objects_are;
        closed = m.closed;
        more = λ a on. on_still a (s.settling.more a on);
        most = λ exact a on. ⊎_elim (s.settling.most exact a)
            (λ of. holds_value word_of value objects (IsOfKey ephemerons) (λ b. IsTrue (old b)) h.marked (s.settling.most exact) item.word item.object s.left_are.0.0.0 s.left_are.0.0.1 s.left_are.0.1 a of) (m.most exact a on);
        none = λ nothing_there. absurd (no_row item.word item.object nothing_there s.left_are.0.0.0);
        off_are = s.settling.off_are;
        waits = λ none. let both = none_marked again answer none in each_as (IsWaiting h.marked) (IsWaiting new.marked) (still_waits both.0) off (s.settling.waits both.1);
      };
      left_are = each_as (HasBoth h.marked) (HasBoth new.marked) still_both left s.left_are.1;
      all = λ word key of. ⊎_elim inl (⊎_elim (by word key) (⊎_elim (λ k. inr (inr (inl k))) (λ past. inr (inr (inr (past_on E word_of value objects objects h.marked new.marked on_still (λ a. refl) word key (λ v points. points) past)))))) (s.all word key of);
    }
      where
        by : (word key : ℕ) → OneOf (IsAt key word) (item ∷ left)
            → OneOf (IsAt key word) [] ⊎ (OneOf (IsAt key word) left ⊎ (OneOf (IsAt key word) off ⊎ IsPast E word_of value objects new.marked (word, key)))
        by word key (inl at) =
            let both = still_both item s.left_are.0 in
            inr (inr (inr (ap new.marked (sym at.0) ∙ both.0.1, ap (is_held word_of objects new.marked) (sym at.1) ∙ both.1, λ v points. m.least v (inr (v, ap (value objects) at.1 ∙ points, Itself)))))
        by word key (inr k) = inr (inl k)

  values_on : (left : List Item) (off : PutOff) (item : Item) (h new : Graph) → Marking (item ∷ left) (all_off off) off.again h → (answer : Bool) → IsHonest E word_of value (Some MarkValue) item.word h answer new
      → Marking left (all_off (cond answer (record off { again = true }) off)) (cond answer (record off { again = true }) off).again new
  values_on left off item h new s answer honest =
      let is = honest (subst (λ (m : Map Object). IsClosed m h.marked) (sym s.settling.objects_are) s.settling.closed) in
      let m = subst (λ (k : Map Object). Marks E k h.marked new.marked (IsOfValue value k item.word)) s.settling.objects_are is.0.1 in
      by answer (marks_value left (all_off off) off.again item h new s answer is.0.0 m is.1)
    where
      by : (b : Bool) → Marking left (all_off off) (cond b true off.again) new → Marking left (all_off (cond b (record off { again = true }) off)) (cond b (record off { again = true }) off).again new
      by true on = on
      by false on = on

  pub looks_on : (phase : Phase) (kept left : List Item) (off : PutOff) (item : Item) (h new : Graph) → Looks phase kept (item ∷ left) off h → (answer : Bool) → IsHonest E word_of value (ask_of phase item) (subject phase item) h answer new
      → Looks phase (kept_on (keeps phase item answer) kept item) left (put_off phase item answer off) new
  looks_on (Keys moment) kept left off item h new s answer honest = keys_on kept left off item h new s answer honest
  looks_on (KeysAgain moment) kept left off item h new s answer honest = keys_on kept left off item h new s answer honest
  looks_on (Holders moment) kept left off item h new s answer honest = holders_on kept left off item h new s answer honest
  looks_on (Values moment) kept left off item h new s answer honest = values_on left off item h new s answer honest
  looks_on phase kept left off item h new s answer honest = absurd s

  pub looks_may : (phase : Phase) (kept left : List Item) (off : PutOff) (item : Item) (h : Graph) → Looks phase kept (item ∷ left) off h → IsAllowed (ask_of phase item) (subject phase item) h
  looks_may (Keys moment) kept left off item h s = tt
  looks_may (KeysAgain moment) kept left off item h s = tt
  looks_may (Holders moment) kept left off item h s = tt
  looks_may (Values moment) kept left off item h s = subst (λ (m : Map Object). IsClosed m h.marked) (sym s.settling.objects_are) s.settling.closed
  looks_may phase kept left off item h s = absurd s

  -- ---- the host tells a key

  settling_moved : (was now : List Item) (again : Bool) (h : Graph) → IsPermutation was now → Settling was again h → Settling now again h
  settling_moved was now again h moves s = record {
    objects_are = s.objects_are;
    closed = s.closed;
    more = s.more;
    most = s.most;
    none = s.none;
    off_are = each_permuted IsRow was now moves s.off_are;
    waits = λ none. each_permuted (IsWaiting h.marked) was now moves (s.waits none);
  }

  marking_moved : (left was now : List Item) (again : Bool) (h : Graph) → IsPermutation was now → Marking left was again h → Marking left now again h
  marking_moved left was now again h moves s = record {
    settling = settling_moved was now again h moves s.settling;
    left_are = s.left_are;
    all = λ word key of. ⊎_elim inl (⊎_elim (λ k. inr (inl k)) (⊎_elim (λ k. inr (inr (inl (one_permuted (IsAt key word) was now moves k)))) (λ on. inr (inr (inr on))))) (s.all word key of);
  }

  pub looks_told : (key : ℕ) (phase : Phase) (kept left : List Item) (was now : PutOff) (h : Graph) → TellsIn (Some phase) key was now → Looks phase kept left was h → Looks phase kept left now h
  looks_told key (Values moment) kept left was now h told s =
      subst (λ b. Marking left (all_off now) b h) (sym (tells_again key was now told)) (marking_moved left (all_off was) (all_off now) was.again h (tells_moves key was now told) s)
  looks_told key phase kept left was now h told s = subst (λ (off : PutOff). Looks phase kept left off h) (sym told) s

  -- ---- from phase to phase

  -- some are listed, and the others are past
  pub looks_begin : (items : List Item) (h : Graph) → h.objects ≡ objects → h.marked ≡ old → IsClosed objects old → Each IsRow items → ((word key : ℕ) → IsOfKey ephemerons word key → OneOf (IsAt key word) items ⊎ IsPast E word_of value objects h.marked (word, key))
      → Sweeps (λ m. IsRow) HasKey [] items [] false h
  looks_begin items h objects_are marks_are closed are all = record {
    settling = record {
      objects_are = objects_are;
      closed = subst (IsClosed objects) (sym marks_are) closed;
      more = λ a on. subst (λ (m : ℕ → Bool). IsTrue (m a)) (sym marks_are) on;
      most = λ exact a on. Member (subst (λ (m : ℕ → Bool). IsTrue (m a)) marks_are on);
      none = λ _. marks_are;
      off_are = tt;
      waits = λ _. tt;
    };
    kept_are = tt;
    left_are = are;
    all = λ word key of. inr (⊎_elim inl (λ past. inr (inr past)) (all word key of));
  }

  -- or all are listed
  pub looks_first : (items : List Item) (h : Graph) → h.objects ≡ objects → h.marked ≡ old → IsClosed objects old → AreEphemerons ephemerons items → Sweeps (λ m. IsRow) HasKey [] items [] false h
  looks_first items h objects_are marks_are closed (shorts, longs, short_are, long_are, is) =
      looks_begin items h objects_are marks_are closed
      (subst (Each IsRow) (sym is)
      (each_append IsRow shorts longs (each_as (λ i. get ephemerons.short i.word ≡ Some i.object) IsRow (λ i here. inl here) shorts (links_each target_of [] ephemerons.short shorts short_are))
      (each_as (λ i. get ephemerons.long i.word ≡ Some i.object) IsRow (λ i here. inr here) longs (links_each target_of [] ephemerons.long longs long_are))))
      (λ word key of. inl (subst (OneOf (IsAt key word)) (sym is)
      (⊎_elim (λ here. one_left (IsAt key word) shorts longs (links_all target_of [] ephemerons.short shorts short_are key word here refl)) (λ here. one_right (IsAt key word) shorts longs (links_all target_of [] ephemerons.long longs long_are key word here refl)) of)))

  -- once all were looked at, each is put off or is past
  pub looked_all : (s : State) (off : PutOff) (h : Graph) → s.ephemerons ≡ ephemerons → Marking [] (all_off off) off.again h → AreOff E word_of value s off h
  looked_all s off h same p word key of =
      subst (λ (m : Map Object). OneOf (IsAt key word) (all_off off) ⊎ IsPast E word_of value m h.marked (word, key)) (sym p.settling.objects_are)
      (⊎_elim (λ k. absurd k) (⊎_elim (λ k. absurd k) (λ k. k)) (p.all word key (subst (λ (e : Ephemerons). IsOfKey e word key) same of)))

  pub to_holders : (kept items : List Item) (off : PutOff) (h : Graph) → Sweeps (λ m. IsRow) HasKey kept [] (all_off off) off.again h → items ≡ kept → Sweeps HasKey HasBoth [] items (all_off off) off.again h
  to_holders kept items off h s is = record {
    settling = s.settling;
    kept_are = tt;
    left_are = subst (Each (HasKey h.marked)) (sym is) s.kept_are;
    all = λ word key of. inr (⊎_elim (λ k. inl (subst (OneOf (IsAt key word)) (sym is) k)) (⊎_elim (λ k. absurd k) (λ others. inr others)) (s.all word key of));
  }

  pub to_values : (kept items : List Item) (off : PutOff) (h : Graph) → Sweeps HasKey HasBoth kept [] (all_off off) off.again h → items ≡ kept → Marking items (all_off off) off.again h
  to_values kept items off h s is = record {
    settling = s.settling;
    left_are = subst (Each (HasBoth h.marked)) (sym is) s.kept_are;
    all = λ word key of. inr (⊎_elim (λ k. inl (subst (OneOf (IsAt key word)) (sym is) k)) (⊎_elim (λ k. absurd k) (λ others. inr others)) (s.all word key of));
  }

  -- some of those that were put off are looked at again; if these are all, what is marked from now on counts
  to_some : (off items rest : List Item) (again now : Bool) (h : Graph) → Marking [] off again h → ((P : Item → Type 0) → Each P off → Each P items × Each P rest) → ((P : Item → Type 0) → OneOf P off → OneOf P items ⊎ OneOf P rest)
      → (now ≡ false → (P : Item → Type 0) → (again ≡ false → Each P off) → Each P rest) → Sweeps (λ m. IsRow) HasKey [] items rest now h
  to_some off items rest again now h s each one calm = record {
    settling = record {
      objects_are = s.settling.objects_are;
      closed = s.settling.closed;
      more = s.settling.more;
      most = s.settling.most;
      none = s.settling.none;
      off_are = (each IsRow s.settling.off_are).1;
      waits = λ none. calm none (IsWaiting h.marked) s.settling.waits;
    };
    kept_are = tt;
    left_are = (each IsRow s.settling.off_are).0;
    all = λ word key of. inr (⊎_elim (λ k. absurd k) (⊎_elim (λ k. absurd k) (⊎_elim (λ k. ⊎_elim inl (λ r. inr (inl r)) (one (IsAt key word) k)) (λ on. inr (inr on)))) (s.all word key of));
  }

  -- those whose keys were told, or all
  pub to_keys : (items : List Item) (off : PutOff) (h : Graph) → Marking [] (all_off off) off.again h → items ≡ looked_at off → Sweeps (λ m. IsRow) HasKey [] items (all_off (looking off)) (looking off).again h
  to_keys items off h s is = subst (λ xs. Sweeps (λ m. IsRow) HasKey [] xs (all_off (looking off)) (looking off).again h) (sym is) (by off.told s)
    where
      with_told : List Item → PutOff
      with_told told = record off { told = told }

      by : (told : List Item) → Marking [] (all_off (with_told told)) off.again h
          → Sweeps (λ m. IsRow) HasKey [] (looked_at (with_told told)) (all_off (looking (with_told told))) (looking (with_told told)).again h
      by [] p = to_some (off.index ++ off.stuck) (off.stuck ++ off.index) [] off.again false h p
          (λ P all. let parts = each_parts P off.index off.stuck all in (each_append P off.stuck off.index parts.1 parts.0, tt))
          (λ P k. inl (⊎_elim (λ i. one_right P off.stuck off.index i) (λ t. one_left P off.stuck off.index t) (one_part P off.index off.stuck k)))
          (λ none P waits. tt)
      by (item ∷ told) p = to_some ((item ∷ told) ++ (off.index ++ off.stuck)) (item ∷ told) (off.index ++ off.stuck) off.again off.again h p
          (λ P all. each_parts P (item ∷ told) (off.index ++ off.stuck) all)
          (λ P k. one_part P (item ∷ told) (off.index ++ off.stuck) k)
          (λ none P waits. (each_parts P (item ∷ told) (off.index ++ off.stuck) (waits none)).1)

  waiting_row : (m : ℕ → Bool) (word key : ℕ) (off : List Item) → Each (IsWaiting m) off → OneOf (IsAt key word) off → Waits E word_of value objects m (word, key)
  waiting_row m word key [] waits k = absurd k
  waiting_row m word key (x ∷ off) waits (inl at) = λ on held. waits.0 (ap m at.0 ∙ on) (ap (is_held word_of objects m) at.1 ∙ held)
  waiting_row m word key (x ∷ off) waits (inr k) = waiting_row m word key off waits.1 k

  -- no round follows, so the marks are whole
  pub is_settled : (off : PutOff) (h : Graph) → looks_again off ≡ false → Marking [] (all_off off) off.again h → Settles word_of value objects (IsOfKey ephemerons) E old h.marked
  is_settled off h over s = record {
    more = s.settling.more;
    whole = whole_from word_of value objects (IsOfKey ephemerons) h.marked s.settling.closed
        (λ word key of on held v points. ⊎_elim (λ k. absurd k) (⊎_elim (λ k. absurd k) (⊎_elim (λ k. absurd (waiting_row h.marked word key (all_off off) (s.settling.waits (not_again off.again off.told over)) k on held)) (λ past. past.2 v points))) (s.all word key of));
    most = s.settling.most;
  }
