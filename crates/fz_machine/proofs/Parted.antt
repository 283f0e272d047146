-- Each ephemeron is put off, or is past: its key, its holder and its value are marked, and they stay so. So the later phases list what is put off alone.
use Rattle.std.proofs.Common.{◌≡◌, ◌≢◌, ◌⊎◌, ◌&&◌, ◌∷◌, ◌∙◌, [], ℕ, Bool, true, false, true≢false, cond, filter, nat_eq, List, Option, Some, None, IfSome, IsTrue, refl, sym, ap, subst, inl, inr, ⊎_elim}
use Rattle.std.proofs.lemmas.Bool.{and_from, and_parts, both_ways, cases_eq, eq-eqb, eqb-true}
use Rattle.std.proofs.lemmas.Option.{none-some, same_Some}
use Rattle.std.specs.FinMap.{get, remove}
use Rattle.std.specs.Option.{option_map_or}
use Rattle.fz_model.specs.declared.answers.Registration.{Registration}
use Rattle.fz_model.specs.declared.kinds.LinkKind.{LinkKind}
use Rattle.fz_model.specs.declared.kinds.LinkKind.TheVariants.{Long, Short}
use Rattle.fz_model.specs.Memory.{points, written}
use Rattle.fz_model.specs.State.{Map, Object}
use Rattle.fz_model.proofs.Maps.{get-remove_other, get-remove_same}
use Rattle.fz_model.proofs.SeenKept.{points-filled}
use Rattle.fz_pass.specs.Holds.{Ephemerons, IsOfKey}
use Rattle.fz_pass.specs.Keyed.{kind_and_key, of_kind}
use Rattle.fz_pass.specs.Places.{is_held, written_at}
use Rattle.fz_pass.specs.Settling.{IsThrough}
use Rattle.fz_pass.proofs.Filling.{written_is}
use Rattle.fz_pass.proofs.Holding.{held_by, held_nowhere, holder_of}
use Rattle.fz_finalizers.specs.declared.cleanups.Attached.{Attached}
use Rattle.fz_finalizers.specs.Follows.{queued_attached, queued_cleanup, queued_object, queued_one}
use Rattle.fz_finalizers.specs.States.{State}
use Rattle.fz_machine.specs.declared.item.Item.{Item}
use Rattle.fz_machine.specs.declared.phase.Moment.{Moment}
use Rattle.fz_machine.specs.declared.phase.Phase.{Phase}
use Rattle.fz_machine.specs.declared.phase.Phase.TheVariants.{Holders, Keys, KeysAgain, Values}
use Rattle.fz_machine.specs.declared.question.Ask.{Ask}
use Rattle.fz_machine.specs.declared.question.Ask.TheVariants.{Clear, IsHolderMarked, IsMarked, Live, Mark, MarkAlone, MarkChildren, MarkOthers, MarkValue, Marks as AskMarks}
use Rattle.fz_machine.specs.Graph.{Answers, Gains, Graph, IsHonest, KeepsValues, MayAsk}
use Rattle.fz_machine.specs.Items.{is_still, is_wanted}
use Rattle.fz_machine.specs.Machines.{TellsIn}
use Rattle.fz_machine.specs.Off.{PutOff, all_off, put_off}
use Rattle.fz_machine.specs.Phases.{after, ask_of, next_phase, off_in, settles, subject}
use Rattle.fz_machine.proofs.Among.{Each, OneOf, one_filter}
use Rattle.fz_machine.proofs.Sifting.{IsAt}
use Rattle.fz_machine.proofs.Working.{by_change}

-- ---- an item still is an ephemeron

-- the word is an ephemeron of this key, and of this kind if one is given
abbrev pub IsOf : Option LinkKind → Ephemerons → ℕ → ℕ → Type 0
IsOf None ephemerons word key = IsOfKey ephemerons word key
IsOf (Some kind) ephemerons word key = get (of_kind ephemerons kind) word ≡ Some key

-- each word is one of one kind at most
abbrev pub AreApart : Ephemerons → Type 0
AreApart ephemerons = (word short long : ℕ) → get ephemerons.short word ≡ Some short → get ephemerons.long word ≡ Some long → ⊥

of_any : (kind : Option LinkKind) (ephemerons : Ephemerons) (word key : ℕ) → IsOf kind ephemerons word key → IsOfKey ephemerons word key
of_any None ephemerons word key of = of
of_any (Some Short) ephemerons word key of = inl of
of_any (Some Long) ephemerons word key of = inr of

module _ (kind : Option LinkKind) (ephemerons : Ephemerons) where
  -- the key is the one that is asked for
  abbrev is_it : ℕ → LinkKind × ℕ → Bool
  is_it key e = is_wanted kind e.0 && nat_eq key e.1

  short_is : (k : Option LinkKind) (word object key : ℕ) → get ephemerons.short word ≡ Some key → is_wanted k Short ≡ true → object ≡ key → IsOf k ephemerons word object
  short_is None word object key here on same = inl (here ∙ ap Some (sym same))
  short_is (Some Short) word object key here on same = here ∙ ap Some (sym same)
  short_is (Some Long) word object key here on same = absurd (true≢false (sym on))

  long_is : (k : Option LinkKind) (word object key : ℕ) → get ephemerons.long word ≡ Some key → is_wanted k Long ≡ true → object ≡ key → IsOf k ephemerons word object
  long_is None word object key here on same = inr (here ∙ ap Some (sym same))
  long_is (Some Short) word object key here on same = absurd (true≢false (sym on))
  long_is (Some Long) word object key here on same = here ∙ ap Some (sym same)

  still_is : (item : Item) → is_still kind ephemerons item ≡ true → IsOf kind ephemerons item.word item.object
  still_is item on = by (get ephemerons.short item.word) (get ephemerons.long item.word) refl refl on
    where
      by : (short long : Option ℕ) → get ephemerons.short item.word ≡ short → get ephemerons.long item.word ≡ long → option_map_or (is_it item.object) (kind_and_key short long) false ≡ true → IsOf kind ephemerons item.word item.object
      by (Some key) long here there is = let both = and_parts (is_wanted kind Short) (nat_eq item.object key) is in short_is kind item.word item.object key here both.0 (eqb-true item.object key both.1)
      by None (Some key) here there is = let both = and_parts (is_wanted kind Long) (nat_eq item.object key) is in long_is kind item.word item.object key there both.0 (eqb-true item.object key both.1)
      by None None here there is = absurd (true≢false (sym is))

  abbrev finds : ℕ → ℕ → Option ℕ → Option ℕ → Bool
  finds word key short long = option_map_or (is_it key) (kind_and_key short long) false

  finds_short : (word key : ℕ) → get ephemerons.short word ≡ Some key → is_wanted kind Short ≡ true → finds word key (get ephemerons.short word) (get ephemerons.long word) ≡ true
  finds_short word key here on = (λ i. finds word key (here i) (get ephemerons.long word)) ∙ and_from (is_wanted kind Short) (nat_eq key key) on (eq-eqb key key refl)

  finds_long : (word key : ℕ) → get ephemerons.short word ≡ None → get ephemerons.long word ≡ Some key → is_wanted kind Long ≡ true → finds word key (get ephemerons.short word) (get ephemerons.long word) ≡ true
  finds_long word key none here on = (λ i. finds word key (none i) (here i)) ∙ and_from (is_wanted kind Long) (nat_eq key key) on (eq-eqb key key refl)

  -- what passes
  pub each_still : (items : List Item) → Each (λ (i : Item). IsOf kind ephemerons i.word i.object) (filter (is_still kind ephemerons) items)
  each_still [] = tt
  each_still (item ∷ items) = by (is_still kind ephemerons item) refl (each_still items)
    where
      by : (b : Bool) → is_still kind ephemerons item ≡ b → Each (λ (i : Item). IsOf kind ephemerons i.word i.object) (filter (is_still kind ephemerons) items)
          → Each (λ (i : Item). IsOf kind ephemerons i.word i.object) (cond b (item ∷ filter (is_still kind ephemerons) items) (filter (is_still kind ephemerons) items))
      by true on rest = (still_is item on, rest)
      by false off rest = rest

  module _ (apart : AreApart ephemerons) where
    not_short : (word key : ℕ) → get ephemerons.long word ≡ Some key → get ephemerons.short word ≡ None
    not_short word key here = by (get ephemerons.short word) refl
      where
        by : (o : Option ℕ) → get ephemerons.short word ≡ o → o ≡ None
        by None none = refl
        by (Some other) there = absurd (apart word other key there here)

    found : (k : Option LinkKind) (word key : ℕ) → k ≡ kind → IsOf k ephemerons word key → finds word key (get ephemerons.short word) (get ephemerons.long word) ≡ true
    found None word key is (inl here) = finds_short word key here (ap (λ o. is_wanted o Short) (sym is))
    found None word key is (inr here) = finds_long word key (not_short word key here) here (ap (λ o. is_wanted o Long) (sym is))
    found (Some Short) word key is here = finds_short word key here (ap (λ o. is_wanted o Short) (sym is))
    found (Some Long) word key is here = finds_long word key (not_short word key here) here (ap (λ o. is_wanted o Long) (sym is))

    still_at : (word key : ℕ) → IsOf kind ephemerons word key → (item : Item) → IsAt key word item → is_still kind ephemerons item ≡ true
    still_at word key of item at = (λ i. finds (at.1 i) (at.0 i) (get ephemerons.short (at.1 i)) (get ephemerons.long (at.1 i))) ∙ found kind word key refl of

    -- what is looked for passes
    pub one_still : (word key : ℕ) → IsOf kind ephemerons word key → (items : List Item) → OneOf (IsAt key word) items → OneOf (IsAt key word) (filter (is_still kind ephemerons) items)
    one_still word key of items one = one_filter (IsAt key word) (is_still kind ephemerons) (still_at word key of) items one

-- ---- ephemerons leave the state, and none comes

-- each ephemeron of the new ones was one before, of the same kind and key
pub record AreFewer (old new : Ephemerons) : Type 0 where
  pub short : (word key : ℕ) → get new.short word ≡ Some key → get old.short word ≡ Some key
  pub long : (word key : ℕ) → get new.long word ≡ Some key → get old.long word ≡ Some key

all_same : (ephemerons : Ephemerons) → AreFewer ephemerons ephemerons
all_same ephemerons = record { short = λ word key is. is; long = λ word key is. is }

removed_back : (m : Map ℕ) (gone word key : ℕ) → get (remove m gone) word ≡ Some key → get m word ≡ Some key
removed_back m gone word key is = ⊎_elim same other (cases_eq word gone)
  where
    same : word ≡ gone → get m word ≡ Some key
    same at = absurd (none-some key (sym (ap (get (remove m gone)) at ∙ get-remove_same m gone) ∙ is))

    other : word ≢ gone → get m word ≡ Some key
    other apart = sym (get-remove_other m gone word apart) ∙ is

abbrev GoFewer : (State → State) → Type 0
GoFewer f = (s : State) → AreFewer s.ephemerons (f s).ephemerons

queued_fewer : (object : ℕ) → GoFewer (λ s. queued_object s object)
queued_fewer object s = by (get s.registrations object)
  where
    by : (o : Option Registration) → AreFewer s.ephemerons (option_map_or (queued_one s object) o s).ephemerons
    by None = all_same s.ephemerons
    by (Some r) = all_same s.ephemerons

cleaned_fewer : (number : ℕ) → GoFewer (λ s. queued_cleanup s number)
cleaned_fewer number s = by (get s.cleanups number)
  where
    by : (o : Option Attached) → AreFewer s.ephemerons (option_map_or (queued_attached s number) o s).ephemerons
    by None = all_same s.ephemerons
    by (Some c) = all_same s.ephemerons

after_fewer : (phase : Phase) (item : Item) (answer : Bool) → GoFewer (λ s. after phase item answer s)
after_fewer phase item answer =
    by_change GoFewer (λ s. all_same s.ephemerons) (λ word s. all_same s.ephemerons) (λ word s. all_same s.ephemerons)
    (λ word s. record { short = λ w key is. removed_back s.ephemerons.short word w key is; long = λ w key is. removed_back s.ephemerons.long word w key is }) queued_fewer cleaned_fewer phase item answer

pub fewer_any : (old new : Ephemerons) → AreFewer old new → (word key : ℕ) → IsOfKey new word key → IsOfKey old word key
fewer_any old new fewer word key of = ⊎_elim (λ here. inl (fewer.short word key here)) (λ here. inr (fewer.long word key here)) of

-- ---- words point where they did once a word is cleared

points_written : (word_of : ℕ → Option ℕ) (word : ℕ) (objects : Map Object) (a : ℕ) → points (written_at word_of word objects) a ≡ points objects a
points_written word_of word objects a = by (word_of word)
  where
    by : (o : Option ℕ) → points (option_map_or (λ b. written b 0 objects) o objects) a ≡ points objects a
    by None = refl
    by (Some b) = ap (λ (m : Map Object). points m a) (written_is b 0 objects) ∙ points-filled (λ x. nat_eq x b) 0 objects a

-- ---- what an answer does

-- what is asked may be asked
abbrev pub IsAllowed : Option Ask → ℕ → Graph → Type 0
IsAllowed asked about h = IfSome asked (λ ask. MayAsk ask about h)

-- the phases that don't settle put nothing off, and begin with what is put off
unput : (phase : Phase) (item : Item) (answer : Bool) (off : PutOff) → settles phase ≡ false → put_off phase item answer off ≡ off
unput (Keys moment) item answer off out = absurd (true≢false out)
unput (KeysAgain moment) item answer off out = absurd (true≢false out)
unput (Holders moment) item answer off out = absurd (true≢false out)
unput (Values moment) item answer off out = absurd (true≢false out)
unput phase item answer off out = refl

off_stays : (phase : Phase) (off : PutOff) → settles phase ≡ false → off_in phase off ≡ off
off_stays (Keys moment) off out = absurd (true≢false out)
off_stays (KeysAgain moment) off out = absurd (true≢false out)
off_stays phase off out = refl

-- before such a phase comes another, or the last of the phases that settle
comes_from : (phase next : Phase) (again : Bool) → next_phase phase again ≡ Some next → settles next ≡ false → (settles phase ≡ false) ⊎ ((moment : Moment) × (phase ≡ Values moment))
comes_from (Keys moment) next again turns out = absurd (true≢false (ap settles (same_Some (Holders moment) next turns) ∙ out))
comes_from (KeysAgain moment) next again turns out = absurd (true≢false (ap settles (same_Some (Holders moment) next turns) ∙ out))
comes_from (Holders moment) next again turns out = absurd (true≢false (ap settles (same_Some (Values moment) next turns) ∙ out))
comes_from (Values moment) next again turns out = inr (moment, refl)
comes_from phase next again turns out = inl refl

-- ---- an ephemeron that is past

module _ (E : Type 0) (word_of : ℕ → Option ℕ) (value : Map Object → ℕ → Option ℕ) where
  -- its key and its holder are marked, and so is its value
  abbrev pub IsPast : Map Object → (ℕ → Bool) → ℕ × ℕ → Type 0
  IsPast objects m x = IsTrue (m x.1) × IsTrue (is_held word_of objects m x.0) × IsThrough E word_of value objects m x

  module _ (objects new : Map Object) (old m : ℕ → Bool) (more : (a : ℕ) → IsTrue (old a) → IsTrue (m a)) (same : (a : ℕ) → points new a ≡ points objects a) where
    -- a holder stays marked while marks grow
    pub held_on : (word : ℕ) → IsTrue (is_held word_of objects old word) → IsTrue (is_held word_of new m word)
    held_on word held =
        ⊎_elim (held_nowhere word_of value new m word) (λ (o, holder, was). held_by word_of value new m word o (holder.0, holder.1, same holder.0 ∙ holder.2) (more o was)) (holder_of word_of value objects old word held)

    -- and a value as long as the ephemeron is given no other
    pub past_on : (word key : ℕ) → ((first : ℕ) → value new word ≡ Some first → value objects word ≡ Some first) → IsPast objects old (word, key) → IsPast new m (word, key)
    past_on word key keeps past = (more key past.0, held_on word past.1, λ first is. more first (past.2 first (keeps first is)))

  -- what an answer does to a graph
  pub record Grows (first : Ephemerons) (h new : Graph) : Type 0 where
    pub more : (a : ℕ) → IsTrue (h.marked a) → IsTrue (new.marked a)
    pub same : (a : ℕ) → points new.objects a ≡ points h.objects a
    pub keeps : (word key value_is : ℕ) → IsOfKey first word key → value new.objects word ≡ Some value_is → value h.objects word ≡ Some value_is

  module _ (first : Ephemerons) (h new : Graph) where
    grows_none : new ≡ h → Grows first h new
    grows_none is = subst (λ (x : Graph). Grows first h x) (sym is) (record { more = λ a on. on; same = λ a. refl; keeps = λ word key v of there. there })

    grows_marks : (gained : ℕ → Type 0) → Gains E h new gained → Grows first h new
    grows_marks gained gains = record {
      more = λ a on. gains.1.least a (inl on);
      same = λ a. ap (λ (m : Map Object). points m a) gains.0;
      keeps = λ word key v of there. ap (λ (m : Map Object). value m word) (sym gains.0) ∙ there;
    }

    module _ (keeps_values : KeepsValues word_of value first) (zero : points h.objects 0 ≡ None) where
      grows_clear : (cleared : ℕ) → new ≡ record h { objects = written_at word_of cleared h.objects } → Grows first h new
      grows_clear cleared is = subst (λ (x : Graph). Grows first h x) (sym is) (record {
        more = λ a on. on;
        same = λ a. points_written word_of cleared h.objects a;
        keeps = λ word key v of there. keeps_values h.objects cleared word key v zero of there;
      })

      by_ask : (ask : Ask) (about : ℕ) (answer : Bool) → Answers E word_of value ask about h answer new → Grows first h new
      by_ask IsMarked about answer is = grows_none is.1
      by_ask MarkChildren about answer is = grows_marks _ is
      by_ask MarkOthers about answer is = grows_marks _ is
      by_ask Mark about answer is = grows_marks _ is
      by_ask MarkAlone about answer is = grows_marks _ is
      by_ask Clear about answer is = grows_clear about is
      by_ask IsHolderMarked about answer is = grows_none is.1
      by_ask MarkValue about answer is = grows_marks _ is.0
      by_ask AskMarks about answer is = absurd is
      by_ask Live about answer is = absurd is

      grows : (ask : Option Ask) (about : ℕ) (answer : Bool) → IsAllowed ask about h → IsHonest E word_of value ask about h answer new → Grows first h new
      grows None about answer may is = grows_none is
      grows (Some ask) about answer may is = by_ask ask about answer (is may)

  -- each ephemeron is put off, or is past
  abbrev pub AreOff : State → PutOff → Graph → Type 0
  AreOff s off h = (word key : ℕ) → IsOfKey s.ephemerons word key → OneOf (IsAt key word) (all_off off) ⊎ IsPast h.objects h.marked (word, key)

  -- ---- what holds throughout a pass, beside what holds in each phase

  module _ (first : Ephemerons) where
    -- each ephemeron was one when the pass began, and each word is one at most; a cleared word points to nothing
    pub record Stays (s : State) (h : Graph) : Type 0 where
      pub zero : points h.objects 0 ≡ None
      pub were : (word key : ℕ) → IsOfKey s.ephemerons word key → IsOfKey first word key
      pub single : AreApart s.ephemerons

    -- they are so in all phases but those that settle, which have them on their lists, too
    pub record IsParted (phase : Phase) (s : State) (off : PutOff) (h : Graph) : Type 0 where
      pub stays : Stays s h
      pub all : settles phase ≡ false → AreOff s off h

    -- ---- an answer

    stays_on : (s new_state : State) (h new : Graph) → AreFewer s.ephemerons new_state.ephemerons → Grows first h new → Stays s h → Stays new_state new
    stays_on s new_state h new fewer grown stays = record {
      zero = grown.same 0 ∙ stays.zero;
      were = λ word key of. stays.were word key (fewer_any s.ephemerons new_state.ephemerons fewer word key of);
      single = λ word short long here there. stays.single word short long (fewer.short word short here) (fewer.long word long there);
    }

    all_on : (s new_state : State) (off : PutOff) (h new : Graph) → AreFewer s.ephemerons new_state.ephemerons → Grows first h new → Stays s h → AreOff s off h → AreOff new_state off new
    all_on s new_state off h new fewer grown stays all word key of =
        let was = fewer_any s.ephemerons new_state.ephemerons fewer word key of in
        ⊎_elim inl
        (λ past. inr (past_on h.objects new.objects h.marked new.marked grown.more grown.same word key (λ v there. grown.keeps word key v (stays.were word key was) there) past))
        (all word key was)

    pub parted_on : KeepsValues word_of value first → (phase : Phase) (s : State) (off : PutOff) (item : Item) (h new : Graph) → IsParted phase s off h → IsAllowed (ask_of phase item) (subject phase item) h → (answer : Bool)
        → IsHonest E word_of value (ask_of phase item) (subject phase item) h answer new → IsParted phase (after phase item answer s) (put_off phase item answer off) new
    parted_on keeps_values phase s off item h new p may answer honest =
        let grown = grows first h new keeps_values p.stays.zero (ask_of phase item) (subject phase item) answer may honest in
        let fewer = after_fewer phase item answer s in
        record {
          stays = stays_on s (after phase item answer s) h new fewer grown p.stays;
          all = λ out. subst (λ (o : PutOff). AreOff (after phase item answer s) o new) (sym (unput phase item answer off out)) (all_on s (after phase item answer s) off h new fewer grown p.stays (p.all out));
        }

    -- ---- the next phase

    pub parted_turn : (phase next : Phase) (again : Bool) (s : State) (off : PutOff) (h : Graph) → next_phase phase again ≡ Some next → IsParted phase s off h → ((moment : Moment) → phase ≡ Values moment → AreOff s off h) → IsParted next s (off_in next off) h
    parted_turn phase next again s off h turns p settled = record {
      stays = p.stays;
      all = λ out. subst (λ (o : PutOff). AreOff s o h) (sym (off_stays next off out)) (⊎_elim p.all (λ (moment, is). settled moment is) (comes_from phase next again turns out));
    }

    -- the host tells a key, while values are marked
    pub parted_told : (key : ℕ) (phase : Phase) (s : State) (was now : PutOff) (h : Graph) → TellsIn (Some phase) key was now → IsParted phase s was h → IsParted phase s now h
    parted_told key (Values moment) s was now h tells p = record { stays = p.stays; all = λ out. absurd (true≢false out) }
    parted_told key phase s was now h tells p = subst (λ (off : PutOff). IsParted phase s off h) (sym tells) p

    -- ---- what the later phases list

    module _ (s : State) (off : PutOff) (h : Graph) (stays : Stays s h) (all : AreOff s off h) (items : List Item) where
      one_listed : (kind : Option LinkKind) (word key : ℕ) → IsOf kind s.ephemerons word key → items ≡ filter (is_still kind s.ephemerons) (all_off off) → OneOf (IsAt key word) items ⊎ IsPast h.objects h.marked (word, key)
      one_listed kind word key of is =
          ⊎_elim (λ k. inl (subst (OneOf (IsAt key word)) (sym is) (one_still kind s.ephemerons stays.single word key of (all_off off) k))) inr (all word key (of_any kind s.ephemerons word key of))

      each_listed : (kind : Option LinkKind) → items ≡ filter (is_still kind s.ephemerons) (all_off off) → Each (λ (i : Item). IsOf kind s.ephemerons i.word i.object) items
      each_listed kind is = subst (Each (λ (i : Item). IsOf kind s.ephemerons i.word i.object)) (sym is) (each_still kind s.ephemerons (all_off off))

      -- those that aren't past, when the marks are to become whole again
      pub waits_listed : (ephemerons : Ephemerons) (objects : Map Object) → s.ephemerons ≡ ephemerons → h.objects ≡ objects → items ≡ filter (is_still None s.ephemerons) (all_off off)
          → Each (λ (i : Item). IsOfKey ephemerons i.word i.object) items × ((word key : ℕ) → IsOfKey ephemerons word key → OneOf (IsAt key word) items ⊎ IsPast objects h.marked (word, key))
      waits_listed ephemerons objects same objects_are is = (
        subst (λ (e : Ephemerons). Each (λ (i : Item). IsOfKey e i.word i.object) items) same (each_listed None is),
        λ word key of. subst (λ (m : Map Object). OneOf (IsAt key word) items ⊎ IsPast m h.marked (word, key)) objects_are (one_listed None word key (subst (λ (e : Ephemerons). IsOfKey e word key) (sym same) of) is),
      )

      module _ (kind : LinkKind) (links : Map ℕ) (same : of_kind s.ephemerons kind ≡ links) (is : items ≡ filter (is_still (Some kind) s.ephemerons) (all_off off)) where
        pub each_of_kind : Each (λ (i : Item). get links i.word ≡ Some i.object) items
        each_of_kind = subst (λ (m : Map ℕ). Each (λ (i : Item). get m i.word ≡ Some i.object) items) same (each_listed (Some kind) is)

        one_of_kind : (object word : ℕ) → get links word ≡ Some object → OneOf (IsAt object word) items ⊎ IsPast h.objects h.marked (word, object)
        one_of_kind object word here = one_listed (Some kind) word object (ap (λ (m : Map ℕ). get m word) same ∙ here) is

        -- those whose keys aren't marked
        pub keys_listed : (marked : ℕ → Bool) → h.marked ≡ marked → (object word : ℕ) → get links word ≡ Some object → marked object ≡ false → OneOf (IsAt object word) items
        keys_listed marked marks_are object word here off_it =
            ⊎_elim (λ k. k) (λ past. absurd (both_ways (h.marked object) (ap (λ (m : ℕ → Bool). m object) marks_are ∙ off_it) past.0)) (one_of_kind object word here)

        -- those whose holders aren't
        pub holders_listed : (objects : Map Object) (marked : ℕ → Bool) → h.objects ≡ objects → h.marked ≡ marked → (object word : ℕ) → get links word ≡ Some object → is_held word_of objects marked word ≡ false → OneOf (IsAt object word) items
        holders_listed objects marked objects_are marks_are object word here off_it =
            ⊎_elim (λ k. k) (λ past. absurd (both_ways (is_held word_of h.objects h.marked word) ((λ i. is_held word_of (objects_are i) (marks_are i) word) ∙ off_it) past.1)) (one_of_kind object word here)
