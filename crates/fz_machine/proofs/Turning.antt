-- From phase to phase, and to the end.
use Rattle.std.proofs.Common.{◌≡◌, ◌++◌, ◌∙◌, [], ℕ, Bool, true, false, not, filter, List, None, Some, length, refl, sym, ap, subst, inl, inr, ⊎_elim, is_some, append-nil, IsTrue, Option}
use Rattle.std.specs.FinMap.{contains_key, get, retain_keys}
use Rattle.std.specs.FinSet.{contains}
use Rattle.fz_model.specs.State.{Map, Object}
use Rattle.fz_model.specs.Memory.{points}
use Rattle.fz_model.specs.Pass.{is_dead}
use Rattle.fz_model.proofs.SeenKept.{points-filled}
use Rattle.fz_pass.specs.Holds.{Ephemerons, IsOfKey}
use Rattle.fz_pass.specs.Keyed.{of_kind}
use Rattle.fz_pass.specs.Queued.{MarksLed}
use Rattle.fz_pass.specs.QueuedWhole.{QueuesWhole}
use Rattle.fz_pass.specs.Marks.{IsClosed, with_holders, with_targets}
use Rattle.fz_pass.specs.Places.{is_held, placed, links_held}
use Rattle.fz_pass.specs.Tiers.{skips}
use Rattle.fz_pass.proofs.Holding.{whole_closed}
use Rattle.fz_pass.proofs.Passed.{closed_still, dropped_twice}
use Rattle.fz_pass.proofs.Tiers.{flag_of_round, unskipped_off}
use Rattle.fz_pass.proofs.Wholes.{decided}
use Rattle.fz_model.specs.declared.kinds.LinkKind.{LinkKind}
use Rattle.fz_model.specs.declared.kinds.LinkKind.TheVariants.{Long, Short}
use Rattle.fz_finalizers.specs.Passed.{parts_in, parts_left_in}
use Rattle.fz_finalizers.specs.Ready.{DecidesKeyed}
use Rattle.fz_finalizers.specs.States.{State}
use Rattle.fz_machine.specs.declared.item.Item.{Item}
use Rattle.fz_machine.specs.declared.phase.Moment.{Moment}
use Rattle.fz_machine.specs.declared.phase.Moment.TheVariants as moments
use Rattle.fz_machine.specs.declared.phase.Phase.{Phase}
use Rattle.fz_machine.specs.declared.phase.Phase.TheVariants.{Keys, KeysAgain, Holders, Values, Regions, ShortCleanups, ShortTargets, ShortWords, ShortKeys, ShortKeyWords, Objects, Children, Again, Picks, Entries, LateAgain, LatePicks, LongTargets, LongWords, LongKeys, LongKeyWords, ShortHolders, LongHolders, ShortKeyHolders, LongKeyHolders, LongCleanups}
use Rattle.fz_machine.specs.declared.phase.Sweep.TheVariants as sweeps
use Rattle.fz_machine.specs.declared.question.Ask.TheVariants.{Live, Marks}
use Rattle.fz_machine.specs.Graph.{AreHonestWords, Graph}
use Rattle.fz_machine.specs.Items.{AreCleanups, AreGrouped, AreInTurn, AreLinks, AreObjects, is_still, place_of}
use Rattle.fz_machine.specs.Items as the
use Rattle.fz_machine.specs.Off.{PutOff, all_off, looked_at, looking, looks_again, none_off}
use Rattle.fz_machine.specs.Phases.{next_phase, settles}
use Rattle.fz_machine.specs.Regions.{IsOfSweep}
use Rattle.fz_machine.proofs.Among.{AreInOrder, Each, OneOf, each_as, each_permuted, one_as, one_permuted, order_from}
use Rattle.fz_machine.proofs.Begun.{HasBegun, closed, found_led, led_picked, long_key_targets, long_targets, normal, not_before, registered, short_key_targets, still_nowhere, was_there, young_attached, young_registered}
use Rattle.fz_machine.proofs.Cleaning.{cleaning_all, cleaning_begins}
use Rattle.fz_machine.proofs.Chosen.{choosing_begins, choosing_from, chosen_all}
use Rattle.fz_machine.proofs.DeadWords.{IsLink, IsLinkAt}
use Rattle.fz_machine.proofs.Entered.{IsEitherAt, either_at, IsLate, IsLateAt, IsOfEither, objects_all, objects_each, objects_known}
use Rattle.fz_machine.proofs.Honest.{Knows, known_false, knows, not_told, object_of}
use Rattle.fz_machine.proofs.Led.{leading_begins, led_all}
use Rattle.fz_machine.proofs.Phased.{EntersOn, IsAfter, IsAtEnd, IsIn, IsSettling, IsUnfound, IsUnled, Leading, LeadsOn, Picked, PickedBoth, PicksLate, PicksOn, SettlesLed, SettlesPicked, SettlesLast, after_picks, begun_with, clear, cleared_links, judged, keys_held, keys_left, last, last_links, long_held, long_keys_held, long_keys_left, long_left, passed, picked_with, short_held, short_left}
use Rattle.fz_machine.proofs.Phasing.{Clears, Holds, Sifts, clears_all, clears_begin, holds_all, holds_begin, holds_from, sifts_begin, targets_begin}
use Rattle.fz_machine.proofs.Reaching.{reaching_begins}
use Rattle.fz_machine.proofs.Sifting.{IsAt, sifted}
use Rattle.fz_machine.proofs.Stated.{tabled}
use Rattle.fz_machine.proofs.Parted.{AreOff, IsParted, each_of_kind, holders_listed, keys_listed, waits_listed}
use Rattle.fz_machine.proofs.Waiting as waiting
use Rattle.fz_machine.proofs.Waiting.{is_settled, looked_all, looks_begin, to_holders, to_keys, to_values}

module _ (E : Type 0) (word_of : ℕ → Option ℕ) (value : Map Object → ℕ → Option ℕ) (b : State) (before : Graph) (begin : HasBegun word_of value b before) where
  abbrev Either : Item → Type 0
  Either = IsOfEither b.registrations b.late

  abbrev EitherAt : ℕ → ℕ → Type 0
  EitherAt = IsEitherAt b.registrations b.late

  abbrev Late : Item → Type 0
  Late = IsLate b.registrations b.late

  abbrev LateAt : ℕ → ℕ → Type 0
  LateAt = IsLateAt b.registrations b.late

  abbrev begun : Map Object
  begun = cleared_links E word_of value b before

  abbrev clearly : Map Object
  clearly = clear E word_of value b before

  abbrev shorts : Map ℕ
  shorts = short_left E word_of value b before

  abbrev keys : Map ℕ
  keys = keys_left E word_of value b before

  abbrev with_links : Map ℕ → Map ℕ → State
  with_links = begun_with E word_of value b before

  abbrev rows : Ephemerons
  rows = judged E word_of value b before

  abbrev At : Phase → State → List Item → List Item → List Item → PutOff → Graph → Type 0
  At = IsIn E word_of value b before

  abbrev PartedIn : Phase → State → PutOff → Graph → Type 0
  PartedIn = IsParted E word_of value b.ephemerons

  -- ---- what is told in a sweep

  -- what these links lead to is known, as far as it was told
  targets_known : (of : State → Map ℕ) (s t : State) (h : Graph) (marked : ℕ → Bool) (told : List (ℕ × ℕ)) → s ≡ t → h.marked ≡ marked → Knows h.marked (λ n. (word : ℕ) × (get (of s) word ≡ Some n)) told
      → Knows marked (λ n. (word : ℕ) × (get (of t) word ≡ Some n)) told
  targets_known of s t h marked told state marks_are k =
      subst (λ (m : ℕ → Bool). Knows m (λ n. (word : ℕ) × (get (of t) word ≡ Some n)) told) marks_are (subst (λ (u : State). Knows h.marked (λ n. (word : ℕ) × (get (of u) word ≡ Some n)) told) state k)

  -- and which of their words are held
  words_known : (of : State → Map ℕ) (s t : State) (h : Graph) (objects : Map Object) (marked : ℕ → Bool) (told : List (ℕ × ℕ)) → s ≡ t → h.objects ≡ objects → h.marked ≡ marked
      → Knows (λ n. is_held word_of h.objects h.marked n) (λ n. IsTrue (contains_key (of s) n)) told → Knows (λ n. is_held word_of objects marked n) (λ n. IsTrue (contains_key (of t) n)) told
  words_known of s t h objects marked told state objects_are marks_are k =
      subst (λ (m : ℕ → Bool). Knows m (λ n. IsTrue (contains_key (of t) n)) told) (λ i. λ (n : ℕ). is_held word_of (objects_are i) (marks_are i) n)
      (subst (λ (u : State). Knows (λ n. is_held word_of h.objects h.marked n) (λ n. IsTrue (contains_key (of u) n)) told) state k)

  -- ---- to registered objects

  -- what is listed of the ephemerons that are put off: those whose keys aren't marked, and those whose holders aren't
  module _ (phase : Phase) (s : State) (off : PutOff) (h : Graph) (q : PartedIn phase s off h) (out : settles phase ≡ false) (kind : LinkKind) (links : Map ℕ) (same : of_kind s.ephemerons kind ≡ links) (items : List Item) (is : items ≡ filter (is_still (Some kind) s.ephemerons) (all_off off)) (objects : Map Object) (marked : ℕ → Bool) (objects_are : h.objects ≡ objects) (marks_are : h.marked ≡ marked) where
    keys_begin : (at : State) → s ≡ at → Sifts E word_of value at objects marked (IsLink word_of objects links marked) (IsLinkAt word_of objects links marked) s [] items h
    keys_begin at state =
        sifts_begin E word_of value at objects marked (IsLink word_of objects links marked) (IsLinkAt word_of objects links marked) s items h state objects_are marks_are (each_of_kind E word_of value b.ephemerons s off h q.stays (q.all out) items kind links same is)
        (keys_listed E word_of value b.ephemerons s off h q.stays (q.all out) items kind links same is marked marks_are)

    key_holders_begin : (at : Map ℕ → State) → s ≡ at links → Holds E word_of value at objects links marked s items h
    key_holders_begin at state =
        holds_from E word_of value at objects links marked s items h state objects_are marks_are (each_of_kind E word_of value b.ephemerons s off h q.stays (q.all out) items kind links same is)
        (holders_listed E word_of value b.ephemerons s off h q.stays (q.all out) items kind links same is objects marked objects_are marks_are)

  to_short_keys : (s : State) (aside : List Item) (off : PutOff) (h : Graph) → Clears E word_of value (λ links. with_links links b.ephemerons.short) before.objects b.short before.marked s [] h → PartedIn ShortWords s off h
      → (items : List Item) → items ≡ filter (is_still (Some Short) s.ephemerons) (all_off off) → At ShortKeys s [] items aside off h
  to_short_keys s aside off h p q items is =
      let all = clears_all E word_of value (λ links. with_links links b.ephemerons.short) before.objects b.short before.marked begin.short begin.apart s h p in
      keys_begin ShortWords s off h q refl Short b.ephemerons.short (ap (λ (t : State). t.ephemerons.short) all.0) items is begun before.marked all.1 all.2 (with_links shorts b.ephemerons.short) all.0

  to_objects : (s : State) (aside : List Item) (off : PutOff) (h : Graph) → Clears E word_of value (λ keys. with_links shorts keys) begun b.ephemerons.short before.marked s [] h → (told : List (ℕ × ℕ)) → AreHonestWords word_of Marks (IsOfSweep sweeps.Objects s) h told
      → (items : List Item) → AreObjects begin.from told s.registrations s.late items → At Objects s [] items aside off h
  to_objects s aside off h p told true_words items are =
      let all = clears_all E word_of value (λ keys. with_links shorts keys) begun b.ephemerons.short before.marked (short_key_targets E word_of value b before begin) begin.apart s h p in
      let listed : AreObjects begin.from told b.registrations b.late items = subst (λ (t : State). AreObjects begin.from told t.registrations t.late items) p.state are in
      let is_it : ℕ → Type 0 = λ n. IsTrue (contains_key b.registrations n) in
      let known : Knows before.marked is_it told =
      subst (λ (m : ℕ → Bool). Knows m is_it told) all.2 (subst (λ (t : State). Knows h.marked (λ n. IsTrue (contains_key t.registrations n)) told) p.state (knows word_of Marks (IsOfSweep sweeps.Objects s) h told true_words)) in
      let each = objects_each b.registrations b.late begin.from told items listed in (
        sifts_begin E word_of value (with_links shorts keys) clearly before.marked Either EitherAt s items h all.0 all.1 all.2 each
            (λ object word at off. objects_all b.registrations b.late begin.from told items listed object word at (λ r here. young_registered E word_of value b before begin object r here off)
            (not_told before.marked is_it told known object (⊎_elim (λ x. x.0) (λ x. x.0) at) off)),
        known_false before.marked is_it told object_of known items (each_as Either (λ (i : Item). is_it i.object) (λ i either. ⊎_elim (λ x. ap is_some x.1) (λ x. ap is_some x.1) either) items each) (objects_known b.registrations b.late begin.from told items listed),
      )

  to_children : (s : State) (kept : List Item) (h : Graph) → Sifts E word_of value (with_links shorts keys) clearly before.marked Either EitherAt s kept [] h → (items : List Item) → AreGrouped kept items → LeadsOn E word_of value b before s [] items h
  to_children s kept h p items grouped =
      let all = λ (object word : ℕ) (at : EitherAt object word) (off : before.marked object ≡ false). one_permuted (IsAt object word) kept items grouped.0 (sifted before.marked Either EitherAt kept p.sifted object word at off) in
      record {
        state = p.state;
        are = leading_begins E word_of value clearly b.registrations b.late before.marked items h p.objects_are p.marks_are (closed E word_of value b before begin)
            (λ object here off. one_as (IsAt object 0) (λ (i : Item). i.object ≡ object) (λ i at. at.0) items (all object 0 (either_at b.registrations b.late object here) off));
        kept_are = tt;
        left_are = each_permuted (IsUnfound E word_of value b before) kept items grouped.0 p.sifted.kept_are;
        rest = λ object word at off. inr (all object word at off);
      }

  -- ---- to picks

  to_led : (s : State) (kept : List Item) (off : PutOff) (h : Graph) → LeadsOn E word_of value b before s kept [] h → PartedIn Children s off h → (items : List Item) → items ≡ filter (is_still None s.ephemerons) (all_off off)
      → At (Keys moments.Led) s [] items kept none_off h
  to_led s kept off h p q items is =
      let listed = waits_listed E word_of value b.ephemerons s off h q.stays (q.all refl) items rows clearly (ap (λ (t : State). t.ephemerons) p.state) p.are.objects is in
      let m : MarksLed E clearly before.marked h.marked b.registrations = led_all E word_of value clearly b.registrations b.late before.marked (registered E word_of value b before begin) (normal E word_of value b before begin) h p.are in (
        record {
          marked = h.marked;
          marks = m;
          state = p.state;
          aside_are = each_as (IsUnfound E word_of value b before) Either (λ i x. x.0) kept p.kept_are;
          rest = λ object word at off. ⊎_elim (λ k. k) (λ k. absurd k) (p.rest object word at off);
        },
        looks_begin E word_of value clearly rows h.marked items h p.are.objects refl m.closed listed.0 listed.1,
      )

  to_again : (s : State) (aside : List Item) (off : PutOff) (more_aside : List Item) (more_off : PutOff) (h : Graph) → looks_again off ≡ false → (w : SettlesLed E word_of value b before s aside) → waiting.Marking E word_of value clearly rows w.marked [] (all_off off) off.again h → (items : List Item) → items ≡ aside → At Again s [] items more_aside more_off h
  to_again s aside off more_aside more_off h over w p items is =
      let l : Leading E word_of value b before = record { first_led = w.marked; led = h.marked; marks = w.marks; settled = is_settled E word_of value clearly rows w.marked off h over p } in (
        l,
        sifts_begin E word_of value _ clearly h.marked Either EitherAt s items h w.state p.settling.objects_are refl (subst (Each Either) (sym is) w.aside_are)
            (λ object word at un. subst (OneOf (IsAt object word)) (sym is) (w.rest object word at (not_before E word_of value b before begin before.marked h.marked (found_led E word_of value b before begin l) object un))),
      )

  led_closed : (l : Leading E word_of value b before) → IsClosed clearly l.led
  led_closed l = whole_closed word_of value clearly (IsOfKey rows) l.led l.settled.whole

  to_picks : (s : State) (kept : List Item) (h : Graph) (l : Leading E word_of value b before) → Sifts E word_of value (with_links shorts keys) clearly l.led Either EitherAt s kept [] h
      → (items : List Item) → items ≡ kept → PicksOn E word_of value b before s [] items h
  to_picks s kept h l p items is =
      let all = λ (object word : ℕ) (at : EitherAt object word) (off : l.led object ≡ false). subst (OneOf (IsAt object word)) (sym is) (sifted l.led Either EitherAt kept p.sifted object word at off) in
      record {
        leading = l;
        state = p.state;
        are = reaching_begins E clearly b.registrations l.led (skips false (contains b.late) l.led) items h p.objects_are p.marks_are (led_closed l)
            (λ a r here off. one_as (IsAt a 0) (λ (i : Item). i.object ≡ a) (λ i at. at.0) items (all a 0 (either_at b.registrations b.late a (ap is_some here)) (unskipped_off false (contains b.late) l.led a (ap not off))));
        kept_are = tt;
        left_are = subst (Each (IsUnled E word_of value b before l)) (sym is) p.sifted.kept_are;
        rest = λ object word at off. inr (all object word at off);
      }

  -- ---- to entries

  to_entries : (s : State) (kept : List Item) (h : Graph) → PicksOn E word_of value b before s kept [] h → (items : List Item) → AreInTurn kept items → EntersOn E word_of value b before s [] items h
  to_entries s kept h p items turned =
      let led = p.leading.led in
      let all = λ (object word : ℕ) (at : EitherAt object word) (off : led object ≡ false). one_permuted (IsAt object word) kept items turned.0 (⊎_elim (λ k. k) (λ k. absurd k) (p.rest object word at off)) in
      record {
        leading = p.leading;
        now = tabled b;
        picks = [];
        state = p.state;
        are = choosing_from E clearly (tabled b) led false (contains b.late) 0 items h p.are.objects p.are.closed p.are.least p.are.most
            (λ a r here off. one_as (IsAt a 0) (λ (i : Item). i.object ≡ a) (λ i at. at.0) items (all a 0 (either_at b.registrations b.late a (ap is_some here)) (unskipped_off false (contains b.late) led a (ap not off))));
        reached = λ o r here off. ⊎_elim (λ none. absurd none) (λ f. f) (p.are.reached o r here off);
        kept_are = tt;
        left_are = each_permuted (IsUnled E word_of value b before p.leading) kept items turned.0 p.kept_are;
        rest = λ object word at off. inr (all object word (inr at) off);
        ordered = order_from place_of items turned.1;
      }

  -- ---- to picks of late ones

  to_picked : (s : State) (kept : List Item) (off : PutOff) (h : Graph) → EntersOn E word_of value b before s kept [] h → PartedIn Entries s off h → (items : List Item) → items ≡ filter (is_still None s.ephemerons) (all_off off)
      → At (Keys moments.Picked) s [] items kept none_off h
  to_picked s kept off h p q items is =
      let listed = waits_listed E word_of value b.ephemerons s off h q.stays (q.all refl) items rows clearly (ap (λ (t : State). t.ephemerons) p.state) p.are.objects is in
      let all = chosen_all E clearly (tabled b) p.leading.led false (contains b.late) 0 p.now p.picks h p.are in (
        record {
          leading = p.leading;
          table = p.now;
          picks = p.picks;
          marked = h.marked;
          are = all.0;
          marks = all.1;
          state = p.state;
          aside_are = each_as (λ i. Late i × (p.leading.led i.object ≡ false)) Late (λ i x. x.0) kept p.kept_are;
          rest = λ object word at off. ⊎_elim (λ k. k) (λ k. absurd k) (p.rest object word at off);
          ordered = subst (AreInOrder place_of) (append-nil kept) p.ordered;
        },
        looks_begin E word_of value clearly rows h.marked items h p.are.objects refl all.1.closed listed.0 listed.1,
      )

  to_late_again : (s : State) (aside : List Item) (off : PutOff) (more_aside : List Item) (more_off : PutOff) (h : Graph) → looks_again off ≡ false → (w : SettlesPicked E word_of value b before s aside) → waiting.Marking E word_of value clearly rows w.marked [] (all_off off) off.again h → (items : List Item) → items ≡ aside
      → At LateAgain s [] items more_aside more_off h
  to_late_again s aside off more_aside more_off h over w p items is =
      let c : Picked E word_of value b before = record {
        leading = w.leading;
        table = w.table;
        picks = w.picks;
        reached = w.marked;
        mid = h.marked;
        are = w.are;
        marks = w.marks;
        settled = is_settled E word_of value clearly rows w.marked off h over p;
      } in (
        c,
        sifts_begin E word_of value _ clearly h.marked Late LateAt s items h w.state p.settling.objects_are refl (subst (Each Late) (sym is) w.aside_are)
            (λ object word at un. subst (OneOf (IsAt object word)) (sym is) (w.rest object word at (not_before E word_of value b before begin w.leading.led h.marked (led_picked E word_of value b before begin c) object un))),
        subst (AreInOrder place_of) (sym is) w.ordered,
      )

  to_late_picks : (s : State) (kept : List Item) (h : Graph) (c : Picked E word_of value b before) → Sifts E word_of value (picked_with E word_of value b before c.table c.picks) clearly c.mid Late LateAt s kept [] h → AreInOrder place_of (kept ++ [])
      → (items : List Item) → items ≡ kept → PicksLate E word_of value b before s items h
  to_late_picks s kept h c p ordered items is = record {
    first = c;
    now = c.table;
    late_picks = [];
    state = p.state ∙ ap (λ ps. picked_with E word_of value b before c.table ps) (sym (append-nil c.picks));
    are = choosing_begins E clearly c.table c.mid true (contains b.late) 256 items h p.objects_are p.marks_are (whole_closed word_of value clearly (IsOfKey rows) c.mid c.settled.whole)
        (λ a r here off. one_as (IsAt a 0) (λ (i : Item). i.object ≡ a) (λ i at. at.0) items
        (subst (OneOf (IsAt a 0)) (sym is)
        (sifted c.mid Late LateAt kept p.sifted a 0 (ap is_some (was_there E word_of value b before begin c a r here), flag_of_round true (contains b.late) c.mid a (ap not off), refl) (unskipped_off true (contains b.late) c.mid a (ap not off)))));
    left_are = subst (Each (λ i. Late i × (c.mid i.object ≡ false))) (sym is) p.sifted.kept_are;
    ordered = subst (AreInOrder place_of) (append-nil kept ∙ sym is) ordered;
  }

  -- ---- to long links

  to_last : (s : State) (kept : List Item) (off : PutOff) (h : Graph) → PicksLate E word_of value b before s [] h → PartedIn LatePicks s off h → (items : List Item) → items ≡ filter (is_still None s.ephemerons) (all_off off)
      → At (Keys moments.Last) s [] items kept none_off h
  to_last s kept off h p q items is =
      let listed = waits_listed E word_of value b.ephemerons s off h q.stays (q.all refl) items rows clearly (ap (λ (t : State). t.ephemerons) p.state) p.are.objects is in
      let all = chosen_all E clearly p.first.table p.first.mid true (contains b.late) 256 p.now p.late_picks h p.are in (
        record { first = p.first; table = p.now; late_picks = p.late_picks; marked = h.marked; are = all.0; marks = all.1; state = p.state },
        looks_begin E word_of value clearly rows h.marked items h p.are.objects refl all.1.closed listed.0 listed.1,
      )

  to_long_targets : (s : State) (off : PutOff) (more_aside : List Item) (more_off : PutOff) (h : Graph) → looks_again off ≡ false → (w : SettlesLast E word_of value b before s) → waiting.Marking E word_of value clearly rows w.marked [] (all_off off) off.again h
      → (told : List (ℕ × ℕ)) → AreHonestWords word_of Marks (IsOfSweep sweeps.LongTargets s) h told → (items : List Item) → AreLinks the.target_of told s.long items → At LongTargets s [] items more_aside more_off h
  to_long_targets s off more_aside more_off h over w p told true_words items are =
      let c : PickedBoth E word_of value b before = record {
        first = w.first;
        table = w.table;
        late_picks = w.late_picks;
        reached = w.marked;
        kept = h.marked;
        are = w.are;
        marks = w.marks;
        settled = is_settled E word_of value clearly rows w.marked off h over p;
      } in
      let listed : AreLinks the.target_of told b.long items = subst (λ (t : State). AreLinks the.target_of told t.long items) w.state are in
      let known = targets_known (λ t. t.long) s _ h h.marked told w.state refl (knows word_of Marks (IsOfSweep sweeps.LongTargets s) h told true_words) in
      let sifts = targets_begin E word_of value (after_picks E word_of value b before c shorts b.long keys b.ephemerons.long) clearly b.long h.marked told known s items h w.state p.settling.objects_are refl listed in
      (c, sifts.0, sifts.1)

  -- ---- while the marks become whole

  on_holders : (moment : Moment) (s : State) (kept aside : List Item) (off : PutOff) (h : Graph) → IsSettling E word_of value b before moment (Keys moment) s kept [] aside off h → (items : List Item) → items ≡ kept → At (Holders moment) s [] items aside off h
  on_holders moments.First s kept aside off h p items is = absurd p
  on_holders moments.Led s kept aside off h (w, p) items is = (w, to_holders E word_of value clearly rows w.marked kept items off h p is)
  on_holders moments.Picked s kept aside off h (w, p) items is = (w, to_holders E word_of value clearly rows w.marked kept items off h p is)
  on_holders moments.Last s kept aside off h (w, p) items is = (w, to_holders E word_of value clearly rows w.marked kept items off h p is)

  again_holders : (moment : Moment) (s : State) (kept aside : List Item) (off : PutOff) (h : Graph) → IsSettling E word_of value b before moment (KeysAgain moment) s kept [] aside off h → (items : List Item) → items ≡ kept → At (Holders moment) s [] items aside off h
  again_holders moments.First s kept aside off h p items is = absurd p
  again_holders moments.Led s kept aside off h (w, p) items is = (w, to_holders E word_of value clearly rows w.marked kept items off h p is)
  again_holders moments.Picked s kept aside off h (w, p) items is = (w, to_holders E word_of value clearly rows w.marked kept items off h p is)
  again_holders moments.Last s kept aside off h (w, p) items is = (w, to_holders E word_of value clearly rows w.marked kept items off h p is)

  on_values : (moment : Moment) (s : State) (kept aside : List Item) (off : PutOff) (h : Graph) → IsSettling E word_of value b before moment (Holders moment) s kept [] aside off h → (items : List Item) → items ≡ kept → At (Values moment) s [] items aside off h
  on_values moments.First s kept aside off h p items is = absurd p
  on_values moments.Led s kept aside off h (w, p) items is = (w, to_values E word_of value clearly rows w.marked kept items off h p is)
  on_values moments.Picked s kept aside off h (w, p) items is = (w, to_values E word_of value clearly rows w.marked kept items off h p is)
  on_values moments.Last s kept aside off h (w, p) items is = (w, to_values E word_of value clearly rows w.marked kept items off h p is)

  on_keys : (moment : Moment) (s : State) (kept aside : List Item) (off : PutOff) (h : Graph) → IsSettling E word_of value b before moment (Values moment) s kept [] aside off h → (items : List Item) → items ≡ looked_at off → At (KeysAgain moment) s [] items aside (looking off) h
  on_keys moments.First s kept aside off h p items is = absurd p
  on_keys moments.Led s kept aside off h (w, p) items is = (w, to_keys E word_of value clearly rows w.marked items off h p is)
  on_keys moments.Picked s kept aside off h (w, p) items is = (w, to_keys E word_of value clearly rows w.marked items off h p is)
  on_keys moments.Last s kept aside off h (w, p) items is = (w, to_keys E word_of value clearly rows w.marked items off h p is)

  -- and once they are
  behind_on : (moment : Moment) (s : State) (kept aside : List Item) (off : PutOff) (h : Graph) → looks_again off ≡ false → IsSettling E word_of value b before moment (Values moment) s kept [] aside off h
      → IsAfter E word_of value b before begin.from (next_phase (Values moment) false) s kept aside off h
  behind_on moments.First s kept aside off h over p = absurd p
  behind_on moments.Led s kept aside off h over (w, p) = λ told none items is. to_again s aside off [] off h over w p items is
  behind_on moments.Picked s kept aside off h over (w, p) = λ told none items is. to_late_again s aside off [] off h over w p items is
  behind_on moments.Last s kept aside off h over (w, p) = λ told true_words items are. to_long_targets s off [] off h over w p told true_words items are

  -- each ephemeron is put off then, or is past
  pub settled_all : (moment : Moment) (s : State) (kept aside : List Item) (off : PutOff) (h : Graph) → IsSettling E word_of value b before moment (Values moment) s kept [] aside off h → AreOff E word_of value s off h
  settled_all moments.First s kept aside off h p = absurd p
  settled_all moments.Led s kept aside off h (w, p) = looked_all E word_of value clearly rows w.marked s off h (ap (λ (t : State). t.ephemerons) w.state) p
  settled_all moments.Picked s kept aside off h (w, p) = looked_all E word_of value clearly rows w.marked s off h (ap (λ (t : State). t.ephemerons) w.state) p
  settled_all moments.Last s kept aside off h (w, p) = looked_all E word_of value clearly rows w.marked s off h (ap (λ (t : State). t.ephemerons) w.state) p

  -- ---- all phases

  pub turn : (phase : Phase) (s : State) (kept aside : List Item) (off : PutOff) (h : Graph) → At phase s kept [] aside off h → PartedIn phase s off h → IsAfter E word_of value b before begin.from (next_phase phase (looks_again off)) s kept aside off h
  turn (Keys moment) s kept aside off h p q = λ told none items is. on_holders moment s kept aside off h p items is
  turn (KeysAgain moment) s kept aside off h p q = λ told none items is. again_holders moment s kept aside off h p items is
  turn (Holders moment) s kept aside off h p q = λ told none items is. on_values moment s kept aside off h p items is
  turn (Values moment) s kept aside off h p q = by (looks_again off) refl
    where
      by : (more : Bool) → looks_again off ≡ more → IsAfter E word_of value b before begin.from (next_phase (Values moment) more) s kept aside off h
      by false over = behind_on moment s kept aside off h over p
      by true again = λ told none items is. on_keys moment s kept aside off h p items is
  turn (Regions sweep) s kept aside off h p q = absurd p
  turn ShortCleanups s kept aside off h p q = absurd p
  turn ShortTargets s kept aside off h p q = λ told none items is. clears_begin E word_of value (λ links. with_links links b.ephemerons.short) before.objects b.short before.marked begin.short s kept items h p.0 is
  turn ShortWords s kept aside off h p q = λ told none items is. to_short_keys s aside off h p q items is
  turn ShortKeys s kept aside off h p q = λ told none items is. clears_begin E word_of value (λ keys. with_links shorts keys) begun b.ephemerons.short before.marked (short_key_targets E word_of value b before begin) s kept items h p is
  turn ShortKeyWords s kept aside off h p q = λ told true_words items are. to_objects s aside off h p told true_words items are
  turn Objects s kept aside off h p q = λ told none items grouped. to_children s kept h p.0 items grouped
  turn Children s kept aside off h p q = λ told none items is. to_led s kept off h p q items is
  turn Again s kept aside off h (l, p) q = λ told none items is. to_picks s kept h l p items is
  turn Picks s kept aside off h p q = λ told none items turned. to_entries s kept h p items turned
  turn Entries s kept aside off h p q = λ told none items is. to_picked s kept off h p q items is
  turn LateAgain s kept aside off h (c, p, ordered) q = λ told none items is. to_late_picks s kept h c p ordered items is
  turn LatePicks s kept aside off h p q = λ told none items is. to_last s kept off h p q items is
  turn LongTargets s kept aside off h (c, p, known) q = λ told none items is.
      (c, clears_begin E word_of value (λ links. after_picks E word_of value b before c shorts links keys b.ephemerons.long) clearly b.long c.kept (long_targets E word_of value b before begin) s kept items h p is)
  turn LongWords s kept aside off h (c, p) q = λ told none items is.
      let all = clears_all E word_of value (λ links. after_picks E word_of value b before c shorts links keys b.ephemerons.long) clearly b.long c.kept (long_targets E word_of value b before begin) begin.apart s h p in (
        c,
        keys_begin LongWords s off h q refl Long b.ephemerons.long (ap (λ (t : State). t.ephemerons.long) all.0) items is (last_links E word_of value b before c) c.kept all.1 all.2
            (after_picks E word_of value b before c shorts (long_left E word_of value b before c) keys b.ephemerons.long) all.0,
      )
  turn LongKeys s kept aside off h (c, p) q = λ told none items is.
      (c, clears_begin E word_of value (λ others. after_picks E word_of value b before c shorts (long_left E word_of value b before c) keys others) (last_links E word_of value b before c) b.ephemerons.long c.kept (long_key_targets E word_of value b before begin c.kept) s kept items h p is)
  turn LongKeyWords s kept aside off h (c, p) q = λ told true_words items are.
      let all = clears_all E word_of value (λ others. after_picks E word_of value b before c shorts (long_left E word_of value b before c) keys others) (last_links E word_of value b before c) b.ephemerons.long c.kept (long_key_targets E word_of value b before begin c.kept) begin.apart s h p in
      let holds = holds_begin E word_of value (λ links. after_picks E word_of value b before c links (long_left E word_of value b before c) keys (long_keys_left E word_of value b before c)) (last E word_of value b before c) shorts c.kept told
      (words_known (λ t. t.short) s _ h (last E word_of value b before c) c.kept told all.0 all.1 all.2 (knows word_of Live (IsOfSweep sweeps.ShortHolders s) h told true_words)) s items h all.0 all.1 all.2
      (subst (λ (t : State). AreLinks the.word_of told t.short items) all.0 are) in
      (c, holds.0, holds.1)
  turn ShortHolders s kept aside off h (c, p, known) q = λ told true_words items are.
      let all = holds_all E word_of value (λ links. after_picks E word_of value b before c links (long_left E word_of value b before c) keys (long_keys_left E word_of value b before c)) (last E word_of value b before c) shorts c.kept s h p in
      let holds = holds_begin E word_of value (λ links. after_picks E word_of value b before c (short_held E word_of value b before c) links keys (long_keys_left E word_of value b before c)) (last E word_of value b before c) (long_left E word_of value b before c) c.kept told
      (words_known (λ t. t.long) s _ h (last E word_of value b before c) c.kept told all.0 all.1 all.2 (knows word_of Live (IsOfSweep sweeps.LongHolders s) h told true_words)) s items h all.0 all.1 all.2
      (subst (λ (t : State). AreLinks the.word_of told t.long items) all.0 are) in
      (c, holds.0, holds.1)
  turn LongHolders s kept aside off h (c, p, known) q = λ told none items is.
      let all = holds_all E word_of value (λ links. after_picks E word_of value b before c (short_held E word_of value b before c) links keys (long_keys_left E word_of value b before c)) (last E word_of value b before c) (long_left E word_of value b before c) c.kept s h p in (
        c,
        key_holders_begin LongHolders s off h q refl Short keys (ap (λ (t : State). t.ephemerons.short) all.0) items is (last E word_of value b before c) c.kept all.1 all.2
            (λ others. after_picks E word_of value b before c (short_held E word_of value b before c) (long_held E word_of value b before c) others (long_keys_left E word_of value b before c)) all.0,
      )
  turn ShortKeyHolders s kept aside off h (c, p) q = λ told none items is.
      let all = holds_all E word_of value (λ others. after_picks E word_of value b before c (short_held E word_of value b before c) (long_held E word_of value b before c) others (long_keys_left E word_of value b before c)) (last E word_of value b before c) keys c.kept s h p in (
        c,
        key_holders_begin ShortKeyHolders s off h q refl Long (long_keys_left E word_of value b before c) (ap (λ (t : State). t.ephemerons.long) all.0) items is (last E word_of value b before c) c.kept all.1 all.2
            (λ others. after_picks E word_of value b before c (short_held E word_of value b before c) (long_held E word_of value b before c) (keys_held E word_of value b before c) others) all.0,
      )
  turn LongKeyHolders s kept aside off h (c, p) q = λ told true_words items are.
      let all = holds_all E word_of value (λ others. after_picks E word_of value b before c (short_held E word_of value b before c) (long_held E word_of value b before c) (keys_held E word_of value b before c) others) (last E word_of value b before c)
      (long_keys_left E word_of value b before c) c.kept s h p in
      let known : Knows c.kept (IsOfSweep sweeps.LongCleanups (passed E word_of value b before c)) told =
      subst (λ (m : ℕ → Bool). Knows m (IsOfSweep sweeps.LongCleanups (passed E word_of value b before c)) told) all.2
      (subst (λ (t : State). Knows h.marked (IsOfSweep sweeps.LongCleanups t) told) all.0 (knows word_of Marks (IsOfSweep sweeps.LongCleanups s) h told true_words)) in
      let cleaning = cleaning_begins E word_of value Long (passed E word_of value b before c) (last E word_of value b before c) c.kept begin.from told known s items h
      (young_attached E word_of value b before begin c.kept (λ a on. c.settled.more a (c.marks.least a (inl (led_picked E word_of value b before begin c.first a (found_led E word_of value b before begin c.first.leading a on)))))) all.0 all.1 all.2
      (subst (λ (t : State). AreCleanups begin.from told Long t.cleanups items) all.0 are) in
      (c, cleaning.0, cleaning.1)
  turn LongCleanups s kept aside off h (c, p, known) q =
      record { chosen = c; cleaned = cleaning_all E word_of value Long (passed E word_of value b before c) (last E word_of value b before c) c.kept s h p; objects_are = p.objects_are; marks_are = p.marks_are }

  -- ---- what is left at the end

  module _ (s : State) (h : Graph) (p : IsAtEnd E word_of value b before s h) where
    abbrev c : PickedBoth E word_of value b before
    c = p.chosen

    abbrev at_last : Map Object
    at_last = last E word_of value b before c

    lies : (w : ℕ) → points at_last w ≡ points before.objects w
    lies w =
        points-filled (is_dead (last_links E word_of value b before c) (placed word_of b.ephemerons.long) c.kept) 0 (last_links E word_of value b before c) w
        ∙ points-filled (is_dead clearly (placed word_of b.long) c.kept) 0 clearly w
        ∙ points-filled (is_dead begun (placed word_of b.ephemerons.short) before.marked) 0 begun w
        ∙ points-filled (is_dead before.objects (placed word_of b.short) before.marked) 0 before.objects w

    dropped : (links : Map ℕ) (targets : ℕ → Bool) → with_holders word_of at_last (with_targets links targets) c.kept ≡ links_held word_of before.objects links targets c.kept
    dropped links targets = dropped_twice word_of at_last before.objects links targets c.kept lies

    abbrev pub end : State
    end = passed E word_of value b before c

    both : QueuesWhole E word_of value (IsOfKey rows) (contains b.late) b.passes (length b.queue) clearly c.first.leading.led c.kept (tabled b) c.table b.queue end.queue
    both = record {
      picks = c.first.picks;
      late_picks = c.late_picks;
      after = c.first.reached;
      between = c.first.mid;
      after_late = c.reached;
      mid = c.first.table;
      queued = refl;
      picked = c.first.are;
      reached = c.first.marks;
      settled = c.first.settled;
      picked_late = c.are;
      reached_late = c.marks;
      settled_late = c.settled;
    }

    pub decides : DecidesKeyed E word_of value b.passes b.late end.late (parts_in before.objects b) b.ephemerons before.marked (parts_left_in h.objects h.marked end) end.ephemerons b.queue end.queue
    decides =
        let objects_are : retain_keys h.objects h.marked ≡ retain_keys at_last c.kept = λ i. retain_keys (p.objects_are i) (p.marks_are i) in
        let short_is : short_held E word_of value b before c ≡ links_held word_of before.objects b.short before.marked c.kept = dropped b.short before.marked in
        let long_is : long_held E word_of value b before c ≡ links_held word_of before.objects b.long c.kept c.kept = dropped b.long c.kept in
        let keys_are : keys_held E word_of value b before c ≡ links_held word_of before.objects b.ephemerons.short before.marked c.kept = dropped b.ephemerons.short before.marked in
        let long_keys_are : long_keys_held E word_of value b before c ≡ links_held word_of before.objects b.ephemerons.long c.kept c.kept = dropped b.ephemerons.long c.kept in
        decided E word_of value (contains b.late) before.objects b.short b.long b.ephemerons before.marked c.first.leading.first_led c.first.leading.led c.kept (tabled b) c.table b.passes (length b.queue) b.queue end.queue
        (registered E word_of value b before begin) c.first.leading.marks c.first.leading.settled both
        (parts_left_in h.objects h.marked end) end.ephemerons (λ i. record { objects = objects_are i; registrations = c.table.registrations; short = short_is i; long = long_is i })
        (λ i. record { short = keys_are i; long = long_keys_are i })

    pub still_marked : (a : ℕ) → IsTrue (before.marked a) → IsTrue (h.marked a)
    still_marked a on =
        let led = found_led E word_of value b before begin c.first.leading a on in
        let mid = led_picked E word_of value b before begin c.first a led in
        subst (λ (m : ℕ → Bool). IsTrue (m a)) (sym p.marks_are) (c.settled.more a (c.marks.least a (inl mid)))

    pub closed_after : IsClosed h.objects h.marked
    closed_after =
        let whole = whole_closed word_of value clearly (IsOfKey rows) c.kept c.settled.whole in
        let nowhere = points-filled (is_dead clearly (placed word_of b.long) c.kept) 0 clearly 0 ∙ still_nowhere E word_of value b before begin in
        let once = closed_still clearly (placed word_of b.long) c.kept (still_nowhere E word_of value b before begin) whole in
        subst (λ (m : Map Object). IsClosed m h.marked) (sym p.objects_are)
        (subst (IsClosed at_last) (sym p.marks_are) (closed_still (last_links E word_of value b before c) (placed word_of b.ephemerons.long) c.kept nowhere once))
