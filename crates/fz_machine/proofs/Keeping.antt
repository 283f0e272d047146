-- Each answer keeps what holds in its phase.
use Rattle.std.proofs.Common.{◌≡◌, ◌+◌, ◌*◌, ◌^◌, ◌⊎◌, ◌++◌, ◌∷◌, ◌∙◌, [], ℕ, Bool, true, false, not, cond, List, Some, None, refl, sym, ap, subst, inl, inr, ⊎_elim, append_assoc, arith, Option, IsTrue}
use Rattle.std.specs.FinMap.{get, remove}
use Rattle.std.specs.FinSet.{contains}
use Rattle.std.proofs.lemmas.Bool.{both_ways, true≢false}
use Rattle.fz_model.specs.declared.answers.Registration.{Registration}
use Rattle.fz_model.specs.declared.kinds.RegKind.{RegKind}
use Rattle.fz_model.specs.declared.kinds.RegKind.TheVariants as table
use Rattle.fz_model.specs.State.{Map, Object}
use Rattle.fz_model.proofs.Sound.{is_some_of}
use Rattle.fz_model.specs.Reachability.{Leads}
use Rattle.fz_pass.specs.All.{unknown}
use Rattle.fz_pass.specs.Marks.{Marks}
use Rattle.fz_pass.specs.Picking.{left_by, pick_of}
use Rattle.fz_pass.specs.Places.{is_held}
use Rattle.fz_pass.specs.Tiers.{skips}
use Rattle.fz_pass.proofs.Tiers.{skips_flagged, unskips}
use Rattle.fz_finalizers.specs.declared.kinds.Kind.{Kind}
use Rattle.fz_finalizers.specs.Follows.{queued_object}
use Rattle.fz_finalizers.specs.Kinds.{is_late, of_table}
use Rattle.fz_finalizers.specs.States.{State}
use Rattle.fz_machine.specs.declared.item.Item.{Item}
use Rattle.fz_machine.specs.declared.phase.Moment.{Moment}
use Rattle.fz_machine.specs.declared.phase.Moment.TheVariants as moments
use Rattle.fz_machine.specs.declared.phase.Phase.{Phase}
use Rattle.fz_machine.specs.declared.phase.Phase.TheVariants.{Keys, KeysAgain, Holders, Values, Regions, ShortCleanups, ShortTargets, ShortWords, ShortKeys, ShortKeyWords, Objects, Children, Again, Picks, Entries, LateAgain, LatePicks, LongTargets, LongWords, LongKeys, LongKeyWords, ShortHolders, LongHolders, ShortKeyHolders, LongKeyHolders, LongCleanups}
use Rattle.fz_machine.specs.declared.question.Ask.TheVariants.{MarkAlone}
use Rattle.fz_machine.specs.Graph.{Graph, IsHonest}
use Rattle.fz_machine.specs.Items.{of_other, place_of}
use Rattle.fz_machine.specs.Machines.{TellsIn}
use Rattle.fz_machine.specs.Off.{PutOff, put_off}
use Rattle.fz_machine.specs.Phases.{after, ask_of, child_ask, is_known, keeps, pick_ask, subject, without_key}
use Rattle.fz_machine.proofs.Among.{AreInOrder, OneOf, each_push, one_last, one_left, order_after, order_without}
use Rattle.fz_machine.proofs.Begun.{HasBegun, births, late_led, late_starts, late_there, normal, only_long, only_short, others_led, registered, starts}
use Rattle.fz_machine.proofs.Cleaning.{cleaning_on}
use Rattle.fz_machine.proofs.Choosing.{marked_alone, marked_by_kind}
use Rattle.fz_machine.proofs.Chosen.{chosen_again, chosen_more, chosen_on, no_more, place_in, still}
use Rattle.fz_machine.proofs.Entered.{IsLate, IsLateAt, IsOfEither}
use Rattle.fz_machine.proofs.Led.{lead_more}
use Rattle.fz_machine.proofs.Phased.{EntersOn, IsIn, IsSettling, IsUnfound, IsUnled, LeadsOn, PickedBoth, PicksLate, PicksOn, after_picks, begun_with, clear, judged, keys_held, keys_left, long_held, long_keys_left, long_left, short_held, short_left}
use Rattle.fz_machine.proofs.Phasing.{clears_on, holds_on, kept_on, sifts_on}
use Rattle.fz_machine.proofs.Reaching.{AreReaching, reach_more, reach_none}
use Rattle.fz_machine.proofs.DeadWords.{remove_none, retained_before, retained_none}
use Rattle.fz_machine.proofs.Sifting.{IsAt}
use Rattle.fz_machine.proofs.Stated.{queued_none, queued_on, state_with, tabled, with_keys}
use Rattle.fz_machine.proofs.Waiting.{looks_on, looks_told}

not_late_kind : (kind : RegKind) → is_late (of_table false kind) ≡ false
not_late_kind table.Normal = refl
not_late_kind table.IgnoreSelf = refl
not_late_kind table.NoOrder = refl

module _ (E : Type 0) (word_of : ℕ → Option ℕ) (value : Map Object → ℕ → Option ℕ) (b : State) (before : Graph) (begin : HasBegun word_of value b before) where
  abbrev Either : Item → Type 0
  Either = IsOfEither b.registrations b.late

  abbrev Late : Item → Type 0
  Late = IsLate b.registrations b.late

  abbrev clearly : Map Object
  clearly = clear E word_of value b before

  abbrev keyed : State
  keyed = with_keys b (judged E word_of value b before)

  -- ---- children

  leads_on : (s : State) (kept left : List Item) (item : Item) (h new : Graph) → LeadsOn E word_of value b before s kept (item ∷ left) h → (answer : Bool) → IsHonest E word_of value (child_ask item.kind) item.object h answer new
      → LeadsOn E word_of value b before s (kept ++ item ∷ []) left new
  leads_on s kept left item h new p answer honest = record {
    state = p.state;
    are = lead_more E word_of value clearly b.registrations b.late before.marked (registered E word_of value b before begin) (normal E word_of value b before begin) item left h new p.are p.left_are.0.1 p.left_are.0.0 answer honest;
    kept_are = each_push (IsUnfound E word_of value b before) kept item p.kept_are p.left_are.0;
    left_are = p.left_are.1;
    rest = λ object word at off. ⊎_elim (λ k. inl (one_left (IsAt object word) kept (item ∷ []) k)) (by object word) (p.rest object word at off);
  }
    where
      by : (object word : ℕ) → OneOf (IsAt object word) (item ∷ left) → OneOf (IsAt object word) (kept ++ item ∷ []) ⊎ OneOf (IsAt object word) left
      by object word (inl at) = inl (one_last (IsAt object word) kept item at)
      by object word (inr k) = inr k

  -- ---- picks

  picks_on : (s : State) (kept left : List Item) (item : Item) (h new : Graph) → PicksOn E word_of value b before s kept (item ∷ left) h → (answer : Bool) → IsHonest E word_of value (pick_ask item.kind) item.object h answer new
      → PicksOn E word_of value b before s (kept ++ item ∷ []) left new
  picks_on s kept left item h new p answer honest = record {
    leading = p.leading;
    state = p.state;
    are = by p.left_are.0.0;
    kept_are = each_push (IsUnled E word_of value b before p.leading) kept item p.kept_are p.left_are.0;
    left_are = p.left_are.1;
    rest = λ object word at off. ⊎_elim (λ k. inl (one_left (IsAt object word) kept (item ∷ []) k)) (passed object word) (p.rest object word at off);
  }
    where
      by : Either item → AreReaching E clearly b.registrations p.leading.led (skips false (contains b.late) p.leading.led) left new
      by (inl (r, here, off, is)) =
          let m = marked_by_kind E word_of value clearly item.object h new p.are.objects p.are.closed (registered E word_of value b before begin item.object r here) r.kind
          (λ a leads. p.are.least a (others_led E word_of value b before begin p.leading item.object r here (ap not p.left_are.0.1) a leads)) answer
          (subst (λ (k : Kind). IsHonest E word_of value (pick_ask k) item.object h answer new) (ap (λ (i : Item). i.kind) is) honest) in
          reach_more E clearly b.registrations p.leading.led (skips false (contains b.late) p.leading.led) item left h new p.are r here (unskips false (contains b.late) p.leading.led item.object off p.left_are.0.1) m.0 m.1
      by (inr late) =
          reach_none E clearly b.registrations p.leading.led (skips false (contains b.late) p.leading.led) item left h new p.are (skips_flagged (contains b.late) p.leading.led item.object late.2)
          (subst (λ (k : Kind). IsHonest E word_of value (pick_ask k) item.object h answer new) (ap (λ (i : Item). i.kind) late.3) honest)

      passed : (object word : ℕ) → OneOf (IsAt object word) (item ∷ left) → OneOf (IsAt object word) (kept ++ item ∷ []) ⊎ OneOf (IsAt object word) left
      passed object word (inl at) = inl (one_last (IsAt object word) kept item at)
      passed object word (inr k) = inr k

  -- ---- entries

  module _ (s : State) (kept left : List Item) (item : Item) (h : Graph) (p : EntersOn E word_of value b before s kept (item ∷ left) h) where
    -- one that comes late waits
    waits : Late item → EntersOn E word_of value b before s (kept ++ item ∷ []) left h
    waits late = record {
      leading = p.leading;
      now = p.now;
      picks = p.picks;
      state = p.state;
      are = chosen_on E clearly (tabled b) p.leading.led false (contains b.late) 0 p.now p.picks left item h (skips_flagged (contains b.late) p.leading.led item.object late.2) p.are;
      reached = p.reached;
      kept_are = each_push (λ i. Late i × (p.leading.led i.object ≡ false)) kept item p.kept_are (late, p.left_are.0.1);
      left_are = p.left_are.1;
      rest = λ object word at off. ⊎_elim (λ k. inl (one_left (IsAt object word) kept (item ∷ []) k)) (by object word) (p.rest object word at off);
      ordered = subst (AreInOrder place_of) (sym (append_assoc kept (item ∷ []) left)) p.ordered;
    }
      where
        by : (object word : ℕ) → OneOf (IsAt object word) (item ∷ left) → OneOf (IsAt object word) (kept ++ item ∷ []) ⊎ OneOf (IsAt object word) left
        by object word (inl at) = inl (one_last (IsAt object word) kept item at)
        by object word (inr k) = inr k

    -- another is queued
    module _ (r : Registration) (here : get b.registrations item.object ≡ Some r) (off : contains b.late item.object ≡ false) (is : item ≡ of_other item.known (item.object, r)) where
      unskipped : skips false (contains b.late) p.leading.led item.object ≡ false
      unskipped = unskips false (contains b.late) p.leading.led item.object off p.left_are.0.1

      -- it and all that it leads to are marked already
      m : Marks E clearly h.marked h.marked (Leads clearly item.object)
      m = record { closed = p.are.closed; least = λ a. ⊎_elim (λ on. on) (λ leads. p.reached item.object r here unskipped a leads); most = λ exact a on. inl on }

      place : place_of item ≡ place_in 0 item.object r
      place = ap place_of is ∙ (let added : r.rank * 2 ^ 64 + item.object ≡ (0 + r.rank) * 2 ^ 64 + item.object = omega arith in added)

      others : (object word : ℕ) → IsLateAt b.registrations b.late object word → p.leading.led object ≡ false → OneOf (IsAt object word) kept ⊎ OneOf (IsAt object word) left
      others object word at free = ⊎_elim inl by (p.rest object word at free)
        where
          by : OneOf (IsAt object word) (item ∷ left) → OneOf (IsAt object word) kept ⊎ OneOf (IsAt object word) left
          by (inl here_at) = absurd (both_ways (contains b.late item.object) off (ap (contains b.late) here_at.0 ∙ at.1))
          by (inr k) = inr k

      again : p.are.gone item.object ≡ true → EntersOn E word_of value b before (queued_object s item.object) kept left h
      again on = record {
        leading = p.leading;
        now = p.now;
        picks = p.picks;
        state = ap (λ t. queued_object t item.object) p.state
            ∙ queued_none keyed (short_left E word_of value b before) b.long p.now.registrations p.now.late p.picks item.object
            (no_more E clearly (tabled b) p.leading.led false (contains b.late) 0 p.now p.picks item left h h p.are r here unskipped place on);
        are = chosen_again E clearly (tabled b) p.leading.led false (contains b.late) 0 p.now p.picks item left h h p.are r here unskipped place refl m on;
        reached = p.reached;
        kept_are = p.kept_are;
        left_are = p.left_are.1;
        rest = others;
        ordered = order_without place_of kept item left p.ordered;
      }

      now_picked : p.are.gone item.object ≡ false → EntersOn E word_of value b before (queued_object s item.object) kept left h
      now_picked none =
          let object = is_some_of (get clearly item.object) (ap not (registered E word_of value b before begin item.object r here)) in
          record {
            leading = p.leading;
            now = left_by p.now item.object;
            picks = p.picks ++ pick_of r item.object unknown ∷ [];
            state = ap (λ t. queued_object t item.object) p.state
                ∙ queued_on keyed (short_left E word_of value b before) b.long p.now.registrations p.now.late p.picks item.object r
                (still E clearly (tabled b) p.leading.led false (contains b.late) 0 p.now p.picks item left h h p.are r here unskipped place none);
            reached = p.reached;
            are = chosen_more E clearly (tabled b) p.leading.led false (contains b.late) 0 p.now p.picks item left h h p.are r here unskipped place refl m (starts E word_of value b before begin)
                (order_after place_of kept item left p.ordered) object.0 object.1 (births E word_of value b before begin item.object object.0 object.1) none;
            kept_are = p.kept_are;
            left_are = p.left_are.1;
            rest = others;
            ordered = order_without place_of kept item left p.ordered;
          }

      picked : (on : Bool) → p.are.gone item.object ≡ on → EntersOn E word_of value b before (queued_object s item.object) kept left h
      picked true on = again on
      picked false none = now_picked none

    enters_on : (new : Graph) → new ≡ h → EntersOn E word_of value b before (cond (is_late item.kind) s (queued_object s item.object)) (kept_on (is_late item.kind) kept item) left new
    enters_on new same =
        subst (λ (x : Graph). EntersOn E word_of value b before (cond (is_late item.kind) s (queued_object s item.object)) (kept_on (is_late item.kind) kept item) left x) (sym same) (by p.left_are.0.0)
      where
        by : Either item → EntersOn E word_of value b before (cond (is_late item.kind) s (queued_object s item.object)) (kept_on (is_late item.kind) kept item) left h
        by (inl (r, here, off, is)) =
            subst (λ late. EntersOn E word_of value b before (cond late s (queued_object s item.object)) (kept_on late kept item) left h) (sym (ap is_late (ap (λ (i : Item). i.kind) is) ∙ not_late_kind r.kind)) (picked r here off is (p.are.gone item.object) refl)
        by (inr late) =
            subst (λ (k : Kind). EntersOn E word_of value b before (cond (is_late k) s (queued_object s item.object)) (kept_on (is_late k) kept item) left h) (sym (ap (λ (i : Item). i.kind) late.3)) (waits late)

  -- ---- picks of late ones

  module _ (s : State) (left : List Item) (item : Item) (h new : Graph) (p : PicksLate E word_of value b before s (item ∷ left) h) where
    abbrev r : Registration
    r = p.left_are.0.0.0

    on_it : contains b.late item.object ≡ true
    on_it = p.left_are.0.0.2

    was : get b.registrations item.object ≡ Some r
    was = p.left_are.0.0.1

    here : get p.first.table.registrations item.object ≡ Some r
    here = late_there E word_of value b before begin p.first item.object on_it ∙ was

    late_unskipped : skips true (contains b.late) p.first.mid item.object ≡ false
    late_unskipped = unskips true (contains b.late) p.first.mid item.object on_it p.left_are.0.1

    late_place : place_of item ≡ place_in 256 item.object r
    late_place = ap place_of p.left_are.0.0.3

    module _ (same : new.objects ≡ h.objects) (m : Marks E clearly h.marked new.marked (Leads clearly item.object)) where
      again_late : p.are.gone item.object ≡ true → PicksLate E word_of value b before (queued_object s item.object) left new
      again_late on = record {
        first = p.first;
        now = p.now;
        late_picks = p.late_picks;
        state = ap (λ t. queued_object t item.object) p.state
            ∙ queued_none keyed (short_left E word_of value b before) b.long p.now.registrations p.now.late (p.first.picks ++ p.late_picks) item.object
            (no_more E clearly p.first.table p.first.mid true (contains b.late) 256 p.now p.late_picks item left h new p.are r here late_unskipped late_place on);
        are = chosen_again E clearly p.first.table p.first.mid true (contains b.late) 256 p.now p.late_picks item left h new p.are r here late_unskipped late_place same m on;
        left_are = p.left_are.1;
        ordered = p.ordered.1;
      }

      late_picked : p.are.gone item.object ≡ false → PicksLate E word_of value b before (queued_object s item.object) left new
      late_picked none =
          let object = is_some_of (get clearly item.object) (ap not (registered E word_of value b before begin item.object r was)) in
          let pick = pick_of r item.object unknown in
          record {
            first = p.first;
            now = left_by p.now item.object;
            late_picks = p.late_picks ++ pick ∷ [];
            state = ap (λ t. queued_object t item.object) p.state
                ∙ queued_on keyed (short_left E word_of value b before) b.long p.now.registrations p.now.late (p.first.picks ++ p.late_picks) item.object r
                (still E clearly p.first.table p.first.mid true (contains b.late) 256 p.now p.late_picks item left h new p.are r here late_unskipped late_place none)
                ∙ ap (λ ps. state_with keyed (short_left E word_of value b before) b.long (left_by p.now item.object).registrations (left_by p.now item.object).late ps) (append_assoc p.first.picks p.late_picks (pick ∷ []));
            are = chosen_more E clearly p.first.table p.first.mid true (contains b.late) 256 p.now p.late_picks item left h new p.are r here late_unskipped late_place same m (late_starts E word_of value b before begin p.first)
                p.ordered.0 object.0 object.1 (births E word_of value b before begin item.object object.0 object.1) none;
            left_are = p.left_are.1;
            ordered = p.ordered.1;
          }

      picked_late : (on : Bool) → p.are.gone item.object ≡ on → PicksLate E word_of value b before (queued_object s item.object) left new
      picked_late true on = again_late on
      picked_late false none = late_picked none

    picks_late_on : (answer : Bool) → IsHonest E word_of value (Some MarkAlone) item.object h answer new → PicksLate E word_of value b before (queued_object s item.object) left new
    picks_late_on answer honest =
        let m = marked_alone E word_of value clearly item.object h new p.are.objects p.are.closed (registered E word_of value b before begin item.object r was) r.kind (inl (normal E word_of value b before begin item.object r was on_it))
        (λ a leads. p.are.least a (late_led E word_of value b before begin p.first item.object r here (ap not p.left_are.0.1) a leads)) answer honest in
        picked_late m.0 m.1 (p.are.gone item.object) refl

  -- ---- ephemerons go

  abbrev shorts : Map ℕ
  shorts = short_left E word_of value b before

  abbrev keys : Map ℕ
  keys = keys_left E word_of value b before

  abbrev longs : PickedBoth E word_of value b before → Map ℕ
  longs c = long_keys_left E word_of value b before c

  key_word_on : (now : Map ℕ) (word key : ℕ) → get b.ephemerons.short word ≡ Some key → without_key (begun_with E word_of value b before shorts now) word ≡ begun_with E word_of value b before shorts (remove now word)
  key_word_on now word key here =
      let none = remove_none b.ephemerons.long word (only_short E word_of value b before begin word key here) in
      λ i. record (begun_with E word_of value b before shorts now) { ephemerons = record { short = remove now word; long = none i } }

  module _ (c : PickedBoth E word_of value b before) (short long : Map ℕ) where
    -- a short one goes, and the long ones have none of this word
    short_key_on : (others : Map ℕ) → ((word : ℕ) → get b.ephemerons.long word ≡ None → get others word ≡ None) → (now : Map ℕ) (word key : ℕ) → get keys word ≡ Some key
        → without_key (after_picks E word_of value b before c short long now others) word ≡ after_picks E word_of value b before c short long (remove now word) others
    short_key_on others fewer now word key here =
        let was = retained_before b.ephemerons.short _ word key here in
        let none = remove_none others word (fewer word (only_short E word_of value b before begin word key was)) in
        λ i. record (after_picks E word_of value b before c short long now others) { ephemerons = record { short = remove now word; long = none i } }

    long_key_on : (others : Map ℕ) → ((word : ℕ) → get b.ephemerons.short word ≡ None → get others word ≡ None) → (now : Map ℕ) (word key : ℕ) → get b.ephemerons.long word ≡ Some key
        → without_key (after_picks E word_of value b before c short long others now) word ≡ after_picks E word_of value b before c short long others (remove now word)
    long_key_on others fewer now word key here =
        let none = remove_none others word (fewer word (only_long E word_of value b before begin word key here)) in
        λ i. record (after_picks E word_of value b before c short long others now) { ephemerons = record { short = none i; long = remove now word } }

  no_keys : (word : ℕ) → get b.ephemerons.short word ≡ None → get keys word ≡ None
  no_keys word none = retained_none b.ephemerons.short _ word none

  -- ---- while the marks become whole

  settles_on : (moment : Moment) (phase : Phase) (s : State) (kept left aside : List Item) (off : PutOff) (item : Item) (h new : Graph) → IsSettling E word_of value b before moment phase s kept (item ∷ left) aside off h → (answer : Bool)
      → IsHonest E word_of value (ask_of phase item) (subject phase item) h answer new
      → IsSettling E word_of value b before moment phase s (kept_on (keeps phase item answer) kept item) left aside (put_off phase item answer off) new
  settles_on moments.First phase s kept left aside off item h new p answer honest = absurd p
  settles_on moments.Led phase s kept left aside off item h new (w, p) answer honest = (w, looks_on E word_of value clearly (judged E word_of value b before) w.marked phase kept left off item h new p answer honest)
  settles_on moments.Picked phase s kept left aside off item h new (w, p) answer honest = (w, looks_on E word_of value clearly (judged E word_of value b before) w.marked phase kept left off item h new p answer honest)
  settles_on moments.Last phase s kept left aside off item h new (w, p) answer honest = (w, looks_on E word_of value clearly (judged E word_of value b before) w.marked phase kept left off item h new p answer honest)

  -- the host tells a key
  settles_told : (key : ℕ) (moment : Moment) (phase : Phase) (s : State) (kept left aside : List Item) (older newer : PutOff) (h : Graph) → TellsIn (Some phase) key older newer → IsSettling E word_of value b before moment phase s kept left aside older h
      → IsSettling E word_of value b before moment phase s kept left aside newer h
  settles_told key moments.First phase s kept left aside older newer h tells p = absurd p
  settles_told key moments.Led phase s kept left aside older newer h tells (w, p) = (w, looks_told E word_of value clearly (judged E word_of value b before) w.marked key phase kept left older newer h tells p)
  settles_told key moments.Picked phase s kept left aside older newer h tells (w, p) = (w, looks_told E word_of value clearly (judged E word_of value b before) w.marked key phase kept left older newer h tells p)
  settles_told key moments.Last phase s kept left aside older newer h tells (w, p) = (w, looks_told E word_of value clearly (judged E word_of value b before) w.marked key phase kept left older newer h tells p)

  -- ---- all phases

  pub told : (key : ℕ) (phase : Phase) (s : State) (kept left aside : List Item) (older newer : PutOff) (h : Graph) → TellsIn (Some phase) key older newer → IsIn E word_of value b before phase s kept left aside older h → IsIn E word_of value b before phase s kept left aside newer h
  told key (Values moment) s kept left aside older newer h tells p = settles_told key moment (Values moment) s kept left aside older newer h tells p
  told key phase s kept left aside older newer h tells p = subst (λ (off : PutOff). IsIn E word_of value b before phase s kept left aside off h) (sym tells) p

  pub keep : (phase : Phase) (s : State) (kept left aside : List Item) (off : PutOff) (item : Item) (h new : Graph) → IsIn E word_of value b before phase s kept (item ∷ left) aside off h → (answer : Bool)
      → IsHonest E word_of value (ask_of phase item) (subject phase item) h answer new
      → IsIn E word_of value b before phase (after phase item answer s) (kept_on (keeps phase item answer) kept item) left aside (put_off phase item answer off) new
  keep (Keys moment) s kept left aside off item h new p answer honest = settles_on moment (Keys moment) s kept left aside off item h new p answer honest
  keep (KeysAgain moment) s kept left aside off item h new p answer honest = settles_on moment (KeysAgain moment) s kept left aside off item h new p answer honest
  keep (Holders moment) s kept left aside off item h new p answer honest = settles_on moment (Holders moment) s kept left aside off item h new p answer honest
  keep (Values moment) s kept left aside off item h new p answer honest = settles_on moment (Values moment) s kept left aside off item h new p answer honest
  keep (Regions sweep) s kept left aside off item h new p answer honest = absurd p
  keep ShortCleanups s kept left aside off item h new p answer honest = absurd p
  keep ShortTargets s kept left aside off item h new (p, known) answer honest = (sifts_on E word_of value _ _ _ _ _ s kept left item h new p answer honest, known.1)
  keep ShortWords s kept left aside off item h new p answer honest = clears_on E word_of value _ _ _ _ (λ t word. record t { short = remove t.short word }) (λ now word target here. refl) s left item h new p answer honest
  keep ShortKeys s kept left aside off item h new p answer honest = sifts_on E word_of value _ _ _ _ _ s kept left item h new p answer honest
  keep ShortKeyWords s kept left aside off item h new p answer honest = clears_on E word_of value _ _ _ _ without_key key_word_on s left item h new p answer honest
  keep Objects s kept left aside off item h new (p, known) answer honest = (sifts_on E word_of value _ _ _ _ _ s kept left item h new p answer honest, known.1)
  keep Children s kept left aside off item h new p answer honest = leads_on s kept left item h new p answer honest
  keep Again s kept left aside off item h new (l, p) answer honest = (l, sifts_on E word_of value _ _ _ _ _ s kept left item h new p answer honest)
  keep Picks s kept left aside off item h new p answer honest = picks_on s kept left item h new p answer honest
  keep Entries s kept left aside off item h new p answer same = enters_on s kept left item h p new same
  keep LateAgain s kept left aside off item h new (c, p, ordered) answer honest = (c, sifts_on E word_of value _ _ _ _ _ s kept left item h new p answer honest, by answer)
    where
      by : (yes : Bool) → AreInOrder place_of (kept_on (not yes) kept item ++ left)
      by true = order_without place_of kept item left ordered
      by false = subst (AreInOrder place_of) (sym (append_assoc kept (item ∷ []) left)) ordered
  keep LatePicks s kept left aside off item h new p answer honest = picks_late_on s left item h new p answer honest
  keep LongTargets s kept left aside off item h new (c, p, known) answer honest = (c, sifts_on E word_of value _ _ _ _ _ s kept left item h new p answer honest, known.1)
  keep LongWords s kept left aside off item h new (c, p) answer honest =
      (c, clears_on E word_of value _ _ _ _ (λ t word. record t { long = remove t.long word }) (λ now word target here. refl) s left item h new p answer honest)
  keep LongKeys s kept left aside off item h new (c, p) answer honest = (c, sifts_on E word_of value _ _ _ _ _ s kept left item h new p answer honest)
  keep LongKeyWords s kept left aside off item h new (c, p) answer honest =
      (c, clears_on E word_of value _ _ _ _ without_key (long_key_on c shorts (long_left E word_of value b before c) keys no_keys) s left item h new p answer honest)
  keep ShortHolders s kept left aside off item h new (c, p, known) answer honest =
      (c, holds_on E word_of value _ _ _ _ (λ t word. record t { short = remove t.short word }) (λ now word target here. refl) s left item h new p answer honest, known.1)
  keep LongHolders s kept left aside off item h new (c, p, known) answer honest =
      (c, holds_on E word_of value _ _ _ _ (λ t word. record t { long = remove t.long word }) (λ now word target here. refl) s left item h new p answer honest, known.1)
  keep ShortKeyHolders s kept left aside off item h new (c, p) answer honest = (
    c,
    holds_on E word_of value _ _ _ _ without_key
        (short_key_on c (short_held E word_of value b before c) (long_held E word_of value b before c) (longs c) (λ word none. retained_none b.ephemerons.long _ word none)) s left item h new p answer honest,
  )
  keep LongKeyHolders s kept left aside off item h new (c, p) answer honest = (
    c,
    holds_on E word_of value _ _ _ _ without_key
        (λ now word key here. long_key_on c (short_held E word_of value b before c) (long_held E word_of value b before c) (keys_held E word_of value b before c) (λ w none. retained_none keys _ w (no_keys w none)) now word key (retained_before b.ephemerons.long _ word key here))
        s left item h new p answer honest,
  )
  keep LongCleanups s kept left aside off item h new (c, p, known) answer honest = (c, cleaning_on E word_of value _ _ _ _ s left item h new p answer honest, known.1)

  -- ---- what is known

  abbrev IsFalseAnswer : Phase → Item → Graph → Type 0
  IsFalseAnswer phase item h = IsHonest E word_of value (ask_of phase item) (subject phase item) h false h

  -- an item that isn't asked about would be answered by false
  pub known_so : (phase : Phase) (s : State) (kept left aside : List Item) (off : PutOff) (item : Item) (h : Graph) → IsIn E word_of value b before phase s kept (item ∷ left) aside off h → IsTrue (is_known phase item) → IsFalseAnswer phase item h
  known_so ShortTargets s kept left aside off item h (p, known) is = λ may. (sym (ap (λ (m : ℕ → Bool). m item.object) p.marks_are ∙ known.0 is), refl)
  known_so Objects s kept left aside off item h (p, known) is = λ may. (sym (ap (λ (m : ℕ → Bool). m item.object) p.marks_are ∙ known.0 is), refl)
  known_so LongTargets s kept left aside off item h (c, p, known) is = λ may. (sym (ap (λ (m : ℕ → Bool). m item.object) p.marks_are ∙ known.0 is), refl)
  known_so ShortHolders s kept left aside off item h (c, p, known) is = λ may. (sym ((λ i. is_held word_of (p.objects_are i) (p.marks_are i) item.word) ∙ known.0 is), refl)
  known_so LongHolders s kept left aside off item h (c, p, known) is = λ may. (sym ((λ i. is_held word_of (p.objects_are i) (p.marks_are i) item.word) ∙ known.0 is), refl)
  known_so LongCleanups s kept left aside off item h (c, p, known) is = λ may. (sym (ap (λ (m : ℕ → Bool). m item.object) p.marks_are ∙ known.0 is), refl)
  known_so ShortCleanups s kept left aside off item h p is = absurd p
  known_so phase s kept left aside off item h p is = absurd (true≢false (sym is))
