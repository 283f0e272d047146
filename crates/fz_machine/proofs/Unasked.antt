-- What is marked costs no answers, if it is noted.
use Rattle.std.proofs.Common.{◌≡◌, ◌⊎◌, ◌≤◌, ◌+◌, ◌&&◌, ◌∷◌, ◌∙◌, [], ℕ, suc, Bool, true, false, true≢false, IsTrue, cond, not, nat_eq, nat_le, is_some, List, length, filter, map, Option, Some, None, refl, inl, inr, ⊎_elim, sym, ap, subst, length-append, arith}
use Rattle.std.proofs.lemmas.Bool.{both_ways, eq-eqb}
use Rattle.std.proofs.lemmas.List.{length-map}
use Rattle.std.proofs.lemmas.Map.Keys.{IsDistinct-head, IsDistinct-tail}
use Rattle.std.proofs.lemmas.Map.Made.{IsDistinct-keys_filter}
use Rattle.std.proofs.lemmas.Option.{none-some, same_Some}
use Rattle.std.specs.FinMap.{get, len, remove, retain_keys}
use Rattle.std.specs.List.{AllByRecursion, IsDistinct}
use Rattle.std.specs.Map.{keys_of}
use Rattle.std.specs.Option.{option_map_or}
use Rattle.fz_model.specs.declared.answers.Registration.{Registration}
use Rattle.fz_model.specs.State.{Map, Object}
use Rattle.fz_model.proofs.Maps.{get-remove_other, get-retain}
use Rattle.fz_table.specs.declared.stored.Stored.{Stored}
use Rattle.fz_table.specs.Tabled.{Set, plain, shown}
use Rattle.fz_pass.specs.Marks.{with_targets}
use Rattle.fz_finalizers.specs.declared.cleanups.Attached.{Attached}
use Rattle.fz_finalizers.specs.States.{State}
use Rattle.fz_finalizers.proofs.Counting.{len_gone}
use Rattle.fz_finalizers.proofs.Keying.{single}
use Rattle.fz_finalizers.proofs.Promised.{promised}
use Rattle.fz_machine.specs.declared.item.Item.{Item}
use Rattle.fz_machine.specs.declared.pass.Next.{Next}
use Rattle.fz_machine.specs.declared.pass.Next.TheVariants as told
use Rattle.fz_machine.specs.declared.phase.Phase.{Phase}
use Rattle.fz_machine.specs.declared.phase.Phase.TheVariants.{Keys, KeysAgain, Holders, Values, Regions, ShortTargets, Objects, LongTargets}
use Rattle.fz_machine.specs.declared.phase.Sweep.{Sweep}
use Rattle.fz_machine.specs.declared.phase.Sweep.TheVariants as sweeps
use Rattle.fz_machine.specs.declared.question.Ask.{Ask}
use Rattle.fz_machine.specs.declared.question.Ask.TheVariants.{IsMarked}
use Rattle.fz_machine.specs.Graph.{Graph, graph_of}
use Rattle.fz_machine.specs.Items.{AreLinks, AreObjects, of_late, of_link, of_other, of_stored, target_of}
use Rattle.fz_machine.specs.Machines as machines
use Rattle.fz_machine.specs.Machines.{Answers, Heard, Machine, Tells, Words, heard_by, is_noted}
use Rattle.fz_machine.specs.Off.{PutOff, looks_again, put_off}
use Rattle.fz_machine.specs.Phases.{after, asks, keeps, next_phase, swept}
use Rattle.fz_machine.specs.Regions.{is_marked, is_unmarked}
use Rattle.fz_machine.specs.Runs.{AreHonest, Begun, CostsUnmarked, Goes, IsTrueOf, Meanwhile, Runs, Told, answered, answers_in}
use Rattle.fz_machine.specs.Steps.{Asks, Begins, Ends, Going, GoesOn, Sweeps, Turns, skip, skipped}
use Rattle.fz_machine.proofs.Among.{Each, each_as, each_filter, each_unmapped}
use Rattle.fz_machine.proofs.Begun.{HasBegun, found_led, led_picked}
use Rattle.fz_machine.proofs.Cleaning.{after_due}
use Rattle.fz_machine.proofs.Due.{both_kinds}
use Rattle.fz_machine.proofs.Entered.{stands}
use Rattle.fz_machine.proofs.Fewer.{AreFewListed, IsEnough, IsFit, IsHearing, IsPassed, answers_few, begins_few, cost, cost_each, cost_kept, fit_begins, fit_still, goes_few, most_is, sized, to_come_in, told_few, worked_few}
use Rattle.fz_machine.proofs.Opening as opening
use Rattle.fz_machine.proofs.Opening.{IsOfFirst, begin_found}
use Rattle.fz_machine.proofs.Phased as phased
use Rattle.fz_machine.proofs.Phasing.{kept_on}
use Rattle.fz_machine.proofs.Ran as ran
use Rattle.fz_machine.proofs.Rounds as rounds
use Rattle.fz_machine.proofs.Turned.{is_sweep, swept_no_sweep}
use Rattle.fz_machine.proofs.Throughout.{goes_keep, heard_answers, heard_keeps, heard_words, skip_keeps}
use Rattle.fz_machine.proofs.Working.{apart, goes_apart, going_apart, heard_apart, work_apart}

-- ---- as many keys as a map has

others : {X : Type 0} (m : Map X) (k : ℕ) (ks : List ℕ) → AllByRecursion (λ y. nat_eq k y ≡ false) ks → Each (λ x. is_some (get m x) ≡ true) ks → Each (λ x. is_some (get (remove m k) x) ≡ true) ks
others m k [] apart h = tt
others m k (x ∷ ks) apart h = (ap is_some (get-remove_other m k x (λ same. other same apart.0)) ∙ h.0, others m k ks apart.1 h.1)
  where
    other : x ≡ k → nat_eq k x ≡ false → ⊥
    other same un = true≢false (sym (eq-eqb k x (sym same)) ∙ un)

few_keys : {X : Type 0} (m : Map X) (ks : List ℕ) → Each (λ k. is_some (get m k) ≡ true) ks → IsDistinct nat_eq ks → length ks ≤ len m
few_keys m [] h once = omega arith
few_keys m (k ∷ ks) h once =
    let gone = len_gone m k h.0 in
    let rest = few_keys (remove m k) ks (others m k ks (IsDistinct-head nat_eq k ks once) h.1) (IsDistinct-tail nat_eq k ks once) in
    omega (arith, gone, rest)

each_key : {X Y : Type 0} (m : Map Y) (es : List (ℕ × X)) → Each (λ e. is_some (get m e.0) ≡ true) es → Each (λ k. is_some (get m k) ≡ true) (keys_of es)
each_key m [] h = tt
each_key m (e ∷ es) h = (h.0, each_key m es h.1)

both : {X : Type 0} (P Q R : X → Type 0) → ((x : X) → P x → Q x → R x) → (xs : List X) → Each P xs → Each Q xs → Each R xs
both P Q R f [] h k = tt
both P Q R f (x ∷ xs) h k = (f x h.0 k.0, both P Q R f xs h.1 k.1)

-- ---- how many are listed, if none of them passes a test

module _ (un : ℕ → Bool) (from : ℕ) (told : List (ℕ × ℕ)) where
  objects_passing : (registrations : Map Registration) (late : Set) (items : List Item) → AreObjects from told registrations late items → Each (λ (i : Item). un i.object ≡ true) items → length items ≤ len (retain_keys registrations un)
  objects_passing registrations late items are on =
      let long = ap length are.3 ∙ length-map those item_at in
      let keys = length-map those (λ (e : ℕ × Stored). e.0) in
      let few = few_keys (retain_keys registrations un) (keys_of those) (each_key (retain_keys registrations un) those there) (IsDistinct-keys_filter nat_eq stays are.0 once) in
      omega (arith, long, keys, few)
    where
      stays : ℕ × Stored → Bool
      stays e = nat_le from e.1.number && not (is_marked told e.0)

      item_at : ℕ × Stored → Item
      item_at e = of_stored (is_unmarked told e.0) e

      those : List (ℕ × Stored)
      those = filter stays are.0

      same_keys : (es : List (ℕ × Stored)) → keys_of (map plain es) ≡ keys_of es
      same_keys [] = refl
      same_keys (e ∷ es) = ap (λ ks. e.0 ∷ ks) (same_keys es)

      once : IsDistinct nat_eq (keys_of are.0)
      once = subst (IsDistinct nat_eq) (same_keys are.0) are.1.1

      here : Each (λ (e : ℕ × Stored). get registrations e.0 ≡ Some (shown e.1)) those
      here = each_filter (λ (e : ℕ × Stored). get registrations e.0 ≡ Some (shown e.1)) stays are.0 (each_unmapped plain (λ e. get registrations e.0 ≡ Some e.1) are.0 (stands registrations (map plain are.0) are.1))

      passing : Each (λ (e : ℕ × Stored). un (item_at e).object ≡ true) those
      passing = each_unmapped item_at (λ (i : Item). un i.object ≡ true) those (subst (Each (λ (i : Item). un i.object ≡ true)) are.3 on)

      object_is : (e : ℕ × Stored) → (item_at e).object ≡ e.0
      object_is e = by e.1.unreachable
        where
          by : (b : Bool) → (cond b (of_late (is_unmarked told e.0) (plain e)) (of_other (is_unmarked told e.0) (plain e))).object ≡ e.0
          by true = refl
          by false = refl

      there : Each (λ (e : ℕ × Stored). is_some (get (retain_keys registrations un) e.0) ≡ true) those
      there = both (λ (e : ℕ × Stored). get registrations e.0 ≡ Some (shown e.1)) (λ (e : ℕ × Stored). un (item_at e).object ≡ true) (λ (e : ℕ × Stored). is_some (get (retain_keys registrations un) e.0) ≡ true)
          (λ e is passes. ap is_some (get-retain registrations un e.0 ∙ ap (λ b. cond b (get registrations e.0) None) (ap un (sym (object_is e)) ∙ passes) ∙ is)) those here passing

  links_passing : (links : Map ℕ) (items : List Item) → AreLinks target_of told links items → Each (λ (i : Item). un i.object ≡ true) items → length items ≤ len (with_targets links un)
  links_passing links items are on =
      let long = ap length are.2 ∙ length-map those item_at in
      let keys = length-map those (λ (e : ℕ × ℕ). e.0) in
      let few = few_keys (with_targets links un) (keys_of those) (each_key (with_targets links un) those there) (IsDistinct-keys_filter nat_eq stays are.0 are.1.1) in
      omega (arith, long, keys, few)
    where
      stays : ℕ × ℕ → Bool
      stays e = not (is_marked told (target_of e))

      item_at : ℕ × ℕ → Item
      item_at e = of_link (is_unmarked told (target_of e)) e

      those : List (ℕ × ℕ)
      those = filter stays are.0

      test : ℕ → Bool
      test link = option_map_or un (get links link) false

      here : Each (λ (e : ℕ × ℕ). get links e.0 ≡ Some e.1) those
      here = each_filter (λ (e : ℕ × ℕ). get links e.0 ≡ Some e.1) stays are.0 (stands links are.0 are.1)

      passing : Each (λ (e : ℕ × ℕ). un e.1 ≡ true) those
      passing = each_unmapped item_at (λ (i : Item). un i.object ≡ true) those (subst (Each (λ (i : Item). un i.object ≡ true)) are.2 on)

      there : Each (λ (e : ℕ × ℕ). is_some (get (with_targets links un) e.0) ≡ true) those
      there = both (λ (e : ℕ × ℕ). get links e.0 ≡ Some e.1) (λ (e : ℕ × ℕ). un e.1 ≡ true) (λ (e : ℕ × ℕ). is_some (get (with_targets links un) e.0) ≡ true)
          (λ e is passes. ap is_some (get-retain links test e.0 ∙ ap (λ b. cond b (get links e.0) None) (ap (λ (o : Option ℕ). option_map_or un o false) is ∙ passes) ∙ is)) those here passing

-- ---- past a phase in which nothing is asked

module _ (phase : Phase) where
  abbrev at : State → List Item → List Item → List Item → PutOff → List (ℕ × ℕ) → Going
  at s kept left aside off told = record { finalizers = s; kept = kept; left = left; aside = aside; off = off; told = told }

  abbrev past_one : Item → State → List Item → List Item → List Item → PutOff → List (ℕ × ℕ) → Going
  past_one item s kept left aside off told = at (after phase item false s) (kept_on (keeps phase item false) kept item) left aside (put_off phase item false off) told

  kept_more : (b : Bool) (kept : List Item) (item : Item) → length (kept_on b kept item) ≤ length kept + 1
  kept_more true kept item = let long = length-append kept (item ∷ []) in omega (arith, long)
  kept_more false kept item = omega arith

  kept_skipped : (left : List Item) (s : State) (kept aside : List Item) (off : PutOff) (told : List (ℕ × ℕ)) → length (skipped phase left (at s kept left aside off told)).kept ≤ length kept + length left
  kept_skipped [] s kept aside off told = omega arith
  kept_skipped (item ∷ left) s kept aside off told = by (is_some (asks phase item)) (kept_skipped left (after phase item false s) (kept_on (keeps phase item false) kept item) aside (put_off phase item false off) told)
    where
      by : (b : Bool) → length (skipped phase left (past_one item s kept left aside off told)).kept ≤ length (kept_on (keeps phase item false) kept item) + length left
          → length (cond b (at s kept (item ∷ left) aside off told) (skipped phase left (past_one item s kept left aside off told))).kept ≤ length kept + suc (length left)
      by true rest = omega arith
      by false rest = let more = kept_more (keeps phase item false) kept item in omega (arith, rest, more)

  -- if none is left, nothing is asked about any
  none_asked : (left : List Item) (s : State) (kept aside : List Item) (off : PutOff) (told : List (ℕ × ℕ)) → (skipped phase left (at s kept left aside off told)).left ≡ [] → Each (λ (i : Item). is_some (asks phase i) ≡ false) left
  none_asked [] s kept aside off told none = tt
  none_asked (item ∷ left) s kept aside off told none =
      by (is_some (asks phase item)) refl (none_asked left (after phase item false s) (kept_on (keeps phase item false) kept item) aside (put_off phase item false off) told) none
    where
      by : (b : Bool) → is_some (asks phase item) ≡ b → ((skipped phase left (past_one item s kept left aside off told)).left ≡ [] → Each (λ (i : Item). is_some (asks phase i) ≡ false) left)
          → (cond b (at s kept (item ∷ left) aside off told) (skipped phase left (past_one item s kept left aside off told))).left ≡ [] → Each (λ (i : Item). is_some (asks phase i) ≡ false) (item ∷ left)
      by true is rest some = let long = ap length some in absurd (omega (arith, long))
      by false is rest none = (is, rest none)

  kept_within : (g : Going) → length (skip phase g).kept ≤ length g.kept + length g.left
  kept_within g = kept_skipped g.left g.finalizers g.kept g.aside g.off g.told

  pub all_unasked : (g : Going) → (skip phase g).left ≡ [] → Each (λ (i : Item). is_some (asks phase i) ≡ false) g.left
  all_unasked g none = none_asked g.left g.finalizers g.kept g.aside g.off g.told none

unasked_known : (b : Bool) (ask : Ask) → is_some (cond b None (Some ask)) ≡ false → b ≡ true
unasked_known true ask is = refl
unasked_known false ask is = absurd (true≢false is)

-- ---- where a pass stops

-- a question about items isn't about those of which all is noted
pub stops_at : (m : Machine) (next : Next) → Tells m next → (sweep : Sweep) → m.phase ≡ Some (swept sweep) → is_noted sweep m ≡ false
stops_at m (told.Asks question) (phase, was, inl items) sweep at = items.others sweep (same_Some phase (swept sweep) (sym was ∙ at))
stops_at m (told.Asks question) (phase, was, inr regions) sweep at = absurd (true≢false (sym (ap is_sweep regions.is) ∙ ap is_sweep (same_Some phase (swept sweep) (sym was ∙ at)) ∙ swept_no_sweep sweep))
stops_at m (told.Ended passed) (none, same, picked) sweep at = absurd (none-some (swept sweep) (sym none ∙ at))

-- ---- what the phases behind sweeps about objects list

abbrev is_about_objects : Phase → Bool
is_about_objects ShortTargets = true
is_about_objects Objects = true
is_about_objects LongTargets = true
is_about_objects phase = false

not_first : (phase : Phase) → is_about_objects phase ≡ true → IsOfFirst phase → ⊥
not_first (Keys moment) on at = true≢false (sym on)
not_first (KeysAgain moment) on at = true≢false (sym on)
not_first (Holders moment) on at = true≢false (sym on)
not_first (Values moment) on at = true≢false (sym on)
not_first phase on at = at

module _ (E : Type 0) (word_of : ℕ → Option ℕ) (value : Map Object → ℕ → Option ℕ) (b : State) (before : Graph) (begin : HasBegun word_of value b before) where
  -- whatever is found, the marked objects are
  unless_found : (p q : ℕ → Bool) → ((a : ℕ) → IsTrue (p a) → IsTrue (q a)) → (a : ℕ) → q a ≡ false → p a ≡ false
  unless_found p q more a un = by (p a) refl
    where
      by : (x : Bool) → p a ≡ x → x ≡ false
      by true on = absurd (both_ways (q a) un (more a on))
      by false off = refl

  abbrev Unmarked : List Item → Type 0
  Unmarked = Each (λ (i : Item). IsTrue i.known → before.marked i.object ≡ false)

  unmarked_by : (marked : ℕ → Bool) → ((a : ℕ) → IsTrue (before.marked a) → IsTrue (marked a)) → (items : List Item) → Each (λ (i : Item). IsTrue i.known → marked i.object ≡ false) items → Unmarked items
  unmarked_by marked more items each =
      each_as (λ (i : Item). IsTrue i.known → marked i.object ≡ false) (λ (i : Item). IsTrue i.known → before.marked i.object ≡ false) (λ i un known. unless_found before.marked marked more i.object (un known)) items each

  behind_it : (phase : Phase) (s : State) (kept left aside : List Item) (off : PutOff) (h : Graph) → is_about_objects phase ≡ true → opening.IsIn E word_of value b before phase s kept left aside off h
      → (found : ℕ → Bool) × opening.IsFound E word_of value b before found × (due : List (ℕ × Attached)) × phased.IsIn E word_of value (after_due b due) (graph_of before.objects found) phase s kept left aside off h
  behind_it phase s kept left aside off h on p =
      ⊎_elim (λ (q : opening.IsOpening E word_of value b before phase s kept left off h). absurd (not_first phase on q.0))
      (λ (q : opening.IsFollowing E word_of value b before phase s kept left aside off h).
      ⊎_elim (λ (first : rounds.IsFirst E word_of value b (graph_of before.objects q.0) phase s left h). absurd (true≢false (sym on ∙ ap is_about_objects first.0)))
      (λ (behind : rounds.IsBehind E word_of value b (graph_of before.objects q.0) phase s kept left aside off h). (q.0, q.1, behind.0, behind.2)) q.2) p

  objects_so : (s : State) (kept left aside : List Item) (off : PutOff) (h : Graph) → opening.IsIn E word_of value b before Objects s kept left aside off h → (s.registrations ≡ b.registrations) × Unmarked left
  objects_so s kept left aside off h p =
      let q = behind_it Objects s kept left aside off h refl p in
      (ap (λ (t : State). t.registrations) q.3.0.state, unmarked_by q.0 q.1.settled.more left q.3.1)

  short_so : (s : State) (kept left aside : List Item) (off : PutOff) (h : Graph) → opening.IsIn E word_of value b before ShortTargets s kept left aside off h → (s.short ≡ b.short) × Unmarked left
  short_so s kept left aside off h p =
      let q = behind_it ShortTargets s kept left aside off h refl p in
      (ap (λ (t : State). t.short) q.3.0.state, unmarked_by q.0 q.1.settled.more left q.3.1)

  long_so : (s : State) (kept left aside : List Item) (off : PutOff) (h : Graph) → opening.IsIn E word_of value b before LongTargets s kept left aside off h → (s.long ≡ b.long) × Unmarked left
  long_so s kept left aside off h p =
      let q = behind_it LongTargets s kept left aside off h refl p in
      let c = q.3.0 in
      let starts = rounds.begin_behind E word_of value b (graph_of before.objects q.0) (begin_found E word_of value b before begin q.0 q.1) q.2 in (
        ap (λ (t : State). t.long) q.3.1.state,
        unmarked_by c.kept
            (λ a on. c.settled.more a (c.marks.least a (inl (led_picked E word_of value (after_due b q.2) (graph_of before.objects q.0) starts c.first a (found_led E word_of value (after_due b q.2) (graph_of before.objects q.0) starts c.first.leading a (q.1.settled.more a on))))))
            left q.3.2,
      )

  module _ (noted : Sweep → Bool) (r s g es el sc l : ℕ) where
    abbrev un : ℕ → Bool
    un a = not (before.marked a)

    abbrev few_kept : Sweep → ℕ
    few_kept sweeps.ShortTargets = len (with_targets b.short un)
    few_kept sweeps.Objects = len (retain_keys b.registrations un)
    few_kept sweeps.LongTargets = len (with_targets b.long un)
    few_kept sweep = 0

    abbrev budget : Sweep → ℕ
    budget sweep = cond (noted sweep) (cost_kept sweep (few_kept sweep)) (sized r s g es el sc l sweep)

    abbrev Fit : State → Type 0
    Fit = IsFit r s g es el sc l

    -- if nothing is asked about those that are listed, none of them is marked
    passing : (phase : Phase) (n : Going) → ((i : Item) → is_some (asks phase i) ≡ false → i.known ≡ true) → (skip phase n).left ≡ [] → Unmarked n.left → Each (λ (i : Item). un i.object ≡ true) n.left
    passing phase n knows none unmarked =
        both (λ (i : Item). IsTrue i.known → before.marked i.object ≡ false) (λ (i : Item). is_some (asks phase i) ≡ false) (λ (i : Item). un i.object ≡ true) (λ i off is. ap not (off (knows i is))) n.left unmarked (all_unasked phase n none)

    kept_few : {from : ℕ} (sweep : Sweep) (p n : Going) (h : Graph) → Begins from (swept sweep) p n → ran.IsOn E word_of value b before begin (swept sweep) n h → (skip (swept sweep) n).left ≡ [] → cost_kept sweep (length (skip (swept sweep) n).kept) ≤ cost_kept sweep (few_kept sweep)
    kept_few sweeps.ShortCleanups p n h begins on none = omega arith
    kept_few {from = from} sweeps.ShortTargets p n h begins on none =
        let so = short_so n.finalizers n.kept n.left n.aside n.off h on.1 in
        let few = links_passing un from p.told p.finalizers.short n.left begins.lists (passing ShortTargets n (λ i is. unasked_known i.known IsMarked is) none so.1) in
        let same : len (with_targets p.finalizers.short un) ≡ len (with_targets b.short un) = ap (λ (m : Map ℕ). len (with_targets m un)) (ap (λ (t : State). t.short) (sym begins.same) ∙ so.0) in
        let kept = kept_within ShortTargets n in
        let before_it = ap length begins.none in
        omega (arith, few, same, kept, before_it)
    kept_few {from = from} sweeps.Objects p n h begins on none =
        let so = objects_so n.finalizers n.kept n.left n.aside n.off h on.1 in
        let few = objects_passing un from p.told p.finalizers.registrations p.finalizers.late n.left begins.lists (passing Objects n (λ i is. unasked_known i.known IsMarked is) none so.1) in
        let same : len (retain_keys p.finalizers.registrations un) ≡ len (retain_keys b.registrations un) = ap (λ (m : Map Registration). len (retain_keys m un)) (ap (λ (t : State). t.registrations) (sym begins.same) ∙ so.0) in
        let kept = kept_within Objects n in
        let before_it = ap length begins.none in
        omega (arith, few, same, kept, before_it)
    kept_few {from = from} sweeps.LongTargets p n h begins on none =
        let so = long_so n.finalizers n.kept n.left n.aside n.off h on.1 in
        let few = links_passing un from p.told p.finalizers.long n.left begins.lists (passing LongTargets n (λ i is. unasked_known i.known IsMarked is) none so.1) in
        let same : len (with_targets p.finalizers.long un) ≡ len (with_targets b.long un) = ap (λ (m : Map ℕ). len (with_targets m un)) (ap (λ (t : State). t.long) (sym begins.same) ∙ so.0) in
        let kept = kept_within LongTargets n in
        let before_it = ap length begins.none in
        omega (arith, few, same, kept, before_it)
    kept_few sweeps.ShortHolders p n h begins on none = omega arith
    kept_few sweeps.LongHolders p n h begins on none = omega arith
    kept_few sweeps.LongCleanups p n h begins on none = omega arith

    -- in the phase behind a sweep of which all is noted a pass doesn't stop
    abbrev Stops : Option Phase → Type 0
    Stops last = (sweep : Sweep) → last ≡ Some (swept sweep) → noted sweep ≡ false

    goes_past : {from : ℕ} (next : Phase) (n : Going) (last : Option Phase) (k : Going) → GoesOn from next n last k → Stops last → (sweep : Sweep) → swept sweep ≡ next → noted sweep ≡ true → (skip next n).left ≡ []
    goes_past next n last k (Asks item left some) stops sweep is on = absurd (true≢false (sym on ∙ stops sweep (ap Some (sym is))))
    goes_past next n last k Sweeps stops sweep is on = absurd (true≢false (sym (ap is_sweep is) ∙ swept_no_sweep sweep))
    goes_past next n last k (Turns none turns begins rest) stops sweep is on = none
    goes_past next n last k (Ends none turns) stops sweep is on = none

    few_at : {from : ℕ} (phase next : Phase) (p n : Going) (last : Option Phase) (k : Going) (h : Graph) → next_phase phase (looks_again p.off) ≡ Some next → Begins from next p n → GoesOn from next n last k → ran.IsOn E word_of value b before begin next n h → Fit p.finalizers → Stops last
        → IsEnough budget es el phase (length n.left) ⊎ IsPassed budget es el phase next n
    few_at {from = from} (Regions sweep) next p n last k h turns begins rest on fit stops = by (noted sweep) refl
      where
        is : swept sweep ≡ next
        is = same_Some (swept sweep) next turns

        by : (x : Bool) → noted sweep ≡ x → IsEnough budget es el (Regions sweep) (length n.left) ⊎ IsPassed budget es el (Regions sweep) next n
        by false off =
            inl (subst (λ (x : Bool). cost sweep (length n.left) ≤ cond x (cost_kept sweep (few_kept sweep)) (sized r s g es el sc l sweep)) (sym off) (fit_begins r s g es el sc l (Regions sweep) next p n fit turns begins))
        by true all =
            let none = goes_past next n last k rest stops sweep is all in
            let few = subst (λ (o : Phase). Begins from o p n → ran.IsOn E word_of value b before begin o n h → (skip o n).left ≡ [] → cost_kept sweep (length (skip o n).kept) ≤ cost_kept sweep (few_kept sweep)) is (kept_few sweep p n h) begins on none in
            inr (none, subst (λ (x : Bool). cost_kept sweep (length (skip next n).kept) ≤ cond x (cost_kept sweep (few_kept sweep)) (sized r s g es el sc l sweep)) (sym all) few)
    few_at phase next p n last k h turns begins rest on fit stops = inl tt

    few_on : (phase : Phase) (q : Going) (last : Option Phase) (k : Going) (h : Graph) (goes : GoesOn begin.from phase q last k) → ran.IsOn E word_of value b before begin phase q h → Fit q.finalizers → Stops last → AreFewListed budget es el phase q last k goes
    few_on phase q last k h (Asks item left some) on fit stops = tt
    few_on phase q last k h Sweeps on fit stops = tt
    few_on phase q last k h (Turns {next = next} {h = n} none turns begins rest) on fit stops =
        let past = skip_keeps Fit (fit_still r s g es el sc l) phase q fit in
        let there = ran.turn_on E word_of value b before begin phase next (skip phase q) n h none turns (ran.skip_on E word_of value b before begin phase q h on) begins in
        (few_at phase next (skip phase q) n last k h turns begins rest there past stops, few_on next n last k h rest there (subst Fit (sym begins.same) past) stops)
    few_on phase q last k h (Ends none turns) on fit stops = tt

    -- ---- a run

    answers_within : (phase : Phase) (answers : List Bool) (items : List Item) (old new : Graph) → AreHonest E word_of value phase answers items old new → length answers ≤ length items
    answers_within phase [] items old new honest = omega arith
    answers_within phase (answer ∷ answers) [] old new honest = absurd honest
    answers_within phase (answer ∷ answers) (item ∷ items) old new (between, is, rest) = let few = answers_within phase answers items between new rest in omega (arith, few)

    abbrev apart_going : Machine → Going
    apart_going m = going_apart b.taken b.held (machines.going_of m)

    heard_few : (m : Machine) (heard : Heard) (phase : Phase) (h new : Graph) → cost_each phase ≡ 1 → IsTrueOf E word_of value m heard phase h new
        → answers_in heard + to_come_in budget es el (Some phase) (heard_by phase m.regions heard (apart_going m)) ≤ to_come_in budget es el (Some phase) (machines.going_of m)
    heard_few m (Answers answers) phase h new costs honest =
        subst (λ (k : Going). length answers + to_come_in budget es el (Some phase) k ≤ to_come_in budget es el (Some phase) (machines.going_of m)) (sym (heard_answers phase m.regions answers (apart_going m)))
        (answers_few budget es el phase answers m (apart b.taken b.held m.finalizers.state) (answers_within phase answers m.walk.left h new honest) (λ some. costs))
    heard_few m (Words words) phase h new costs honest =
        subst (λ (k : Going). 0 + to_come_in budget es el (Some phase) k ≤ to_come_in budget es el (Some phase) (machines.going_of m)) (sym (heard_words phase m.regions words (apart_going m))) (omega arith)

    record IsHere (n : ℕ) (m : Machine) : Type 0 where
      fit : Fit (apart b.taken b.held m.finalizers.state)
      hears : IsHearing budget es el n m

    noted_stays : (begun m : Machine) (h : Graph) → Runs E word_of value begun before m h → m.noted ≡ begun.noted
    noted_stays begun m h Begun = refl
    noted_stays begun m h (Goes {m = old} {g = q} heard goes runs honest) = goes.noted ∙ noted_stays begun old q runs
    noted_stays begun m h (Meanwhile {m = old} worked runs) = ap (λ (k : Machine). k.noted) worked.keeps ∙ noted_stays begun old h runs
    noted_stays begun m h (Told {m = old} key tells runs) = ap (λ (k : Machine). k.noted) tells.same ∙ noted_stays begun old h runs

    module _ (first : Machine) (same : first.from ≡ begin.from) (starts : ran.IsAt E word_of value b before begin first before) (all : (sweep : Sweep) → noted sweep ≡ is_noted sweep first) where
      few_ran : (m : Machine) (h : Graph) (runs : Runs E word_of value first before m h) → IsHere 0 first → IsHere (answered runs) m
      few_ran m h Begun here = here
      few_ran m h (Goes {m = old} {g = q} {next = next} heard goes runs honest) here =
          let was = few_ran old q runs here in
          let on = subst (λ o. ran.IsWhere E word_of value b before begin o (apart_going old) q) goes.was (ran.ran E word_of value b before begin first old q same starts runs) in
          let hears = ran.heard_on E word_of value b before begin old heard goes.phase q h on honest in
          let k : Going = heard_by goes.phase old.regions heard (apart_going old) in
          let goes_on : GoesOn begin.from goes.phase k m.phase (apart_going m) =
          subst (λ n. GoesOn n goes.phase k m.phase (apart_going m)) (ran.from_stays E word_of value b before begin first old q runs ∙ same)
          (subst (λ (x : Going). GoesOn old.from goes.phase x m.phase (apart_going m)) (sym (heard_apart b.taken b.held goes.phase old.regions heard (machines.going_of old)))
          (goes_apart b.taken b.held goes.phase (heard_by goes.phase old.regions heard (machines.going_of old)) m.phase (machines.going_of m) goes.goes)) in
          let fit = heard_keeps Fit (fit_still r s g es el sc l) goes.phase old.regions heard (apart_going old) was.fit in
          let stops : Stops m.phase = λ sweep at. all sweep ∙ ap (λ (bs : List Bool). is_noted sweep (record m { noted = bs })) (sym (goes.noted ∙ noted_stays first old q runs)) ∙ stops_at m next goes.tells sweep at in
          record {
            fit = goes_keep Fit (fit_still r s g es el sc l) goes.phase k m.phase (apart_going m) goes_on fit;
            hears = goes_few budget es el goes.phase (answered runs) old m (answers_in heard) k (apart b.taken b.held m.finalizers.state) next goes.was (heard_few old heard goes.phase q h (was.hears.costs goes.phase goes.was) honest) goes_on
                (few_on goes.phase k m.phase (apart_going m) h goes_on hears fit stops) goes.tells was.hears;
          }
      few_ran m h (Meanwhile {m = old} worked runs) here =
          let was = few_ran old h runs here in
          record {
            fit = subst Fit (sym (work_apart b.taken b.held old.finalizers.state m.finalizers.state worked.event worked.work worked.follows)) was.fit;
            hears = worked_few budget es el (answered runs) old m worked was.hears;
          }
      few_ran m h (Told {m = old} key tells runs) here =
          let was = few_ran old h runs here in
          record {
            fit = subst (λ (k : Machine). Fit (apart b.taken b.held k.finalizers.state)) (sym tells.same) was.fit;
            hears = told_few budget es el (answered runs) key old m tells was.hears;
          }

-- ---- from the begin

of_both : (x y : Bool) (sc l all : ℕ) → sc + l ≡ all → cond x 0 sc + cond y 0 l ≤ cond (x && y) 0 all
of_both true true sc l all count = omega arith
of_both true false sc l all count = omega (arith, count)
of_both false true sc l all count = omega (arith, count)
of_both false false sc l all count = omega (arith, count)

pub costs_unmarked : (E : Type 0) → CostsUnmarked E
costs_unmarked E from word_of value old begun new past before after_it reached is may seen run =
    let t = old.finalizers.state in
    let noted : Sweep → Bool = λ sweep. is_noted sweep old in
    let r = len t.registrations in
    let s = len t.short in
    let g = len t.long in
    let es = len t.ephemerons.short in
    let el = len t.ephemerons.long in
    let kinds = both_kinds t.cleanups in
    let sc = kinds.0 in
    let l = kinds.1 in
    let b = ran.b E word_of value from old begun new before after_it (promised old.finalizers.state past reached).flags (single old.finalizers.state past reached) is may seen run in
    let begin = ran.has_begun E word_of value from old begun new before after_it (promised old.finalizers.state past reached).flags (single old.finalizers.state past reached) is may seen run in
    let starts = ran.is_first E word_of value from old begun new before after_it (promised old.finalizers.state past reached).flags (single old.finalizers.state past reached) is may seen run in
    let budgets : Sweep → ℕ = budget E word_of value b before begin noted r s g es el sc l in
    let start : IsHere E word_of value b before begin noted r s g es el sc l 0 begun = record {
      fit = subst (λ (u : State). IsFit r s g es el sc l (apart b.taken b.held u)) (sym is.finalizers) (record { registered = omega arith; short = omega arith; long = omega arith; short_keys = omega arith; long_keys = omega arith; attached = (kinds.2, kinds.3) });
      hears = begins_few budgets es el from old begun is (omega arith) (omega arith);
    } in
    let all : (sweep : Sweep) → noted sweep ≡ is_noted sweep begun = λ sweep. ap (λ (bs : List Bool). is_noted sweep (record old { noted = bs })) (sym is.same.1) in
    let end = (few_ran E word_of value b before begin noted r s g es el sc l begun refl starts all new after_it run start).hears.few in
    let product = most_is (es + el) in
    let cleanups = of_both (noted sweeps.ShortCleanups) (noted sweeps.LongCleanups) sc l (len t.cleanups) kinds.4 in
    omega (arith, end, product, cleanups)
