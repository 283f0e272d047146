-- What a pass leaves.
use Rattle.std.proofs.Common.{◌≡◌, ℕ, ◌+◌, ◌-◌, ◌<◌, ◌≤◌, ◌&&◌, ◌⊎◌, inl, inr, ⊎_elim, Bool, true, false, not, List, [], ◌∷◌, length, Option, Some, None, is_some, refl, sym, ap, ◌∙◌, subst, arith, zero, suc, slice_get, Contains, count_by, add-zero, ◌≢◌, get_or, AllPairs, true≢false, length-append, map}
use Rattle.std.proofs.lemmas.Bool.{cases_Bool, cond-true, cond-false, and_parts, and_from, both_ways, not-true, not_from_false}
use Rattle.std.proofs.lemmas.Option.{same_Some, none-some, slice_get-get_or}
use Rattle.std.proofs.lemmas.List.{length-map}
use Rattle.std.specs.Option.{option_map_or}
use Rattle.std.specs.FinMap.{get, contains_key, keys, len, len-entries, entries}
use Rattle.fz_model.specs.declared.kinds.ObjKind.TheVariants.{Scanned}
use Rattle.fz_model.specs.declared.kinds.RegKind.{RegKind}
use Rattle.fz_model.specs.declared.kinds.RegKind.TheVariants.{Normal, IgnoreSelf, NoOrder}
use Rattle.fz_model.specs.declared.answers.Entry.{Entry}
use Rattle.fz_model.specs.declared.answers.Pick.{Pick}
use Rattle.fz_model.specs.declared.answers.Passed.{Passed}
use Rattle.fz_model.specs.declared.answers.Registration.{Registration}
use Rattle.fz_model.specs.State.{Map, Object, Core, State}
use Rattle.fz_model.specs.Extents.{extent_of}
use Rattle.fz_model.specs.Memory.{points, fill}
use Rattle.fz_model.specs.Reachability.{IsRoot, Child, Leads, IsReachable, WasSeen}
use Rattle.fz_model.specs.Reachability as reaching
use Rattle.fz_model.specs.Pass.{is_outside, is_dead, cleared, links_within, IsKept, FoundItself, LedFrom, entries_of, Passes, LeadsFirst, IsLedTo, IsPicked, entry_of, without_picks, rank_at, ComesBefore}
use Rattle.fz_model.specs.Steps.{IsReached, moments_after}
use Rattle.fz_model.specs.CallLaws.{Stands}
use Rattle.fz_model.specs.PassLaws.{HasLost, StandsAround, IsSameBut, StepsOn, LeadsOn, Itself, OneMore, IsLedToByRegistered, WhatStays, WhichLinksStay, Answers, IsLawful, EachPassIsLawful, IsLedToBy, IsOf, StandsBefore, WhatIsQueued}
use Rattle.fz_model.proofs.Lists.{place_of, contains_at, map_at}
use Rattle.fz_model.proofs.MapEntries.{at_key}
use Rattle.fz_model.proofs.Maps.{get-retain, filled_here, filled_back, length-fill, fill_on, fill_off, get-remove_other}
use Rattle.fz_model.proofs.Objects.{from_covers}
use Rattle.fz_model.proofs.Sound.{Sound, length-entries_of, left_back, left_other}
use Rattle.fz_model.proofs.SeenKept.{points-filled, Child-filled}
use Rattle.fz_model.proofs.Counts.{count_alike, count_not, len_retained, keys-mapped}
use Rattle.fz_model.proofs.Standing.{Standing, pointed_at, zero_points_nowhere, once, left, passed_over, left_here, left_before, passed_size, within_back, within_here, reached_standing}
use Rattle.fz_model.proofs.Ranked.{picks_ordered}
use Rattle.fz_model.proofs.Traced.{led, led_is}
use Rattle.fz_model.proofs.Runs.{reached_sound}
use Rattle.std.proofs.lemmas.List.Elements.{All-contains}

-- ---- words that are filled in

within_fill : (test : ℕ → Bool) (value a : ℕ) (ws : List ℕ) (k w : ℕ) → slice_get (fill test value a ws) k ≡ Some w → test (a + k) ≡ true → w ≡ value
within_fill test value a [] k w is on = absurd (none-some w is)
within_fill test value a (x ∷ ws) zero w is on = sym (same_Some _ w (sym (ap Some (cond-true (test a) value x (subst (λ x. test x ≡ true) (add-zero a) on))) ∙ is))
within_fill test value a (x ∷ ws) (suc k) w is on =
    let next : a + suc k ≡ (a + 1) + k = omega arith in
    within_fill test value (a + 1) ws k w is (subst (λ x. test x ≡ true) next on)

-- each word is as it was, or was filled in
fill_cases : (test : ℕ → Bool) (value a : ℕ) (ws : List ℕ) (k : ℕ) → (slice_get (fill test value a ws) k ≡ slice_get ws k) ⊎ ((test (a + k) ≡ true) × (slice_get (fill test value a ws) k ≡ Some value))
fill_cases test value a [] k = inl refl
fill_cases test value a (w ∷ ws) zero =
    ⊎_elim
    (λ on. inr (subst (λ x. test x ≡ true) (sym (add-zero a)) on, ap Some (cond-true (test a) value w on)))
    (λ off. inl (ap Some (cond-false (test a) value w off)))
    (cases_Bool (test a))
fill_cases test value a (w ∷ ws) (suc k) =
    let next : (a + 1) + k ≡ a + suc k = omega arith in
    ⊎_elim inl (λ z. inr (subst (λ x. test x ≡ true) next z.0, z.1)) (fill_cases test value (a + 1) ws k)

zero_stays : (test : ℕ → Bool) (a : ℕ) (ws : List ℕ) (k : ℕ) → k < length ws → slice_get ws k ≡ Some 0 → slice_get (fill test 0 a ws) k ≡ Some 0
zero_stays test a ws k lt is = ⊎_elim (fill_on test 0 a ws k lt) (λ off. fill_off test 0 a ws k off ∙ is) (cases_Bool (test (a + k)))

-- ---- dead links

-- a dead link's target is outside the set, and a link to an object outside it is dead
dead_target : (objects : Map Object) (links : Map ℕ) (set : ℕ → Bool) (place : ℕ) → is_dead objects links set place ≡ true → (target : ℕ) × (get links place ≡ Some target) × (set target ≡ false)
dead_target objects links set place on = at (get links place) refl on
  where
    at : (g : Option ℕ) → get links place ≡ g → option_map_or (is_outside objects set) g false ≡ true → (target : ℕ) × (get links place ≡ Some target) × (set target ≡ false)
    at None is on = absurd (both_ways false refl on)
    at (Some target) is on = (target, is, not-true (set target) (and_parts (contains_key objects target) (not (set target)) on).1)

is_dead_link : (objects : Map Object) (links : Map ℕ) (set : ℕ → Bool) (place target : ℕ) → get links place ≡ Some target → Stands objects target → set target ≡ false → is_dead objects links set place ≡ true
is_dead_link objects links set place target here stands off =
    ap (λ g. option_map_or (is_outside objects set) g false) here ∙ and_from (contains_key objects target) (not (set target)) (ap is_some stands.1) (not_from_false _ off)

-- a dead link is lost
dead_lost : (objects others : Map Object) (links : Map ℕ) (targets containers : ℕ → Bool) (place : ℕ) → is_dead others links targets place ≡ true → HasLost links (links_within objects links targets containers) place
dead_lost objects others links targets containers place on =
    let t = dead_target others links targets place on in
    let test : ℕ → Bool = λ link. option_map_or targets (get links link) false && option_map_or containers (points objects link) false in
    let off : test place ≡ false = ap (λ b. b && option_map_or containers (points objects place) false) (ap (λ g. option_map_or targets g false) t.1 ∙ t.2) in
    ((t.0, t.1), get-retain links test place ∙ cond-false (test place) (get links place) None off)

-- ---- entries of picks

-- an entry is its pick's,
entry_pick : (pass seq : ℕ) (picks : List Pick) (k : ℕ) (e : Entry) → slice_get (entries_of pass seq picks) k ≡ Some e → (q : Pick) × (slice_get picks k ≡ Some q) × (e ≡ entry_of pass (seq + k) q)
entry_pick pass seq [] k e is = absurd (none-some e is)
entry_pick pass seq (q ∷ qs) zero e is = (q, refl, sym (same_Some _ e is) ∙ ap (λ n. entry_of pass n q) (sym (add-zero seq)))
entry_pick pass seq (q ∷ qs) (suc k) e is =
    let r = entry_pick pass (seq + 1) qs k e is in
    let next : (seq + 1) + k ≡ seq + suc k = omega arith in
    (r.0, r.1, r.2 ∙ ap (λ n. entry_of pass n r.0) next)

-- and each pick has one
pick_entry : (pass seq : ℕ) (picks : List Pick) (k : ℕ) (q : Pick) → slice_get picks k ≡ Some q → slice_get (entries_of pass seq picks) k ≡ Some (entry_of pass (seq + k) q)
pick_entry pass seq [] k q is = absurd (none-some q is)
pick_entry pass seq (p ∷ ps) zero q is = ap (λ x. Some (entry_of pass seq x)) (same_Some p q is) ∙ ap (λ n. Some (entry_of pass n q)) (sym (add-zero seq))
pick_entry pass seq (p ∷ ps) (suc k) q is =
    let next : (seq + 1) + k ≡ seq + suc k = omega arith in
    pick_entry pass (seq + 1) ps k q is ∙ ap (λ n. Some (entry_of pass n q)) next

-- a registration of which nothing is picked stays
unpicked_stays : (registrations : Map Registration) (picks : List Pick) (a : ℕ) (r : Registration) → ((k : ℕ) (q : Pick) → slice_get picks k ≡ Some q → a ≢ q.obj) → get registrations a ≡ Some r → get (without_picks registrations picks) a ≡ Some r
unpicked_stays registrations [] a r none here = here
unpicked_stays registrations (q ∷ qs) a r none here =
    get-remove_other (without_picks registrations qs) q.obj a (none 0 q refl) ∙ unpicked_stays registrations qs a r (λ k p is. none (suc k) p is) here

abbrev is_no_order : RegKind → Bool
is_no_order Normal = false
is_no_order IgnoreSelf = false
is_no_order NoOrder = true

abbrev is_ignore_self : RegKind → Bool
is_ignore_self Normal = false
is_ignore_self IgnoreSelf = true
is_ignore_self NoOrder = false

-- a first step is one to a child, but of no-order registrations, and but to itself of those that ignore it
first_step : (objects : Map Object) (o : ℕ) (kind : RegKind) (b : ℕ) → LeadsFirst objects o kind b → Child objects o b × (kind ≢ NoOrder) × (kind ≡ IgnoreSelf → b ≢ o)
first_step objects o Normal b child = (child, λ is. true≢false (sym (ap is_no_order is)), λ is. absurd (true≢false (sym (ap is_ignore_self is))))
first_step objects o IgnoreSelf b first = (first.0, λ is. true≢false (sym (ap is_no_order is)), λ _. first.1)
first_step objects o NoOrder b first = absurd first

to_first_step : (objects : Map Object) (o : ℕ) (kind : RegKind) (b : ℕ) → Child objects o b → kind ≢ NoOrder → (kind ≡ IgnoreSelf → b ≢ o) → LeadsFirst objects o kind b
to_first_step objects o Normal b child other apart = child
to_first_step objects o IgnoreSelf b child other apart = (child, apart refl)
to_first_step objects o NoOrder b child other apart = absurd (other refl)

-- ---- a pass

module _ (s : State) (seen : ℕ → Type 0) (found : ℕ → Bool) (passed : Passed) (new : State) (h : Standing s.core) (sound : Sound s.core) (roots : (a : ℕ) → IsReachable s.core a → found a ≡ true) (closed : (a b : ℕ) → found a ≡ true → Child s.objects a b → found b ≡ true) (was : (a : ℕ) → found a ≡ true → seen a) (p : Passes s.core found passed new.core) where
  objects_are : new.objects ≡ left s.core found p.kept
  objects_are = ap (λ (c : Core). c.objects) p.is

  short_are : new.short ≡ links_within s.objects s.short found p.kept
  short_are = ap (λ (c : Core). c.short) p.is

  long_are : new.long ≡ links_within s.objects s.long p.kept p.kept
  long_are = ap (λ (c : Core). c.long) p.is

  before : (a : ℕ) (q : Object) → get new.objects a ≡ Some q → (o : Object) × (get s.objects a ≡ Some o) × (p.kept a ≡ true) × (q ≡ passed_over s.core found p.kept a o)
  before a q e = left_before s.core found p.kept a q (ap (λ m. get m a) (sym objects_are) ∙ e)

  is_kept : (a : ℕ) → Stands new.objects a → p.kept a ≡ true
  is_kept a stands = (before a stands.0 stands.1).2

  keeps : (a : ℕ) → Stands s.objects a → p.kept a ≡ true → Stands new.objects a
  keeps a o on = (passed_over s.core found p.kept a o.0, ap (λ m. get m a) objects_are ∙ left_here s.core found p.kept a o.0 o.1 on)

  keeps_found : (a : ℕ) → found a ≡ true → p.kept a ≡ true
  keeps_found a f = (p.kept_is a).1 (FoundItself f)

  pointed_stands : (word a : ℕ) → points s.objects word ≡ Some a → Stands s.objects a
  pointed_stands word a e = let o = pointed_at s.objects word a e in (o.0, o.1)

  -- ---- what stays

  registered : (a : ℕ) (r : Registration) → get s.registrations a ≡ Some r → Stands new.objects a
  registered a r here =
      let o = sound.exists a r here in
      keeps a o
      (⊎_elim (keeps_found a)
      (λ off. (p.kept_is a).1 (LedFrom a r (record { registered = here; outside = and_from _ _ (ap is_some o.1) (not_from_false _ off) }) reaching.Itself))
      (cases_Bool (found a)))

  lost_short : (place : ℕ) → is_dead s.objects s.short found place ≡ true → HasLost s.short new.short place
  lost_short place on = subst (λ m. HasLost s.short m place) (sym short_are) (dead_lost s.objects s.objects s.short found p.kept place on)

  lost_long : (place : ℕ) → is_dead (once s.core found p.kept) s.long p.kept place ≡ true → HasLost s.long new.long place
  lost_long place on = subst (λ m. HasLost s.long m place) (sym long_are) (dead_lost s.objects (once s.core found p.kept) s.long p.kept p.kept place on)

  abbrev first : ℕ → Bool
  first = is_dead s.objects s.short found

  abbrev second : ℕ → Bool
  second = is_dead (once s.core found p.kept) s.long p.kept

  words : (a : ℕ) (o : Object) (k : ℕ) → (slice_get (passed_over s.core found p.kept a o).words k ≡ slice_get o.words k) ⊎ ((slice_get (passed_over s.core found p.kept a o).words k ≡ Some 0) × (HasLost s.short new.short (a + k) ⊎ HasLost s.long new.long (a + k)))
  words a o k =
      ⊎_elim
      (λ outer. ⊎_elim (λ inner. inl (outer ∙ inner)) (λ z. inr (outer ∙ z.1, inl (lost_short (a + k) z.0))) (fill_cases first 0 a o.words k))
      (λ z. inr (z.1, inr (lost_long (a + k) z.0)))
      (fill_cases second 0 a (fill first 0 a o.words) k)

  same : (a : ℕ) (after : Object) → get new.objects a ≡ Some after → (o : Object) × (get s.objects a ≡ Some o) × IsSameBut s new a o after
  same a after e =
      let b = before a after e in (
        b.0,
        b.1,
        record {
          birth = ap (λ (o : Object). o.birth) b.3;
          kind = ap (λ (o : Object). o.kind) b.3;
          size = ap (λ (o : Object). length o.words) b.3 ∙ passed_size s.core found p.kept a b.0;
          words = λ k. subst (λ (q : Object). (slice_get q.words k ≡ slice_get b.0.words k) ⊎ ((slice_get q.words k ≡ Some 0) × (HasLost s.short new.short (a + k) ⊎ HasLost s.long new.long (a + k)))) (sym b.3) (words a b.0 k);
        },
      )

  -- what is kept is closed under the children that clearing leaves
  abbrev clear : Map Object
  clear = cleared s.short found s.objects

  kept_closed : (a b : ℕ) → p.kept a ≡ true → Child clear a b → p.kept b ≡ true
  kept_closed a b on child = by ((p.kept_is a).0 on)
    where
      by : IsKept s.objects s.registrations s.short found a → p.kept b ≡ true
      by (FoundItself f) =
          keeps_found b (⊎_elim (closed a b f) (λ zero. absurd (zero_points_nowhere s.core h b zero)) (Child-filled first 0 s.objects a b child))
      by (LedFrom o r u leads) = (p.kept_is b).1 (LedFrom o r u (reaching.OneMore leads child))

  whole : (a b word : ℕ) (o : Object) → get new.objects a ≡ Some o → o.kind ≡ Scanned → Contains o.words word → points s.objects word ≡ Some b → Stands new.objects b
  whole a b word o here scanned within pointed =
      let was_there = before a o here in
      let ws = was_there.0.words in
      let at = place_of o.words word within in
      let outer : slice_get (fill second 0 a (fill first 0 a ws)) at.0 ≡ Some word = subst (λ (q : Object). slice_get q.words at.0 ≡ Some word) was_there.3 at.1 in
      let inner : slice_get (fill first 0 a ws) at.0 ≡ Some word = ⊎_elim (λ e. sym e ∙ outer) (λ z. absurd (never (same_Some 0 word (sym z.1 ∙ outer)))) (fill_cases second 0 a (fill first 0 a ws) at.0) in
      let child : Child clear a b = record {
        object = record was_there.0 { words = fill first 0 a ws };
        here = filled_here first 0 s.objects a was_there.0 was_there.1;
        scanned = sym (ap (λ (q : Object). q.kind) was_there.3) ∙ scanned;
        word = word;
        within = contains_at (fill first 0 a ws) at.0 word inner;
        pointed = points-filled first 0 s.objects word ∙ pointed;
      } in
      keeps b (pointed_stands word b pointed) (kept_closed a b was_there.2 child)
    where
      never : 0 ≡ word → ⊥
      never is = zero_points_nowhere s.core h b (ap (points s.objects) is ∙ pointed)

  -- a child that clearing leaves is no dead link's
  steps_on : (a b : ℕ) → Child clear a b → StepsOn s seen a b
  steps_on a b child =
      let old = filled_back first 0 s.objects a child.object child.here in
      let at = place_of child.object.words child.word child.within in
      let word_there : slice_get (fill first 0 a old.0.words) at.0 ≡ Some child.word = subst (λ (q : Object). slice_get q.words at.0 ≡ Some child.word) old.2 at.1 in
      let pointed = sym (points-filled first 0 s.objects child.word) ∙ child.pointed in
      let off : first (a + at.0) ≡ false = ⊎_elim (λ on. absurd (zero_points_nowhere s.core h b (ap (points s.objects) (sym (within_fill first 0 a old.0.words at.0 child.word word_there on)) ∙ pointed))) (λ f. f) (cases_Bool (first (a + at.0))) in
      record {
        object = old.0;
        here = old.1;
        scanned = sym (ap (λ (q : Object). q.kind) old.2) ∙ child.scanned;
        place = at.0;
        word = child.word;
        within = sym (fill_off first 0 a old.0.words at.0 off) ∙ word_there;
        pointed = pointed;
        uncut = λ target link. was target (⊎_elim (λ f. f) (λ outside. absurd (both_ways (first (a + at.0)) off (is_dead_link s.objects s.short found (a + at.0) target link (h.short (a + at.0) target link).0 outside))) (cases_Bool (found target)));
      }

  leads_on : (a b : ℕ) → Leads clear a b → LeadsOn s seen a b
  leads_on a b reaching.Itself = Itself
  leads_on a b (reaching.OneMore {b = mid} leads child) = OneMore (leads_on a mid leads) (steps_on mid b child)

  needed : (a : ℕ) → Stands new.objects a → seen a ⊎ IsLedToByRegistered s seen a
  needed a stands = by ((p.kept_is a).0 (is_kept a stands))
    where
      by : IsKept s.objects s.registrations s.short found a → seen a ⊎ IsLedToByRegistered s seen a
      by (FoundItself f) = inl (was a f)
      by (LedFrom o r u leads) = inr (o, r, u.registered, leads_on o a leads)

  root_stays : (word a : ℕ) → points s.objects word ≡ Some a → IsRoot s.core a → Stands new.objects a
  root_stays word a pointed root = keeps a (pointed_stands word a pointed) (keeps_found a (roots a (record { root = a; is_root = root; leads = reaching.Itself })))

  what_stays : WhatStays s seen new
  what_stays = record {
    reachable = λ a stands r. keeps a stands (keeps_found a (roots a r));
    slots = λ frame word a in_frames in_frame pointed. root_stays word a pointed (IsRoot.Slot frame word in_frames in_frame pointed);
    client_data = λ o a r here pointed. root_stays r.cd a pointed (IsRoot.ClientData o r here pointed);
    held_data = λ e a held pointed. root_stays e.cd a pointed (IsRoot.HeldData e held pointed);
    registered = registered;
    same = same;
    whole = whole;
    needed = needed;
  }

  -- ---- links

  stands_around : (place : ℕ) → (a : ℕ) × (points s.objects place ≡ Some a) × (p.kept a ≡ true) → StandsAround s.objects new.objects place
  stands_around place r = (r.0, r.1, keeps r.0 (pointed_stands place r.0 r.1) r.2)

  short_here : (place target : ℕ) → get s.short place ≡ Some target → found target ≡ true → StandsAround s.objects new.objects place → get new.short place ≡ Some target
  short_here place target here f around =
      ap (λ m. get m place) short_are ∙ within_here s.core found p.kept s.short found place target around.0 here f around.1 (is_kept around.0 around.2)

  long_here : (place target : ℕ) → get s.long place ≡ Some target → p.kept target ≡ true → StandsAround s.objects new.objects place → get new.long place ≡ Some target
  long_here place target here k around =
      ap (λ m. get m place) long_are ∙ within_here s.core found p.kept s.long p.kept place target around.0 here k around.1 (is_kept around.0 around.2)

  -- a word of the old objects, at zero before the long links are cleared, or at one of them
  zero_at : (place a : ℕ) (o : Object) → points s.objects place ≡ Some a → get new.objects a ≡ Some o → (first place ≡ true) ⊎ (second place ≡ true) → (k : ℕ) × (place ≡ a + k) × (slice_get o.words k ≡ Some 0)
  zero_at place a o pointed here dead =
      let b = before a o here in
      let q = pointed_at s.objects place a pointed in
      let same_object : q.0 ≡ b.0 = same_Some q.0 b.0 (sym q.1 ∙ b.1) in
      let bounds = from_covers a place (extent_of q.0) q.2 in
      let size = ap (λ (x : Object). length x.words) same_object in
      let k = place - a in
      let at : a + k ≡ place = omega (arith, bounds.0) in
      let lt : k < length b.0.words = omega (arith, bounds.0, bounds.1, size) in
      let inner_size = length-fill first 0 a b.0.words in
      let lt_inner : k < length (fill first 0 a b.0.words) = omega (arith, lt, inner_size) in
      let zero_there : slice_get (fill second 0 a (fill first 0 a b.0.words)) k ≡ Some 0 =
      ⊎_elim
      (λ on. zero_stays second a (fill first 0 a b.0.words) k lt_inner (fill_on first 0 a b.0.words k lt (ap first at ∙ on)))
      (λ on. fill_on second 0 a (fill first 0 a b.0.words) k lt_inner (ap second at ∙ on))
      dead in
      (k, sym at, ap (λ (x : Object). slice_get x.words k) b.3 ∙ zero_there)

  zero_word : (place a : ℕ) (o : Object) → HasLost s.short new.short place ⊎ HasLost s.long new.long place → points s.objects place ≡ Some a → get new.objects a ≡ Some o → (k : ℕ) × (place ≡ a + k) × (slice_get o.words k ≡ Some 0)
  zero_word place a o lost pointed here = zero_at place a o pointed here (⊎_elim (λ l. inl (by_short l)) (λ l. inr (by_long l)) lost)
    where
      around : StandsAround s.objects new.objects place
      around = (a, pointed, (o, here))

      by_short : HasLost s.short new.short place → first place ≡ true
      by_short l =
          is_dead_link s.objects s.short found place l.0.0 l.0.1 (h.short place l.0.0 l.0.1).0
          (⊎_elim (λ f. absurd (none-some l.0.0 (sym l.1 ∙ short_here place l.0.0 l.0.1 f around))) (λ off. off) (cases_Bool (found l.0.0)))

      by_long : HasLost s.long new.long place → second place ≡ true
      by_long l =
          let target = (h.long place l.0.0 l.0.1).0 in
          is_dead_link (once s.core found p.kept) s.long p.kept place l.0.0 l.0.1 (record target.0 { words = fill first 0 l.0.0 target.0.words }, filled_here first 0 s.objects l.0.0 target.0 target.1)
          (⊎_elim (λ f. absurd (none-some l.0.0 (sym l.1 ∙ long_here place l.0.0 l.0.1 f around))) (λ off. off) (cases_Bool (p.kept l.0.0)))

  which_links : WhichLinksStay s seen new
  which_links = record {
    short = λ place target e.
        let r = within_back s.core found p.kept s.short found place target (ap (λ m. get m place) (sym short_are) ∙ e) in
        (r.0, was target r.1, keeps target (h.short place target r.0).0 (keeps_found target r.1), stands_around place r.2);
    short_reachable = λ place target here reachable around. short_here place target here (roots target reachable) around;
    long = λ place target. (
      λ e.
          let r = within_back s.core found p.kept s.long p.kept place target (ap (λ m. get m place) (sym long_are) ∙ e) in
          (r.0, keeps target (h.long place target r.0).0 r.1, stands_around place r.2),
      λ all. long_here place target all.0 (is_kept target all.1) all.2,
    );
    zero = zero_word;
  }

  -- ---- what is queued

  abbrev gained : List Entry
  gained = entries_of (s.passes + 1) (length s.queue) p.picks

  table_is : new.registrations ≡ without_picks s.registrations p.picks
  table_is = ap (λ (c : Core). c.registrations) p.is

  -- the pick of an entry
  picked_of : (e : Entry) → Contains gained e → (k : ℕ) × (q : Pick) × (slice_get p.picks k ≡ Some q) × (e ≡ entry_of (s.passes + 1) (length s.queue + k) q) × IsPicked s.objects s.registrations s.short found q
  picked_of e l =
      let at = place_of gained e l in
      let r = entry_pick (s.passes + 1) (length s.queue) p.picks at.0 e at.1 in
      (at.0, r.0, r.1, r.2, All-contains (IsPicked s.objects s.registrations s.short found) p.picks r.0 p.picks_are.each (contains_at p.picks at.0 r.0 r.1))

  -- a step that no word of a short link to what isn't reachable cuts is one to a child that clearing leaves
  steps_clear : (a b : ℕ) → StepsOn s (IsReachable s.core) a b → Child clear a b
  steps_clear a b step =
      let off : first (a + step.place) ≡ false =
      ⊎_elim (λ on. let t = dead_target s.objects s.short found (a + step.place) on in absurd (both_ways (found t.0) t.2 (roots t.0 (step.uncut t.0 t.1)))) (λ f. f) (cases_Bool (first (a + step.place))) in
      record {
        object = record step.object { words = fill first 0 a step.object.words };
        here = filled_here first 0 s.objects a step.object step.here;
        scanned = step.scanned;
        word = step.word;
        within = contains_at (fill first 0 a step.object.words) step.place step.word (fill_off first 0 a step.object.words step.place off ∙ step.within);
        pointed = points-filled first 0 s.objects step.word ∙ step.pointed;
      }

  leads_clear : (a b : ℕ) → LeadsOn s (IsReachable s.core) a b → Leads clear a b
  leads_clear a b Itself = reaching.Itself
  leads_clear a b (OneMore {b = mid} leads step) = reaching.OneMore (leads_clear a mid leads) (steps_clear mid b step)

  outside_at : (a : ℕ) (r : Registration) → get s.registrations a ≡ Some r → found a ≡ false → is_outside s.objects found a ≡ true
  outside_at a r here off = let o = sound.exists a r here in and_from (contains_key s.objects a) (not (found a)) (ap is_some o.1) (not_from_false _ off)

  -- what leads to a pick was found
  leader_seen : (q : Pick) → IsPicked s.objects s.registrations s.short found q → (l : IsLedToBy s (IsReachable s.core) q.obj) → seen l.from
  leader_seen q x l =
      was l.from
      (⊎_elim (λ f. f)
      (λ off. absurd (x.free (record {
        from = l.from;
        by = l.by;
        unreachable = record { registered = l.registered; outside = outside_at l.from l.by l.registered off };
        first = l.first;
        step = to_first_step clear l.from l.by.kind l.first (steps_clear l.from l.first l.step) l.kind l.self;
        rest = leads_clear l.first q.obj l.rest;
      })))
      (cases_Bool (found l.from)))

  each_entry : (e : Entry) → Contains gained e → (r : Registration) × (get s.registrations e.obj ≡ Some r) × IsOf s r e × (e.pass ≡ new.passes) × (IsReachable s.core e.obj → ⊥) × (get new.registrations e.obj ≡ None)
  each_entry e l =
      let q = picked_of e l in
      let x = q.4 in
      let obj : e.obj ≡ q.1.obj = ap (λ (d : Entry). d.obj) q.3 in
      let off = not-true (found q.1.obj) (and_parts (contains_key s.objects q.1.obj) (not (found q.1.obj)) x.unreachable.outside).1 in (
        x.registration,
        ap (get s.registrations) obj ∙ x.unreachable.registered,
        (ap (λ (d : Entry). d.reg) q.3 ∙ ap (λ (d : Pick). d.reg) x.is, ap (λ (d : Entry). d.proc) q.3 ∙ ap (λ (d : Pick). d.proc) x.is, ap (λ (d : Entry). d.cd) q.3 ∙ ap (λ (d : Pick). d.cd) x.is, (x.object, ap (get s.objects) obj ∙ x.here, ap (λ (d : Entry). d.birth) q.3 ∙ ap (λ (d : Pick). d.birth) x.is)),
        ap (λ (d : Entry). d.pass) q.3 ∙ sym (ap (λ (c : Core). c.passes) p.is),
        λ r. both_ways (found q.1.obj) off (subst (λ a. found a ≡ true) obj (roots e.obj r)),
        ap (λ m. get m e.obj) table_is ∙ left_none (get (without_picks s.registrations p.picks) e.obj) refl q.0 q.1 q.2 obj,
      )
    where
      left_none : (g : Option Registration) → get (without_picks s.registrations p.picks) e.obj ≡ g → (k : ℕ) (q : Pick) → slice_get p.picks k ≡ Some q → e.obj ≡ q.obj → get (without_picks s.registrations p.picks) e.obj ≡ None
      left_none None is k q here same = is
      left_none (Some r) is k q here same = absurd (left_other s.registrations p.picks e.obj r is k q here same)

  other_stays : (a : ℕ) (r : Registration) → get s.registrations a ≡ Some r → ((e : Entry) → Contains gained e → e.obj ≢ a) → get new.registrations a ≡ Some r
  other_stays a r here none =
      ap (λ m. get m a) table_is
      ∙ unpicked_stays s.registrations p.picks a r
      (λ k q is same. none (entry_of (s.passes + 1) (length s.queue + k) q) (contains_at gained k (entry_of (s.passes + 1) (length s.queue + k) q) (pick_entry (s.passes + 1) (length s.queue) p.picks k q is)) (sym same)) here

  old_one : (a : ℕ) (r : Registration) → get new.registrations a ≡ Some r → get s.registrations a ≡ Some r
  old_one a r e = left_back s.registrations p.picks a r (ap (λ m. get m a) (sym table_is) ∙ e)

  in_order : AllPairs (StandsBefore s) gained
  in_order i j d lt within r q =
      let in_i : i < length gained = omega (arith, lt, within) in
      let x = entry_pick (s.passes + 1) (length s.queue) p.picks i (get_or gained i d) (slice_get-get_or gained i d in_i) in
      let y = entry_pick (s.passes + 1) (length s.queue) p.picks j (get_or gained j d) (slice_get-get_or gained j d within) in
      stands (get_or gained i d) (get_or gained j d) x.0 y.0 (ap (λ (e : Entry). e.obj) x.2) (ap (λ (e : Entry). e.obj) y.2) r q
      (picks_ordered s.objects s.registrations s.short found p.picks p.picks_are i j x.0 y.0 lt x.1 y.1)
    where
      stands : (d e : Entry) (x y : Pick) → d.obj ≡ x.obj → e.obj ≡ y.obj → (r q : Registration) → ComesBefore s.registrations x y → get s.registrations d.obj ≡ Some r → get s.registrations e.obj ≡ Some q → (r.rank ≤ q.rank) × (r.rank ≡ q.rank → d.obj < e.obj)
      stands d e x y dx ey r q before here there =
          let first : rank_at s.registrations x.obj ≡ r.rank = ap (λ g. option_map_or (λ (r : Registration). r.rank) g 0) (ap (get s.registrations) (sym dx) ∙ here) in
          let second : rank_at s.registrations y.obj ≡ q.rank = ap (λ g. option_map_or (λ (r : Registration). r.rank) g 0) (ap (get s.registrations) (sym ey) ∙ there) in
          ⊎_elim (λ lt. (omega (arith, lt, first, second), λ same. absurd (omega (arith, lt, first, second, same)))) (λ both. (omega (arith, both.0, first, second), λ same. omega (arith, both.1, dx, ey))) before

  -- a registration that stays and wasn't found is led to
  waiting : (a : ℕ) (r : Registration) → get new.registrations a ≡ Some r → seen a ⊎ ((l : IsLedToBy s seen a) × (IsReachable s.core l.from → ⊥))
  waiting a r e = ⊎_elim (λ f. inl (was a f)) (λ off. inr (led_case off)) (cases_Bool (found a))
    where
      here : get s.registrations a ≡ Some r
      here = old_one a r e

      not_picked : (k : ℕ) (q : Pick) → slice_get p.picks k ≡ Some q → a ≢ q.obj
      not_picked k q is = left_other s.registrations p.picks a r (ap (λ m. get m a) (sym table_is) ∙ e) k q is

      led_to : found a ≡ false → IsLedTo s.objects s.registrations s.short found a
      led_to off =
          ⊎_elim ((led_is s.core found h closed a).0)
          (λ none.
          let listed = p.picks_are.whole a r (record { registered = here; outside = outside_at a r here off }) (λ l. both_ways (led s.core found h closed a) none ((led_is s.core found h closed a).1 l)) in
          let at = place_of (map (λ (q : Pick). q.obj) p.picks) a listed in
          let q = map_at (λ (q : Pick). q.obj) p.picks at.0 a at.1 in
          absurd (not_picked at.0 q.0 q.1 (sym q.2)))
          (cases_Bool (led s.core found h closed a))

      led_case : found a ≡ false → (l : IsLedToBy s seen a) × (IsReachable s.core l.from → ⊥)
      led_case off =
          let l = led_to off in
          let f = first_step clear l.from l.by.kind l.first l.step in
          let from_off = not-true (found l.from) (and_parts (contains_key s.objects l.from) (not (found l.from)) l.unreachable.outside).1 in (
            record { from = l.from; by = l.by; registered = l.unreachable.registered; kind = f.1; first = l.first; step = steps_on l.from l.first f.0; self = f.2; rest = leads_on l.first a l.rest },
            λ reachable. both_ways (found l.from) from_off (roots l.from reachable),
          )

  what_is_queued : WhatIsQueued s seen new
  what_is_queued = record {
    gained = gained;
    queue = ap (λ (c : Core). c.queue) p.is;
    held = ap (λ (c : Core). c.held) p.is;
    in_order = in_order;
    each = each_entry;
    others = other_stays;
    old_ones = old_one;
    ready = λ e l led. let q = picked_of e l in let obj : e.obj ≡ q.1.obj = ap (λ (d : Entry). d.obj) q.3 in ready_at e q.1 obj q.4 led;
    waits = waiting;
  }
    where
      ready_at : (e : Entry) (q : Pick) → e.obj ≡ q.obj → IsPicked s.objects s.registrations s.short found q → (l : IsLedToBy s (IsReachable s.core) e.obj) → seen l.from
      ready_at e q obj x l = leader_seen q x (record { from = l.from; by = l.by; registered = l.registered; kind = l.kind; first = l.first; step = l.step; self = l.self; rest = subst (λ a. LeadsOn s (IsReachable s.core) l.first a) obj l.rest })

  -- ---- the answer

  -- an object's start is in the new state just where it is kept
  starts_left : (k a : ℕ) → slice_get (keys s.objects) k ≡ Some a → not (p.kept a) ≡ not (contains_key new.objects a)
  starts_left k a here =
      let o = at_key s.objects k a here in
      ap not
      (⊎_elim (λ on. on ∙ sym (ap is_some (keeps a o on).1))
      (λ off. ⊎_elim (λ there. absurd (both_ways (p.kept a) off (is_kept a (some_of (get new.objects a) refl there)))) (λ gone. off ∙ sym gone) (cases_Bool (contains_key new.objects a)))
      (cases_Bool (p.kept a)))
    where
      some_of : (g : Option Object) → get new.objects a ≡ g → is_some g ≡ true → Stands new.objects a
      some_of None is e = absurd (both_ways false refl e)
      some_of (Some o) is e = (o, is)

  gone : len s.objects - len new.objects ≡ count_by (λ a. not (contains_key new.objects a)) (keys s.objects)
  gone =
      let all : len s.objects ≡ length (keys s.objects) = len-entries s.objects ∙ sym (length-map (entries s.objects) (λ (e : ℕ × Object). e.0)) in
      let here : len new.objects ≡ count_by p.kept (keys s.objects) =
      ap len objects_are ∙ len_retained p.kept (cleared s.long p.kept clear) ∙ ap (count_by p.kept) (keys-mapped _ clear ∙ keys-mapped _ s.objects) in
      let both = count_not p.kept (keys s.objects) in
      let alike = count_alike (λ a. not (p.kept a)) (λ a. not (contains_key new.objects a)) (keys s.objects) starts_left in
      omega (arith, all, here, both, alike)

  answers : Answers s passed new
  answers =
      let count = length-entries_of (s.passes + 1) (length s.queue) p.picks in
      let all = ap (λ (c : Core). length c.queue) p.is ∙ length-append s.queue gained in
      let said = ap (λ (r : Passed). r.picked) p.reply in
      record {
        pass = ap (λ (r : Passed). r.pass) p.reply ∙ sym (ap (λ (c : Core). c.passes) p.is);
        picked = omega (arith, count, all, said);
        reclaimed = ap (λ (r : Passed). r.reclaimed) p.reply ∙ gone;
      }

  lawful : new.moments ≡ moments_after s new.core → IsLawful s seen passed new
  lawful moments =
      let off = ap (λ (c : Core). c.cycle) p.is in
      record { stays = what_stays; links = which_links; queued = what_is_queued; answers = answers; over = (off, moments ∙ cond-false new.cycle (new.core ∷ s.moments) [] off) }

-- ---- both kinds of passes

pub each_pass_is_lawful : (s : State) → IsReached s → EachPassIsLawful s
each_pass_is_lawful s r = record {
  pause = λ passed new step.
      let f = step.1.1 in
      lawful s (WasSeen s) step.1.0 passed new (reached_standing s r) (reached_sound s r) f.reachable f.closed f.seen step.1.2 step.2;
  collect = λ passed new step.
      let found = step.1.0 in
      let is = step.1.1 in
      lawful s (IsReachable s.core) found passed new (reached_standing s r) (reached_sound s r) (λ a t. (is a).1 t)
      (λ a b f child. let t = (is a).0 f in (is b).1 (record { root = t.root; is_root = t.is_root; leads = reaching.OneMore t.leads child }))
      (λ a f. (is a).0 f) step.1.2 step.2;
}
