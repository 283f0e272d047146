-- What a pass decides, computed: what is reachable, what is kept, what is led to, and the picks.
use Rattle.std.proofs.Common.{◌≡◌, ℕ, ◌<◌, ◌==◌, ◌&&◌, ◌||◌, ⊎_elim, Bool, true, false, cond, not, List, [], ◌∷◌, length, map, filter, Option, Some, None, is_some, refl, ap, ◌∙◌, subst, arith, zero, suc, slice_get, get_or, option_map, T, nat_cmp, Contains, All, AllPairs}
use Rattle.std.proofs.lemmas.Bool.{cases_Bool, and_parts, and_from, or_left, or_right, or_cases, both_ways, not-true, not_from_false, eqb-true, eq-eqb, ne_eqb}
use Rattle.std.proofs.lemmas.Option.{same_Some, none-some, slice_get-get_or, slice_get_within, get_or_from_slice_get, slice_get-map}
use Rattle.std.proofs.lemmas.List.Kept.{AllPairs-filter}
use Rattle.std.proofs.lemmas.List.Folds.{list_any_at}
use Rattle.std.specs.List.{list_any}
use Rattle.std.specs.Option.{option_map_or}
use Rattle.std.specs.FinMap.{get, contains_key, keys, entries, entries_sorted, is_sorted}
use Rattle.std.specs.FinMap.Entries.{below_all}
use Rattle.fz_model.specs.declared.kinds.ObjKind.{ObjKind}
use Rattle.fz_model.specs.declared.kinds.ObjKind.TheVariants.{Scanned, Atomic}
use Rattle.fz_model.specs.declared.kinds.RegKind.{RegKind}
use Rattle.fz_model.specs.declared.kinds.RegKind.TheVariants.{Normal, IgnoreSelf, NoOrder}
use Rattle.fz_model.specs.declared.answers.Entry.{Entry}
use Rattle.fz_model.specs.declared.answers.Pick.{Pick}
use Rattle.fz_model.specs.declared.answers.Registration.{Registration}
use Rattle.fz_model.specs.State.{Map, Object, Core}
use Rattle.fz_model.specs.Memory.{points}
use Rattle.fz_model.specs.Reachability.{Child, Leads, Itself, OneMore, IsRoot, IsReachable, Computes}
use Rattle.fz_model.specs.Pass.{rank_at, is_outside, is_dead, cleared, LeadsFirst, IsUnreachable, IsLedTo, IsKept, FoundItself, LedFrom, IsPicked, Decision}
use Rattle.fz_model.proofs.Lists.{contains_at, any_at, map_at, filter_at}
use Rattle.fz_model.proofs.MapEntries.{get_at, place_of_key, key_in, below_at, T-first, T-second}
use Rattle.fz_model.proofs.SeenKept.{Child-filled}
use Rattle.fz_model.proofs.Standing.{Standing, pointed_at, zero_points_nowhere}
use Rattle.fz_model.proofs.Ranked.{ranked, ranked_all, ranked_at, ranked_ordered}
use Rattle.fz_model.proofs.Closures.{closure, closure_closed, start_in, closure_least}

-- ---- tests

abbrev is_scanned : ObjKind → Bool
is_scanned Scanned = true
is_scanned Atomic = false

is_scanned_true : (k : ObjKind) → is_scanned k ≡ true → k ≡ Scanned
is_scanned_true Scanned on = refl
is_scanned_true Atomic on = absurd (both_ways false refl on)

any_of : {X : Type 0} (p : X → Bool) (xs : List X) (x : X) → Contains xs x → p x ≡ true → list_any p xs ≡ true
any_of p xs x within on = list_any_at p xs within.0 x within.1 (ap p within.2 ∙ on)

-- whether the word points there
abbrev pub points_to : Map Object → ℕ → ℕ → Bool
points_to objects a word = option_map_or (λ b. b == a) (points objects word) false

points_to_true : (objects : Map Object) (a word : ℕ) → points_to objects a word ≡ true → points objects word ≡ Some a
points_to_true objects a word on = at (points objects word) refl on
  where
    at : (o : Option ℕ) → points objects word ≡ o → option_map_or (λ b. b == a) o false ≡ true → points objects word ≡ Some a
    at None is on = absurd (both_ways false refl on)
    at (Some b) is on = is ∙ ap Some (eqb-true b a on)

to_points_to : (objects : Map Object) (a word : ℕ) → points objects word ≡ Some a → points_to objects a word ≡ true
to_points_to objects a word is = ap (λ o. option_map_or (λ b. b == a) o false) is ∙ eq-eqb a a refl

abbrev pub child_test : Map Object → ℕ → ℕ → Bool
child_test objects a b = option_map_or (λ (o : Object). is_scanned o.kind && list_any (points_to objects b) o.words) (get objects a) false

child_true : (objects : Map Object) (a b : ℕ) → child_test objects a b ≡ true → Child objects a b
child_true objects a b on = at (get objects a) refl on
  where
    at : (g : Option Object) → get objects a ≡ g → option_map_or (λ (o : Object). is_scanned o.kind && list_any (points_to objects b) o.words) g false ≡ true → Child objects a b
    at None is on = absurd (both_ways false refl on)
    at (Some o) is on =
        let both = and_parts (is_scanned o.kind) (list_any (points_to objects b) o.words) on in
        let word = any_at (points_to objects b) o.words both.1 in
        record { object = o; here = is; scanned = is_scanned_true o.kind both.0; word = word.1; within = contains_at o.words word.0 word.1 word.2; pointed = points_to_true objects b word.1 word.3 }

to_child_test : (objects : Map Object) (a b : ℕ) → Child objects a b → child_test objects a b ≡ true
to_child_test objects a b c =
    ap (λ g. option_map_or (λ (o : Object). is_scanned o.kind && list_any (points_to objects b) o.words) g false) c.here
    ∙ and_from (is_scanned c.object.kind) (list_any (points_to objects b) c.object.words) (ap is_scanned c.scanned) (any_of (points_to objects b) c.object.words c.word c.within (to_points_to objects b c.word c.pointed))

-- ---- what a set leads to

module _ (objects : Map Object) (start : ℕ → Bool) where
  abbrev pub traced : ℕ → Bool
  traced = closure (keys objects) (child_test objects) start

  abbrev pub IsTraced : ℕ → Type 0
  IsTraced x = (from : ℕ) × (start from ≡ true) × Leads objects from x

  to_node : (b a : ℕ) → child_test objects b a ≡ true → (k : ℕ) × (slice_get (keys objects) k ≡ Some a)
  to_node b a on = let c = child_true objects b a on in let o = pointed_at objects c.word a c.pointed in key_in objects a o.0 o.1

  from_node : (b a : ℕ) → child_test objects b a ≡ true → (k : ℕ) × (slice_get (keys objects) k ≡ Some b)
  from_node b a on = let c = child_true objects b a on in key_in objects b c.object c.here

  pub traced_is : Computes traced IsTraced
  traced_is a = (there a, λ t. back t.0 t.1 a t.2)
    where
      there : (a : ℕ) → traced a ≡ true → IsTraced a
      there = closure_least (keys objects) (child_test objects) start to_node from_node IsTraced (λ x on. (x, on, Itself)) (λ b x t on. (t.0, t.1, OneMore t.2 (child_true objects b x on)))

      back : (from : ℕ) → start from ≡ true → (x : ℕ) → Leads objects from x → traced x ≡ true
      back from on x Itself = start_in (keys objects) (child_test objects) start to_node from_node from on
      back from on x (OneMore {b = b} leads child) =
          closure_closed (keys objects) (child_test objects) start to_node from_node b x (back from on b leads) (to_child_test objects b x child)

-- ---- what is reachable

abbrev root_test : Core → ℕ → Bool
root_test c a =
    list_any (list_any (points_to c.objects a)) c.frames
    || (list_any (λ (e : ℕ × Registration). points_to c.objects a e.1.cd) (entries c.registrations)
    || (list_any (λ (e : Entry). (e.obj == a) || points_to c.objects a e.cd) c.held || (c.closed && contains_key c.registrations a)))

some_of : {X : Type 0} (o : Option X) → is_some o ≡ true → (x : X) × (o ≡ Some x)
some_of None on = absurd (both_ways false refl on)
some_of (Some x) on = (x, refl)

module _ (c : Core) (a : ℕ) where
  abbrev by_slot : Bool
  by_slot = list_any (list_any (points_to c.objects a)) c.frames

  abbrev by_data : Bool
  by_data = list_any (λ (e : ℕ × Registration). points_to c.objects a e.1.cd) (entries c.registrations)

  abbrev by_held : Bool
  by_held = list_any (λ (e : Entry). (e.obj == a) || points_to c.objects a e.cd) c.held

  abbrev by_close : Bool
  by_close = c.closed && contains_key c.registrations a

  slot_root : by_slot ≡ true → IsRoot c a
  slot_root on =
      let frame = any_at (list_any (points_to c.objects a)) c.frames on in
      let word = any_at (points_to c.objects a) frame.1 frame.3 in
      IsRoot.Slot frame.1 word.1 (contains_at c.frames frame.0 frame.1 frame.2) (contains_at frame.1 word.0 word.1 word.2) (points_to_true c.objects a word.1 word.3)

  data_root : by_data ≡ true → IsRoot c a
  data_root on =
      let e = any_at (λ (e : ℕ × Registration). points_to c.objects a e.1.cd) (entries c.registrations) on in
      IsRoot.ClientData e.1.0 e.1.1 (get_at c.registrations e.0 e.1 e.2) (points_to_true c.objects a e.1.1.cd e.3)

  held_root : by_held ≡ true → IsRoot c a
  held_root on =
      let e = any_at (λ (e : Entry). (e.obj == a) || points_to c.objects a e.cd) c.held on in
      let within = contains_at c.held e.0 e.1 e.2 in
      ⊎_elim (λ same. IsRoot.HeldObject e.1 within (eqb-true e.1.obj a same)) (λ pointed. IsRoot.HeldData e.1 within (points_to_true c.objects a e.1.cd pointed)) (or_cases (e.1.obj == a) (points_to c.objects a e.1.cd) e.3)

  close_root : by_close ≡ true → IsRoot c a
  close_root on =
      let both = and_parts c.closed (contains_key c.registrations a) on in
      let r = some_of (get c.registrations a) both.1 in
      IsRoot.Registered r.0 both.0 r.1

  root_true : root_test c a ≡ true → IsRoot c a
  root_true on =
      ⊎_elim slot_root
      (λ rest. ⊎_elim data_root (λ last. ⊎_elim held_root close_root (or_cases by_held by_close last)) (or_cases by_data (by_held || by_close) rest))
      (or_cases by_slot (by_data || (by_held || by_close)) on)

  last_part : by_held || by_close ≡ true → root_test c a ≡ true
  last_part on = or_right by_slot (by_data || (by_held || by_close)) (or_right by_data (by_held || by_close) on)

  to_root_test : IsRoot c a → root_test c a ≡ true
  to_root_test (IsRoot.Slot frame word in_frames in_frame pointed) =
      or_left by_slot (by_data || (by_held || by_close)) (any_of (list_any (points_to c.objects a)) c.frames frame in_frames (any_of (points_to c.objects a) frame word in_frame (to_points_to c.objects a word pointed)))
  to_root_test (IsRoot.ClientData object r here pointed) =
      let at = place_of_key c.registrations object r here in
      or_right by_slot (by_data || (by_held || by_close))
      (or_left by_data (by_held || by_close) (any_of (λ (e : ℕ × Registration). points_to c.objects a e.1.cd) (entries c.registrations) (object, r) (contains_at (entries c.registrations) at.0 (object, r) at.1) (to_points_to c.objects a r.cd pointed)))
  to_root_test (IsRoot.HeldObject e within same) =
      last_part (or_left by_held by_close (any_of (λ (e : Entry). (e.obj == a) || points_to c.objects a e.cd) c.held e within (or_left (e.obj == a) (points_to c.objects a e.cd) (eq-eqb e.obj a same))))
  to_root_test (IsRoot.HeldData e within pointed) =
      last_part (or_left by_held by_close (any_of (λ (e : Entry). (e.obj == a) || points_to c.objects a e.cd) c.held e within (or_right (e.obj == a) (points_to c.objects a e.cd) (to_points_to c.objects a e.cd pointed))))
  to_root_test (IsRoot.Registered r closed here) =
      last_part (or_right by_held by_close (and_from c.closed (contains_key c.registrations a) closed (ap is_some here)))

-- what is reachable can be told
abbrev pub reachable : Core → ℕ → Bool
reachable c = traced c.objects (root_test c)

pub reachable_is : (c : Core) → Computes (reachable c) (IsReachable c)
reachable_is c a = (
  λ on. let t = (traced_is c.objects (root_test c) a).0 on in record { root = t.0; is_root = root_true c t.0 t.1; leads = t.2 },
  λ r. (traced_is c.objects (root_test c) a).1 (r.root, to_root_test c r.root r.is_root, r.leads),
)

-- ---- what a pass decides

abbrev first_test : Map Object → ℕ → RegKind → ℕ → Bool
first_test objects o Normal b = child_test objects o b
first_test objects o IgnoreSelf b = child_test objects o b && not (b == o)
first_test objects o NoOrder b = false

first_true : (objects : Map Object) (o : ℕ) (kind : RegKind) (b : ℕ) → first_test objects o kind b ≡ true → LeadsFirst objects o kind b
first_true objects o Normal b on = child_true objects o b on
first_true objects o IgnoreSelf b on =
    let both = and_parts (child_test objects o b) (not (b == o)) on in
    (child_true objects o b both.0, λ same. both_ways (b == o) (not-true (b == o) both.1) (eq-eqb b o same))
first_true objects o NoOrder b on = absurd (both_ways false refl on)

to_first_test : (objects : Map Object) (o : ℕ) (kind : RegKind) (b : ℕ) → LeadsFirst objects o kind b → first_test objects o kind b ≡ true
to_first_test objects o Normal b first = to_child_test objects o b first
to_first_test objects o IgnoreSelf b first = and_from (child_test objects o b) (not (b == o)) (to_child_test objects o b first.0) (not_from_false _ (ne_eqb b o first.1))
to_first_test objects o NoOrder b first = absurd first

filter_has : {X : Type 0} (q : X → Bool) (xs : List X) (k : ℕ) (x : X) → slice_get xs k ≡ Some x → q x ≡ true → (i : ℕ) × (slice_get (filter q xs) i ≡ Some x)
filter_has q [] k x is on = absurd (none-some x is)
filter_has q (y ∷ xs) zero x is on =
    let passes : q y ≡ true = ap q (same_Some y x is) ∙ on in
    (0, ap (λ b. slice_get (cond b (y ∷ filter q xs) (filter q xs)) 0) passes ∙ is)
filter_has q (y ∷ xs) (suc k) x is on =
    let rest = filter_has q xs k x is on in
    ⊎_elim
    (λ t. (suc rest.0, ap (λ b. slice_get (cond b (y ∷ filter q xs) (filter q xs)) (suc rest.0)) t ∙ rest.1))
    (λ f. (rest.0, ap (λ b. slice_get (cond b (y ∷ filter q xs) (filter q xs)) rest.0) f ∙ rest.1))
    (cases_Bool (q y))

-- keys rise
keys_rise : {X : Type 0} (m : Map X) → AllPairs (λ (e f : ℕ × X). e.0 < f.0) (entries m)
keys_rise m i j d lt within =
    rise (entries m) (entries_sorted m) i j (get_or (entries m) i d) (get_or (entries m) j d) lt
    (slice_get-get_or (entries m) i d (omega (arith, lt, within))) (slice_get-get_or (entries m) j d within)
  where
    rise : {X : Type 0} (es : List (ℕ × X)) → T (is_sorted nat_cmp es) → (i j : ℕ) (e f : ℕ × X) → i < j → slice_get es i ≡ Some e → slice_get es j ≡ Some f → e.0 < f.0
    rise [] sorted i j e f lt ie jf = absurd (none-some e ie)
    rise (x ∷ es) sorted i zero e f lt ie jf = absurd (omega (arith, lt))
    rise (x ∷ es) sorted zero (suc j) e f lt ie jf =
        subst (λ (g : ℕ × _). g.0 < f.0) (same_Some x e ie) (below_at x.0 es j f (T-first (below_all nat_cmp x.0 es) (is_sorted nat_cmp es) sorted) jf)
    rise (x ∷ es) sorted (suc i) (suc j) e f lt ie jf = rise es (T-second (below_all nat_cmp x.0 es) (is_sorted nat_cmp es) sorted) i j e f (omega (arith, lt)) ie jf

module _ (c : Core) (found : ℕ → Bool) (h : Standing c) (closed : (a b : ℕ) → found a ≡ true → Child c.objects a b → found b ≡ true) where
  abbrev pub clear : Map Object
  clear = cleared c.short found c.objects

  abbrev IsLeft : ℕ → Registration → Type 0
  IsLeft = IsUnreachable c.objects c.registrations c.short found

  -- what is found stays so along the children that clearing leaves
  found_on : (a x : ℕ) → found a ≡ true → Leads clear a x → found x ≡ true
  found_on a x f Itself = f
  found_on a x f (OneMore {b = b} leads child) =
      ⊎_elim (closed b x (found_on a b f leads)) (λ zero_word. absurd (zero_points_nowhere c h x zero_word)) (Child-filled (is_dead c.objects c.short found) 0 c.objects b x child)

  -- ---- kept

  abbrev keep_from : ℕ → Bool
  keep_from a = found a || (contains_key c.registrations a && is_outside c.objects found a)

  abbrev kept : ℕ → Bool
  kept = traced clear keep_from

  kept_is : Computes kept (IsKept c.objects c.registrations c.short found)
  kept_is x = (λ on. there ((traced_is clear keep_from x).0 on), back)
    where
      there : IsTraced clear keep_from x → IsKept c.objects c.registrations c.short found x
      there (a, on, leads) =
          ⊎_elim (λ f. FoundItself (found_on a x f leads))
          (λ u. let both = and_parts (contains_key c.registrations a) (is_outside c.objects found a) u in
          let r = some_of (get c.registrations a) both.0 in
          LedFrom a r.0 (record { registered = r.1; outside = both.1 }) leads)
          (or_cases (found a) (contains_key c.registrations a && is_outside c.objects found a) on)

      back : IsKept c.objects c.registrations c.short found x → kept x ≡ true
      back (FoundItself f) = (traced_is clear keep_from x).1 (x, or_left (found x) (contains_key c.registrations x && is_outside c.objects found x) f, Itself)
      back (LedFrom o r u leads) =
          (traced_is clear keep_from x).1 (o, or_right (found o) (contains_key c.registrations o && is_outside c.objects found o) (and_from (contains_key c.registrations o) (is_outside c.objects found o) (ap is_some u.registered) u.outside), leads)

  -- ---- led to

  abbrev pub led_by : ℕ → ℕ × Registration → Bool
  led_by y e = is_outside c.objects found e.0 && first_test clear e.0 e.1.kind y

  abbrev pub led_from : ℕ → Bool
  led_from y = list_any (led_by y) (entries c.registrations)

  abbrev pub led : ℕ → Bool
  led = traced clear led_from

  pub led_is : Computes led (IsLedTo c.objects c.registrations c.short found)
  led_is x = (λ on. there ((traced_is clear led_from x).0 on), back)
    where
      there : IsTraced clear led_from x → IsLedTo c.objects c.registrations c.short found x
      there (y, on, leads) =
          let e = any_at (led_by y) (entries c.registrations) on in
          let both = and_parts (is_outside c.objects found e.1.0) (first_test clear e.1.0 e.1.1.kind y) e.3 in
          record {
            from = e.1.0;
            by = e.1.1;
            unreachable = record { registered = get_at c.registrations e.0 e.1 e.2; outside = both.0 };
            first = y;
            step = first_true clear e.1.0 e.1.1.kind y both.1;
            rest = leads;
          }

      back : IsLedTo c.objects c.registrations c.short found x → led x ≡ true
      back l =
          let at = place_of_key c.registrations l.from l.by l.unreachable.registered in
          (traced_is clear led_from x).1
          (l.first, any_of (led_by l.first) (entries c.registrations) (l.from, l.by) (contains_at (entries c.registrations) at.0 (l.from, l.by) at.1) (and_from (is_outside c.objects found l.from) (first_test clear l.from l.by.kind l.first) l.unreachable.outside (to_first_test clear l.from l.by.kind l.first l.step)), l.rest)

  -- ---- picks

  abbrev is_free : ℕ × Registration → Bool
  is_free e = is_outside c.objects found e.0 && not (led e.0)

  abbrev free : List (ℕ × Registration)
  free = filter is_free (entries c.registrations)

  abbrev pick_of : ℕ × Registration → Pick
  pick_of e = record { reg = e.1.number; obj = e.0; birth = option_map_or (λ (o : Object). o.birth) (get c.objects e.0) 0; proc = e.1.proc; cd = e.1.cd }

  abbrev by_address : List Pick
  by_address = map pick_of free

  abbrev rank_of : Pick → ℕ
  rank_of p = rank_at c.registrations p.obj

  abbrev start_of : Pick → ℕ
  start_of p = p.obj

  abbrev picks : List Pick
  picks = ranked rank_of start_of by_address

  picked : (e : ℕ × Registration) → get c.registrations e.0 ≡ Some e.1 → is_free e ≡ true → IsPicked c.objects c.registrations c.short found (pick_of e)
  picked e here on =
      let both = and_parts (is_outside c.objects found e.0) (not (led e.0)) on in
      let o = some_of (get c.objects e.0) (and_parts (contains_key c.objects e.0) (not (found e.0)) both.0).0 in
      record {
        registration = e.1;
        object = o.0;
        unreachable = record { registered = here; outside = both.0 };
        here = o.1;
        is = ap (λ birth. record { reg = e.1.number; obj = e.0; birth = birth; proc = e.1.proc; cd = e.1.cd }) (ap (λ g. option_map_or (λ (o : Object). o.birth) g 0) o.1);
        free = λ l. both_ways (led e.0) (not-true (led e.0) both.1) ((led_is e.0).1 l);
      }

  each : All (IsPicked c.objects c.registrations c.short found) by_address
  each k d lt =
      let p = get_or by_address k d in
      let e = map_at pick_of free k p (slice_get-get_or by_address k d lt) in
      let f = filter_at is_free (entries c.registrations) k e.0 e.1 in
      subst (IsPicked c.objects c.registrations c.short found) e.2 (picked e.0 (get_at c.registrations f.0 e.0 f.1) f.2)

  rising : AllPairs (λ (p q : Pick). p.obj < q.obj) by_address
  rising i j d lt within =
      let in_i : i < length by_address = omega (arith, lt, within) in
      let e = map_at pick_of free i (get_or by_address i d) (slice_get-get_or by_address i d in_i) in
      let f = map_at pick_of free j (get_or by_address j d) (slice_get-get_or by_address j d within) in
      let rise = AllPairs-filter (λ (e f : ℕ × Registration). e.0 < f.0) is_free (entries c.registrations) (keys_rise c.registrations) i j e.0 lt (slice_get_within free j f.0 f.1) in
      let first : e.0.0 < (get_or free j e.0).0 = subst (λ (x : ℕ × Registration). x.0 < (get_or free j e.0).0) (get_or_from_slice_get free i e.0 e.0 e.1) rise in
      let both : e.0.0 < f.0.0 = subst (λ (x : ℕ × Registration). e.0.0 < x.0) (get_or_from_slice_get free j f.0 e.0 f.1) first in
      subst (λ (p : Pick). p.obj < (get_or by_address j d).obj) e.2 (subst (λ (q : Pick). e.0.0 < q.obj) f.2 both)

  all_picked : (o : ℕ) (r : Registration) → IsLeft o r → (IsLedTo c.objects c.registrations c.short found o → ⊥) → Contains (map (λ (p : Pick). p.obj) picks) o
  all_picked o r u not_led =
      let at = place_of_key c.registrations o r u.registered in
      let unled : led o ≡ false = ⊎_elim (λ on. absurd (not_led ((led_is o).0 on))) (λ off. off) (cases_Bool (led o)) in
      let i = filter_has is_free (entries c.registrations) at.0 (o, r) at.1 (and_from (is_outside c.objects found o) (not (led o)) u.outside (not_from_false _ unled)) in
      let k = ranked_at rank_of start_of by_address i.0 (pick_of (o, r)) (slice_get-map pick_of free i.0 ∙ ap (option_map pick_of) i.1) in
      contains_at (map (λ (p : Pick). p.obj) picks) k.0 o (slice_get-map (λ (p : Pick). p.obj) picks k.0 ∙ ap (option_map (λ (p : Pick). p.obj)) k.1)

  pub decides : Decision c.objects c.registrations c.short found
  decides = record {
    kept = kept;
    kept_is = kept_is;
    picks = picks;
    picks_are = record {
      ordered = ranked_ordered rank_of start_of by_address rising;
      each = ranked_all rank_of start_of (IsPicked c.objects c.registrations c.short found) by_address each;
      whole = all_picked;
    };
  }
