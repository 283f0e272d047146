-- A step keeps what was seen closed under children.
use Rattle.std.proofs.Common.{get_or-set_same, length-set, replicate, set, get_or, ◌≡◌, ℕ, ◌+◌, ◌⊎◌, Bool, true, false, cond, ◌&&◌, List, [], ◌∷◌, Option, Some, None, refl, sym, ap, ◌∙◌, subst, inl, inr, ⊎_elim, arith, suc, zero, Any, IsTrue, slice_get, option_map, nat_lt, nat_cmp, Less, Equal, Greater, All, ◌<◌, Contains, ◌==◌, length}
use Rattle.std.proofs.lemmas.Bool.{cond-true, cond-false, cases_eq, both_ways, ltb-true, and_parts, not-false}
use Rattle.std.proofs.lemmas.Option.{same_Some, none-some}
use Rattle.std.specs.Cmp.{nat_cmp_total}
use Rattle.std.specs.Ordering.{is_eq}
use Rattle.std.specs.List.{find}
use Rattle.std.specs.FinMap as finmap
use Rattle.std.specs.FinMap.Entries.{put, by_order}
use Rattle.std.specs.FinMap.{get, insert, entries, entries-insert, get-entries}
use Rattle.fz_model.specs.State.{Map, Object, Core, State}
use Rattle.fz_model.specs.declared.extent.Extent.{Extent}
use Rattle.fz_model.specs.Extents.{covers, points_in, extents, extent_of}
use Rattle.fz_model.specs.Memory.{written, points, fill, filled, lacks_slot, slot_word, with_slot, address_of}
use Rattle.fz_model.specs.Reachability.{IsRoot, Itself, Child, OneMore, IsReachable, WasSeen}
use Rattle.fz_model.specs.Seen.{SeenIsClosed}
use Rattle.fz_model.specs.declared.kinds.ObjKind.{ObjKind}
use Rattle.fz_model.specs.declared.call.Call.TheVariants.{Store, Alloc, Begin}
use Rattle.fz_model.specs.declared.places.Slot.{Slot}
use Rattle.fz_model.specs.declared.places.Place.{Place}
use Rattle.fz_model.specs.Events.{Make}
use Rattle.fz_model.specs.Steps.{moments_after, Accepts}
use Rattle.std.proofs.lemmas.List.Elements.{Contains-get_or}
use Rattle.fz_model.proofs.Maps.{free_place, extents-filled, extents-insert, get-extents, filled_back, get-insert_other}
use Rattle.fz_model.proofs.Lists.{place_of, contains_at}

-- ---- what words point to, after a write and with a new object

pub points-filled : (test : ℕ → Bool) (value : ℕ) (objects : Map Object) (w : ℕ) → points (filled test value objects) w ≡ points objects w
points-filled test value objects w =
    ap (λ m. points_in m w) (extents-filled test value objects)

find-put : (a w b : ℕ) (o : Extent) (es : List (ℕ × Extent)) → finmap.find nat_cmp a es ≡ None → option_map (λ (e : ℕ × Extent). e.0) (find (λ e. covers e w) (put nat_cmp a o es)) ≡ Some b → (b ≡ a) ⊎ (option_map (λ (e : ℕ × Extent). e.0) (find (λ e. covers e w) es) ≡ Some b)
find-put a w b o [] fresh is =
    elim (covers (a, o) w) as (λ t. option_map (λ (e : ℕ × Extent). e.0) (cond t (Some (a, o)) None) ≡ Some b → (b ≡ a) ⊎ (◌≡◌ {A = Option ℕ} None (Some b))) [
      | true ↦ λ is. inl (sym (same_Some a b is))
      | false ↦ λ is. inr is
    ] is
find-put a w b o (e ∷ es) fresh is =
    elim (nat_cmp a e.0) as (λ r. cond (is_eq r) (Some e.1) (finmap.find nat_cmp a es) ≡ None → first_of_list (by_order r ((a, o) ∷ e ∷ es) ((e.0, o) ∷ es) (e ∷ put nat_cmp a o es)) ≡ Some b → (b ≡ a) ⊎ (first_of_list (e ∷ es) ≡ Some b)) [
      | Less ↦ λ _ is.
          elim (covers (a, o) w) as (λ t. option_map (λ (e : ℕ × Extent). e.0) (cond t (Some (a, o)) (find (λ e. covers e w) (e ∷ es))) ≡ Some b → (b ≡ a) ⊎ (first_of_list (e ∷ es) ≡ Some b)) [
            | true ↦ λ is. inl (sym (same_Some a b is))
            | false ↦ λ is. inr is
          ] is
      | Equal ↦ λ fresh is. absurd (none-some e.1 (sym fresh))
      | Greater ↦ λ fresh is.
          elim (covers e w) as (λ t. option_map (λ (e : ℕ × Extent). e.0) (cond t (Some e) (find (λ e. covers e w) (put nat_cmp a o es))) ≡ Some b → (b ≡ a) ⊎ (option_map (λ (e : ℕ × Extent). e.0) (cond t (Some e) (find (λ e. covers e w) es)) ≡ Some b)) [
            | true ↦ λ is. inr is
            | false ↦ λ is. find-put a w b o es fresh is
          ] is
    ] fresh is
  where
    first_of_list : List (ℕ × Extent) → Option ℕ
    first_of_list es = option_map (λ (e : ℕ × Extent). e.0) (find (λ e. covers e w) es)

pub points-insert : (objects : Map Object) (a : ℕ) (o : Object) (w b : ℕ) → get objects a ≡ None → points (insert objects a o) w ≡ Some b → (b ≡ a) ⊎ (points objects w ≡ Some b)
points-insert objects a o w b fresh is =
    find-put a w b (extent_of o) (entries (extents objects)) (sym (get-entries (extents objects) a) ∙ get-extents objects a ∙ ap (option_map extent_of) fresh)
    (ap (λ es. option_map (λ (e : ℕ × Extent). e.0) (find (λ e. covers e w) es)) (sym (entries-insert nat_cmp_total (extents objects) a (extent_of o))) ∙ ap (λ m. points_in m w) (sym (extents-insert objects a o)) ∙ is)

-- ---- children, after a write and with a new object

filled_word : (test : ℕ → Bool) (value a : ℕ) (ws : List ℕ) (k w : ℕ) → slice_get (fill test value a ws) k ≡ Some w → (w ≡ value) ⊎ (slice_get ws k ≡ Some w)
filled_word test value a [] k w is = absurd (none-some w is)
filled_word test value a (x ∷ ws) zero w is =
    elim (test a) as (λ t. Some (cond t value x) ≡ Some w → (w ≡ value) ⊎ (Some x ≡ Some w)) [ true ↦ λ is. inl (sym (same_Some value w is)) | false ↦ λ is. inr is ] is
filled_word test value a (x ∷ ws) (suc k) w is = filled_word test value (a + 1) ws k w is

pub Child-filled : (test : ℕ → Bool) (value : ℕ) (objects : Map Object) (a b : ℕ) → Child (filled test value objects) a b → Child objects a b ⊎ (points objects value ≡ Some b)
Child-filled test value objects a b c =
    let old = filled_back test value objects a c.object c.here in
    let points_to = sym (points-filled test value objects c.word) ∙ c.pointed in
    let at = place_of c.object.words c.word c.within in
    let at_fill = subst (λ (o : Object). slice_get o.words at.0 ≡ Some c.word) old.2 at.1 in
    ⊎_elim (λ is. inr (subst (λ w. points objects w ≡ Some b) is points_to))
    (λ was. inl (record { object = old.0; here = old.1; scanned = sym (ap (λ (o : Object). o.kind) old.2) ∙ c.scanned; word = c.word; within = contains_at old.0.words at.0 c.word was; pointed = points_to }))
    (filled_word test value a old.0.words at.0 c.word at_fill)

pub Child-insert : (objects : Map Object) (new : ℕ) (o : Object) (a b : ℕ) → get objects new ≡ None → Child (insert objects new o) a b → Child objects a b ⊎ ((a ≡ new) ⊎ (b ≡ new))
Child-insert objects new o a b fresh c =
    ⊎_elim (λ is. inr (inl is))
    (λ other. ⊎_elim (λ is. inr (inr is))
    (λ pointed. inl (record { object = c.object; here = sym (get-insert_other objects new o a other) ∙ c.here; scanned = c.scanned; word = c.word; within = c.within; pointed = pointed }))
    (points-insert objects new o c.word b fresh c.pointed))
    (cases_eq a new)

-- ---- one more moment

pub now_seen : (c : Core) (ms : List Core) (a : ℕ) → IsReachable c a → Any (λ c. IsReachable c a) (c ∷ ms)
now_seen c ms a r = (0, c, omega arith, refl, r)

pub still_seen : (c : Core) (ms : List Core) (a : ℕ) → Any (λ c. IsReachable c a) ms → Any (λ c. IsReachable c a) (c ∷ ms)
still_seen c ms a (k, x, l, e, r) = (suc k, x, omega arith, e, r)

pub nothing_seen : {a : ℕ} → Any (λ c. IsReachable c a) [] → ⊥
nothing_seen (k, x, l, e, r) = omega arith

pub seen_cases : (c : Core) (ms : List Core) (a : ℕ) → Any (λ c. IsReachable c a) (c ∷ ms) → IsReachable c a ⊎ Any (λ c. IsReachable c a) ms
seen_cases c ms a (zero, x, l, e, r) = inl (subst (λ c. IsReachable c a) (sym e) r)
seen_cases c ms a (suc k, x, l, e, r) = inr (k, x, omega arith, e, r)

-- each new child edge begins or ends at what is reachable now
pub seen_kept : (s t : State) → SeenIsClosed s → t.moments ≡ moments_after s t.core → ((a b : ℕ) → Child t.objects a b → Child s.objects a b ⊎ (IsReachable t.core a ⊎ IsReachable t.core b)) → (IsTrue t.cycle → (IsTrue s.cycle ⊎ (s.moments ≡ []))) → SeenIsClosed t
seen_kept s t h moments edges opened = record {
  outside = λ off. moments ∙ cond-false t.cycle (t.core ∷ s.moments) [] off;
  reachable = λ on a r. seen on a (now_seen t.core s.moments a r);
  closed = λ on a b was to.
      ⊎_elim (λ r. seen on b (now_seen t.core s.moments b (record { root = r.root; is_root = r.is_root; leads = OneMore r.leads to })))
      (λ earlier.
      ⊎_elim
      (λ edge. seen on b (still_seen t.core s.moments b (⊎_elim (λ was_on. h.closed was_on a b earlier edge) (λ empty. absurd (nothing_seen (subst (λ ms. Any (λ c. IsReachable c a) ms) empty earlier))) (opened on))))
      (λ fresh. ⊎_elim
      (λ r. seen on b (now_seen t.core s.moments b (record { root = r.root; is_root = r.is_root; leads = OneMore r.leads to })))
      (λ r. seen on b (now_seen t.core s.moments b r)) fresh)
      (edges a b to))
      (seen_cases t.core s.moments a (subst (λ ms. Any (λ c. IsReachable c a) ms) (open_moments on) was));
}
  where
    open_moments : IsTrue t.cycle → t.moments ≡ t.core ∷ s.moments
    open_moments on = moments ∙ cond-true t.cycle (t.core ∷ s.moments) [] on

    seen : IsTrue t.cycle → (a : ℕ) → Any (λ c. IsReachable c a) (t.core ∷ s.moments) → WasSeen t a
    seen on a h = subst (λ ms. Any (λ c. IsReachable c a) ms) (sym (open_moments on)) h

-- ---- each call

abbrev pub FramesWhole : Core → Type 0
FramesWhole c = All (λ (f : List ℕ). length f ≡ 16) c.frames

module _ (c : Core) (slot : Slot) (whole : All (λ (f : List ℕ). length f ≡ 16) c.frames) (good : lacks_slot c.frames slot ≡ false) where
  within : (nat_lt slot.frame (length c.frames) ≡ true) × (nat_lt slot.slot 16 ≡ true)
  within = and_parts (nat_lt slot.frame (length c.frames)) (nat_lt slot.slot 16) (not-false (nat_lt slot.frame (length c.frames) && nat_lt slot.slot 16) good)

  in_frames : slot.frame < length c.frames
  in_frames = ltb-true slot.frame (length c.frames) within.0

  row_size : length (get_or c.frames slot.frame []) ≡ 16
  row_size = whole slot.frame [] in_frames

  in_row : slot.slot < length (get_or c.frames slot.frame [])
  in_row = let lt = ltb-true slot.slot 16 within.1 in omega (arith, lt, row_size)

  -- what a slot's word points to is a root
  slot_root : (b : ℕ) (objects : Map Object) → points objects (slot_word c.frames slot) ≡ Some b → IsReachable (record c { objects = objects }) b
  slot_root b objects is =
      let row = get_or c.frames slot.frame [] in
      record {
        root = b;
        is_root = IsRoot.Slot row (slot_word c.frames slot) (Contains-get_or c.frames slot.frame [] in_frames) (Contains-get_or row slot.slot 0 in_row) is;
        leads = Itself;
      }

  -- and so is what a word points to that was put into it
  pub put_root : (a b : ℕ) (new : Core) → new.frames ≡ with_slot c.frames slot a → points new.objects a ≡ Some b → IsReachable new b
  put_root a b new frames is =
      let old = get_or c.frames slot.frame [] in
      let row = set old slot.slot a in
      let lt = length-set c.frames slot.frame row in
      let lr = length-set old slot.slot a in
      let in_new : Contains (with_slot c.frames slot a) row = (slot.frame, omega (arith, in_frames, lt), get_or-set_same c.frames slot.frame row row in_frames) in
      let in_new_row : Contains row a = (slot.slot, omega (arith, in_row, lr), get_or-set_same old slot.slot a a in_row) in
      record { root = b; is_root = IsRoot.Slot row a (subst (λ f. Contains f row) (sym frames) in_new) in_new_row is; leads = Itself }

pub same_heap : (s t : State) → SeenIsClosed s → t.objects ≡ s.objects → t.cycle ≡ s.cycle → t.moments ≡ moments_after s t.core → SeenIsClosed t
same_heap s t h objects cycle moments =
    seen_kept s t h moments (λ a b c. inl (subst (λ o. Child o a b) objects c)) (λ on. inl (sym cycle ∙ on))

pub ended : (s t : State) → t.cycle ≡ false → t.moments ≡ moments_after s t.core → SeenIsClosed t
ended s t off moments = record {
  outside = λ _. moments ∙ cond-false t.cycle (t.core ∷ s.moments) [] off;
  reachable = λ on. absurd (both_ways t.cycle off on);
  closed = λ on. absurd (both_ways t.cycle off on);
}

pub store_seen : (s t : State) (place : Place) (from : Slot) → SeenIsClosed s → FramesWhole s.core → lacks_slot s.frames from ≡ false → Accepts s (Make (Store place from)) tt t.core → t.moments ≡ moments_after s t.core → SeenIsClosed t
unfolding written
store_seen s t place from h whole good a moments =
    let word = slot_word s.frames from in
    let at = λ (x : ℕ). x == address_of s.frames place in
    let after = filled at word s.objects in
    seen_kept s t h moments
    (λ x b c.
    ⊎_elim inl
    (λ is. inr (inr (subst (λ k. IsReachable k b) (sym a) (slot_root s.core from whole good b after (points-filled at word s.objects word ∙ is)))))
    (Child-filled at word s.objects x b (subst (λ (k : Core). Child k.objects x b) a c)))
    (λ on. inl (sym (ap (λ (k : Core). k.cycle) a) ∙ on))

pub alloc_seen : (s t : State) (slot : Slot) (size : ℕ) (kind : ObjKind) (answer : ℕ × ℕ) → SeenIsClosed s → FramesWhole s.core → lacks_slot s.frames slot ≡ false → points t.objects answer.0 ≡ Some answer.0 → Accepts s (Make (Alloc slot size kind)) answer t.core → t.moments ≡ moments_after s t.core → SeenIsClosed t
alloc_seen s t slot size kind answer h whole good start a moments =
    let new = a.0 in
    let is_new : answer.0 ≡ new = ap (λ (p : ℕ × ℕ). p.0) a.2 in
    let reached = put_root s.core slot whole good new new t.core (ap (λ (k : Core). k.frames) a.3) (subst (λ n. points t.objects n ≡ Some n) is_new start) in
    seen_kept s t h moments
    (λ x b c.
    ⊎_elim inl
    (λ fresh. inr (⊎_elim (λ is. inl (subst (λ n. IsReachable t.core n) (sym is) reached)) (λ is. inr (subst (λ n. IsReachable t.core n) (sym is) reached)) fresh))
    (Child-insert s.objects new (record { kind = kind; birth = s.next_birth; words = replicate size 0 }) x b (free_place s.objects s.blocks size new kind a.1) (subst (λ (k : Core). Child k.objects x b) a.3 c)))
    (λ on. inl (sym (ap (λ (k : Core). k.cycle) a.3) ∙ on))

pub begin_seen : (s t : State) → SeenIsClosed s → s.cycle ≡ false → Accepts s (Make Begin) tt t.core → t.moments ≡ moments_after s t.core → SeenIsClosed t
begin_seen s t h off a moments =
    seen_kept s t h moments (λ x b c. inl (subst (λ (k : Core). Child k.objects x b) a c)) (λ _. inr (h.outside off))
