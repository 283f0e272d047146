-- Slots that are set, words that are loaded and stored, objects that are made, and their blocks.
use Rattle.std.proofs.Common.{◌≡◌, ◌≢◌, ℕ, ◌+◌, ◌-◌, ◌*◌, ◌<◌, ◌≤◌, ◌==◌, ◌&&◌, ◌⊎◌, inl, inr, ⊎_elim, Bool, true, false, not, List, [], ◌∷◌, length, Option, Some, None, is_none, option_map, option_and_then, unwrap_or, Result, Ok, Err, refl, sym, ap, ◌∙◌, subst, arith, zero, suc, zero-add, slice_get, slice_index, get_or, set, length-set, flat_map, filter, nat_lt, nat_le}
use Rattle.std.proofs.lemmas.Bool.{cases_lt, cases_eq, cases_Bool, and_parts, and_from, not-false, ltb-true, le-leb, leb-true, eqb-true, eq-eqb, ne_eqb, or_cases, or_left, both_ways}
use Rattle.std.proofs.lemmas.Option.{same_Some, none-some, slice_get-get_or, slice_get_within}
use Rattle.std.proofs.lemmas.List.{get_or-set_same, get_or-set_other, get_or-replicate, length-replicate}
use Rattle.std.proofs.lemmas.List.FromFn.{get_or-range_with_len, length-range_with_len}
use Rattle.std.specs.List.{find, list_any, list_all, range_with_len}
use Rattle.std.specs.Option.{option_or}
use Rattle.std.specs.FinMap.{get, insert, entries, get-empty}
use Rattle.std.specs.Ordering.{nat_cmp}
use Rattle.fz_model.specs.declared.call.Call.TheVariants.{Alloc, Load, Store, Set, Copy}
use Rattle.fz_model.specs.declared.extent.Extent.{Extent}
use Rattle.fz_model.specs.declared.kinds.ObjKind.{ObjKind}
use Rattle.fz_model.specs.declared.limits.TheConstants.{HEAP_START}
use Rattle.fz_model.specs.declared.places.Slot.{Slot}
use Rattle.fz_model.specs.declared.places.Place.{Place}
use Rattle.fz_model.specs.declared.refusal.Refusal.{Refusal}
use Rattle.fz_model.specs.declared.refusal.Refusal.TheVariants.{BadSlot, BadSize, Exhausted, NoSpace, NoMemory}
use Rattle.fz_model.specs.State.{Map, Object, Core, State, opening}
use Rattle.fz_model.specs.Extents.{covers, extents, extent_of}
use Rattle.fz_model.specs.Memory.{new_object, points, fill, written, word_at, lacks_slot, slot_word, with_slot, address_of}
use Rattle.fz_model.specs.Allocation.{same_kind, block_start, block_of, meets, is_bare, is_free, cells, has_class, blocks_for, has_run, place_in}
use Rattle.fz_model.specs.Causes.{first_cause, other_extent}
use Rattle.fz_model.specs.Refusals.{code_of}
use Rattle.fz_model.specs.Events.{Event, Make, Hold, causes}
use Rattle.fz_model.specs.Steps.{Step, OneMore, IsReached}
use Rattle.fz_model.specs.ObjectLaws.{SlotGets, SlotsAreSet, RestIsKept, HasWord, WordsAreLoaded, ChangesOnly, WordsAreStored, IsMade, ObjectsAreMade, IsInBlock, BlocksAreShared, AreEmpty, EmptyBlocksAreRoom}
use Rattle.fz_model.proofs.Lists.{any_at, found_some}
use Rattle.fz_model.proofs.MapEntries.{get_at}
use Rattle.fz_model.proofs.Maps.{get-insert_same, get-insert_other, free_place, extents-insert, extents-filled, filled_here, filled_back, fill_on, fill_off, length-fill}
use Rattle.fz_model.proofs.Objects.{kinds_same, from_covers, to_covers, points_at}
use Rattle.fz_model.proofs.Standing.{get_extent, extent_back, place_pointed, left_before, reached_standing}
use Rattle.fz_model.proofs.Allocation.{AreLaid, IsCellOf, BeginsRun, place_cases, own_block, run_is_bare, bare_meets, left_extent, laid_apart, reached_laid}
use Rattle.fz_model.proofs.SeenKept.{points-filled}
use Rattle.fz_model.proofs.Effects.{none_stands, IsAllowed, Effect, Made, Wrote, Ended, reached_keeps}
use Rattle.fz_model.proofs.CallLaws.{slot_gets}

-- ---- slots

same_or_other : (a b : Slot) → (a ≡ b) ⊎ (a ≢ b)
same_or_other a b =
    ⊎_elim
    (λ frame. ⊎_elim (λ slot. inl (λ i. record { frame = frame i; slot = slot i })) (λ apart. inr (λ same. apart (ap (λ (s : Slot). s.slot) same))) (cases_eq a.slot b.slot))
    (λ apart. inr (λ same. apart (ap (λ (s : Slot). s.frame) same)))
    (cases_eq a.frame b.frame)

slot_keeps : (frames : List (List ℕ)) (slot : Slot) (word : ℕ) (other : Slot) → lacks_slot frames slot ≡ false → other ≢ slot → slot_word (with_slot frames slot word) other ≡ slot_word frames other
slot_keeps frames slot word other good apart =
    let in_frames = ltb-true slot.frame (length frames) (and_parts (nat_lt slot.frame (length frames)) (nat_lt slot.slot 16) (not-false _ good)).0 in
    let old = get_or frames slot.frame [] in
    let row = set old slot.slot word in
    ⊎_elim
    (λ (same : other.frame ≡ slot.frame).
    let ne : other.slot ≢ slot.slot = λ is. apart (λ i. record { frame = same i; slot = is i }) in
    ap (λ f. get_or (get_or (set frames slot.frame row) f []) other.slot 0) same
    ∙ ap (λ f. get_or f other.slot 0) (get_or-set_same frames slot.frame row [] in_frames)
    ∙ get_or-set_other old slot.slot other.slot word 0 ne
    ∙ ap (λ f. get_or (get_or frames f []) other.slot 0) (sym same))
    (λ ne. ap (λ f. get_or f other.slot 0) (get_or-set_other frames slot.frame other.frame row [] ne))
    (cases_eq other.frame slot.frame)

put : (s new : State) (slot : Slot) (word : ℕ) → IsReached s → lacks_slot s.frames slot ≡ false → new.frames ≡ with_slot s.frames slot word → SlotGets s slot word new
put s new slot word r good is = record {
  gets = ap (λ fs. slot_word fs slot) is ∙ slot_gets s.frames slot word (reached_standing s r).whole good;
  others = λ other apart. ap (λ fs. slot_word fs other) is ∙ slot_keeps s.frames slot word other good apart;
  number = ap length is ∙ length-set s.frames slot.frame (set (get_or s.frames slot.frame []) slot.slot word);
}

pub slots_are_set : (s : State) → IsReached s → SlotsAreSet s
slots_are_set s r = record {
  set = λ slot word answer new step.
      let frames = ap (λ (c : Core). c.frames) step.1 in
      (put s new slot word r (none_stands (causes s.core (Make (Set slot word))) step.0).0 frames, step.1 ∙ ap (λ fs. record s.core { frames = fs }) (sym frames));
  copy = λ slot to answer new step.
      let frames = ap (λ (c : Core). c.frames) step.1 in
      let gets = put s new to (slot_word s.frames slot) r (none_stands (causes s.core (Make (Copy slot to))) step.0).1.0 frames in
      (gets, ⊎_elim (λ same. ap (slot_word new.frames) same ∙ gets.gets) (gets.others slot) (same_or_other slot to), step.1 ∙ ap (λ fs. record s.core { frames = fs }) (sym frames));
}

pub rest_is_kept : (s : State) → IsReached s → RestIsKept s
rest_is_kept s r = record {
  hold = λ slot entry answer new step.
      let frames = ap (λ (c : Core). c.frames) step.1 in
      let set = put s new slot _ r (none_stands (causes s.core (Hold slot entry)) step.0).0 frames in
      (record { gets = refl; others = set.others; number = set.number }, step.1 ∙ ap (λ fs. record s.core { frames = fs }) (sym frames));
  begin = λ answer new step. let cycle = ap (λ (c : Core). c.cycle) step.1 in (cycle, step.1 ∙ ap (λ b. record s.core { cycle = b }) (sym cycle));
  close = λ answer new step. let closed = ap (λ (c : Core). c.closed) step.1 in (closed, step.1 ∙ ap (λ b. record s.core { closed = b }) (sym closed));
  mark = λ budget answer new step. step.1.1;
  queue = λ answer new step. (step.1.0 ∙ ap (λ (c : Core). c.queue) (sym step.1.1), step.1.1);
}

-- ---- words

-- the word of a place that is no cause of refusal
place_has : (s : State) → IsReached s → (place : Place) → (other_extent (extents s.objects) (slot_word s.frames place.slot) (address_of s.frames place)).0 ≡ false → HasWord s place (word_at s.objects (address_of s.frames place))
place_has s r place none =
    let address = address_of s.frames place in
    let p = place_pointed s.objects (slot_word s.frames place.slot) address none in
    let a = p.0 in
    let o = p.1 in
    let range = from_covers a address (extent_of o) p.4 in
    let low = range.0 in
    let high = range.1 in
    let pointed : points s.objects address ≡ Some a = points_at (extents s.objects) (laid_apart s.blocks (extents s.objects) (reached_laid s r)) a address (extent_of o) (get_extent s.objects a o p.3) p.4 in
    let word : word_at s.objects address ≡ get_or o.words (address - a) 0 =
    ap (λ q. unwrap_or (option_and_then (λ start. option_map (λ (o : Object). slice_index o.words (address - start)) (get s.objects start)) q) 0) pointed
    ∙ ap (λ g. unwrap_or (option_map (λ (o : Object). slice_index o.words (address - a)) g) 0) p.3 in
    record {
      start = a;
      object = o;
      pointed = p.2;
      here = p.3;
      index = address - a;
      address = omega (arith, low);
      within = slice_get-get_or o.words (address - a) 0 (omega (arith, low, high)) ∙ ap Some (sym word);
    }

-- the word that a load answers
loaded_word : (s : State) → IsReached s → (place : Place) (to : Slot) (word : ℕ) (new : State) → Step s (Make (Load place to)) (Ok word) new → HasWord s place word
loaded_word s r place to word new step =
    subst (HasWord s place) (sym step.1.0) (place_has s r place (none_stands (causes s.core (Make (Load place to))) step.0).1.1.1.0)

pub words_are_loaded : (s : State) → IsReached s → WordsAreLoaded s
words_are_loaded s r place to word new step =
    let frames = ap (λ (c : Core). c.frames) step.1.1 in (
      loaded_word s r place to word new step,
      put s new to word r (none_stands (causes s.core (Make (Load place to))) step.0).1.0 frames,
      step.1.1 ∙ ap (λ fs. record s.core { frames = fs }) (sym frames),
    )

-- a place has one word
one_word : (s : State) (place : Place) (v w : ℕ) → HasWord s place v → HasWord s place w → v ≡ w
one_word s place v w h k =
    let start = same_Some h.start k.start (sym h.pointed ∙ k.pointed) in
    let object = same_Some h.object k.object (sym h.here ∙ ap (get s.objects) start ∙ k.here) in
    let a = h.address in
    let b = k.address in
    let index : h.index ≡ k.index = omega (arith, a, b, start) in
    same_Some v w (sym h.within ∙ ap (λ (o : Object). slice_get o.words h.index) object ∙ ap (slice_get k.object.words) index ∙ k.within)

-- the objects with a word written
wrote : (address value : ℕ) (objects : Map Object) → ChangesOnly address objects (written address value objects)
unfolding written
wrote address value objects = record {
  stays = λ a before here. (
    _,
    filled_here (λ x. x == address) value objects a before here,
    record {
      birth = refl;
      kind = refl;
      size = length-fill (λ x. x == address) value a before.words;
      words = λ k apart. fill_off (λ x. x == address) value a before.words k (ne_eqb (a + k) address apart);
    },
  );
  no_more = λ a stands. let old = filled_back (λ x. x == address) value objects a stands.0 stands.1 in (old.0, old.1);
}

-- has the word that was written
written_word : (s new : State) (place : Place) (old value : ℕ) → HasWord s place old → new.core ≡ record s.core { objects = written (address_of s.frames place) value s.objects } → HasWord new place value
unfolding written
written_word s new place old value h is =
    let address = address_of s.frames place in
    let test : ℕ → Bool = λ x. x == address in
    record {
      start = h.start;
      object = record h.object { words = fill test value h.start h.object.words };
      pointed = ap (λ (c : Core). points c.objects (slot_word c.frames place.slot)) is ∙ points-filled test value s.objects (slot_word s.frames place.slot) ∙ h.pointed;
      here = ap (λ (c : Core). get c.objects h.start) is ∙ filled_here test value s.objects h.start h.object h.here;
      index = h.index;
      address = ap (λ (c : Core). address_of c.frames place) is ∙ h.address;
      within = fill_on test value h.start h.object.words h.index (slice_get_within h.object.words h.index old h.within) (eq-eqb (h.start + h.index) address (sym h.address));
    }

pub words_are_stored : (s : State) → IsReached s → WordsAreStored s
words_are_stored s r = record {
  stores = λ place from answer new step.
      let objects = ap (λ (c : Core). c.objects) step.1 in
      (subst (ChangesOnly (address_of s.frames place) s.objects) (sym objects) (wrote (address_of s.frames place) (slot_word s.frames from) s.objects), step.1 ∙ ap (λ os. record s.core { objects = os }) (sym objects));
  loads = λ place from to answer stored word loaded store load.
      let none = none_stands (causes s.core (Make (Store place from))) store.0 in
      let had = place_has s r place none.1.1.1.0 in
      let has = written_word s stored place _ (slot_word s.frames from) had store.1 in
      one_word stored place word (slot_word s.frames from) (loaded_word stored (r.0, r.1, OneMore (Make (Store place from)) (Ok answer) refl r.2 store) place to word loaded load) has;
}

-- ---- new objects

-- births are below the next one
abbrev BirthsBelow : Core → Type 0
BirthsBelow c = (a : ℕ) (o : Object) → get c.objects a ≡ Some o → o.birth < c.next_birth

effect_births : (c : Core) (e : Event) (new : Core) → IsAllowed c e → BirthsBelow c → Effect c e new → BirthsBelow new
unfolding written
effect_births c e new allowed h (Made slot size p kind here none place) a o at =
    let v = new_object kind c.next_birth size in
    ⊎_elim
    (λ same. let birth = ap (λ (o : Object). o.birth) (same_Some v o (sym (get-insert_same c.objects p v) ∙ ap (get (insert c.objects p v)) (sym same) ∙ at)) in omega (arith, birth))
    (λ other. let old = h a o (sym (get-insert_other c.objects p v a other) ∙ at) in omega (arith, old))
    (cases_eq a p)
effect_births c e new allowed h (Wrote place word here) a o at =
    let old = filled_back (λ x. x == place) word c.objects a o at in
    subst (λ n. n < c.next_birth) (sym (ap (λ (o : Object). o.birth) old.2)) (h a old.0 old.1)
effect_births c e new allowed h (Ended here p) a o at =
    let passes = p.passes in
    let old = left_before c p.found passes.kept a o (ap (λ (c : Core). get c.objects a) (sym passes.is) ∙ at) in
    subst (λ n. o.birth < n) (sym (ap (λ (c : Core). c.next_birth) passes.is)) (subst (λ n. n < c.next_birth) (sym (ap (λ (o : Object). o.birth) old.3)) (h a old.0 old.1))
effect_births c e new allowed h _ a o at = h a o at

births_below : (s : State) → IsReached s → BirthsBelow s.core
births_below = reached_keeps BirthsBelow effect_births (λ blocks frames a o at. absurd (none-some o (sym (get-empty nat_cmp a) ∙ at)))

pub objects_are_made : (s : State) → IsReached s → ObjectsAreMade s
objects_are_made s r slot size kind answer new step =
    let a = step.1.0 in
    let v = new_object kind s.next_birth size in
    let is = step.1.3 in
    let objects = ap (λ (c : Core). c.objects) is in
    let frames = ap (λ (c : Core). c.frames) is in
    let births = ap (λ (c : Core). c.next_birth) is in
    let made : IsMade s slot size kind a s.next_birth new = record {
      object = v;
      here = ap (λ os. get os a) objects ∙ get-insert_same s.objects a v;
      kind_is = refl;
      birth_is = refl;
      size_is = length-replicate {A = ℕ} size 0;
      zero = λ k lt. let n = length-replicate {A = ℕ} size 0 in slice_get-get_or v.words k 0 (omega (arith, lt, n)) ∙ ap Some (get_or-replicate size k 0 0 lt);
      slots = put s new slot a r (none_stands (causes s.core (Make (Alloc slot size kind))) step.0).0 frames;
      counted = (refl, births);
      youngest = births_below s r;
      free = free_place s.objects s.blocks size a kind step.1.1;
      others = λ b other. ap (λ os. get os b) objects ∙ get-insert_other s.objects a v b other;
      rest = is ∙ (λ i. record s.core { objects = sym objects i; frames = sym frames i; next_birth = sym births i });
    } in
    subst (λ (p : ℕ × ℕ). IsMade s slot size kind p.0 p.1 new) (sym step.1.2) made

-- ---- blocks

-- those that start in one block have one kind
abbrev AreKindred : Map Extent → Type 0
AreKindred m = (a b : ℕ) (x y : Extent) → get m a ≡ Some x → get m b ≡ Some y → block_of a ≡ block_of b → x.kind ≡ y.kind

-- those of the block of a new object's place have its kind
place_kindred : (blocks : ℕ) (m : Map Extent) (size p : ℕ) (kind : ObjKind) → 1 ≤ size → AreKindred m → place_in m blocks size kind ≡ Some p → (a : ℕ) (x : Extent) → get m a ≡ Some x → block_of a ≡ block_of p → x.kind ≡ kind
place_kindred blocks m size p kind some h e a x here same = ⊎_elim in_cell in_run (place_cases blocks m size p kind e)
  where
    in_cell : IsCellOf blocks m size p kind → x.kind ≡ kind
    in_cell c =
        let e = any_at (λ (e : ℕ × Extent). (block_of e.0 == c.block) && (e.1.size == size && same_kind e.1.kind kind)) (entries m) c.class in
        let first = and_parts (block_of e.1.0 == c.block) (e.1.1.size == size && same_kind e.1.1.kind kind) e.3 in
        let its_kind = kinds_same e.1.1.kind kind (and_parts (e.1.1.size == size) (same_kind e.1.1.kind kind) first.1).1 in
        let block = own_block c.block c.index size p some c.below c.is in
        h a e.1.0 x e.1.1 here (get_at m e.0 e.1 e.2) (same ∙ block ∙ sym (eqb-true (block_of e.1.0) c.block first.0)) ∙ its_kind

    in_run : BeginsRun blocks m size p → x.kind ≡ kind
    in_run r =
        let both = and_parts (nat_le (r.block + blocks_for size) blocks) (list_all (is_bare m) (range_with_len r.block (blocks_for size))) r.run in
        let is = r.is in
        let block : block_of p ≡ r.block = omega (arith, is) in
        absurd (bare_meets m r.block a x (run_is_bare m size r.block both.1 r.block (omega arith) (omega arith)) here (or_left (block_of a == r.block) (covers (a, x) (block_start r.block)) (eq-eqb (block_of a) r.block (same ∙ block))))

effect_kindred : (c : Core) (e : Event) (new : Core) → IsAllowed c e → AreKindred (extents c.objects) → Effect c e new → AreKindred (extents new.objects)
unfolding written
effect_kindred c e new allowed h (Made slot size p kind here none place) =
    let v = new_object kind c.next_birth size in
    let some = leb-true 1 size (and_parts (nat_le 1 size) (nat_le size 1024) (not-false _ (none allowed).0)).0 in
    subst AreKindred (sym (extents-insert c.objects p v)) (one_more (extents c.objects) p (extent_of v) h (place_kindred c.blocks (extents c.objects) size p kind some h place))
  where
    one_more : (m : Map Extent) (p : ℕ) (new : Extent) → AreKindred m → ((a : ℕ) (x : Extent) → get m a ≡ Some x → block_of a ≡ block_of p → x.kind ≡ new.kind) → AreKindred (insert m p new)
    one_more m p new h own a b x y ha hb same = ⊎_elim (λ is_a. ⊎_elim (both is_a) (first is_a) (cases_eq b p)) (λ old_a. ⊎_elim (second old_a) (neither old_a) (cases_eq b p)) (cases_eq a p)
      where
        new_at : (c : ℕ) (z : Extent) → get (insert m p new) c ≡ Some z → c ≡ p → z ≡ new
        new_at c z hc is = sym (same_Some new z (sym (get-insert_same m p new) ∙ ap (get (insert m p new)) (sym is) ∙ hc))

        old_at : (c : ℕ) (z : Extent) → get (insert m p new) c ≡ Some z → c ≢ p → get m c ≡ Some z
        old_at c z hc other = sym (get-insert_other m p new c other) ∙ hc

        both : a ≡ p → b ≡ p → x.kind ≡ y.kind
        both is_a is_b = ap (λ (z : Extent). z.kind) (new_at a x ha is_a ∙ sym (new_at b y hb is_b))

        first : a ≡ p → b ≢ p → x.kind ≡ y.kind
        first is_a other = ap (λ (z : Extent). z.kind) (new_at a x ha is_a) ∙ sym (own b y (old_at b y hb other) (sym same ∙ ap block_of is_a))

        second : a ≢ p → b ≡ p → x.kind ≡ y.kind
        second other is_b = own a x (old_at a x ha other) (same ∙ ap block_of is_b) ∙ sym (ap (λ (z : Extent). z.kind) (new_at b y hb is_b))

        neither : a ≢ p → b ≢ p → x.kind ≡ y.kind
        neither other_a other_b = h a b x y (old_at a x ha other_a) (old_at b y hb other_b) same
effect_kindred c e new allowed h (Wrote place word here) = subst AreKindred (sym (extents-filled (λ x. x == place) word c.objects)) h
effect_kindred c e new allowed h (Ended here p) =
    let left : (a : ℕ) (x : Extent) → get (extents new.objects) a ≡ Some x → get (extents c.objects) a ≡ Some x =
    λ a x at. left_extent c p.found p.passes.kept a x (ap (λ (n : Core). get (extents n.objects) a) (sym p.passes.is) ∙ at) in
    λ a b x y ha hb. h a b x y (left a x ha) (left b y hb)
effect_kindred c e new allowed h _ = h

reached_kindred : (s : State) → IsReached s → AreKindred (extents s.objects)
reached_kindred = reached_keeps (λ c. AreKindred (extents c.objects)) effect_kindred (λ blocks frames a b x y ha hb same. let o = extent_back (opening blocks frames).objects a x ha in absurd (none-some o.0 (sym (get-empty nat_cmp a) ∙ o.1)))

-- extents with words in one block are alike, and one that is larger than a block is alone in it
share : (blocks : ℕ) (m : Map Extent) → AreLaid blocks m → AreKindred m → (block a b v w : ℕ) (x y : Extent) → get m a ≡ Some x → get m b ≡ Some y → a ≤ v → v < a + x.size → b ≤ w → w < b + y.size → IsInBlock block v → IsInBlock block w → (x ≡ y) × (64 < x.size → a ≡ b)
share blocks m h kindred block a b v w x y ha hb from_a to_a from_b to_b in_v in_w =
    ⊎_elim
    (λ (before_a : block_of a < block). ⊎_elim
    (λ (before_b : block_of b < block).
    let same = laid_apart blocks m h a b (block_start block) x y ha hb (first a v x before_a low_a to_a in_v) (first b w y before_b low_b to_b in_w) in
    (same_Some x y (sym ha ∙ ap (get m) same ∙ hb), λ large. same))
    (λ at_b. let own : block_of b ≡ block = omega (arith, at_b, low_b, from_b, in_w.1) in
    let same = h.clear a b x y ha hb (subst (λ q. covers (a, x) (block_start q) ≡ true) (sym own) (first a v x before_a low_a to_a in_v)) in
    absurd (omega (arith, same, own, before_a)))
    (cases_lt (block_of b) block))
    (λ at_a. let own_a : block_of a ≡ block = omega (arith, at_a, low_a, from_a, in_v.1) in ⊎_elim
    (λ (before_b : block_of b < block).
    let same = h.clear b a y x hb ha (subst (λ q. covers (b, y) (block_start q) ≡ true) (sym own_a) (first b w y before_b low_b to_b in_w)) in
    absurd (omega (arith, same, own_a, before_b)))
    (λ at_b. let own_b : block_of b ≡ block = omega (arith, at_b, low_b, from_b, in_w.1) in
    let size = h.alike a b x y ha hb (own_a ∙ sym own_b) in
    let kind = kindred a b x y ha hb (own_a ∙ sym own_b) in
    (λ n. record { size = size n; kind = kind n }, λ large. starts a x ha large ∙ ap block_start (own_a ∙ sym own_b) ∙ sym (starts b y hb (subst (λ n. 64 < n) size large))))
    (cases_lt (block_of b) block))
    (cases_lt (block_of a) block)
  where
    low_a : HEAP_START ≤ a
    low_a = (h.within a x ha).0

    low_b : HEAP_START ≤ b
    low_b = (h.within b y hb).0

    first : (c u : ℕ) (z : Extent) → block_of c < block → HEAP_START ≤ c → u < c + z.size → IsInBlock block u → covers (c, z) (block_start block) ≡ true
    first c u z before low to inside = let from = inside.0 in to_covers c (block_start block) z (omega (arith, before, low)) (omega (arith, from, to))

    -- a large extent starts at its block's start
    starts : (c : ℕ) (z : Extent) → get m c ≡ Some z → 64 < z.size → c ≡ block_start (block_of c)
    starts c z here large =
        let cell = h.cell c z here in
        ⊎_elim (λ none. cell.1 ∙ ap (λ i. block_start (block_of c) + i * z.size) none ∙ omega arith) (λ short. absurd (omega (arith, short, large))) cell.2

pub blocks_are_shared : (s : State) → IsReached s → BlocksAreShared s
blocks_are_shared s r block a b i j o p ha hb in_o in_p at_i at_j =
    let both = share s.blocks (extents s.objects) (reached_laid s r) (reached_kindred s r) block a b (a + i) (b + j) (extent_of o) (extent_of p) (get_extent s.objects a o ha) (get_extent s.objects b p hb) (omega arith) (omega (arith, in_o)) (omega arith) (omega (arith, in_p)) at_i at_j in
    (ap (λ (x : Extent). x.size) both.0, ap (λ (x : Extent). x.kind) both.0, both.1)

all_of_range : (test : ℕ → Bool) (a n : ℕ) → ((x : ℕ) → a ≤ x → x < a + n → test x ≡ true) → list_all test (range_with_len a n) ≡ true
all_of_range test a zero h = refl
all_of_range test a (suc n) h =
    and_from (test a) (list_all test (range_with_len (a + 1) n)) (h a (omega arith) (omega arith)) (all_of_range test (a + 1) n (λ x low high. h x (omega (arith, low)) (omega (arith, high))))

-- an empty block is bare
empty_is_bare : (s : State) → IsReached s → (block count q : ℕ) → AreEmpty s block count → block ≤ q → q < block + count → is_bare (extents s.objects) q ≡ true
empty_is_bare s r block count q empty from to = ⊎_elim (λ on. absurd (met (any_at (meets q) (entries (extents s.objects)) on))) (λ off. ap not off) (cases_Bool (list_any (meets q) (entries (extents s.objects))))
  where
    apart : (a : ℕ) (x : Extent) → get (extents s.objects) a ≡ Some x → (block_of a ≡ q) ⊎ (covers (a, x) (block_start q) ≡ true) → ⊥
    apart a x here meets =
        let o = extent_back s.objects a x here in
        let size = ap (λ (x : Extent). x.size) o.2 in
        let within = (reached_laid s r).within a x here in
        let low = within.0 in
        let some = within.1 in
        ⊎_elim
        (λ starts. ⊎_elim (λ before. omega (arith, starts, before, size, low, some, from)) (λ after. omega (arith, starts, after, to)) (empty a o.0 o.1))
        (λ on.
        let range = from_covers a (block_start q) x on in
        let first = range.0 in
        let last = range.1 in
        ⊎_elim (λ before. omega (arith, before, size, first, last, from)) (λ after. omega (arith, after, first, to)) (empty a o.0 o.1))
        meets

    met : (i : ℕ) × (e : ℕ × Extent) × (slice_get (entries (extents s.objects)) i ≡ Some e) × (meets q e ≡ true) → ⊥
    met at =
        let e = at.1 in
        apart e.0 e.1 (get_at (extents s.objects) at.0 e at.2) (⊎_elim (λ starts. inl (eqb-true (block_of e.0) q starts)) inr (or_cases (block_of e.0 == q) (covers e (block_start q)) at.3))

-- so many empty blocks have a place
room_there : (s : State) → IsReached s → (block count size : ℕ) (kind : ObjKind) → block + count ≤ s.blocks → 1 ≤ size → size ≤ 64 * count → AreEmpty s block count → is_none (place_in (extents s.objects) s.blocks size kind) ≡ false
room_there s r block count size kind inside some fits empty =
    let m = extents s.objects in
    let k = blocks_for size in
    let few : k ≤ count = omega (arith, some, fits) in
    let bare = all_of_range (is_bare m) block k (λ q from to. empty_is_bare s r block count q empty from (omega (arith, to, few))) in
    let run : has_run m s.blocks k block ≡ true = and_from (nat_le (block + k) s.blocks) _ (le-leb (block + k) s.blocks (omega (arith, few, inside))) bare in
    let below : block < s.blocks = omega (arith, few, inside) in
    let n = length-range_with_len 0 s.blocks in
    let at : slice_get (range_with_len 0 s.blocks) block ≡ Some block = slice_get-get_or (range_with_len 0 s.blocks) block 0 (omega (arith, below, n)) ∙ ap Some (get_or-range_with_len 0 s.blocks block 0 below ∙ zero-add block) in
    let found = found_some (has_run m s.blocks k) (range_with_len 0 s.blocks) block block at run in
    run_there (find (is_free m) (flat_map (cells size) (filter (has_class m size kind) (range_with_len 0 s.blocks)))) (find (has_run m s.blocks k) (range_with_len 0 s.blocks)) found.0 found.1
  where
    some_or : (o : Option ℕ) (y : ℕ) → is_none (option_or o (Some y)) ≡ false
    some_or None y = refl
    some_or (Some x) y = refl

    run_there : (o f : Option ℕ) (y : ℕ) → f ≡ Some y → is_none (option_or o (option_map block_start f)) ≡ false
    run_there o f y is = ap (λ g. is_none (option_or o (option_map block_start g))) is ∙ some_or o (block_start y)

abbrev refusal_of : Result (ℕ × ℕ) Refusal → Refusal
refusal_of (Ok answer) = BadSlot
refusal_of (Err r) = r

-- the last of these causes was told
last_told : (a b c d : Bool) → first_cause ((a, BadSlot) ∷ (b, BadSize) ∷ (c, Exhausted) ∷ (d, NoSpace) ∷ []) ≡ Some NoSpace → (b ≡ false) × (d ≡ true)
last_told true b c d told = absurd (omega (arith, ap code_of (same_Some BadSlot NoSpace told)))
last_told false true c d told = absurd (omega (arith, ap code_of (same_Some BadSize NoSpace told)))
last_told false false true d told = absurd (omega (arith, ap code_of (same_Some Exhausted NoSpace told)))
last_told false false false true told = (refl, refl)
last_told false false false false told = absurd (none-some NoSpace told)

pub empty_blocks_are_room : (s : State) → IsReached s → EmptyBlocksAreRoom s
empty_blocks_are_room s r block count size kind slot (Ok answer) new inside fits empty step is =
    let same : BadSlot ≡ NoSpace = ap refusal_of is in
    omega (arith, ap code_of same)
empty_blocks_are_room s r block count size kind slot (Err q) new inside fits empty step is =
    let no_space : q ≡ NoSpace = ap refusal_of is in
    ⊎_elim
    (λ first.
    let told = last_told _ _ _ _ (first ∙ ap Some no_space) in
    let some = leb-true 1 size (and_parts (nat_le 1 size) (nat_le size 1024) (not-false _ told.0)).0 in
    both_ways _ (room_there s r block count size kind inside some fits empty) told.1)
    (λ lacks. let same : NoSpace ≡ NoMemory = sym no_space ∙ lacks.1 in omega (arith, ap code_of same))
    step.0
