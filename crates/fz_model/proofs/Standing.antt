-- What every step of a world keeps of its heap, its links and its frames: objects lie in the heap, each link leads to an object and lies in one, and
-- each frame has its slots.
use Rattle.std.proofs.Common.{suc, ◌≡◌, ◌≢◌, ℕ, ◌+◌, ◌*◌, ◌<◌, ◌≤◌, ◌==◌, ◌&&◌, Bool, true, false, if◌then◌else◌, List, [], ◌∷◌, length, Option, Some, None, option_map, refl, sym, ap, ◌∙◌, subst, ⊎_elim, arith, slice_get, get_or, set, length-set, All, flat_map, filter, nat_le, nat_lt, replicate, true≢false}
use Rattle.std.proofs.lemmas.Bool.{cases_eq, not-false, cond-true, and_parts, and_from}
use Rattle.std.proofs.lemmas.Option.{same_Some, none-some}
use Rattle.std.proofs.lemmas.List.{get_or-set_same, get_or-set_other}
use Rattle.std.proofs.lemmas.List.Elements.{All-replicate}
use Rattle.std.specs.List.{find, range_with_len}
use Rattle.std.specs.Option.{option_or, option_map_or}
use Rattle.std.specs.FinMap.{get, insert, remove, contains_key, get-empty}
use Rattle.std.specs.Ordering.{nat_cmp}
use Rattle.fz_model.specs.declared.extent.Extent.{Extent}
use Rattle.fz_model.specs.declared.kinds.ObjKind.{ObjKind}
use Rattle.fz_model.specs.declared.answers.Passed.{Passed}
use Rattle.fz_model.specs.declared.limits.TheConstants.{HEAP_START}
use Rattle.fz_model.specs.State.{Map, Object, Core, State, opening}
use Rattle.fz_model.specs.Extents.{covers, extents, extent_of, points_in}
use Rattle.fz_model.specs.Memory.{new_object, points, fill, filled, written, with_slot}
use Rattle.fz_model.specs.Allocation.{place_in, is_free, cells, has_class, has_run, blocks_for, block_start}
use Rattle.fz_model.specs.Pass.{is_dead, cleared, links_within, remaining_objects, FoundItself, Passes}
use Rattle.fz_model.specs.Causes.{other_extent}
use Rattle.fz_model.specs.declared.places.Slot.{Slot}
use Rattle.fz_model.specs.Events.{Event}
use Rattle.fz_model.specs.Steps.{IsReached, moved_to}
use Rattle.fz_model.specs.CallLaws.{Stands, LinksStand}
use Rattle.fz_model.proofs.Lists.{slice_get-cases, find_place, found_some, map_at}
use Rattle.fz_model.proofs.MapEntries.{place_of_key}
use Rattle.fz_model.proofs.Maps.{get-insert_same, get-insert_other, get-retain, retained_back, filled_here, filled_back, length-fill, get-extents, free_place}
use Rattle.fz_model.proofs.Objects.{points_target, from_covers}
use Rattle.fz_model.proofs.Sound.{is_some_of, removed_back}
use Rattle.fz_model.proofs.Effects.{IsAllowed, Relinks, More, Fewer, Moved, Effect, Made, Wrote, Put, Shorts, Longs, Ended, reached_keeps}

-- ---- what lies where

-- the word at the place lies in an object
abbrev pub Lies : Map Object → ℕ → Type 0
Lies objects place = (a : ℕ) × (o : Object) × (get objects a ≡ Some o) × (covers (a, extent_of o) place ≡ true)

abbrev pub LinksLie : Map Object → Map ℕ → Type 0
LinksLie objects links = (place target : ℕ) → get links place ≡ Some target → Stands objects target × Lies objects place

-- each object is there still, in its size
abbrev pub KeepsSizes : Map Object → Map Object → Type 0
KeepsSizes objects more = (a : ℕ) (o : Object) → get objects a ≡ Some o → (p : Object) × (get more a ≡ Some p) × (length p.words ≡ length o.words)

pub record Standing (c : Core) : Type 0 where
  pub low : (a : ℕ) (o : Object) → get c.objects a ≡ Some o → HEAP_START ≤ a
  pub short : LinksLie c.objects c.short
  pub long : LinksLie c.objects c.long
  pub whole : All (λ (f : List ℕ). length f ≡ 16) c.frames

pub get_extent : (objects : Map Object) (a : ℕ) (o : Object) → get objects a ≡ Some o → get (extents objects) a ≡ Some (extent_of o)
get_extent objects a o here = get-extents objects a ∙ ap (option_map extent_of) here

pub extent_back : (objects : Map Object) (a : ℕ) (x : Extent) → get (extents objects) a ≡ Some x → (o : Object) × (get objects a ≡ Some o) × (extent_of o ≡ x)
extent_back objects a x e = back (get objects a) refl (sym (get-extents objects a) ∙ e)
  where
    back : (g : Option Object) → get objects a ≡ g → option_map extent_of g ≡ Some x → (o : Object) × (get objects a ≡ Some o) × (extent_of o ≡ x)
    back None is e = absurd (none-some x e)
    back (Some o) is e = (o, is, same_Some _ _ e)

-- what a word points to is an object that has it
pub pointed_at : (objects : Map Object) (word a : ℕ) → points objects word ≡ Some a → (o : Object) × (get objects a ≡ Some o) × (covers (a, extent_of o) word ≡ true)
pointed_at objects word a e =
    let x = points_target (extents objects) word a e in
    let o = extent_back objects a x.0 x.1 in
    (o.0, o.1, subst (λ y. covers (a, y) word ≡ true) (sym o.2) x.2)

pub lies_at : (objects : Map Object) (word a : ℕ) → points objects word ≡ Some a → Lies objects word
lies_at objects word a e = let o = pointed_at objects word a e in (a, o.0, o.1, o.2)

-- and a word that lies in an object points to one
pub points_some : (objects : Map Object) (word : ℕ) → Lies objects word → (a : ℕ) × (points objects word ≡ Some a)
points_some objects word l =
    let at = place_of_key (extents objects) l.0 (extent_of l.1) (get_extent objects l.0 l.1 l.2) in
    let found = found_some (λ e. covers e word) _ at.0 (l.0, extent_of l.1) at.1 l.3 in
    (found.0.0, ap (option_map (λ (e : ℕ × Extent). e.0)) found.1)

still_lies : (objects more : Map Object) (place : ℕ) → KeepsSizes objects more → Lies objects place → Lies more place
still_lies objects more place keeps l =
    let p = keeps l.0 l.1 l.2 in
    (l.0, p.0, p.1, subst (λ n. (nat_le l.0 place && nat_lt place (l.0 + n)) ≡ true) (sym p.2) l.3)

links_kept : (objects more : Map Object) (links : Map ℕ) → KeepsSizes objects more → LinksLie objects links → LinksLie more links
links_kept objects more links keeps h place target here =
    let l = h place target here in
    let p = keeps target l.0.0 l.0.1 in
    ((p.0, p.1), still_lies objects more place keeps l.1)

-- ---- links that come and go

link_more : (objects : Map Object) (links : Map ℕ) (place target : ℕ) → LinksLie objects links → Stands objects target → Lies objects place → LinksLie objects (insert links place target)
link_more objects links place target h stands lies p t here =
    ⊎_elim
    (λ same.
    let is : target ≡ t = same_Some target t (sym (get-insert_same links place target) ∙ ap (get (insert links place target)) (sym same) ∙ here) in
    (subst (Stands objects) is stands, subst (Lies objects) (sym same) lies))
    (λ other. h p t (sym (get-insert_other links place target p other) ∙ here))
    (cases_eq p place)

link_fewer : (objects : Map Object) (links : Map ℕ) (place : ℕ) → LinksLie objects links → LinksLie objects (remove links place)
link_fewer objects links place h p t here = h p t (removed_back links place p t here).1

link_moved : (objects : Map Object) (links : Map ℕ) (old place : ℕ) → LinksLie objects links → Lies objects place → LinksLie objects (moved_to links old place (get links old))
link_moved objects links old place h lies = at (get links old) refl
  where
    at : (o : Option ℕ) → get links old ≡ o → LinksLie objects (moved_to links old place o)
    at None is = h
    at (Some target) is =
        elim (contains_key links place) as (λ b. LinksLie objects (if b then links else insert (remove links old) place target)) [
          | true ↦ h
          | false ↦ link_more objects (remove links old) place target (link_fewer objects links old h) (h old target is).0 lies
        ]

-- the place of an accepted call lies in the object to which its word points
pub place_pointed : (objects : Map Object) (word address : ℕ) → (other_extent (extents objects) word address).0 ≡ false → (a : ℕ) × (o : Object) × (points objects word ≡ Some a) × (get objects a ≡ Some o) × (covers (a, extent_of o) address ≡ true)
place_pointed objects word address none = start (points_in (extents objects) word) refl (not-false _ none)
  where
    within : (a : ℕ) → points objects word ≡ Some a → (x : Option Extent) → get (extents objects) a ≡ x → option_map_or (λ (x : Extent). covers (a, x) address) x false ≡ true → (a : ℕ) × (o : Object) × (points objects word ≡ Some a) × (get objects a ≡ Some o) × (covers (a, extent_of o) address ≡ true)
    within a pointed None is e = absurd (true≢false (sym e))
    within a pointed (Some x) is e = let o = extent_back objects a x is in (a, o.0, pointed, o.1, subst (λ y. covers (a, y) address ≡ true) (sym o.2) e)

    start : (p : Option ℕ) → points objects word ≡ p → option_map_or (λ a. option_map_or (λ (x : Extent). covers (a, x) address) (get (extents objects) a) false) p false ≡ true → (a : ℕ) × (o : Object) × (points objects word ≡ Some a) × (get objects a ≡ Some o) × (covers (a, extent_of o) address ≡ true)
    start None is e = absurd (true≢false (sym e))
    start (Some a) is e = within a is (get (extents objects) a) refl e

place_lies : (objects : Map Object) (word offset : ℕ) → (other_extent (extents objects) word (word + offset)).0 ≡ false → Lies objects (word + offset)
place_lies objects word offset none = let p = place_pointed objects word (word + offset) none in (p.0, p.1, p.3, p.4)

-- ---- frames

pub whole_with : (frames : List (List ℕ)) (slot : Slot) (word : ℕ) → All (λ (f : List ℕ). length f ≡ 16) frames → All (λ (f : List ℕ). length f ≡ 16) (with_slot frames slot word)
whole_with frames slot word h i d lt =
    let frame = slot.frame in
    let old = get_or frames frame [] in
    let row = set old slot.slot word in
    let n = length-set frames frame row in
    ⊎_elim
    (λ (same : i ≡ frame).
    let there : frame < length frames = omega (arith, lt, n, same) in
    ap (λ j. length (get_or (set frames frame row) j d)) same ∙ ap length (get_or-set_same frames frame row d there) ∙ length-set old slot.slot word ∙ h frame [] there)
    (λ (ne : i ≢ frame). ap length (get_or-set_other frames frame i row d ne) ∙ h i d (omega (arith, lt, n)))
    (cases_eq i frame)

-- ---- places for new objects lie in the heap

pub flat_at : {X Y : Type 0} (f : X → List Y) (xs : List X) (i : ℕ) (y : Y) → slice_get (flat_map f xs) i ≡ Some y → (x : X) × (k : ℕ) × (slice_get (f x) k ≡ Some y) × (j : ℕ) × (slice_get xs j ≡ Some x)
flat_at f [] i y e = absurd (none-some y e)
flat_at f (x ∷ xs) i y e = ⊎_elim (λ l. (x, i, l, 0, refl)) (λ r. let rest = flat_at f xs r.0 y r.2 in (rest.0, rest.1, rest.2, suc rest.3, rest.4)) (slice_get-cases (f x) (flat_map f xs) i y e)

place_low : (extents : Map Extent) (blocks size a : ℕ) (kind : ObjKind) → place_in extents blocks size kind ≡ Some a → HEAP_START ≤ a
place_low extents blocks size a kind e = cases _ refl e
  where
    run_low : (o : Option ℕ) → option_map block_start o ≡ Some a → HEAP_START ≤ a
    run_low None e = absurd (none-some a e)
    run_low (Some b) e = subst (λ x. HEAP_START ≤ x) (same_Some (block_start b) a e) (omega arith)

    cases : (o : Option ℕ) → find (is_free extents) (flat_map (cells size) (filter (has_class extents size kind) (range_with_len 0 blocks))) ≡ o → option_or o (option_map block_start (find (has_run extents blocks (blocks_for size)) (range_with_len 0 blocks))) ≡ Some a → HEAP_START ≤ a
    cases None is e = run_low _ e
    cases (Some b) is e =
        let at = find_place (is_free extents) _ b is in
        let cell = flat_at (cells size) _ at.0 b at.1 in
        let index = map_at (λ i. block_start cell.0 + i * size) _ cell.1 b cell.2 in
        let low : HEAP_START ≤ block_start cell.0 + index.0 * size = omega arith in
        subst (λ x. HEAP_START ≤ x) (index.2 ∙ same_Some b a e) low

-- ---- other objects

inserted_keeps : (objects : Map Object) (a : ℕ) (v : Object) → get objects a ≡ None → KeepsSizes objects (insert objects a v)
inserted_keeps objects a v free x o e =
    let ne : x ≢ a = λ same. none-some o (sym free ∙ ap (get objects) (sym same) ∙ e) in
    (o, get-insert_other objects a v x ne ∙ e, refl)

filled_keeps : (test : ℕ → Bool) (value : ℕ) (objects : Map Object) → KeepsSizes objects (filled test value objects)
filled_keeps test value objects x o e = (_, filled_here test value objects x o e, length-fill test value x o.words)

inserted_low : (objects : Map Object) (a : ℕ) (v : Object) → HEAP_START ≤ a → ((x : ℕ) (o : Object) → get objects x ≡ Some o → HEAP_START ≤ x) → (x : ℕ) (o : Object) → get (insert objects a v) x ≡ Some o → HEAP_START ≤ x
inserted_low objects a v here h x o e =
    ⊎_elim (λ same. subst (λ y. HEAP_START ≤ y) (sym same) here) (λ ne. h x o (sym (get-insert_other objects a v x ne) ∙ e)) (cases_eq x a)

-- zero points to nothing
pub zero_points_nowhere : (c : Core) → Standing c → (a : ℕ) → points c.objects 0 ≡ Some a → ⊥
zero_points_nowhere c h a e =
    let o = pointed_at c.objects 0 a e in
    let low = h.low a o.0 o.1 in
    let under = (from_covers a 0 (extent_of o.0) o.2).0 in
    absurd (omega (arith, low, under))

-- ---- a pass

-- the objects that a pass leaves, and their words
module _ (c : Core) (found kept : ℕ → Bool) where
  abbrev pub once : Map Object
  once = cleared c.short found c.objects

  abbrev pub left : Map Object
  left = remaining_objects c.objects c.short c.long found kept

  -- an object with its words after a pass
  abbrev pub passed_over : ℕ → Object → Object
  passed_over a o = record o { words = fill (is_dead once c.long kept) 0 a (fill (is_dead c.objects c.short found) 0 a o.words) }

  pub left_here : (a : ℕ) (o : Object) → get c.objects a ≡ Some o → kept a ≡ true → get left a ≡ Some (passed_over a o)
  left_here a o here on =
      get-retain (cleared c.long kept once) kept a ∙ cond-true (kept a) _ None on
      ∙ filled_here (is_dead once c.long kept) 0 once a _ (filled_here (is_dead c.objects c.short found) 0 c.objects a o here)

  pub left_before : (a : ℕ) (q : Object) → get left a ≡ Some q → (o : Object) × (get c.objects a ≡ Some o) × (kept a ≡ true) × (q ≡ passed_over a o)
  left_before a q e =
      let r = retained_back (cleared c.long kept once) kept a q e in
      let second = filled_back (is_dead once c.long kept) 0 once a q r.1 in
      let first = filled_back (is_dead c.objects c.short found) 0 c.objects a second.0 second.1 in
      (first.0, first.1, r.0, second.2 ∙ ap (λ (o : Object). record o { words = fill (is_dead once c.long kept) 0 a o.words }) first.2)

  pub passed_size : (a : ℕ) (o : Object) → length (passed_over a o).words ≡ length o.words
  passed_size a o = length-fill (is_dead once c.long kept) 0 a _ ∙ length-fill (is_dead c.objects c.short found) 0 a o.words

  -- the link of a table that a pass leaves
  pub within_back : (links : Map ℕ) (targets : ℕ → Bool) (place target : ℕ) → get (links_within c.objects links targets kept) place ≡ Some target → (get links place ≡ Some target) × (targets target ≡ true) × ((a : ℕ) × (points c.objects place ≡ Some a) × (kept a ≡ true))
  within_back links targets place target e =
      let r = retained_back links (λ link. option_map_or targets (get links link) false && option_map_or kept (points c.objects link) false) place target e in
      let both = and_parts (option_map_or targets (get links place) false) (option_map_or kept (points c.objects place) false) r.0 in
      (r.1, subst (λ t. option_map_or targets t false ≡ true) r.1 both.0, around (points c.objects place) refl both.1)
    where
      around : (o : Option ℕ) → points c.objects place ≡ o → option_map_or kept o false ≡ true → (a : ℕ) × (points c.objects place ≡ Some a) × (kept a ≡ true)
      around None is on = absurd (true≢false (sym on))
      around (Some a) is on = (a, is, on)

  pub within_here : (links : Map ℕ) (targets : ℕ → Bool) (place target a : ℕ) → get links place ≡ Some target → targets target ≡ true → points c.objects place ≡ Some a → kept a ≡ true → get (links_within c.objects links targets kept) place ≡ Some target
  within_here links targets place target a here on around kept_on =
      let test : ℕ → Bool = λ link. option_map_or targets (get links link) false && option_map_or kept (points c.objects link) false in
      let both : test place ≡ true = and_from _ _ (ap (λ t. option_map_or targets t false) here ∙ on) (ap (λ o. option_map_or kept o false) around ∙ kept_on) in
      get-retain links test place ∙ cond-true (test place) _ None both ∙ here

  links_left : Standing c → (links : Map ℕ) (targets : ℕ → Bool) → ((a : ℕ) → targets a ≡ true → kept a ≡ true) → LinksLie c.objects links → LinksLie left (links_within c.objects links targets kept)
  links_left s links targets more h place target e =
      let r = within_back links targets place target e in
      let stood = (h place target r.0).0 in
      let o = pointed_at c.objects place r.2.0 r.2.1 in (
        (passed_over target stood.0, left_here target stood.0 stood.1 (more target r.1)),
        (r.2.0, passed_over r.2.0 o.0, left_here r.2.0 o.0 o.1 r.2.2, subst (λ n. (nat_le r.2.0 place && nat_lt place (r.2.0 + n)) ≡ true) (sym (passed_size r.2.0 o.0)) o.2),
      )

pass_standing : (c : Core) (found : ℕ → Bool) (passed : Passed) (new : Core) → Standing c → Passes c found passed new → Standing new
pass_standing c found passed new h p =
    subst Standing (sym p.is)
    (record {
      low = λ a o e. let b = left_before c found p.kept a o e in h.low a b.0 b.1;
      short = links_left c found p.kept h c.short found (λ a f. (p.kept_is a).1 (FoundItself f)) h.short;
      long = links_left c found p.kept h c.long p.kept (λ a k. k) h.long;
      whole = h.whole;
    })

-- ---- each call

relinked_lie : (c : Core) (e : Event) (old links : Map ℕ) → IsAllowed c e → LinksLie c.objects old → Relinks c e old links → LinksLie c.objects links
relinked_lie c e old links allowed h (More word offset target none) =
    let parts = none allowed in
    link_more c.objects old (word + offset) target h (is_some_of (get c.objects target) parts.1.1.1.0) (place_lies c.objects word offset parts.1.0)
relinked_lie c e old links allowed h (Fewer place) = link_fewer c.objects old place h
relinked_lie c e old links allowed h (Moved from word offset none) = link_moved c.objects old from (word + offset) h (place_lies c.objects word offset (none allowed).1.0)

effect_standing : (c : Core) (e : Event) (new : Core) → IsAllowed c e → Standing c → Effect c e new → Standing new
unfolding written
effect_standing c e new allowed h (Made slot size a kind here none place) =
    let v = new_object kind c.next_birth size in
    let keeps = inserted_keeps c.objects a v (free_place c.objects c.blocks size a kind place) in
    record {
      low = inserted_low c.objects a v (place_low (extents c.objects) c.blocks size a kind place) h.low;
      short = links_kept c.objects _ c.short keeps h.short;
      long = links_kept c.objects _ c.long keeps h.long;
      whole = whole_with c.frames slot a h.whole;
    }
effect_standing c e new allowed h (Wrote place word here) =
    let test = λ (x : ℕ). x == place in
    let keeps = filled_keeps test word c.objects in
    record {
      low = λ x o at. let b = filled_back test word c.objects x o at in h.low x b.0 b.1;
      short = links_kept c.objects _ c.short keeps h.short;
      long = links_kept c.objects _ c.long keeps h.long;
      whole = h.whole;
    }
effect_standing c e new allowed h (Put slot word) = record { low = h.low; short = h.short; long = h.long; whole = whole_with c.frames slot word h.whole }
effect_standing c e new allowed h (Shorts {links = links} r) = record { low = h.low; short = relinked_lie c e c.short links allowed h.short r; long = h.long; whole = h.whole }
effect_standing c e new allowed h (Longs {links = links} r) = record { low = h.low; short = h.short; long = relinked_lie c e c.long links allowed h.long r; whole = h.whole }
effect_standing c e new allowed h (Ended here p) = pass_standing c p.found p.passed new h p.passes
effect_standing c e new allowed h _ = record { low = h.low; short = h.short; long = h.long; whole = h.whole }

opening_standing : (blocks frames : ℕ) → Standing (opening blocks frames).core
opening_standing blocks frames = record {
  low = λ a o e. absurd (none-some o (sym (get-empty nat_cmp a) ∙ e));
  short = λ a t e. absurd (none-some t (sym (get-empty nat_cmp a) ∙ e));
  long = λ a t e. absurd (none-some t (sym (get-empty nat_cmp a) ∙ e));
  whole = All-replicate (λ (f : List ℕ). length f ≡ 16) frames (replicate 16 0) refl;
}

pub reached_standing : (s : State) → IsReached s → Standing s.core
reached_standing = reached_keeps Standing effect_standing opening_standing

-- ---- what follows

pub links_stand : (objects : Map Object) (links : Map ℕ) → LinksLie objects links → LinksStand objects links
links_stand objects links h place target e = let l = h place target e in (l.0, points_some objects place l.1)
