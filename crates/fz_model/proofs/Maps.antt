-- Maps by address, and the words of objects.
use Rattle.std.proofs.Common.{T, is_lt, nat_le, ◌&&◌, Bool, ◌≡◌, ◌≢◌, ℕ, ◌+◌, ◌-◌, ◌/◌, ◌<◌, ◌==◌, true, false, cond, ◌||◌, List, [], ◌∷◌, map, length, Option, Some, None, is_some, option_map, refl, sym, ap, ◌∙◌, subst, arith, slice_get, slice_index, filter, flat_map, nat_cmp, Equal, suc, zero, true≢false, add-zero}
use Rattle.std.proofs.lemmas.Bool.{eq-eqb, both_ways, cond-true, cond-false, not-true, and_parts}
use Rattle.std.proofs.lemmas.Option.{same_Some, none-some}
use Rattle.std.proofs.lemmas.List.{map-id}
use Rattle.std.specs.FinMap as finmap
use Rattle.std.specs.FinMap.Entries.{below_all}
use Rattle.std.specs.FinMap.{same_map, nat_cmp-IsAntisymmetric, same_entries_map, is_sorted, entries_sorted, entries-from_sorted, get-from_sorted, get, insert, remove, retain_keys, entries, get-entries, get-retain_keys, get-insert, get-remove}
use Rattle.std.specs.Cmp.{nat_cmp_total, ranked}
use Rattle.std.specs.Ordering.{eq_by_cmp}
use Rattle.std.specs.List.{find, list_all, range_with_len}
use Rattle.std.specs.Option.{option_or}
use Rattle.fz_model.specs.State.{Map, Object}
use Rattle.fz_model.specs.declared.extent.Extent.{Extent}
use Rattle.fz_model.specs.Extents.{mapped, covers, extents, extent_of}
use Rattle.fz_model.specs.Memory.{fill, filled}
use Rattle.fz_model.specs.Allocation.{place_in, place_for, is_free, is_bare, meets, has_run, blocks_for, block_of, block_start, cells, has_class}
use Rattle.fz_model.specs.declared.kinds.ObjKind.{ObjKind}
use Rattle.fz_model.proofs.Lists.{find_place}
use Rattle.fz_model.proofs.MapEntries.{same_key, other_key, own_key, place_of_key}
use Rattle.std.proofs.lemmas.Map.Keys.{any_passes_from_place}

module _ {X : Type 0} where
  pub get-insert_same : (m : Map X) (k : ℕ) (v : X) → get (insert m k v) k ≡ Some v
  get-insert_same m k v = get-insert nat_cmp_total m k v k ∙ ap (λ b. cond b (Some v) (get m k)) (own_key k)

  pub get-insert_other : (m : Map X) (k : ℕ) (v : X) (q : ℕ) → q ≢ k → get (insert m k v) q ≡ get m q
  get-insert_other m k v q ne = get-insert nat_cmp_total m k v q ∙ ap (λ b. cond b (Some v) (get m q)) (other_key q k ne)

  pub get-remove_same : (m : Map X) (k : ℕ) → get (remove m k) k ≡ None
  get-remove_same m k = get-remove nat_cmp_total m k k ∙ ap (λ b. cond b None (get m k)) (own_key k)

  pub get-remove_other : (m : Map X) (k q : ℕ) → q ≢ k → get (remove m k) q ≡ get m q
  get-remove_other m k q ne = get-remove nat_cmp_total m k q ∙ ap (λ b. cond b None (get m q)) (other_key q k ne)

  pub get-retain : (m : Map X) (p : ℕ → Bool) (q : ℕ) → get (retain_keys m p) q ≡ cond (p q) (get m q) None
  get-retain m p q = get-retain_keys m p q (λ x t. ap p (sym (ranked q x Equal (sym t))))

  pub retained_back : (m : Map X) (p : ℕ → Bool) (q : ℕ) (v : X) → get (retain_keys m p) q ≡ Some v → (p q ≡ true) × (get m q ≡ Some v)
  retained_back m p q v e =
      elim (p q) as (λ b. cond b (get m q) None ≡ Some v → (b ≡ true) × (get m q ≡ Some v)) [
        | true ↦ λ e. (refl, e)
        | false ↦ λ e. absurd (none-some v e)
      ] (sym (get-retain m p q) ∙ e)

module _ {X Y : Type 0} where
  find-map : (f : ℕ → X → Y) (q : ℕ) (es : List (ℕ × X)) → finmap.find nat_cmp q (map (λ e. (e.0, f e.0 e.1)) es) ≡ option_map (f q) (finmap.find nat_cmp q es)
  find-map f q [] = refl
  find-map f q (e ∷ es) =
      elim (eq_by_cmp nat_cmp q e.0) as (λ b. eq_by_cmp nat_cmp q e.0 ≡ b → cond b (Some (f e.0 e.1)) (finmap.find nat_cmp q (map (λ e. (e.0, f e.0 e.1)) es)) ≡ option_map (f q) (cond b (Some e.1) (finmap.find nat_cmp q es))) [
        | true ↦ λ t. ap (λ k. Some (f k e.1)) (sym (same_key q e.0 t))
        | false ↦ λ _. find-map f q es
      ] refl

  below_all-map : (f : ℕ → X → Y) (k : ℕ) (es : List (ℕ × X)) → below_all nat_cmp k (map (λ e. (e.0, f e.0 e.1)) es) ≡ below_all nat_cmp k es
  below_all-map f k [] = refl
  below_all-map f k (e ∷ es) = ap (λ b. is_lt (nat_cmp k e.0) && b) (below_all-map f k es)

  is_sorted-map : (f : ℕ → X → Y) (es : List (ℕ × X)) → is_sorted nat_cmp (map (λ e. (e.0, f e.0 e.1)) es) ≡ is_sorted nat_cmp es
  is_sorted-map f [] = refl
  is_sorted-map f (e ∷ es) = ap (λ b. b && is_sorted nat_cmp (map (λ e. (e.0, f e.0 e.1)) es)) (below_all-map f e.0 es) ∙ ap (λ b. below_all nat_cmp e.0 es && b) (is_sorted-map f es)

  sorted_map : (f : ℕ → X → Y) (m : Map X) → T (is_sorted nat_cmp (map (λ e. (e.0, f e.0 e.1)) (entries m)))
  sorted_map f m = subst T (sym (is_sorted-map f (entries m))) (entries_sorted m)

  pub entries-mapped : (f : ℕ → X → Y) (m : Map X) → entries (mapped f m) ≡ map (λ e. (e.0, f e.0 e.1)) (entries m)
  entries-mapped f m = entries-from_sorted nat_cmp (map (λ e. (e.0, f e.0 e.1)) (entries m)) (sorted_map f m)

  pub get-mapped : (f : ℕ → X → Y) (m : Map X) (q : ℕ) → get (mapped f m) q ≡ option_map (f q) (get m q)
  get-mapped f m q =
      get-from_sorted nat_cmp (map (λ e. (e.0, f e.0 e.1)) (entries m)) q (sorted_map f m) ∙ find-map f q (entries m) ∙ ap (option_map (f q)) (sym (get-entries m q))

  pub mapped_here : (f : ℕ → X → Y) (m : Map X) (q : ℕ) (x : X) → get m q ≡ Some x → get (mapped f m) q ≡ Some (f q x)
  mapped_here f m q x here = get-mapped f m q ∙ ap (option_map (f q)) here

  pub mapped_back : (f : ℕ → X → Y) (m : Map X) (q : ℕ) (y : Y) → get (mapped f m) q ≡ Some y → (x : X) × (get m q ≡ Some x) × (f q x ≡ y)
  mapped_back f m q y e = back (get m q) refl (sym (get-mapped f m q) ∙ e)
    where
      back : (g : Option X) → get m q ≡ g → option_map (f q) g ≡ Some y → (x : X) × (get m q ≡ Some x) × (f q x ≡ y)
      back None is e = absurd (none-some y e)
      back (Some x) is e = (x, is, same_Some _ _ e)

pub mapped_same : {X : Type 0} (m : Map X) → mapped (λ a x. x) m ≡ m
mapped_same m = same_entries_map _ m (entries-mapped (λ a x. x) m ∙ map-id (entries m))

pub not_some : {A : Type 0} (o : Option A) → is_some o ≡ false → o ≡ None
not_some None e = refl
not_some (Some x) e = absurd (true≢false e)

found_of_map : (o : Option ℕ) (a : ℕ) → option_map block_start o ≡ Some a → (b : ℕ) × (o ≡ Some b) × (block_start b ≡ a)
found_of_map None a e = absurd (none-some a e)
found_of_map (Some b) a e = (b, refl, same_Some _ _ e)

-- no extent starts at the start of a bare block
none_starts : (extents : Map Extent) (b : ℕ) → is_bare extents b ≡ true → (o : Option Extent) → get extents (block_start b) ≡ o → o ≡ None
none_starts extents b bare None is = refl
none_starts extents b bare (Some x) is =
    let at = place_of_key extents (block_start b) x is in
    let starts : (block_of (block_start b) == b) ≡ true = eq-eqb _ _ (omega arith) in
    absurd (both_ways _ (not-true _ bare) (any_passes_from_place (meets b) (entries extents) at.0 (block_start b, x) at.1 (ap (λ t. t || covers (block_start b, x) (block_start b)) starts)))

all_first : (p : ℕ → Bool) (b n : ℕ) → list_all p (range_with_len b (n + 1)) ≡ true → p b ≡ true
all_first p b n on = (and_parts (p b) _ (subst (λ k. list_all p (range_with_len b k) ≡ true) (more n) on)).0
  where
    more : (n : ℕ) → n + 1 ≡ suc n
    more n = omega arith

-- no object starts at the place for a new one
pub free_place_in : (extents : Map Extent) (blocks size a : ℕ) (kind : ObjKind) → place_in extents blocks size kind ≡ Some a → get extents a ≡ None
free_place_in extents blocks size a kind e = cases _ refl e
  where
    bare : (o : Option ℕ) → o ≡ find (has_run extents blocks (blocks_for size)) (range_with_len 0 blocks) → option_map block_start o ≡ Some a → get extents a ≡ None
    bare o is e =
        let at = found_of_map o a e in
        let run = find_place (has_run extents blocks (blocks_for size)) _ at.0 (sym is ∙ at.1) in
        let all = (and_parts (nat_le (at.0 + blocks_for size) blocks) _ run.2).1 in
        subst (λ x. get extents x ≡ None) at.2 (none_starts extents at.0 (all_first (is_bare extents) at.0 ((size - 1) / 64) all) (get extents (block_start at.0)) refl)

    cases : (o : Option ℕ) → o ≡ find (is_free extents) (flat_map (cells size) (filter (has_class extents size kind) (range_with_len 0 blocks))) → option_or o (option_map block_start (find (has_run extents blocks (blocks_for size)) (range_with_len 0 blocks))) ≡ Some a → get extents a ≡ None
    cases None is e = bare _ refl e
    cases (Some b) is e = not_some _ (not-true _ (find_place (is_free extents) _ a (sym is ∙ e)).2)

not_there : {X Y : Type 0} (f : X → Y) (o : Option X) → option_map f o ≡ None → o ≡ None
not_there f None e = refl
not_there f (Some x) e = absurd (none-some _ (sym e))

pub get-extents : (objects : Map Object) (a : ℕ) → get (extents objects) a ≡ option_map extent_of (get objects a)
get-extents objects a = get-mapped (λ start. extent_of) objects a

pub free_place : (objects : Map Object) (blocks size a : ℕ) (kind : ObjKind) → place_for objects blocks size kind ≡ Some a → get objects a ≡ None
free_place objects blocks size a kind e = not_there extent_of (get objects a) (sym (get-extents objects a) ∙ free_place_in (extents objects) blocks size a kind e)

-- ---- the extents of changed objects

pub extents-insert : (objects : Map Object) (a : ℕ) (o : Object) → extents (insert objects a o) ≡ insert (extents objects) a (extent_of o)
extents-insert objects a o =
    same_map nat_cmp_total nat_cmp-IsAntisymmetric _ _ (λ q.
    get-extents (insert objects a o) q
    ∙ ap (option_map extent_of) (get-insert nat_cmp_total objects a o q)
    ∙ elim (eq_by_cmp nat_cmp q a) as (λ t. option_map extent_of (cond t (Some o) (get objects q)) ≡ cond t (Some (extent_of o)) (option_map extent_of (get objects q))) [ true ↦ refl | false ↦ refl ]
    ∙ ap (cond (eq_by_cmp nat_cmp q a) (Some (extent_of o))) (sym (get-extents objects q))
    ∙ sym (get-insert nat_cmp_total (extents objects) a (extent_of o) q))

pub extents-remove : (objects : Map Object) (a : ℕ) → extents (remove objects a) ≡ remove (extents objects) a
extents-remove objects a =
    same_map nat_cmp_total nat_cmp-IsAntisymmetric _ _ (λ q.
    get-extents (remove objects a) q
    ∙ ap (option_map extent_of) (get-remove nat_cmp_total objects a q)
    ∙ elim (eq_by_cmp nat_cmp q a) as (λ t. option_map extent_of (cond t None (get objects q)) ≡ cond t None (option_map extent_of (get objects q))) [ true ↦ refl | false ↦ refl ]
    ∙ ap (cond (eq_by_cmp nat_cmp q a) None) (sym (get-extents objects q))
    ∙ sym (get-remove nat_cmp_total (extents objects) a q))

-- the words after a fill
pub length-fill : (test : ℕ → Bool) (value a : ℕ) (ws : List ℕ) → length (fill test value a ws) ≡ length ws
length-fill test value a [] = refl
length-fill test value a (w ∷ ws) = ap suc (length-fill test value (a + 1) ws)

pub fill_at : (test : ℕ → Bool) (value a : ℕ) (ws : List ℕ) (i : ℕ) → i < length ws → test (a + i) ≡ true → slice_index (fill test value a ws) i ≡ value
fill_at test value a [] i h t = absurd (omega arith)
fill_at test value a (w ∷ ws) zero h t = cond-true (test a) value w (subst (λ x. test x ≡ true) (add-zero a) t)
fill_at test value a (w ∷ ws) (suc i) h t =
    let next : a + suc i ≡ (a + 1) + i = omega arith in
    fill_at test value (a + 1) ws i (omega arith) (subst (λ x. test x ≡ true) next t)

pub fill_on : (test : ℕ → Bool) (value a : ℕ) (ws : List ℕ) (k : ℕ) → k < length ws → test (a + k) ≡ true → slice_get (fill test value a ws) k ≡ Some value
fill_on test value a [] k lt on = absurd (omega (arith, lt))
fill_on test value a (w ∷ ws) zero lt on = ap Some (cond-true (test a) value w (subst (λ x. test x ≡ true) (add-zero a) on))
fill_on test value a (w ∷ ws) (suc k) lt on =
    let next : a + suc k ≡ (a + 1) + k = omega arith in
    fill_on test value (a + 1) ws k (omega (arith, lt)) (subst (λ x. test x ≡ true) next on)

-- a word that isn't filled in stays
pub fill_off : (test : ℕ → Bool) (value a : ℕ) (ws : List ℕ) (k : ℕ) → test (a + k) ≡ false → slice_get (fill test value a ws) k ≡ slice_get ws k
fill_off test value a [] k off = refl
fill_off test value a (w ∷ ws) zero off = ap Some (cond-false (test a) value w (subst (λ x. test x ≡ false) (add-zero a) off))
fill_off test value a (w ∷ ws) (suc k) off =
    let next : a + suc k ≡ (a + 1) + k = omega arith in
    fill_off test value (a + 1) ws k (subst (λ x. test x ≡ false) next off)

-- a zero stays, where zero is what is filled in
pub fill_zero : (test : ℕ → Bool) (a : ℕ) (ws : List ℕ) (i : ℕ) → slice_index ws i ≡ 0 → slice_index (fill test 0 a ws) i ≡ 0
fill_zero test a [] i z = z
fill_zero test a (w ∷ ws) zero z = elim (test a) as (λ b. cond b 0 w ≡ 0) [ true ↦ refl | false ↦ z ]
fill_zero test a (w ∷ ws) (suc i) z = fill_zero test (a + 1) ws i z

abbrev pub filling : (ℕ → Bool) → ℕ → ℕ → Object → Object
filling test value start o = record o { words = fill test value start o.words }

pub filled_here : (test : ℕ → Bool) (value : ℕ) (objects : Map Object) (a : ℕ) (o : Object) → get objects a ≡ Some o → get (filled test value objects) a ≡ Some (record o { words = fill test value a o.words })
filled_here test value = mapped_here (filling test value)

pub filled_back : (test : ℕ → Bool) (value : ℕ) (objects : Map Object) (a : ℕ) (o : Object) → get (filled test value objects) a ≡ Some o → (old : Object) × (get objects a ≡ Some old) × (o ≡ record old { words = fill test value a old.words })
filled_back test value objects a o e = let old = mapped_back (filling test value) objects a o e in (old.0, old.1, sym old.2)

pub extents-filled : (test : ℕ → Bool) (value : ℕ) (objects : Map Object) → extents (filled test value objects) ≡ extents objects
extents-filled test value objects =
    same_map nat_cmp_total nat_cmp-IsAntisymmetric _ _ (λ q.
    get-extents (filled test value objects) q
    ∙ ap (option_map extent_of) (get-mapped (filling test value) objects q)
    ∙ same q (get objects q)
    ∙ sym (get-extents objects q))
  where
    same : (q : ℕ) (o : Option Object) → option_map extent_of (option_map (filling test value q) o) ≡ option_map extent_of o
    same q None = refl
    same q (Some o) = ap (λ n. Some (record { size = n; kind = o.kind })) (length-fill test value q o.words)

-- objects made of extents have those extents
pub extents-made : (f : ℕ → Extent → Object) → ((a : ℕ) (x : Extent) → extent_of (f a x) ≡ x) → (m : Map Extent) → extents (mapped f m) ≡ m
extents-made f same m =
    same_map nat_cmp_total nat_cmp-IsAntisymmetric _ _ (λ q. get-extents (mapped f m) q ∙ ap (option_map extent_of) (get-mapped f m q) ∙ back q (get m q))
  where
    back : (q : ℕ) (o : Option Extent) → option_map extent_of (option_map (f q) o) ≡ o
    back q None = refl
    back q (Some x) = ap Some (same q x)
