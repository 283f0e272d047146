-- What the values of a map come to, and what its keys lose.
use Rattle.std.proofs.Common.{T, ◌≡◌, ◌≢◌, ℕ, suc, ◌+◌, ◌-◌, ◌*◌, ◌%◌, ◌==◌, ◌<◌, ◌≤◌, Bool, true, false, cond, not, nat_cmp, List, [], ◌∷◌, map, length, Option, Some, None, is_some, refl, sym, ap, ◌∙◌, subst, ⊎_elim, arith, slice_get, is_lt, Ordering, Less, Equal, Greater}
use Rattle.std.proofs.lemmas.Bool.{cases_eq, cases_lt, cond-true, cond-false, eqb-true, and_parts}
use Rattle.std.proofs.lemmas.Option.{none-some}
use Rattle.std.proofs.lemmas.List.Sums.{sum_by-cons}
use Rattle.std.proofs.Math.Nat.{suc-mul}
use Rattle.std.specs.List.{sum_by}
use Rattle.std.specs.Ordering.{is_eq, eq_by_cmp}
use Rattle.std.specs.Cmp.{nat_cmp_total}
use Rattle.std.specs.FinMap as finmap
use Rattle.std.specs.FinMap.Entries.{below_all, put, by_order}
use Rattle.std.specs.FinMap.{get, insert, remove, retain_keys, empty, len, entries, entries_sorted, entries-insert, from_entries, get-from_entries, get-entries, get-empty, len-empty, len-insert, len-entries, is_sorted, same_map, nat_cmp-IsAntisymmetric, values, contains_key}
use Rattle.fz_model.specs.State.{Map}
use Rattle.fz_model.specs.declared.extent.Extent.{Extent}
use Rattle.fz_model.specs.Extents.{mapped, covers, AreApart, AreWithin}
use Rattle.fz_model.specs.Allocation.{block_of}
use Rattle.fz_model.specs.Condemned.{stands_at}
use Rattle.fz_model.specs.Bits.{has_bit}
use Rattle.fz_model.proofs.Maps.{get-insert_same, get-insert_other, get-remove_same, get-remove_other, get-retain, entries-mapped}
use Rattle.fz_model.proofs.MapEntries.{get_at, below_at, T-first, T-second, less_key, other_key}
use Rattle.fz_model.proofs.Objects.{to_covers}
use Rattle.fz_heap.specs.Layout.{words_in}

module _ {X : Type 0} where
  find_below : (k : ℕ) (es : List (ℕ × X)) → T (below_all nat_cmp k es) → finmap.find nat_cmp k es ≡ None
  find_below k [] below = refl
  find_below k (e ∷ es) below =
      let less = less_key k e.0 (T-first (is_lt (nat_cmp k e.0)) (below_all nat_cmp k es) below) in
      cond-false (eq_by_cmp nat_cmp k e.0) (Some e.1) (finmap.find nat_cmp k es) (other_key k e.0 (λ is. omega (arith, less, is)))
      ∙ find_below k es (T-second (is_lt (nat_cmp k e.0)) (below_all nat_cmp k es) below)

  made_of_entries : (m : Map X) → from_entries (entries m) ≡ m
  made_of_entries m = same_map nat_cmp_total nat_cmp-IsAntisymmetric _ _ (λ q. get-from_entries nat_cmp_total (entries m) q ∙ sym (get-entries m q))

  back_again : (m : Map X) (k : ℕ) (v : X) → get m k ≡ Some v → insert (remove m k) k v ≡ m
  back_again m k v here = same_map nat_cmp_total nat_cmp-IsAntisymmetric _ _ (λ q.
      ⊎_elim
      (λ (is : q ≡ k). ap (get (insert (remove m k) k v)) is ∙ get-insert_same (remove m k) k v ∙ sym here ∙ ap (get m) (sym is))
      (λ (ne : q ≢ k). get-insert_other (remove m k) k v q ne ∙ get-remove_other m k q ne)
      (cases_eq q k))

  pub len_more : (m : Map X) (k : ℕ) (v : X) → get m k ≡ None → len (insert m k v) ≡ len m + 1
  len_more m k v none = len-insert nat_cmp_total m k v ∙ cond-false (contains_key m k) (len m) (len m + 1) (ap is_some none)

  pub len_less : (m : Map X) (k : ℕ) (v : X) → get m k ≡ Some v → len (remove m k) + 1 ≡ len m
  len_less m k v here = sym (len_more (remove m k) k v (get-remove_same m k)) ∙ ap len (back_again m k v here)

module _ {X : Type 0} (f : X → ℕ) where
  abbrev total : Map X → ℕ
  total m = sum_by f (values m)

  abbrev sums : List (ℕ × X) → ℕ
  sums es = sum_by f (map (λ e. e.1) es)

  sum_put : (k : ℕ) (v : X) (es : List (ℕ × X)) → finmap.find nat_cmp k es ≡ None → sums (put nat_cmp k v es) ≡ sums es + f v
  sum_put k v [] none = refl
  sum_put k v (e ∷ es) none =
      elim (nat_cmp k e.0) as (λ r. cond (is_eq r) (Some e.1) (finmap.find nat_cmp k es) ≡ None → sums (by_order r ((k, v) ∷ e ∷ es) ((e.0, v) ∷ es) (e ∷ put nat_cmp k v es)) ≡ sums (e ∷ es) + f v) [
        | Less ↦ λ _. let first = sum_by-cons f v (map (λ e. e.1) (e ∷ es)) in omega (arith, first)
        | Equal ↦ λ found. absurd (none-some e.1 (sym found))
        | Greater ↦ λ rest. let later = sum_put k v es rest in let first = sum_by-cons f e.1 (map (λ e. e.1) (put nat_cmp k v es)) in let all = sum_by-cons f e.1 (map (λ e. e.1) es) in omega (arith, later, first, all)
      ] none

  pub total_more : (m : Map X) (k : ℕ) (v : X) → get m k ≡ None → total (insert m k v) ≡ total m + f v
  total_more m k v none = ap sums (entries-insert nat_cmp_total m k v) ∙ sum_put k v (entries m) (sym (get-entries m k) ∙ none)

  pub total_less : (m : Map X) (k : ℕ) (v : X) → get m k ≡ Some v → total (remove m k) + f v ≡ total m
  total_less m k v here = sym (total_more (remove m k) k v (get-remove_same m k)) ∙ ap total (back_again m k v here)

  pub total_none : total empty ≡ 0
  total_none = none (entries empty) (sym (len-entries (empty {R = nat_cmp})) ∙ len-empty nat_cmp X)
    where
      none : (es : List (ℕ × X)) → length es ≡ 0 → sums es ≡ 0
      none [] is = refl
      none (e ∷ es) is = absurd (omega (arith, is))

module _ {X : Type 0} (f : X → ℕ) (p : ℕ → Bool) (s : ℕ) where
  -- some values are lost, all of which come to the same
  abbrev Loses : Map X → Type 0
  Loses m = (n : ℕ) × (len (retain_keys m p) + n ≡ len m) × (sum_by f (values (retain_keys m p)) + n * s ≡ sum_by f (values m))

  retained : (m : Map X) (k : ℕ) (v : X) (b : Bool) → p k ≡ b → get m k ≡ None → retain_keys (insert m k v) p ≡ cond b (insert (retain_keys m p) k v) (retain_keys m p)
  retained m k v b is none = same_map nat_cmp_total nat_cmp-IsAntisymmetric _ _ (λ q.
      get-retain (insert m k v) p q
      ∙ ⊎_elim
      (λ (same : q ≡ k). ap (λ q. cond (p q) (get (insert m k v) q) None) same ∙ at_key b is ∙ ap (get (cond b (insert (retain_keys m p) k v) (retain_keys m p))) (sym same))
      (λ (ne : q ≢ k). ap (λ o. cond (p q) o None) (get-insert_other m k v q ne) ∙ sym (get-retain m p q) ∙ other b q ne)
      (cases_eq q k))
    where
      at_key : (b : Bool) → p k ≡ b → cond (p k) (get (insert m k v) k) None ≡ get (cond b (insert (retain_keys m p) k v) (retain_keys m p)) k
      at_key true is = cond-true (p k) (get (insert m k v) k) None is ∙ get-insert_same m k v ∙ sym (get-insert_same (retain_keys m p) k v)
      at_key false is = cond-false (p k) (get (insert m k v) k) None is ∙ sym (get-retain m p k ∙ cond-false (p k) (get m k) None is)

      other : (b : Bool) (q : ℕ) → q ≢ k → get (retain_keys m p) q ≡ get (cond b (insert (retain_keys m p) k v) (retain_keys m p)) q
      other true q ne = sym (get-insert_other (retain_keys m p) k v q ne)
      other false q ne = refl

  loses_of : (es : List (ℕ × X)) → T (is_sorted nat_cmp es) → ((i : ℕ) (e : ℕ × X) → slice_get es i ≡ Some e → p e.0 ≡ false → f e.1 ≡ s) → Loses (from_entries es)
  loses_of [] sorted each =
      let none : retain_keys empty p ≡ empty = same_map nat_cmp_total nat_cmp-IsAntisymmetric _ _ (λ q. get-retain empty p q ∙ ap (λ o. cond (p q) o None) (get-empty nat_cmp q) ∙ both (p q) ∙ sym (get-empty nat_cmp q)) in
      (0, ap (λ n. n + 0) (ap len none) ∙ omega arith, ap (λ n. n + 0 * s) (ap (λ (m : Map X). sum_by f (values m)) none) ∙ omega arith)
    where
      both : (b : Bool) → ◌≡◌ {A = Option X} (cond b None None) None
      both true = refl
      both false = refl
  loses_of (e ∷ es) sorted each =
      let m = from_entries es in
      let absent : get m e.0 ≡ None = get-from_entries nat_cmp_total es e.0 ∙ find_below e.0 es (T-first (below_all nat_cmp e.0 es) (is_sorted nat_cmp es) sorted) in
      let rest = loses_of es (T-second (below_all nat_cmp e.0 es) (is_sorted nat_cmp es) sorted) (λ i g here. each (suc i) g here) in
      elim (p e.0) as (λ b. p e.0 ≡ b → Loses (insert m e.0 e.1)) [
        | true ↦ λ on.
            let is = retained m e.0 e.1 true on absent in
            let gone : get (retain_keys m p) e.0 ≡ None = get-retain m p e.0 ∙ cond-true (p e.0) (get m e.0) None on ∙ absent in
            let len_is = ap len is ∙ len_more (retain_keys m p) e.0 e.1 gone in
            let all_len = len_more m e.0 e.1 absent in
            let sum_is = ap (λ (m : Map X). sum_by f (values m)) is ∙ total_more f (retain_keys m p) e.0 e.1 gone in
            let all_sum = total_more f m e.0 e.1 absent in
            (rest.0, omega (arith, len_is, all_len, rest.1), omega (arith, sum_is, all_sum, rest.2))
        | false ↦ λ off.
            let is = retained m e.0 e.1 false off absent in
            let len_is = ap len is in
            let all_len = len_more m e.0 e.1 absent in
            let sum_is = ap (λ (m : Map X). sum_by f (values m)) is in
            let all_sum = total_more f m e.0 e.1 absent in
            let more = suc-mul rest.0 s in
            let own = each 0 e refl off in
            (suc rest.0, omega (arith, len_is, all_len, rest.1), omega (arith, sum_is, all_sum, rest.2, more, own))
      ] refl

  pub total_retained : (m : Map X) → ((a : ℕ) (x : X) → get m a ≡ Some x → p a ≡ false → f x ≡ s) → (n : ℕ) → len (retain_keys m p) + n ≡ len m → sum_by f (values (retain_keys m p)) + n * s ≡ sum_by f (values m)
  total_retained m each n fewer =
      let loses = subst Loses (made_of_entries m) (loses_of (entries m) (entries_sorted m) (λ i e here. each e.0 e.1 (get_at m i e here))) in
      let same : loses.0 ≡ n = omega (arith, fewer, loses.1) in
      subst (λ n. sum_by f (values (retain_keys m p)) + n * s ≡ sum_by f (values m)) same loses.2

-- values that are made anew, and come to as much
pub total_mapped : {X Y : Type 0} (f : X → ℕ) (g : Y → ℕ) (h : ℕ → X → Y) → ((k : ℕ) (x : X) → g (h k x) ≡ f x) → (m : Map X) → sum_by g (values (mapped h m)) ≡ sum_by f (values m)
total_mapped {X = X} {Y = Y} f g h each m = ap (λ (es : List (ℕ × Y)). sum_by g (map (λ e. e.1) es)) (entries-mapped h m) ∙ over (entries m)
  where
    over : (es : List (ℕ × X)) → sum_by g (map (λ (e : ℕ × Y). e.1) (map (λ (e : ℕ × X). (e.0, h e.0 e.1)) es)) ≡ sum_by f (map (λ e. e.1) es)
    over [] = refl
    over (e ∷ es) =
        let own = each e.0 e.1 in
        let first = sum_by-cons g (h e.0 e.1) (map (λ (e : ℕ × Y). e.1) (map (λ (e : ℕ × X). (e.0, h e.0 e.1)) es)) in
        let all = sum_by-cons f e.1 (map (λ e. e.1) es) in
        let rest = over es in
        omega (arith, own, first, all, rest)

-- extents that are apart have no more words than the heap
pub few_words : (blocks : ℕ) (extents : Map Extent) → AreApart extents → AreWithin blocks extents → words_in extents ≤ 64 * blocks
few_words blocks extents apart within =
    let all = from (entries extents) 65536 (entries_sorted extents) (λ i e here. get_at extents i e here) (λ i e here. (within e.0 e.1 (get_at extents i e here)).0) (omega arith) in
    omega (arith, all)
  where
    size : Extent → ℕ
    size x = x.size

    from : (es : List (ℕ × Extent)) (low : ℕ) → T (is_sorted nat_cmp es) → ((i : ℕ) (e : ℕ × Extent) → slice_get es i ≡ Some e → get extents e.0 ≡ Some e.1) → ((i : ℕ) (e : ℕ × Extent) → slice_get es i ≡ Some e → low ≤ e.0) → low ≤ 65536 + 64 * blocks → low + sum_by (λ (x : Extent). x.size) (map (λ e. e.1) es) ≤ 65536 + 64 * blocks
    from [] low sorted are above fits = omega (arith, fits)
    from (e ∷ es) low sorted are above fits =
        let here = are 0 e refl in
        let inside = within e.0 e.1 here in
        let rest = from es (e.0 + e.1.size) (T-second (below_all nat_cmp e.0 es) (is_sorted nat_cmp es) sorted) (λ i g there. are (suc i) g there) past inside.2 in
        let first = sum_by-cons (λ (x : Extent). x.size) e.1 (map (λ e. e.1) es) in
        let low_is = above 0 e refl in
        omega (arith, rest, first, low_is)
      where
        past : (i : ℕ) (g : ℕ × Extent) → slice_get es i ≡ Some g → e.0 + e.1.size ≤ g.0
        past i g there =
            let later = below_at e.0 es i g (T-first (below_all nat_cmp e.0 es) (is_sorted nat_cmp es) sorted) there in
            let one = are 0 e refl in
            let other = are (suc i) g there in
            let has = within g.0 g.1 other in
            ⊎_elim
            (λ (short : g.0 < e.0 + e.1.size). let is = apart e.0 g.0 g.0 e.1 g.1 one other (to_covers e.0 g.0 e.1 (omega (arith, later)) short) (to_covers g.0 g.0 g.1 (omega arith) (omega (arith, has))) in absurd (omega (arith, later, is)))
            (λ long. long)
            (cases_lt g.0 (e.0 + e.1.size))

-- each extent has a word
pub few_live : (blocks : ℕ) (extents : Map Extent) → AreWithin blocks extents → len extents ≤ words_in extents
few_live blocks extents within = subst (λ n. n ≤ words_in extents) (sym (len-entries extents)) (from (entries extents) (λ i e here. (within e.0 e.1 (get_at extents i e here)).1))
  where
    from : (es : List (ℕ × Extent)) → ((i : ℕ) (e : ℕ × Extent) → slice_get es i ≡ Some e → 1 ≤ e.1.size) → length es ≤ sum_by (λ (x : Extent). x.size) (map (λ e. e.1) es)
    from [] each = omega arith
    from (e ∷ es) each =
        let rest = from es (λ i g here. each (suc i) g here) in
        let first = sum_by-cons (λ (x : Extent). x.size) e.1 (map (λ e. e.1) es) in
        let own = each 0 e refl in
        omega (arith, rest, first, own)

-- where objects of a block are condemned, all of which have one size
pub total_condemned : (old new : Map Extent) (b places size n : ℕ) → new ≡ retain_keys old (λ a. not (stands_at b places a)) → len new + n ≡ len old → ((a : ℕ) (x : Extent) → get old a ≡ Some x → block_of a ≡ b → x.size ≡ size) → words_in new + n * size ≡ words_in old
total_condemned old new b places size n is fewer sized =
    ap (λ (m : Map Extent). words_in m + n * size) is ∙ total_retained (λ (x : Extent). x.size) (λ a. not (stands_at b places a)) size old each n (ap (λ (m : Map Extent). len m + n) (sym is) ∙ fewer)
  where
    each : (a : ℕ) (x : Extent) → get old a ≡ Some x → not (stands_at b places a) ≡ false → x.size ≡ size
    each a x here gone = sized a x here (eqb-true (block_of a) b (and_parts (block_of a == b) (has_bit places ((a - 65536) % 64)) (back (stands_at b places a) gone)).0)
      where
        back : (t : Bool) → not t ≡ false → t ≡ true
        back true off = refl
        back false off = sym off
