-- The index of ephemerons that are put off, and those that are told.
use Rattle.std.proofs.Common.{All, ◌==◌, ⊎_elim, ◌≡◌, ◌≤◌, ◌<◌, ◌+◌, ◌-◌, ◌++◌, ◌∙◌, ℕ, zero, suc, Bool, true, false, true≢false, cond, not, List, [], ◌∷◌, filter, map, take, drop, set, length, get_or, slice_get, nat_eq, nat_lt, Some, refl, sym, ap, subst, append_assoc, append-nil, arith}
use Rattle.std.proofs.lemmas.Bool.Decides.{nat_tests}
use Rattle.std.proofs.lemmas.Bool.{cases_lt, eq-eqb, eqb-true, ltb-false, ltb-true}
use Rattle.std.proofs.lemmas.List.{get_or-drop, get_or-take, length-append, length-drop, length-map, length-take-le, map-append, take-append-drop, take-append-le, take_all, take_more}
use Rattle.std.proofs.lemmas.List.Elements.{All-head, All-map, All-tail, filter-append}
use Rattle.std.proofs.lemmas.List.Filters.{length-filter_both}
use Rattle.std.proofs.lemmas.List.Sorted.{All-permutation, IsPermutation-map, length_permutation}
use Rattle.std.proofs.lemmas.Option.{none-some, same_Some}
use Rattle.std.specs.List.Sorted.{IsNonDecreasingBy, IsPartitionPoint, IsPermutation}
use Rattle.fz_machine.specs.declared.item.Item.{Item}
use Rattle.fz_machine.specs.declared.rows.Row.{Row}
use Rattle.fz_machine.specs.Off.{IsIndexed, PutOff, TellsOff, count_off, fresh, key_of, looked_at, looking, looking_by, none_off, of_row, tell_row, told_or, untold}

abbrev pub has : ℕ → Item → Bool
has key item = nat_eq key item.object

abbrev pub lacks : ℕ → Item → Bool
lacks key item = not (nat_eq key item.object)

pub untold-append : (xs ys : List Row) → untold (xs ++ ys) ≡ untold xs ++ untold ys
untold-append xs ys = ap (map (λ (row : Row). row.item)) (filter-append (λ (row : Row). not row.told) xs ys) ∙ map-append (λ (row : Row). row.item) (filter (λ (row : Row). not row.told) xs) (filter (λ (row : Row). not row.told) ys)

pub untold-one : (row : Row) → untold (row ∷ []) ≡ of_row row
untold-one row = by row.told
  where
    by : (b : Bool) → map (λ (r : Row). r.item) (cond (not b) (row ∷ []) []) ≡ cond b [] (row.item ∷ [])
    by true = refl
    by false = refl

pub untold_more : (rows : List Row) (i : ℕ) (d : Row) → i < length rows → untold (take (i + 1) rows) ≡ untold (take i rows) ++ of_row (get_or rows i d)
untold_more rows i d lt = ap untold (take_more rows i d lt) ∙ untold-append (take i rows) (get_or rows i d ∷ []) ∙ ap (λ xs. untold (take i rows) ++ xs) (untold-one (get_or rows i d))

-- fewer are untold in a part
pub untold_part : (rows : List Row) (i : ℕ) → length (untold (take i rows)) ≤ length (untold rows)
untold_part rows i =
    let all = ap (λ (xs : List Row). length (untold xs)) (take-append-drop i rows) in
    let both = ap length (untold-append (take i rows) (drop i rows)) ∙ length-append (untold (take i rows)) (untold (drop i rows)) in
    omega (arith, all, both)

-- there is room for one more
pub may_put_row : (rows : List Row) (i : ℕ) (d : Row) → i < length rows → (room long before : ℕ) → long ≡ before + length (untold (take i rows)) → before + length (untold rows) ≤ room → long + length (of_row (get_or rows i d)) ≤ room
may_put_row rows i d lt room long before is enough =
    let part = untold_part rows (i + 1) in
    let more = ap length (untold_more rows i d lt) ∙ length-append (untold (take i rows)) (of_row (get_or rows i d)) in
    omega (arith, is, part, more, enough)

-- a new index
pub all_fresh : (items : List Item) → untold (map fresh items) ≡ items
all_fresh [] = refl
all_fresh (item ∷ items) = ap (λ xs. item ∷ xs) (all_fresh items)

pub fresh_items : (items : List Item) → map (λ (row : Row). row.item) (map fresh items) ≡ items
fresh_items [] = refl
fresh_items (item ∷ items) = ap (λ xs. item ∷ xs) (fresh_items items)

-- rows that aren't told
abbrev pub AllUntold : List Row → Type 0
AllUntold = All (λ (row : Row). row.told ≡ false)

pub fresh_untold : (items : List Item) → AllUntold (map fresh items)
fresh_untold items = All-map (λ (row : Row). row.told ≡ false) fresh items (λ k d lt. refl)

pub all_untold : (rows : List Row) → AllUntold rows → untold rows ≡ map (λ (row : Row). row.item) rows
all_untold [] none = refl
all_untold (row ∷ rows) none =
    ap (λ b. map (λ (r : Row). r.item) (cond (not b) (row ∷ filter (λ (r : Row). not r.told) rows) (filter (λ (r : Row). not r.told) rows))) (All-head (λ (r : Row). r.told ≡ false) row rows none)
    ∙ ap (λ xs. row.item ∷ xs) (all_untold rows (All-tail (λ (r : Row). r.told ≡ false) row rows none))

-- an index that is sorted is that of what was put off
pub indexed : (items : List Item) (rows : List Row) → IsPermutation (map fresh items) rows → AllUntold rows → IsPermutation items (untold rows)
indexed items rows p none =
    subst (λ xs. IsPermutation xs (untold rows)) (fresh_items items)
    (subst (λ xs. IsPermutation (map (λ (row : Row). row.item) (map fresh items)) xs) (sym (all_untold rows none)) (IsPermutation-map (λ (row : Row). row.item) (map fresh items) rows p))

pub untold-cons : (row : Row) (rows : List Row) → untold (row ∷ rows) ≡ of_row row ++ untold rows
untold-cons row rows = by row.told
  where
    by : (b : Bool) → map (λ (r : Row). r.item) (cond (not b) (row ∷ filter (λ (r : Row). not r.told) rows) (filter (λ (r : Row). not r.told) rows)) ≡ cond b [] (row.item ∷ []) ++ untold rows
    by true = refl
    by false = refl

-- the row at an index
pub row_is : (rows : List Row) (i : ℕ) (row d : Row) → slice_get rows i ≡ Some row → get_or rows i d ≡ row
row_is [] i row d at = absurd (none-some row at)
row_is (x ∷ rows) zero row d at = same_Some x row at
row_is (x ∷ rows) (suc i) row d at = row_is rows i row d at

pub row_within : (rows : List Row) (i : ℕ) (row : Row) → slice_get rows i ≡ Some row → i < length rows
row_within [] i row at = absurd (none-some row at)
row_within (x ∷ rows) zero row at = omega arith
row_within (x ∷ rows) (suc i) row at = let less = row_within rows i row at in omega (arith, less)

-- ---- rows of a key

module _ (key : ℕ) where
  -- what a told key does to what isn't told
  one_told : (row : Row) → of_row (tell_row key row) ≡ filter (lacks key) (of_row row)
  one_told row = by row.told (nat_eq key row.item.object) refl
    where
      now : (t b : Bool) → Row
      now t b = cond b (record { item = row.item; told = true }) (record { item = row.item; told = t })

      by : (t b : Bool) → nat_eq key row.item.object ≡ b → cond (now t b).told [] ((now t b).item ∷ []) ≡ filter (lacks key) (cond t [] (row.item ∷ []))
      by true true is = refl
      by true false is = refl
      by false true is = sym (ap (λ c. cond (not c) (row.item ∷ []) []) is)
      by false false is = sym (ap (λ c. cond (not c) (row.item ∷ []) []) is)

  pub told_untold : (rows : List Row) → untold (map (tell_row key) rows) ≡ filter (lacks key) (untold rows)
  told_untold [] = refl
  told_untold (row ∷ rows) =
      untold-cons (tell_row key row) (map (tell_row key) rows) ∙ (λ i. one_told row i ++ told_untold rows i)
      ∙ sym (ap (filter (lacks key)) (untold-cons row rows) ∙ filter-append (lacks key) (of_row row) (untold rows))

  -- as many rows are told as aren't left
  pub told_count : (rows : List Row) → length (filter (has key) (untold rows)) + length (untold (map (tell_row key) rows)) ≡ length (untold rows)
  told_count rows =
      let both = length-filter_both (has key) (lacks key) (λ item. refl) (untold rows) in
      let is = ap length (told_untold rows) in
      omega (arith, both, is)

  -- how many are told now
  pub told_now : (rows new : List Row) (before told : List Item) → new ≡ map (tell_row key) rows → told ≡ before ++ filter (has key) (untold rows) → (length told - length before) + length (untold new) ≡ length (untold rows)
  told_now rows new before told new_is told_is =
      let count = told_count rows in
      let now = ap (λ (xs : List Row). length (untold xs)) new_is in
      let long = ap length told_is ∙ length-append before (filter (has key) (untold rows)) in
      omega (arith, count, now, long)

  -- rows of other keys
  abbrev pub AreOthers : List Row → Type 0
  AreOthers rows = (k : ℕ) (d : Row) → k < length rows → nat_eq key (key_of (get_or rows k d)) ≡ false

  others_rest : (row : Row) (rows : List Row) → AreOthers (row ∷ rows) → AreOthers rows
  others_rest row rows others k d lt = others (suc k) d (omega (arith, lt))

  pub others_same : (rows : List Row) → AreOthers rows → map (tell_row key) rows ≡ rows
  others_same [] others = refl
  others_same (row ∷ rows) others =
      λ i. cond (others 0 row (omega arith) i) (record row { told = true }) row ∷ others_same rows (others_rest row rows others) i

  pub others_none : (rows : List Row) → AreOthers rows → filter (has key) (untold rows) ≡ []
  others_none [] others = refl
  others_none (row ∷ rows) others =
      ap (filter (has key)) (untold-cons row rows) ∙ filter-append (has key) (of_row row) (untold rows) ∙ (λ i. one row.told i ++ others_none rows (others_rest row rows others) i)
    where
      one : (b : Bool) → filter (has key) (cond b [] (row.item ∷ [])) ≡ []
      one true = refl
      one false = ap (λ c. cond c (row.item ∷ []) []) (others 0 row (omega arith))

  -- the index while its rows are told one after another: those up to a place are
  abbrev pub told_to : ℕ → List Row → List Row
  told_to n rows = map (tell_row key) (take n rows) ++ drop n rows

  pub told_get : (n : ℕ) (rows : List Row) → slice_get (told_to n rows) n ≡ slice_get rows n
  told_get zero rows = refl
  told_get (suc n) [] = refl
  told_get (suc n) (row ∷ rows) = told_get n rows

  told_set : (n : ℕ) (rows : List Row) (row : Row) → slice_get rows n ≡ Some row → set (told_to n rows) n (tell_row key row) ≡ told_to (suc n) rows
  told_set n [] row at = absurd (none-some row at)
  told_set zero (x ∷ rows) row at = ap (λ r. tell_row key r ∷ rows) (sym (same_Some x row at))
  told_set (suc n) (x ∷ rows) row at = ap (λ xs. tell_row key x ∷ xs) (told_set n rows row at)

  -- a row of the key, once it is told
  pub tells_row : (row : Row) → key_of row ≡ key → tell_row key row ≡ record row { told = true }
  tells_row row is = ap (λ b. cond b (record row { told = true }) row) (eq-eqb key (key_of row) (sym is))

  tells_of : (row : Row) → key_of row ≡ key → filter (has key) (of_row row) ≡ of_row row
  tells_of row is = by row.told
    where
      by : (b : Bool) → filter (has key) (cond b [] (row.item ∷ [])) ≡ cond b [] (row.item ∷ [])
      by true = refl
      by false = ap (λ c. cond c (row.item ∷ []) []) (eq-eqb key (key_of row) (sym is))

  module _ (old : List Row) (before : List Item) where
    -- the rows from one place to another are told
    pub record AreTold (from place : ℕ) (now : List Row) (told : List Item) : Type 0 where
      pub low : from ≤ place
      pub index : now ≡ told_to place old
      pub listed : told ≡ before ++ filter (has key) (untold (take place old))

    -- none is told yet
    pub none_told : (from : ℕ) → AreOthers (take from old) → AreTold from from old before
    none_told from others = record {
      low = omega arith;
      index = sym (ap (λ xs. xs ++ drop from old) (others_same (take from old) others) ∙ take-append-drop from old);
      listed = sym (ap (λ xs. before ++ xs) (others_none (take from old) others) ∙ append-nil before);
    }

    module _ (from place : ℕ) (now : List Row) (told : List Item) (are : AreTold from place now told) where
      pub row_of_old : (row : Row) → slice_get now place ≡ Some row → slice_get old place ≡ Some row
      row_of_old row at = sym (told_get place old) ∙ ap (λ xs. slice_get xs place) (sym are.index) ∙ at

      -- one more is
      pub one_more_told : (row : Row) (more : List Item) → slice_get now place ≡ Some row → key_of row ≡ key → more ≡ told ++ of_row row → AreTold from (place + 1) (set now place (record { item = row.item; told = true })) more
      one_more_told row more at is now_is =
          let low = are.low in
          let here = row_of_old row at in
          let next : suc place ≡ place + 1 = omega arith in
          record {
            low = omega (arith, low);
            index = ap (λ xs. set xs place (record { item = row.item; told = true })) are.index ∙ ap (λ r. set (told_to place old) place r) (sym (tells_row row is)) ∙ told_set place old row here ∙ ap (λ n. told_to n old) next;
            listed =
                now_is ∙ ap (λ xs. xs ++ of_row row) are.listed ∙ append_assoc before (filter (has key) (untold (take place old))) (of_row row)
                ∙ ap (λ xs. before ++ xs)
                (ap (λ xs. filter (has key) (untold (take place old)) ++ xs) (sym (tells_of row is))
                ∙ sym (ap (filter (has key)) (untold_more old place row (row_within old place row here) ∙ ap (λ r. untold (take place old) ++ of_row r) (row_is old place row row here)) ∙ filter-append (has key) (untold (take place old)) (of_row row)));
          }

      -- there is room for one more
      pub may_tell : (row : Row) (room : ℕ) → slice_get now place ≡ Some row → key_of row ≡ key → length before + length (untold old) ≤ room → length told + length (of_row row) ≤ room
      may_tell row room at is enough =
          let here = row_of_old row at in
          let long = ap length are.listed ∙ length-append before (filter (has key) (untold (take place old))) in
          let few = few_of (untold (take place old)) in
          let part = untold_part old (place + 1) in
          let more =
          ap length (untold_more old place row (row_within old place row here) ∙ ap (λ r. untold (take place old) ++ of_row r) (row_is old place row row here))
          ∙ length-append (untold (take place old)) (of_row row) in
          omega (arith, long, few, part, more, enough)
        where
          few_of : (xs : List Item) → length (filter (has key) xs) ≤ length xs
          few_of xs = let both = length-filter_both (has key) (lacks key) (λ item. refl) xs in omega (arith, both)

      -- all of them are, if those behind have other keys
      pub all_told : AreOthers (drop place old) → (now ≡ map (tell_row key) old) × (told ≡ before ++ filter (has key) (untold old))
      all_told others = (
        are.index ∙ ap (λ xs. map (tell_row key) (take place old) ++ xs) (sym (others_same (drop place old) others)) ∙ sym (map-append (tell_row key) (take place old) (drop place old)) ∙ ap (map (tell_row key)) (take-append-drop place old),
        are.listed
            ∙ ap (λ xs. before ++ xs)
            (sym (append-nil (filter (has key) (untold (take place old)))) ∙ ap (λ xs. filter (has key) (untold (take place old)) ++ xs) (sym (others_none (drop place old) others))
            ∙ sym (filter-append (has key) (untold (take place old)) (untold (drop place old))) ∙ ap (filter (has key)) (sym (untold-append (take place old) (drop place old)) ∙ ap untold (take-append-drop place old))),
      )

  -- ---- in a sorted index

  other_below : (row : Row) → key_of row < key → nat_eq key (key_of row) ≡ false
  other_below row lt = by (nat_eq key (key_of row)) refl
    where
      by : (b : Bool) → nat_eq key (key_of row) ≡ b → b ≡ false
      by true is = absurd (let same = eqb-true key (key_of row) is in omega (arith, same, lt))
      by false is = refl

  other_above : (row : Row) → key < key_of row → nat_eq key (key_of row) ≡ false
  other_above row lt = by (nat_eq key (key_of row)) refl
    where
      by : (b : Bool) → nat_eq key (key_of row) ≡ b → b ≡ false
      by true is = absurd (let same = eqb-true key (key_of row) is in omega (arith, same, lt))
      by false is = refl

  module _ (old : List Row) (from : ℕ) (point : IsPartitionPoint (λ (row : Row). nat_lt (key_of row) key ≡ true) (λ (row : Row). nat_lt (key_of row) key ≡ false) old from) where
    pub others_before : from ≤ length old → AreOthers (take from old)
    others_before bound k d lt =
        let long = length-take-le from old bound in
        let low : k < from = omega (arith, long, lt) in
        other_below (get_or (take from old) k d) (subst (λ r. key_of r < key) (sym (get_or-take from old k d low)) (ltb-true (key_of (get_or old k d)) key (point.0 k d (omega arith) low)))

    -- the first row behind those of the key
    pub others_behind : IsNonDecreasingBy key_of old → (place : ℕ) → from ≤ place → ((row : Row) → slice_get old place ≡ Some row → key_of row ≡ key → ⊥) → AreOthers (drop place old)
    others_behind sorted place low other k d lt =
        let long = length-drop place old in
        let within : place + k < length old = omega (arith, long, lt) in
        let here = get_at old place d (omega (arith, within)) in
        let row = get_or old place d in
        let le = ltb-false (key_of row) key (point.1 place d low (omega (arith, within))) in
        let ne = other row here in
        let up = sorted place (place + k) d (omega arith) within in
        other_above (get_or (drop place old) k d) (subst (λ r. key < key_of r) (sym (get_or-drop place old k d)) (above (key_of row) (key_of (get_or old (place + k) d)) le ne up))
      where
        above : (a b : ℕ) → key ≤ a → (a ≡ key → ⊥) → a ≤ b → key < b
        above a b le ne up = ⊎_elim (λ (lt : key < a). omega (arith, lt, up)) (λ (ge : a ≤ key). absurd (ne (omega (arith, le, ge)))) (cases_lt key a)

        get_at : (rows : List Row) (i : ℕ) (d : Row) → i < length rows → slice_get rows i ≡ Some (get_or rows i d)
        get_at [] i d lt = absurd (omega (arith, lt))
        get_at (x ∷ rows) zero d lt = refl
        get_at (x ∷ rows) (suc i) d lt = get_at rows i d (omega (arith, lt))

    -- the rows of the key are told, and the first one behind them isn't of the key
    pub told_whole : (before : List Item) (place : ℕ) (now : List Row) (told : List Item) → IsNonDecreasingBy key_of old → AreTold old before from place now told → ((row : Row) → slice_get now place ≡ Some row → key_of row ≡ key → ⊥)
        → (now ≡ map (tell_row key) old) × (told ≡ before ++ filter (has key) (untold old))
    told_whole before place now told sorted are none =
        all_told old before from place now told are (others_behind sorted place are.low (λ row at is. none row (ap (λ xs. slice_get xs place) are.index ∙ told_get place old ∙ at) is))

  pub still_sorted : (rows : List Row) → IsNonDecreasingBy key_of rows → IsNonDecreasingBy key_of (map (tell_row key) rows)
  still_sorted rows sorted i j d le lt =
      let long = length-map rows (tell_row key) in
      let within : j < length rows = omega (arith, long, lt) in
      let at = λ (k : ℕ) (less : k < length rows). same_key rows k d less in
      let up = sorted i j d le within in
      let a = at i (omega (arith, le, within)) in
      let b = at j within in
      omega (arith, a, b, up)
    where
      key_stays : (row : Row) → key_of (tell_row key row) ≡ key_of row
      key_stays row = by (nat_eq key (key_of row))
        where
          by : (b : Bool) → key_of (cond b (record row { told = true }) row) ≡ key_of row
          by true = refl
          by false = refl

      same_key : (xs : List Row) (k : ℕ) (d : Row) → k < length xs → key_of (get_or (map (tell_row key) xs) k d) ≡ key_of (get_or xs k d)
      same_key [] k d lt = absurd (omega (arith, lt))
      same_key (x ∷ xs) zero d lt = key_stays x
      same_key (x ∷ xs) (suc k) d lt = same_key xs k d (omega (arith, lt))

-- ---- what the next round looks at

not_zero : (n : ℕ) → (suc n == 0) ≡ false
not_zero n = grind (arith, nat_tests)

pub some_told : (told all : List Item) (off : PutOff) → (length told == 0) ≡ false → (told_or told all ≡ told) × (looking_by told off ≡ record off { told = [] })
some_told [] all off some = absurd (true≢false some)
some_told (item ∷ told) all off some = (refl, refl)

pub none_is_told : (told all : List Item) (off : PutOff) → (length told == 0) ≡ true → (told_or told all ≡ all) × (looking_by told off ≡ none_off) × (told ≡ [])
none_is_told [] all off none = (refl, refl, refl)
none_is_told (item ∷ told) all off none = absurd (true≢false (sym none ∙ not_zero (length told)))

-- as many are put off and looked at as were put off
pub looked_count : (off : PutOff) → length (looked_at off) + count_off (looking off) ≡ count_off off
looked_count off = by off.told
  where
    by : (told : List Item) → length (told_or told (off.stuck ++ off.index)) + count_off (looking_by told off) ≡ length off.index + length off.stuck + length told
    by [] = let long = length-append off.stuck off.index in omega (arith, long)
    by (item ∷ told) = omega arith

-- and as many once the index is made, and once a key is told
pub indexed_count : (index : List Item) (old new : PutOff) → old.index ≡ index → IsIndexed index old new → count_off new ≡ count_off old
indexed_count [] old new is h =
    let few = length_permutation old.stuck new.index h.1 in
    let now = ap count_off h.0 in
    let none = ap length is in
    omega (arith, few, now, none)
indexed_count (item ∷ index) old new is h = ap count_off h

pub told_off_count : (key : ℕ) (old new : PutOff) → TellsOff key old new → count_off new ≡ count_off old
told_off_count key old new (mid, is, told) =
    let same = indexed_count old.index old mid refl is in
    let both = length-filter_both (has key) (lacks key) (λ item. refl) mid.index in
    let long = length-append mid.told (filter (has key) mid.index) in
    let now = ap count_off told in
    omega (arith, same, both, long, now)

-- the index stays as long as there are some in it, and is made of those that were put off since
pub index_stays : (index : List Item) (off : PutOff) → 0 < length index → IsIndexed index off off
index_stays [] off some = absurd (omega (arith, some))
index_stays (item ∷ index) off some = refl

pub index_made : (index : List Item) (old new : PutOff) → length index ≡ 0 → IsIndexed [] old new → IsIndexed index old new
index_made [] old new none h = h
index_made (item ∷ index) old new none h = absurd (omega (arith, none))

pub index_of : (items : List Item) (before rows : List Row) → before ≡ map fresh items → IsPermutation before rows → IsPermutation items (untold rows)
index_of items before rows is sorted =
    let p = subst (λ xs. IsPermutation xs rows) is sorted in
    indexed items rows p (All-permutation (λ (row : Row). row.told ≡ false) (map fresh items) rows p (fresh_untold items))

-- a list that is written back whole
pub written_whole : {X : Type 0} (n : ℕ) (xs ys : List X) → n ≡ length xs → take n (xs ++ ys) ≡ xs
written_whole n xs ys is = take-append-le n xs ys (omega (arith, is)) ∙ take_all n xs (omega (arith, is))
