-- The entries at places of a set: their list, one that is in it, and how they are gathered at the front.
use Rattle.std.proofs.Common.{◌≡◌, ◌≢◌, ℕ, ◌+◌, ◌-◌, ◌<◌, ◌≤◌, Bool, true, false, cond, not, ◌&&◌, ◌||◌, List, [], ◌∷◌, ◌++◌, length, drop, take, set, refl, sym, ap, ◌∙◌, ⊎_elim, arith, suc, zero, ◌==◌, Some, Contains, slice_get, IsFalse, nat_le, nat_lt}
use Rattle.std.proofs.lemmas.Option.{none-some, get_or_from_slice_get}
use Rattle.std.proofs.Math.Seq.{take-length, take-add}
use Rattle.std.proofs.Math.Nat.{min-le_left}
use Rattle.std.proofs.lemmas.List.{append-nil, length-take, length-take-le, take_more, take_more_set}
use Rattle.std.proofs.lemmas.Bool.{ne_eqb, eq-eqb, cases_lt, cases_eq, lt-ltb, le-ltb, le-leb, lt-leb}
use Rattle.std.specs.FinSet.{contains, insert, remove}
use Rattle.fz_model.proofs.Lists.{place_of, contains_at}
use Rattle.fz_model.specs.declared.answers.Entry.{Entry}
use Rattle.fz_bits.specs.Flags.{Set, IsNext}
use Rattle.fz_model.proofs.Sets.{has_inserted, has_removed}
use Rattle.fz_finalizers.specs.Queue.{placed_in}

-- ---- the entries at places of a set

pub placed_same : (p q : Set) (first : ℕ) (es : List Entry) → ((k : ℕ) → k < length es → contains p (first + k) ≡ contains q (first + k)) → placed_in p first es ≡ placed_in q first es
placed_same p q first [] same = refl
placed_same p q first (e ∷ es) same =
    let here : contains p first ≡ contains q first = ap (contains p) (omega arith) ∙ same 0 (omega arith) ∙ ap (contains q) (omega arith) in
    ap (λ b. cond b (e ∷ placed_in p (first + 1) es) (placed_in p (first + 1) es)) here
    ∙ ap (λ ds. cond (contains q first) (e ∷ ds) ds) (placed_same p q (first + 1) es (λ k lt. ap (contains p) (omega arith) ∙ same (suc k) (omega (arith, lt)) ∙ ap (contains q) (omega arith)))

pub placed_all : (p : Set) (first : ℕ) (es : List Entry) → ((k : ℕ) → k < length es → contains p (first + k) ≡ true) → placed_in p first es ≡ es
placed_all p first [] all = refl
placed_all p first (e ∷ es) all =
    ap (λ b. cond b (e ∷ placed_in p (first + 1) es) (placed_in p (first + 1) es)) (ap (contains p) (omega arith) ∙ all 0 (omega arith))
    ∙ ap (λ ds. e ∷ ds) (placed_all p (first + 1) es (λ k lt. ap (contains p) (omega arith) ∙ all (suc k) (omega (arith, lt))))

pub placed_none : (p : Set) (first : ℕ) (es : List Entry) → ((k : ℕ) → k < length es → contains p (first + k) ≡ false) → placed_in p first es ≡ []
placed_none p first [] none = refl
placed_none p first (e ∷ es) none =
    ap (λ b. cond b (e ∷ placed_in p (first + 1) es) (placed_in p (first + 1) es)) (ap (contains p) (omega arith) ∙ none 0 (omega arith))
    ∙ placed_none p (first + 1) es (λ k lt. ap (contains p) (omega arith) ∙ none (suc k) (omega (arith, lt)))

pub placed-append : (p : Set) (first : ℕ) (es more : List Entry) → placed_in p first (es ++ more) ≡ placed_in p first es ++ placed_in p (first + length es) more
placed-append p first [] more = ap (λ n. placed_in p n more) (omega arith)
placed-append p first (e ∷ es) more =
    let rest = placed-append p (first + 1) es more ∙ ap (λ n. placed_in p (first + 1) es ++ placed_in p n more) (omega arith) in
    ap (λ ds. cond (contains p first) (e ∷ ds) ds) rest
    ∙ elim (contains p first) as (λ b. cond b (e ∷ (placed_in p (first + 1) es ++ placed_in p (first + length (e ∷ es)) more)) (placed_in p (first + 1) es ++ placed_in p (first + length (e ∷ es)) more) ≡ cond b (e ∷ placed_in p (first + 1) es) (placed_in p (first + 1) es) ++ placed_in p (first + length (e ∷ es)) more) [
      | true ↦ refl
      | false ↦ refl
    ]

pub few_placed : (p : Set) (first : ℕ) (es : List Entry) → length (placed_in p first es) ≤ length es
few_placed p first [] = omega arith
few_placed p first (e ∷ es) =
    elim (contains p first) as (λ b. length (cond b (e ∷ placed_in p (first + 1) es) (placed_in p (first + 1) es)) ≤ length (e ∷ es)) [
      | true ↦ omega (arith, few_placed p (first + 1) es)
      | false ↦ omega (arith, few_placed p (first + 1) es)
    ]

pub placed_at : (p : Set) (first : ℕ) (es : List Entry) (k : ℕ) (e : Entry) → slice_get es k ≡ Some e → contains p (first + k) ≡ true → (i : ℕ) × (slice_get (placed_in p first es) i ≡ Some e)
placed_at p first [] k e at on = absurd (none-some e at)
placed_at p first (d ∷ es) zero e at on = (0, ap (λ b. slice_get (cond b (d ∷ placed_in p (first + 1) es) (placed_in p (first + 1) es)) 0) (ap (contains p) (omega arith) ∙ on) ∙ at)
placed_at p first (d ∷ es) (suc k) e at on =
    let rest = placed_at p (first + 1) es k e at (ap (contains p) (omega arith) ∙ on) in
    elim (contains p first) as (λ b. (i : ℕ) × (slice_get (cond b (d ∷ placed_in p (first + 1) es) (placed_in p (first + 1) es)) i ≡ Some e)) [ true ↦ (suc rest.0, rest.1) | false ↦ rest ]

pub place_in : (p : Set) (first : ℕ) (es : List Entry) (i : ℕ) (e : Entry) → slice_get (placed_in p first es) i ≡ Some e → (k : ℕ) × (slice_get es k ≡ Some e) × (contains p (first + k) ≡ true)
place_in p first [] i e at = absurd (none-some e at)
place_in p first (d ∷ es) i e at = from (λ j. place_in p (first + 1) es j e) (contains p first) refl i at
  where
    from : ((j : ℕ) → slice_get (placed_in p (first + 1) es) j ≡ Some e → (k : ℕ) × (slice_get es k ≡ Some e) × (contains p (first + 1 + k) ≡ true)) → (b : Bool) → contains p first ≡ b → (i : ℕ) → slice_get (cond b (d ∷ placed_in p (first + 1) es) (placed_in p (first + 1) es)) i ≡ Some e → (k : ℕ) × (slice_get (d ∷ es) k ≡ Some e) × (contains p (first + k) ≡ true)
    from rest true on zero at = (0, at, ap (contains p) (omega arith) ∙ on)
    from rest true on (suc i) at = let there = rest i at in (suc there.0, there.1, ap (contains p) (omega arith) ∙ there.2)
    from rest false off i at = let there = rest i at in (suc there.0, there.1, ap (contains p) (omega arith) ∙ there.2)

pub stands_in : (p : Set) (es : List Entry) (d : Entry) → Contains (placed_in p 0 es) d → (k : ℕ) × (slice_get es k ≡ Some d) × (contains p k ≡ true)
stands_in p es d c =
    let i = place_of (placed_in p 0 es) d c in
    let there = place_in p 0 es i.0 d i.1 in
    (there.0, there.1, ap (contains p) (omega arith) ∙ there.2)

pub is_in : (p : Set) (es : List Entry) (k : ℕ) (d : Entry) → slice_get es k ≡ Some d → contains p k ≡ true → Contains (placed_in p 0 es) d
is_in p es k d at on = let i = placed_at p 0 es k d at (ap (contains p) (omega arith) ∙ on) in contains_at (placed_in p 0 es) i.0 d i.1

-- ---- entries at the places of a set go to the front, one after another

slice_get-set_other : {X : Type 0} (xs : List X) (i : ℕ) (y : X) (k : ℕ) → i ≢ k → slice_get (set xs i y) k ≡ slice_get xs k
slice_get-set_other [] i y k ne = refl
slice_get-set_other (x ∷ xs) zero y zero ne = absurd (ne refl)
slice_get-set_other (x ∷ xs) zero y (suc k) ne = refl
slice_get-set_other (x ∷ xs) (suc i) y zero ne = refl
slice_get-set_other (x ∷ xs) (suc i) y (suc k) ne = slice_get-set_other xs i y k (λ same. ne (ap suc same))

module _ (held : Set) (old : List Entry) where
  -- past the last place of the set nothing comes
  placed_take : (from place : ℕ) → from ≤ place → place ≤ length old → ((n : ℕ) → from ≤ n → n < place → contains held n ≡ false) → placed_in held 0 (take place old) ≡ placed_in held 0 (take from old)
  placed_take from place le within none =
      let size = length-take-le from old (omega (arith, le, within)) in
      let whole : take place old ≡ take from old ++ take (place - from) (drop from old) = ap (λ n. take n old) {x = place} (omega (arith, le)) ∙ take-add from (place - from) old in
      let rest = length-take (place - from) (drop from old) in
      ap (placed_in held 0) whole ∙ placed-append held 0 (take from old) (take (place - from) (drop from old))
      ∙ ap (λ ds. placed_in held 0 (take from old) ++ ds) (placed_none held (0 + length (take from old)) (take (place - from) (drop from old)) (λ k lt. none (0 + length (take from old) + k) (omega (arith, size)) (omega (arith, size, lt, rest, min-le_left (place - from) (length (drop from old)), le))))
      ∙ append-nil (placed_in held 0 (take from old))

  module _ (now : Set) (entries : List Entry) (count from : ℕ) (low : count ≤ from) (within : from ≤ length old) (same : length entries ≡ length old) (places : (n : ℕ) → contains now n ≡ (nat_lt n count || (nat_le from n && contains held n))) (front : take count entries ≡ placed_in held 0 (take from old)) (rest : (k : ℕ) → from ≤ k → slice_get entries k ≡ slice_get old k) where
    still : (n : ℕ) → from ≤ n → contains now n ≡ contains held n
    still n ge = places n ∙ ap (λ b. b || (nat_le from n && contains held n)) (le-ltb n count (omega (arith, low, ge))) ∙ ap (λ b. b && contains held n) (le-leb from n ge)

    pub all_gathered : ((n : ℕ) → from ≤ n → IsFalse (contains now n)) → take count entries ≡ placed_in held 0 old
    all_gathered none =
        front
        ∙ sym (placed_take from (length old) within (omega arith) (λ n ge lt. sym (still n ge) ∙ none n ge))
        ∙ ap (placed_in held 0) (take-length old)

    pub places_gathered : ((n : ℕ) → from ≤ n → IsFalse (contains now n)) → (n : ℕ) → contains now n ≡ nat_lt n count
    places_gathered none n =
        ⊎_elim
        (λ (lt : n < from). places n ∙ ap (λ b. nat_lt n count || (b && contains held n)) (lt-leb from n lt) ∙ or_false (nat_lt n count))
        (λ (ge : from ≤ n). none n ge ∙ sym (le-ltb n count (omega (arith, low, ge))))
        (cases_lt n from)
      where
        or_false : (b : Bool) → (b || false) ≡ b
        or_false true = refl
        or_false false = refl

    module _ (place : ℕ) (next : IsNext now from place) where
      none : (n : ℕ) → from ≤ n → n < place → contains held n ≡ false
      none n ge lt = sym (still n ge) ∙ next.before n ge lt

      pub is_on : contains held place ≡ true
      is_on = sym (still place next.after) ∙ next.member

      pub places_next : (n : ℕ) → contains (insert (remove now place) count) n ≡ (nat_lt n (count + 1) || (nat_le (place + 1) n && contains held n))
      places_next n =
          has_inserted (remove now place) count n ∙ ap (λ b. n == count || b) (has_removed now place n)
          ∙ ⊎_elim
          (λ (lt : n < count).
          ap (λ b. b || (not (n == place) && contains now n)) (ne_eqb n count (omega (arith, lt)))
          ∙ ap (λ b. not b && contains now n) (ne_eqb n place (omega (arith, lt, low, after)))
          ∙ places n ∙ ap (λ b. b || (nat_le from n && contains held n)) (lt-ltb n count lt)
          ∙ ap (λ b. b || (nat_le (place + 1) n && contains held n)) (sym (lt-ltb n (count + 1) (omega (arith, lt)))))
          (λ (ge : count ≤ n).
          ⊎_elim
          (λ (is : n ≡ count).
          ap (λ b. b || (not (n == place) && contains now n)) (eq-eqb n count is)
          ∙ ap (λ b. b || (nat_le (place + 1) n && contains held n)) (sym (lt-ltb n (count + 1) (omega (arith, is)))))
          (λ (ne : n ≢ count).
          ap (λ b. b || (not (n == place) && contains now n)) (ne_eqb n count ne)
          ∙ later (omega (arith, ge, ne))
          ∙ ap (λ b. b || (nat_le (place + 1) n && contains held n)) (sym (le-ltb n (count + 1) (omega (arith, ge, ne)))))
          (cases_eq n count))
          (cases_lt n count)
        where
          after : from ≤ place
          after = next.after

          later : count < n → (not (n == place) && contains now n) ≡ (nat_le (place + 1) n && contains held n)
          later gt =
              ⊎_elim
              (λ (lt : n < place).
              ap (λ b. not b && contains now n) (ne_eqb n place (omega (arith, lt)))
              ∙ ⊎_elim
              (λ (before : n < from). places n ∙ ap (λ b. b || (nat_le from n && contains held n)) (le-ltb n count (omega (arith, gt))) ∙ ap (λ b. b && contains held n) (lt-leb from n before))
              (λ (from_on : from ≤ n). next.before n from_on lt)
              (cases_lt n from)
              ∙ ap (λ b. b && contains held n) (sym (lt-leb (place + 1) n (omega (arith, lt)))))
              (λ (ge : place ≤ n).
              ⊎_elim
              (λ (is : n ≡ place). ap (λ b. not b && contains now n) (eq-eqb n place is) ∙ ap (λ b. b && contains held n) (sym (lt-leb (place + 1) n (omega (arith, is)))))
              (λ (ne : n ≢ place). ap (λ b. not b && contains now n) (ne_eqb n place ne) ∙ still n (omega (arith, ge, after)) ∙ ap (λ b. b && contains held n) (sym (le-leb (place + 1) n (omega (arith, ge, ne)))))
              (cases_eq n place))
              (cases_lt n place)

      module _ (x : Entry) (inside : place < length old) (at : slice_get entries place ≡ Some x) where
        here : slice_get old place ≡ Some x
        here = sym (rest place next.after) ∙ at

        pub front_next : take (count + 1) (set entries count x) ≡ placed_in held 0 (take (place + 1) old)
        front_next =
            let after = next.after in
            let size = length-take-le place old (omega (arith, inside)) in
            take_more_set entries count x (omega (arith, low, after, inside, same))
            ∙ ap (λ ds. ds ++ x ∷ []) (front ∙ sym (placed_take from place after (omega (arith, inside)) none))
            ∙ ap (λ ds. placed_in held 0 (take place old) ++ ds) (sym (placed_all held (0 + length (take place old)) (x ∷ []) (λ k lt. ap (contains held) (omega (arith, size, lt)) ∙ is_on)))
            ∙ sym (placed-append held 0 (take place old) (x ∷ []))
            ∙ ap (λ (y : Entry). placed_in held 0 (take place old ++ y ∷ [])) (sym (get_or_from_slice_get old place x x here))
            ∙ ap (placed_in held 0) (sym (take_more old place x inside))

        pub rest_next : (k : ℕ) → place + 1 ≤ k → slice_get (set entries count x) k ≡ slice_get old k
        rest_next k ge = let after = next.after in slice_get-set_other entries count x k (omega (arith, ge, after, low)) ∙ rest k (omega (arith, ge, after))
