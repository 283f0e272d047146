-- Cleanups in order: a map has no fewer, and what is due of them stays in order.
use Rattle.std.proofs.Common.{◌≡◌, ◌≢◌, ◌≤◌, ◌<◌, ◌+◌, ◌++◌, ◌∷◌, ◌∙◌, [], ℕ, Bool, true, false, cond, List, length, length-append, refl, filter, get_or, Option, Some, None, All, AllPairs, Contains, not, ◌&&◌, is_some, sym, ap, subst, ⊎_elim, arith, zero, suc, IsTrue, append-nil}
use Rattle.std.proofs.lemmas.Bool.{and_parts, true≢false}
use Rattle.std.proofs.lemmas.List.Elements.{All-filter, All-head, filter-append, filter_passes}
use Rattle.std.proofs.lemmas.List.Kept.{AllPairs-filter}
use Rattle.std.proofs.lemmas.List.{get_or_append_left, length-map}
use Rattle.std.proofs.lemmas.Option.{same_Some}
use Rattle.std.proofs.Math.Seq.{get_or-append_seam}
use Rattle.std.specs.FinMap.{entries, get, keys, len, len-entries, remove, retain_keys}
use Rattle.std.specs.Option.{option_map_or}
use Rattle.fz_model.specs.State.{Map}
use Rattle.fz_model.specs.declared.kinds.LinkKind.{LinkKind}
use Rattle.fz_model.specs.declared.kinds.LinkKind.TheVariants.{Short, Long}
use Rattle.fz_model.proofs.Lists.{contains_at, place_of}
use Rattle.fz_model.proofs.Counts.{count_not, len_retained}
use Rattle.fz_model.proofs.Maps.{get-remove_other, get-retain}
use Rattle.fz_finalizers.specs.declared.cleanups.Attached.{Attached}
use Rattle.fz_finalizers.specs.Cleanups.{AreDue, ComesFirst, is_due, is_when}
use Rattle.fz_finalizers.proofs.Cleaned.{without_back}
use Rattle.fz_finalizers.proofs.Counting.{len_gone}
use Rattle.fz_finalizers.proofs.Promised.{kept_in}

-- one that comes first has another number
pub differs : (m : Map Attached) (x y : ℕ × Attached) → get m x.0 ≡ Some x.1 → get m y.0 ≡ Some y.1 → ComesFirst x y → y.0 ≢ x.0
differs m x y here there first same =
    let one : y.1 ≡ x.1 = same_Some y.1 x.1 (sym there ∙ ap (get m) same ∙ here) in
    let rank : y.1.cleanup.rank ≡ x.1.cleanup.rank = ap (λ (c : Attached). c.cleanup.rank) one in
    ⊎_elim (λ less. absurd (omega (arith, less, rank))) (λ less. absurd (omega (arith, less.1, same))) first

-- each is in the map
abbrev AreThere : Map Attached → List (ℕ × Attached) → Type 0
AreThere m = All (λ (x : ℕ × Attached). get m x.0 ≡ Some x.1)

-- each has a number of its own
abbrev AreApart : List (ℕ × Attached) → Type 0
AreApart = AllPairs (λ (x y : ℕ × Attached). y.0 ≢ x.0)

-- a map has at least as many
few : (m : Map Attached) (cs : List (ℕ × Attached)) → AreThere m cs → AreApart cs → length cs ≤ len m
few m [] each apart = omega arith
few m (x ∷ xs) each apart =
    let here : get m x.0 ≡ Some x.1 = All-head (λ (y : ℕ × Attached). get m y.0 ≡ Some y.1) x xs each in
    let gone = len_gone m x.0 (ap is_some here) in
    let rest = few (remove m x.0) xs others (λ i j d lt within. apart (suc i) (suc j) d (omega (arith, lt)) (omega (arith, within))) in
    omega (arith, gone, rest)
  where
    others : All (λ (y : ℕ × Attached). get (remove m x.0) y.0 ≡ Some y.1) xs
    others k d within =
        get-remove_other m x.0 (get_or xs k d).0 (apart zero (suc k) d (omega arith) (omega (arith, within))) ∙ each (suc k) d (omega (arith, within))

apart_in_order : (m : Map Attached) (cs : List (ℕ × Attached)) → AreThere m cs → AllPairs ComesFirst cs → AreApart cs
apart_in_order m cs each ordered i j d lt within = differs m (get_or cs i d) (get_or cs j d) (each i d (omega (arith, lt, within))) (each j d within) (ordered i j d lt within)

-- ---- short and long ones

-- cleanups of the map that are of this moment, in order
pub record AreOf (when : LinkKind) (m : Map Attached) (cs : List (ℕ × Attached)) : Type 0 where
  pub each : All (λ (x : ℕ × Attached). (get m x.0 ≡ Some x.1) × IsTrue (is_when when x.1.cleanup.when)) cs
  pub ordered : AllPairs ComesFirst cs

-- the map has at most as many of them
abbrev pub HasOf : LinkKind → ℕ → Map Attached → Type 0
HasOf when most m = (cs : List (ℕ × Attached)) → AreOf when m cs → length cs ≤ most

pub fewer_of : (when : LinkKind) (most : ℕ) (m : Map Attached) (number : ℕ) → HasOf when most m → HasOf when most (remove m number)
fewer_of when most m number has cs are = has cs (record {
  each = λ k d within. let of = are.each k d within in ((without_back m ((number, (get_or cs k d).1) ∷ []) (get_or cs k d).0 (get_or cs k d).1 of.0).0, of.1);
  ordered = are.ordered;
})

abbrev is_of : LinkKind → Map Attached → ℕ → Bool
is_of when m number = option_map_or (λ (c : Attached). is_when when c.cleanup.when) (get m number) false

-- cleanups of this moment are among those for which a test holds
within_test : (when : LinkKind) (m : Map Attached) (test : ℕ → Bool) → ((x : ℕ × Attached) → get m x.0 ≡ Some x.1 → IsTrue (is_when when x.1.cleanup.when) → IsTrue (test x.0)) → HasOf when (len (retain_keys m test)) m
within_test when m test holds cs are = few (retain_keys m test) cs there (apart_in_order m cs (λ k d within. (are.each k d within).0) are.ordered)
  where
    there : AreThere (retain_keys m test) cs
    there k d within =
        let of = are.each k d within in
        let x : ℕ × Attached = get_or cs k d in
        get-retain m test x.0 ∙ ap (λ b. cond b (get m x.0) None) (holds x of.0 of.1) ∙ of.0

not_both : (when : LinkKind) → IsTrue (is_when Short when) → IsTrue (is_when Long when) → ⊥
not_both Short short long = true≢false (sym long)
not_both Long short long = true≢false (sym short)

-- short and long ones together are no more than there are
pub both_kinds : (m : Map Attached) → (short : ℕ) × (long : ℕ) × HasOf Short short m × HasOf Long long m × (short + long ≡ len m)
both_kinds m = (len (retain_keys m test), len (retain_keys m (λ k. not (test k))), within_test Short m test short_on, within_test Long m (λ k. not (test k)) long_off, count)
  where
    test : ℕ → Bool
    test = is_of Short m

    test_is : (x : ℕ × Attached) → get m x.0 ≡ Some x.1 → test x.0 ≡ is_when Short x.1.cleanup.when
    test_is x here = ap (λ (o : Option Attached). option_map_or (λ (c : Attached). is_when Short c.cleanup.when) o false) here

    short_on : (x : ℕ × Attached) → get m x.0 ≡ Some x.1 → IsTrue (is_when Short x.1.cleanup.when) → IsTrue (test x.0)
    short_on x here is = test_is x here ∙ is

    long_off : (x : ℕ × Attached) → get m x.0 ≡ Some x.1 → IsTrue (is_when Long x.1.cleanup.when) → IsTrue (not (test x.0))
    long_off x here is = by (test x.0) refl
      where
        by : (b : Bool) → test x.0 ≡ b → IsTrue (not b)
        by false off = refl
        by true on = absurd (not_both x.1.cleanup.when (sym (test_is x here) ∙ on) is)

    count : len (retain_keys m test) + len (retain_keys m (λ k. not (test k))) ≡ len m
    count =
        let on = len_retained test m in
        let off = len_retained (λ k. not (test k)) m in
        let both = count_not test (keys m) in
        let all = len-entries m ∙ sym (length-map (entries m) (λ (e : ℕ × Attached). e.0)) in
        omega (arith, on, off, both, all)

-- ---- what is due among them

-- one of them is in the map, and those before it have other numbers
pub others_before : (test : Attached → Bool) (m : Map Attached) (past : List (ℕ × Attached)) (e : ℕ × Attached) (rest : List (ℕ × Attached)) → AreDue test m (past ++ e ∷ rest)
    → (get m e.0 ≡ Some e.1) × All (λ (y : ℕ × Attached). y.0 ≢ e.0) past
others_before test m past e rest are = (here e, λ k d within same. differs m (get_or past k d) e (there k d within) (here d) (before k d within) (sym same))
  where
    long : length (past ++ e ∷ rest) ≡ length past + length (e ∷ rest)
    long = length-append past (e ∷ rest)

    here : (d : ℕ × Attached) → get m e.0 ≡ Some e.1
    here d = subst (λ (y : ℕ × Attached). get m y.0 ≡ Some y.1) (get_or-append_seam past e rest d) (are.each (length past) d (let count = long in omega (arith, count))).0

    there : (k : ℕ) (d : ℕ × Attached) → k < length past → get m (get_or past k d).0 ≡ Some (get_or past k d).1
    there k d within = subst (λ (y : ℕ × Attached). get m y.0 ≡ Some y.1) (get_or_append_left past (e ∷ rest) d k within) (are.each k d (let count = long in omega (arith, count, within))).0

    before : (k : ℕ) (d : ℕ × Attached) → k < length past → ComesFirst (get_or past k d) e
    before k d within =
        subst (ComesFirst (get_or past k d)) (get_or-append_seam past e rest d)
        (subst (λ (y : ℕ × Attached). ComesFirst y (get_or (past ++ e ∷ rest) (length past) d)) (get_or_append_left past (e ∷ rest) d k within) (are.ordered k (length past) d within (let count = long in omega (arith, count))))

-- those whose objects aren't in the set
abbrev pub due_in : (ℕ → Bool) → List (ℕ × Attached) → List (ℕ × Attached)
due_in set cs = filter (λ (e : ℕ × Attached). not (set e.1.object)) cs

pub due_more : (set : ℕ → Bool) (cs : List (ℕ × Attached)) (e : ℕ × Attached) (on : Bool) → on ≡ set e.1.object → due_in set (cs ++ e ∷ []) ≡ cond on (due_in set cs) (due_in set cs ++ e ∷ [])
due_more set cs e on is = filter-append (λ (x : ℕ × Attached). not (set x.1.object)) cs (e ∷ []) ∙ ap (λ b. due_in set cs ++ cond (not b) (e ∷ []) []) (sym is) ∙ by on
  where
    by : (b : Bool) → due_in set cs ++ cond (not b) (e ∷ []) [] ≡ cond b (due_in set cs) (due_in set cs ++ e ∷ [])
    by true = append-nil (due_in set cs)
    by false = refl

module _ (when : LinkKind) (set : ℕ → Bool) (test : Attached → Bool) (m : Map Attached) (cs : List (ℕ × Attached)) where
  abbrev stays : ℕ × Attached → Bool
  stays e = not (set e.1.object)

  -- those that are due, if all of them pass the test
  pub record HasDue : Type 0 where
    pub each : All (λ (x : ℕ × Attached). (get m x.0 ≡ Some x.1) × IsTrue (is_due when set x.1)) (due_in set cs)
    pub whole : (number : ℕ) (c : Attached) → IsTrue (test c) → get m number ≡ Some c → IsTrue (is_due when set c) → Contains (due_in set cs) (number, c)
    pub ordered : AllPairs ComesFirst (due_in set cs)

  pub are_due : ((c : Attached) → IsTrue (test c) → IsTrue (is_when when c.cleanup.when)) → AreDue test m cs → HasDue
  are_due of_moment are = record {
    each = λ k d within.
        let of = All-filter stays (λ (x : ℕ × Attached). (get m x.0 ≡ Some x.1) × IsTrue (test x.1)) cs are.each k d within in
        let off = filter_passes stays cs k d within in
        (of.0, both (is_when when (get_or (due_in set cs) k d).1.cleanup.when) (stays (get_or (due_in set cs) k d)) (of_moment (get_or (due_in set cs) k d).1 of.1) off);
    whole = λ number c tested here on.
        let parts = and_parts (is_when when c.cleanup.when) (not (set c.object)) on in
        let found = place_of cs (number, c) (are.whole number c here tested) in
        let left = kept_in stays cs found.0 (number, c) found.1 parts.1 in
        contains_at (due_in set cs) left.0 (number, c) left.1;
    ordered = AllPairs-filter ComesFirst stays cs are.ordered;
  }
    where
      both : (x y : Bool) → IsTrue x → IsTrue y → IsTrue (x && y)
      both x y on off = ap (λ b. b && y) on ∙ off
