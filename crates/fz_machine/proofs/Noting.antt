-- A table of regions: what is noted in it, and what was told, before and after a change.
use Rattle.std.proofs.Common.{All, ◌≡◌, ◌≢◌, ◌⊎◌, inl, inr, ℕ, zero, suc, min, ◌+◌, ◌-◌, ◌^◌, ◌<◌, ◌≤◌, Bool, true, false, true≢false, not, ◌&&◌, cond, is_some, List, [], ◌∷◌, ◌++◌, map, take, drop, zip, set, get_or, length, slice_get, position, Option, Some, None, option_map, IsTrue, nat_eq, refl, sym, ap, subst, ◌∙◌, ⊎_elim, append_assoc, arith, bit_or, bit_and}
use Rattle.std.proofs.lemmas.Bool.{cases_eq, cases_lt, eq-eqb, eqb-true, ne_eqb}
use Rattle.std.proofs.lemmas.List.{drop-drop, take_all, take-append-le, take_more, take_more_set, length-drop, length-map, length-take}
use Rattle.std.proofs.lemmas.List.Elements.{All-take, All-drop, Contains-get_or}
use Rattle.std.proofs.lemmas.List.Quantifiers.{position-Some}
use Rattle.std.proofs.lemmas.Map.Made.{is_some-lookup, lookup-map_values}
use Rattle.std.proofs.lemmas.Map.Views.{list_any-from_Contains, lookup-from_Contains}
use Rattle.std.proofs.lemmas.Option.{none-some, same_Some, slice_get-get_or, slice_get_within, get_or_from_slice_get}
use Rattle.std.proofs.Math.Seq.{take-nil}
use Rattle.std.specs.Cmp.{nat_eq_equiv}
use Rattle.std.specs.List.{AllByRecursion, IsDistinct, list_any}
use Rattle.std.specs.Map.{keys_of, values_of, lookup, set_value}
use Rattle.std.specs.Option.{IfSome, option_map_or}
use Rattle.indexmap.specs.IndexMap.{IndexMap, insert_entry, set_value_at}
use Rattle.indexmap.proofs.CallerLemmas.{insert_entry-new, updates-with_value_at}
use Rattle.fz_model.specs.Bits.{has_bit}
use Rattle.fz_model.proofs.Bits.{no_bits}
use Rattle.fz_machine.specs.declared.regions.Noted.{Noted}
use Rattle.fz_machine.specs.Regions.{Regions, begun, place_in, placed, region_of, has_place, is_marked, is_unmarked, worded, AreRegions, IsNoted}
use Rattle.fz_machine.proofs.Places.{in_both, set_here, set_there, tested}

-- ---- what is noted, by the entries

abbrev pub places_of : Noted → ℕ
places_of v = v.places

abbrev pub told_of : Noted → ℕ
told_of v = v.told

abbrev pub bits_at : Option Noted → ℕ → Bool
bits_at o n = option_map_or (λ (bits : ℕ). has_bit bits (place_in n)) (option_map places_of o) false

pub noted_by : (es : List (ℕ × Noted)) (n : ℕ) → has_place (map placed es) n ≡ bits_at (lookup (nat_eq (region_of n)) es) n
noted_by es n = ap (λ (o : Option ℕ). option_map_or (λ (bits : ℕ). has_bit bits (place_in n)) o false) (lookup-map_values places_of (nat_eq (region_of n)) es)

-- ---- what is noted after the bits of one region change

module _ (es ns : List (ℕ × Noted)) (region : ℕ) (new : Option Noted) (updates : (q : ℕ) → lookup (nat_eq q) ns ≡ cond (nat_eq region q) new (lookup (nat_eq q) es)) where
  other_entry : (q : ℕ) → q ≢ region → lookup (nat_eq q) ns ≡ lookup (nat_eq q) es
  other_entry q ne = updates q ∙ ap (λ b. cond b new (lookup (nat_eq q) es)) (ne_eqb region q (λ e. ne (sym e)))

  own_entry : (q : ℕ) → q ≡ region → lookup (nat_eq q) ns ≡ new
  own_entry q is = updates q ∙ ap (λ b. cond b new (lookup (nat_eq q) es)) (eq-eqb region q (sym is))

  pub others_noted : (n : ℕ) → region_of n ≢ region → IsNoted (map placed es) n → IsNoted (map placed ns) n
  others_noted n ne noted = noted_by ns n ∙ ap (λ o. bits_at o n) (other_entry (region_of n) ne) ∙ sym (noted_by es n) ∙ noted

  pub own_noted : (n : ℕ) → region_of n ≡ region → IsTrue (bits_at new n) → IsNoted (map placed ns) n
  own_noted n is on = noted_by ns n ∙ ap (λ o. bits_at o n) (own_entry (region_of n) is) ∙ on

  -- what was noted still is, if the region's bits still are set
  pub still_noted : ((n : ℕ) → region_of n ≡ region → IsNoted (map placed es) n → IsTrue (bits_at new n)) → (n : ℕ) → IsNoted (map placed es) n → IsNoted (map placed ns) n
  still_noted own n noted = ⊎_elim (λ (is : region_of n ≡ region). own_noted n is (own n is noted)) (λ (ne : region_of n ≢ region). others_noted n ne noted) (cases_eq (region_of n) region)

  pub still_regions : place_in region ≡ 0 → ((q : ℕ) → IsTrue (is_some (lookup (nat_eq q) es)) → place_in q ≡ 0) → (q : ℕ) → IsTrue (is_some (lookup (nat_eq q) ns)) → place_in q ≡ 0
  still_regions begin before q there =
      ⊎_elim
      (λ (is : q ≡ region). ap place_in is ∙ begin)
      (λ (ne : q ≢ region). before q (sym (ap is_some (other_entry q ne)) ∙ there))
      (cases_eq q region)

-- ---- an object or a word is noted

module _ (es : List (ℕ × Noted)) (n region place one : ℕ) (region_is : region ≡ region_of n) (place_is : place ≡ place_in n) (one_is : one ≡ 2 ^ place) (v w : Noted) (found : lookup (nat_eq region) es ≡ Some v)
    (with_it : w.places ≡ bit_or v.places one) (ns : List (ℕ × Noted)) (updates : (q : ℕ) → lookup (nat_eq q) ns ≡ cond (nat_eq region q) (Some w) (lookup (nat_eq q) es)) where
  pub noted_after : IsNoted (map placed ns) n
  noted_after =
      own_noted es ns region (Some w) updates n (sym region_is)
      (ap (λ k. has_bit k (place_in n)) with_it ∙ ap (λ k. has_bit (bit_or v.places one) k) (sym place_is) ∙ ap (λ k. has_bit (bit_or v.places k) place) one_is ∙ set_here v.places place)

  pub noted_still : (other : ℕ) → IsNoted (map placed es) other → IsNoted (map placed ns) other
  noted_still =
      still_noted es ns region (Some w) updates
      (λ other is noted.
      let was : has_bit v.places (place_in other) ≡ true = sym (ap (λ o. bits_at o other) (ap (λ k. lookup (nat_eq k) es) is ∙ found)) ∙ sym (noted_by es other) ∙ noted in
      ap (λ k. has_bit k (place_in other)) with_it ∙ set_there v.places one (place_in other) was)

-- ---- what was told stays

module _ (test : ℕ → Bool) (v w : Noted) (same : w.told ≡ v.told) where
  pub told_still : (es : List (ℕ × Noted)) (k : ℕ) → lookup test es ≡ Some v → map worded (take k (set_value test es w)) ≡ map worded (take k es)
  told_still [] k found = refl
  told_still (e ∷ es) zero found = refl
  told_still (e ∷ es) (suc k) found = by (test e.0) found (told_still es k)
    where
      by : (b : Bool) → cond b (Some e.1) (lookup test es) ≡ Some v → (lookup test es ≡ Some v → map worded (take k (set_value test es w)) ≡ map worded (take k es))
          → map worded (take (suc k) (cond b ((e.0, w) ∷ es) (e ∷ set_value test es w))) ≡ map worded (take (suc k) (e ∷ es))
      by true here rest = ap (λ t. (e.0, t) ∷ map worded (take k es)) (same ∙ ap told_of (sym (same_Some e.1 v here)))
      by false there rest = ap (λ xs. worded e ∷ xs) (rest there)

-- the keys are the same, whatever is said of regions
pub keys_placed : (es : List (ℕ × Noted)) → keys_of (map placed es) ≡ keys_of es
keys_placed [] = refl
keys_placed (e ∷ es) = ap (λ ks. e.0 ∷ ks) (keys_placed es)

pub keys_worded : (es : List (ℕ × Noted)) → keys_of (map worded es) ≡ keys_of es
keys_worded [] = refl
keys_worded (e ∷ es) = ap (λ ks. e.0 ∷ ks) (keys_worded es)

-- ---- all was told

module _ (es : List (ℕ × Noted)) (heard : ℕ) (whole : keys_of (map worded (take heard es)) ≡ keys_of (map placed es)) where
  pub all_heard : take heard es ≡ es
  all_heard =
      let told = ap length (sym (keys_worded (take heard es)) ∙ whole ∙ keys_placed es) in
      let long = length-take heard es in
      let few = length-map (take heard es) (λ (e : ℕ × Noted). e.0) in
      let all = length-map es (λ (e : ℕ × Noted). e.0) in
      take_all heard es (omega (arith, told, long, few, all))

  pub told_at : (test : ℕ → Bool) → lookup test (map worded (take heard es)) ≡ option_map told_of (lookup test es)
  told_at test = ap (λ xs. lookup test (map worded xs)) all_heard ∙ lookup-map_values told_of test es

  pub found_told : (n region : ℕ) → region ≡ region_of n → (o : Option Noted) → lookup (nat_eq region) es ≡ o → lookup (nat_eq (region_of n)) (map worded (take heard es)) ≡ option_map told_of o
  found_told n region is o found = told_at (nat_eq (region_of n)) ∙ ap (option_map told_of) (ap (λ k. lookup (nat_eq k) es) (sym is) ∙ found)

pub found_there : (es : List (ℕ × Noted)) (n region : ℕ) → region ≡ region_of n → (o : Option Noted) → lookup (nat_eq region) es ≡ o → lookup (nat_eq (region_of n)) (map placed es) ≡ option_map places_of o
found_there es n region is o found = lookup-map_values places_of (nat_eq (region_of n)) es ∙ ap (option_map places_of) (ap (λ k. lookup (nat_eq k) es) (sym is) ∙ found)

-- the first addresses that are left, by the keys
pub keys_taken : (end : ℕ) (es : List (ℕ × Noted)) → keys_of (take end es) ≡ take end (keys_of es)
keys_taken zero es = refl
keys_taken (suc end) [] = refl
keys_taken (suc end) (e ∷ es) = ap (λ ks. e.0 ∷ ks) (keys_taken end es)

pub keys_dropped : (heard : ℕ) (es : List (ℕ × Noted)) → keys_of (drop heard es) ≡ drop heard (keys_of es)
keys_dropped zero es = refl
keys_dropped (suc heard) [] = refl
keys_dropped (suc heard) (e ∷ es) = keys_dropped heard es

pub keys_left : (heard end : ℕ) (es : List (ℕ × Noted)) → keys_of (drop heard (take end es)) ≡ drop heard (take end (keys_of es))
keys_left heard end es = keys_dropped heard (take end es) ∙ ap (drop heard) (keys_taken end es)

pub keys_written : (heard end : ℕ) (ns es : List (ℕ × Noted)) → keys_of ns ≡ keys_of es → keys_of (drop heard (take end ns)) ≡ keys_of (drop heard (take end es))
keys_written heard end ns es same = keys_left heard end ns ∙ ap (λ ks. drop heard (take end ks)) same ∙ sym (keys_left heard end es)

-- ---- the value at an index is another

-- the same keys are regions, each once
pub regions_by_keys : (es ns : List (ℕ × Noted)) → keys_of ns ≡ keys_of es → AreRegions es → AreRegions ns
regions_by_keys es ns same regions = record {
  once = subst (IsDistinct nat_eq) (sym same) regions.once;
  begin = λ q there. regions.begin q (is_some-lookup (nat_eq q) es ∙ ap (list_any (nat_eq q)) (sym same) ∙ sym (is_some-lookup (nat_eq q) ns) ∙ there);
}

pub keys_set : (es : List (ℕ × Noted)) (i : ℕ) (w : Noted) → keys_of (set_value_at es i w) ≡ keys_of es
keys_set [] i w = refl
keys_set (e ∷ es) zero w = refl
keys_set (e ∷ es) (suc i) w = ap (λ ks. e.0 ∷ ks) (keys_set es i w)

pub placed_set : (es : List (ℕ × Noted)) (i : ℕ) (v w : Noted) → slice_get (values_of es) i ≡ Some v → w.places ≡ v.places → map placed (set_value_at es i w) ≡ map placed es
placed_set [] i v w at same = refl
placed_set (e ∷ es) zero v w at same = ap (λ b. (e.0, b) ∷ map placed es) (same ∙ ap places_of (sym (same_Some e.1 v at)))
placed_set (e ∷ es) (suc i) v w at same = ap (λ xs. placed e ∷ xs) (placed_set es i v w at same)

pub worded_set : (es : List (ℕ × Noted)) (k i : ℕ) (v w : Noted) → slice_get (values_of es) i ≡ Some v → w.told ≡ v.told → map worded (take k (set_value_at es i w)) ≡ map worded (take k es)
worded_set [] k i v w at same = refl
worded_set (e ∷ es) zero i v w at same = refl
worded_set (e ∷ es) (suc k) zero v w at same = ap (λ t. (e.0, t) ∷ map worded (take k es)) (same ∙ ap told_of (sym (same_Some e.1 v at)))
worded_set (e ∷ es) (suc k) (suc i) v w at same = ap (λ xs. worded e ∷ xs) (worded_set es k i v w at same)

-- ---- one more word is told

pub zip_none : (ks : List ℕ) → zip {X = ℕ} ks [] ≡ []
zip_none [] = refl
zip_none (k ∷ ks) = refl

told_next : (es : List (ℕ × Noted)) (i end : ℕ) (w : Noted) → i < end → end ≤ length es
    → map worded (take (suc i) (set_value_at es i w)) ≡ map worded (take i es) ++ zip (keys_of (drop i (take end es))) (w.told ∷ [])
told_next [] i end w lt le = absurd (omega (arith, lt, le))
told_next es i zero w lt le = absurd (omega (arith, lt))
told_next (e ∷ es) zero (suc end) w lt le = ap (λ xs. (e.0, w.told) ∷ xs) (sym (zip_none (keys_of (take end es))))
told_next (e ∷ es) (suc i) (suc end) w lt le = ap (λ xs. worded e ∷ xs) (told_next es i end w (omega (arith, lt)) (omega (arith, le)))

pub one_told : (es : List (ℕ × Noted)) (i end : ℕ) (w : Noted) → i < end → end ≤ length es
    → map worded (take (i + 1) (set_value_at es i w)) ≡ map worded (take i es) ++ zip (keys_of (drop i (take end es))) (w.told ∷ [])
one_told es i end w lt le = let next : i + 1 ≡ suc i = omega arith in ap (λ n. map worded (take n (set_value_at es i w))) next ∙ told_next es i end w lt le

pub one_less : (es : List (ℕ × Noted)) (i end : ℕ) (w : Noted) → keys_of (drop (i + 1) (take end (set_value_at es i w))) ≡ drop 1 (keys_of (drop i (take end es)))
one_less es i end w =
    keys_written (i + 1) end (set_value_at es i w) es (keys_set es i w) ∙ keys_left (i + 1) end es ∙ sym (drop-drop 1 i (take end (keys_of es))) ∙ ap (drop 1) (sym (keys_left i end es))

-- the words of a question are told, one after another
heard_next : (told : List (ℕ × ℕ)) (left : List ℕ) (k word : ℕ) (words : List ℕ) → (told ++ zip left (word ∷ [])) ++ zip (take k (drop 1 left)) words ≡ told ++ zip (take (suc k) left) (word ∷ words)
heard_next told [] k word words = ap (λ ks. (told ++ []) ++ zip ks words) (take-nil k) ∙ append_assoc told [] []
heard_next told (region ∷ left) k word words = append_assoc told ((region, word) ∷ zip left []) (zip (take k left) words) ∙ ap (λ (xs : List (ℕ × ℕ)). told ++ ((region, word) ∷ (xs ++ zip (take k left) words))) (zip_none left)

pub one_heard : (told : List (ℕ × ℕ)) (left : List ℕ) (k word : ℕ) (words : List ℕ) → 0 < k
    → (told ++ zip left (word ∷ [])) ++ zip (take (k - 1) (drop 1 left)) words ≡ told ++ zip (take k left) (word ∷ words)
one_heard told left k word words some = let next : suc (k - 1) ≡ k = omega (arith, some) in heard_next told left (k - 1) word words ∙ ap (λ n. told ++ zip (take n left) (word ∷ words)) next

pub all_told : (ks : List ℕ) (k : ℕ) (words : List ℕ) → (k ≡ 0) ⊎ (words ≡ []) → zip (take k ks) words ≡ []
all_told ks k words (inl none) = ap (λ n. zip (take n ks) words) none
all_told ks k words (inr none) = ap (zip (take k ks)) none ∙ zip_none (take k ks)

-- ---- a question

-- an address that is left
pub key_left : (es : List (ℕ × Noted)) (heard end count : ℕ) (e : ℕ × Noted) → heard + count < end → slice_get es (heard + count) ≡ Some e → slice_get (keys_of (drop heard (take end es))) count ≡ Some e.0
key_left [] heard end count e lt at = absurd (none-some e at)
key_left es heard zero count e lt at = absurd (omega (arith, lt))
key_left (f ∷ es) zero (suc end) zero e lt at = ap Some (ap (λ (x : ℕ × Noted). x.0) (same_Some f e at))
key_left (f ∷ es) zero (suc end) (suc count) e lt at = key_left es zero end count e (omega (arith, lt)) (let next : 0 + suc count ≡ suc (0 + count) = omega arith in sym (ap (slice_get (f ∷ es)) next) ∙ at)
key_left (f ∷ es) (suc heard) (suc end) count e lt at = key_left es heard end count e (omega (arith, lt)) (let next : suc heard + count ≡ suc (heard + count) = omega arith in sym (ap (slice_get (f ∷ es)) next) ∙ at)

pub one_written : (ks : List ℕ) (count : ℕ) (about : List ℕ) (k : ℕ) → count < length about → take count about ≡ take count ks → slice_get ks count ≡ Some k → take (count + 1) (set about count k) ≡ take (count + 1) ks
one_written ks count about k room so_far at =
    take_more_set about count k room ∙ ap (λ xs. xs ++ k ∷ []) so_far ∙ sym (take_more ks count k (slice_get_within ks count k at) ∙ ap (λ x. take count ks ++ x ∷ []) (get_or_from_slice_get ks count k k at))

pub length_left : (es : List (ℕ × Noted)) (heard end : ℕ) → end ≤ length es → length (keys_of (drop heard (take end es))) ≡ end - heard
length_left es heard end le =
    let all = length-map (drop heard (take end es)) (λ (e : ℕ × Noted). e.0) in
    let dropped = length-drop heard (take end es) in
    let took = length-take end es in
    omega (arith, all, dropped, took, le)

-- each of them begins where a region does
pub each_begins : (es : List (ℕ × Noted)) (count heard end : ℕ) → AreRegions es → All (λ region. place_in region ≡ 0) (take count (keys_of (drop heard (take end es))))
each_begins es count heard end regions =
    All-take (λ region. place_in region ≡ 0) count (keys_of (drop heard (take end es)))
    (subst (All (λ region. place_in region ≡ 0)) (sym (keys_left heard end es))
    (All-drop (λ region. place_in region ≡ 0) heard (take end (keys_of es)) (All-take (λ region. place_in region ≡ 0) end (keys_of es) (λ k d lt. regions.begin (get_or (keys_of es) k d) (is_some-lookup (nat_eq (get_or (keys_of es) k d)) es ∙ list_any-from_Contains nat_eq_equiv (get_or (keys_of es) k d) (keys_of es) (Contains-get_or (keys_of es) k d lt))))))

-- ---- all that is noted was told marked

-- each noted place of a region was told marked
abbrev pub AreMarked : List (ℕ × Noted) → Type 0
AreMarked es = AllByRecursion (λ (e : ℕ × Noted). bit_and e.1.places e.1.told ≡ e.1.places) es

marked_next : (es : List (ℕ × Noted)) (i : ℕ) (v : Noted) → AreMarked (take i es) → slice_get (values_of es) i ≡ Some v → bit_and v.places v.told ≡ v.places → AreMarked (take (suc i) es)
marked_next [] i v are at all = tt
marked_next (e ∷ es) zero v are at all = (subst (λ (x : Noted). bit_and x.places x.told ≡ x.places) (sym (same_Some e.1 v at)) all, tt)
marked_next (e ∷ es) (suc i) v are at all = (are.0, marked_next es i v are.1 at all)

pub one_marked : (es : List (ℕ × Noted)) (i : ℕ) (v : Noted) → AreMarked (take i es) → slice_get (values_of es) i ≡ Some v → bit_and v.places v.told ≡ v.places → AreMarked (take (i + 1) es)
one_marked es i v are at all = let next : i + 1 ≡ suc i = omega arith in subst (λ n. AreMarked (take n es)) (sym next) (marked_next es i v are at all)

marked_found : (es : List (ℕ × Noted)) (test : ℕ → Bool) (v : Noted) → AreMarked es → lookup test es ≡ Some v → bit_and v.places v.told ≡ v.places
marked_found [] test v are found = absurd (none-some v found)
marked_found (e ∷ es) test v are found = by (test e.0) (λ there. marked_found es test v are.1 there) found
  where
    by : (b : Bool) → (lookup test es ≡ Some v → bit_and v.places v.told ≡ v.places) → cond b (Some e.1) (lookup test es) ≡ Some v → bit_and v.places v.told ≡ v.places
    by true rest here = subst (λ (x : Noted). bit_and x.places x.told ≡ x.places) (same_Some e.1 v here) are.0
    by false rest there = rest there

set_in_both : (a b i : ℕ) → bit_and a b ≡ a → has_bit a i ≡ true → has_bit b i ≡ true
set_in_both a b i all on = sym (ap (λ x. x && has_bit b i) on) ∙ sym (in_both a b i) ∙ ap (λ k. has_bit k i) all ∙ on

module _ (es : List (ℕ × Noted)) (heard : ℕ) (whole : keys_of (map worded (take heard es)) ≡ keys_of (map placed es)) (are : AreMarked es) where
  pub marked_all : (n : ℕ) → IsNoted (map placed es) n → IsTrue (is_marked (map worded (take heard es)) n)
  marked_all n noted = by (lookup (nat_eq (region_of n)) es) refl
    where
      by : (o : Option Noted) → lookup (nat_eq (region_of n)) es ≡ o → IsTrue (is_marked (map worded (take heard es)) n)
      by None is = absurd (true≢false (sym noted ∙ noted_by es n ∙ ap (λ o. bits_at o n) is))
      by (Some v) is =
          let on : has_bit v.places (place_in n) ≡ true = sym (ap (λ o. bits_at o n) is) ∙ sym (noted_by es n) ∙ noted in
          let all = marked_found es (nat_eq (region_of n)) v are is in
          ap (λ (o : Option ℕ). option_map_or (λ (bits : ℕ). has_bit bits (place_in n)) o false) (told_at es heard whole (nat_eq (region_of n)) ∙ ap (option_map told_of) is)
          ∙ set_in_both v.places v.told (place_in n) all on

-- ---- what was told of an object or a word

-- of none, nothing was told
pub nothing_marked : (told : List (ℕ × ℕ)) (n : ℕ) → lookup (nat_eq (region_of n)) told ≡ None → false ≡ is_marked told n
nothing_marked told n none = sym (ap (λ (o : Option ℕ). option_map_or (λ (bits : ℕ). has_bit bits (place_in n)) o false) none)

pub nothing_unmarked : (told : List (ℕ × ℕ)) (n : ℕ) → lookup (nat_eq (region_of n)) told ≡ None → false ≡ is_unmarked told n
nothing_unmarked told n none = sym (ap (λ (o : Option ℕ). option_map_or (λ (word : ℕ). not (has_bit word (place_in n))) o false) none)

module _ (told : List (ℕ × ℕ)) (n word place one : ℕ) (found : Some word ≡ lookup (nat_eq (region_of n)) told) (place_is : place ≡ place_in n) (one_is : one ≡ 2 ^ place) where
  bit_is : not (nat_eq (bit_and word one) 0) ≡ has_bit word (place_in n)
  bit_is = ap (λ k. not (nat_eq (bit_and word k) 0)) one_is ∙ tested word place ∙ ap (has_bit word) place_is

  pub told_marked : not (nat_eq (bit_and word one) 0) ≡ is_marked told n
  told_marked = bit_is ∙ ap (λ (o : Option ℕ). option_map_or (λ (bits : ℕ). has_bit bits (place_in n)) o false) found

  pub told_unmarked : not (not (nat_eq (bit_and word one) 0)) ≡ is_unmarked told n
  told_unmarked = ap not bit_is ∙ ap (λ (o : Option ℕ). option_map_or (λ (w : ℕ). not (has_bit w (place_in n))) o false) found

-- ---- views

abbrev pub viewed : List (ℕ × Noted) → ℕ → ℕ → ℕ → Bool → Regions
viewed es heard end asked complete = record { order = map placed es; told = map worded (take heard es); left = keys_of (drop heard (take end es)); asked = asked; complete = complete }

-- the view of a table whose entries have the same keys
pub viewed_by : (es ns : List (ℕ × Noted)) (r : Regions) (heard end asked : ℕ) (complete : Bool) → viewed es heard end asked complete ≡ r → keys_of ns ≡ keys_of es → map worded (take heard ns) ≡ map worded (take heard es)
    → viewed ns heard end asked complete ≡ record r { order = map placed ns }
viewed_by es ns r heard end asked complete is keys told =
    let left = keys_written heard end ns es keys in
    (λ i. record { order = map placed ns; told = told i; left = left i; asked = asked; complete = complete }) ∙ ap (λ (x : Regions). record x { order = map placed ns }) is

pub length_by : (es ns : List (ℕ × Noted)) → keys_of ns ≡ keys_of es → length ns ≡ length es
length_by es ns keys =
    let same = ap length keys in
    let long = length-map ns (λ (e : ℕ × Noted). e.0) in
    let was = length-map es (λ (e : ℕ × Noted). e.0) in
    omega (arith, same, long, was)

pub placed_by : (es ns : List (ℕ × Noted)) → keys_of ns ≡ keys_of es → keys_of (map placed ns) ≡ keys_of (map placed es)
placed_by es ns keys = keys_placed ns ∙ keys ∙ sym (keys_placed es)

-- ---- a region without noted places goes
module _ (es ns : List (ℕ × Noted)) (region : ℕ) (v : Noted) (none : v.places ≡ 0) (found : lookup (nat_eq region) es ≡ Some v) (updates : (q : ℕ) → lookup (nat_eq q) ns ≡ cond (nat_eq region q) None (lookup (nat_eq q) es)) where
  pub gone_noted : (n : ℕ) → IsNoted (map placed es) n → IsNoted (map placed ns) n
  gone_noted = still_noted es ns region None updates (λ n is noted. absurd (true≢false (sym noted ∙ noted_by es n ∙ ap (λ o. bits_at o n) (ap (λ k. lookup (nat_eq k) es) is ∙ found) ∙ ap (λ k. has_bit k (place_in n)) none ∙ no_bits (place_in n))))

-- an entry is found by its key
pub own_found : (es : List (ℕ × Noted)) (place : ℕ) (e : ℕ × Noted) → IsDistinct nat_eq (keys_of es) → slice_get es place ≡ Some e → lookup (nat_eq e.0) es ≡ Some e.1
own_found es place e once at = lookup-from_Contains nat_eq_equiv e.0 e.1 es once (place, slice_get_within es place e at, get_or_from_slice_get es place e e at)

-- the entry at an index has the value there
pub entry_at : (es : List (ℕ × Noted)) (i : ℕ) (v : Noted) → slice_get (values_of es) i ≡ Some v → (k : ℕ) × (slice_get es i ≡ Some (k, v))
entry_at [] i v at = absurd (none-some v at)
entry_at (e ∷ es) zero v at = (e.0, ap (λ w. Some (e.0, w)) (same_Some e.1 v at))
entry_at (e ∷ es) (suc i) v at = entry_at es i v at

-- ---- a region is found at an index

pub index_found : (ks : List ℕ) (region : ℕ) (o : Option ℕ) → o ≡ position (nat_eq region) ks → IfSome o (λ i. slice_get ks i ≡ Some region)
index_found ks region None is = tt
index_found ks region (Some i) is = let at = position-Some (nat_eq region) ks i 0 (sym is) in slice_get-get_or ks i 0 at.0 ∙ ap Some (sym (eqb-true region (get_or ks i 0) at.1))

pub there_at : (es : List (ℕ × ℕ)) (i region : ℕ) → slice_get (keys_of es) i ≡ Some region → is_some (lookup (nat_eq region) es) ≡ true
there_at es i region at =
    is_some-lookup (nat_eq region) es
    ∙ subst (λ k. list_any (nat_eq k) (keys_of es) ≡ true) (get_or_from_slice_get (keys_of es) i region region at) (list_any-from_Contains nat_eq_equiv (get_or (keys_of es) i region) (keys_of es) (Contains-get_or (keys_of es) i region (slice_get_within (keys_of es) i region at)))

-- it is there, whatever is said of regions
pub placed_there : (es : List (ℕ × Noted)) (region : ℕ) → is_some (lookup (nat_eq region) es) ≡ is_some (lookup (nat_eq region) (map placed es))
placed_there es region = is_some-lookup (nat_eq region) es ∙ ap (list_any (nat_eq region)) (sym (keys_placed es)) ∙ sym (is_some-lookup (nat_eq region) (map placed es))

pub lacking : (es : List (ℕ × ℕ)) (region : ℕ) → is_some (lookup (nat_eq region) es) ≡ false → lookup (nat_eq region) es ≡ None
lacking es region absent = by (lookup (nat_eq region) es) absent
  where
    by : (o : Option ℕ) → is_some o ≡ false → o ≡ None
    by None none = refl
    by (Some k) some = absurd (true≢false some)

pub key_at : (es : List (ℕ × Noted)) (i : ℕ) (e : ℕ × Noted) → slice_get es i ≡ Some e → slice_get (keys_of es) i ≡ Some e.0
key_at [] i e at = absurd (none-some e at)
key_at (f ∷ es) zero e at = ap (λ (x : ℕ × Noted). Some x.0) (same_Some f e at)
key_at (f ∷ es) (suc i) e at = key_at es i e at

pair_here : (es : List (ℕ × Noted)) (i region : ℕ) (v : Noted) → slice_get (keys_of es) i ≡ Some region → slice_get (values_of es) i ≡ Some v → slice_get es i ≡ Some (region, v)
pair_here [] i region v key value = absurd (none-some v value)
pair_here (e ∷ es) zero region v key value = λ j. Some (same_Some e.0 region key j, same_Some e.1 v value j)
pair_here (e ∷ es) (suc i) region v key value = pair_here es i region v key value

module _ {S : Type 0} (m : IndexMap ℕ Noted S) (i region : ℕ) (v w : Noted) (once : IsDistinct nat_eq (keys_of m.entries)) (key : slice_get (keys_of m.entries) i ≡ Some region) (value : slice_get (values_of m.entries) i ≡ Some v) where
  pub found_here : lookup (nat_eq region) m.entries ≡ Some v
  found_here = own_found m.entries i (region, v) once (pair_here m.entries i region v key value)

  pub written_here : (q : ℕ) → lookup (nat_eq q) (set_value_at m.entries i w) ≡ cond (nat_eq region q) (Some w) (lookup (nat_eq q) m.entries)
  written_here = (updates-with_value_at m i w nat_eq_equiv once region v (pair_here m.entries i region v key value)).0

-- the words about the regions of a question, as many as there are
pub word_at : (xs : List ℕ) (n i : ℕ) → i < length (take n xs) → drop i xs ≡ get_or (take n xs) i 0 ∷ drop (i + 1) xs
word_at [] zero i lt = absurd (omega (arith, lt))
word_at [] (suc n) i lt = absurd (omega (arith, lt))
word_at (x ∷ xs) zero i lt = absurd (omega (arith, lt))
word_at (x ∷ xs) (suc n) zero lt = refl
word_at (x ∷ xs) (suc n) (suc i) lt = let next : suc (i + 1) ≡ suc i + 1 = omega arith in word_at xs n i (omega (arith, lt)) ∙ ap (λ k. get_or (take n xs) i 0 ∷ drop k (x ∷ xs)) next

pub at_end : (asked i : ℕ) → i ≡ min (min asked 64) 64 → (asked - i ≡ 0) ⊎ (64 - i ≡ 0)
at_end asked i is = ⊎_elim (λ (few : asked < 64). inl (omega (arith, few, is))) (λ (many : 64 ≤ asked). inr (omega (arith, many, is))) (cases_lt asked 64)

-- one entry goes
pub one_gone : (index gone new old : ℕ) → 0 < index → index ≤ old → gone ≡ 1 → new + gone ≡ old → (index - 1 ≤ new) × (new ≤ old)
one_gone index gone new old some within one is = (omega (arith, some, within, one, is), omega (arith, one, is))

-- ---- a region comes

module _ (es : List (ℕ × Noted)) (r : Regions) (heard end asked : ℕ) (complete : Bool) (is : viewed es heard end asked complete ≡ r) where
  none_there : (n region : ℕ) → region ≡ region_of n → is_some (lookup (nat_eq (region_of n)) r.order) ≡ false → lookup (nat_eq region) es ≡ None
  none_there n region region_is absent = by (lookup (nat_eq region) es) refl
    where
      by : (o : Option Noted) → lookup (nat_eq region) es ≡ o → lookup (nat_eq region) es ≡ None
      by None none = none
      by (Some v) found = absurd (true≢false (sym (ap is_some (found_there es n region region_is (Some v) found)) ∙ ap (λ (x : Regions). is_some (lookup (nat_eq (region_of n)) x.order)) is ∙ absent))

  pub added_same : (e : ℕ × Noted) (ns : List (ℕ × Noted)) → heard ≤ end → end ≤ length es → ns ≡ es ++ e ∷ [] → viewed ns heard end asked complete ≡ record r { order = map placed ns }
  added_same e ns le within grown =
      let told : take heard ns ≡ take heard es = ap (take heard) grown ∙ take-append-le heard es (e ∷ []) (omega (arith, le, within)) in
      let left : take end ns ≡ take end es = ap (take end) grown ∙ take-append-le end es (e ∷ []) within in
      (λ i. record { order = map placed ns; told = map worded (told i); left = keys_of (drop heard (left i)); asked = asked; complete = complete }) ∙ ap (λ (x : Regions). record x { order = map placed ns }) is

  module _ (n region : ℕ) (region_is : region ≡ region_of n) (absent : is_some (lookup (nat_eq (region_of n)) r.order) ≡ false) (v : Noted) (ns : List (ℕ × Noted)) where
    pub added : {S : Type 0} (m : IndexMap ℕ Noted S) → m.entries ≡ es → ns ≡ insert_entry nat_eq es region v → ns ≡ es ++ (region, v) ∷ []
    added m m_is grown = grown ∙ ap (λ xs. insert_entry nat_eq xs region v) (sym m_is) ∙ insert_entry-new nat_eq m region v (ap (lookup (nat_eq region)) m_is ∙ none_there n region region_is absent) ∙ ap (λ xs. xs ++ (region, v) ∷ []) m_is

    module _ (updates : (q : ℕ) → lookup (nat_eq q) ns ≡ cond (nat_eq region q) (Some v) (lookup (nat_eq q) es)) where
      pub added_kept : (other : ℕ) → IsNoted r.order other → IsNoted (map placed ns) other
      added_kept other noted =
          still_noted es ns region (Some v) updates
          (λ o here there. absurd (true≢false (sym there ∙ noted_by es o ∙ ap (λ x. bits_at x o) (ap (λ k. lookup (nat_eq k) es) here ∙ none_there n region region_is absent))))
          other (subst (λ (x : Regions). IsNoted x.order other) (sym is) noted)

      pub added_noted : (place one : ℕ) → place ≡ place_in n → one ≡ 2 ^ place → v.places ≡ one → IsNoted (map placed ns) n
      added_noted place one place_is one_is with_it =
          own_noted es ns region (Some v) updates n (sym region_is)
          (ap (λ k. has_bit k (place_in n)) (with_it ∙ one_is) ∙ ap (λ k. has_bit (2 ^ place) k) (sym place_is) ∙ set_here 0 place)

pub begun_all : (es : List (ℕ × Noted)) (r : Regions) (heard end asked : ℕ) (complete : Bool) (new : ℕ) → viewed es heard end asked complete ≡ r → complete ≡ true → new ≡ length es → viewed es 0 new 0 complete ≡ begun r
begun_all es r heard end asked complete new is on long =
    let left : keys_of (take new es) ≡ cond complete (keys_of (map placed es)) [] = ap keys_of (take_all new es (omega (arith, long))) ∙ sym (keys_placed es) ∙ sym (ap (λ b. cond b (keys_of (map placed es)) []) on) in
    (λ i. record { order = map placed es; told = []; left = left i; asked = 0; complete = complete }) ∙ ap begun is
