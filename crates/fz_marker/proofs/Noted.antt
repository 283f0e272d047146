-- How many marked objects lie on noted pages: no more than these have words.
use Rattle.std.proofs.Common.{◌≡◌, ◌≢◌, ℕ, zero, suc, ◌+◌, ◌*◌, ◌<◌, ◌≤◌, ◌&&◌, ◌||◌, ◌++◌, not, Bool, true, false, List, [], length, length-append, Some, nat_cmp, nat_eq, refl, sym, ap, ◌∙◌, subst, ◌⊎◌, inl, inr, arith, IsTrue}
use Rattle.std.proofs.lemmas.Bool.{and_parts, both_ways, cases_eq, eq-eqb, or_left, or_right}
use Rattle.std.proofs.lemmas.List.Folds.{list_any-append}
use Rattle.std.proofs.lemmas.List.FromFn.{length-range_with_len}
use Rattle.std.specs.List.{list_any, range_with_len}
use Rattle.std.specs.FinMap.{get, keys}
use Rattle.std.specs.FinSet.{contains, from_list, len, remove, contains-empty, contains-from_list_nat, empty_of_len}
use Rattle.fz_model.specs.declared.limits.TheConstants.{HEAP_START, BLOCK_WORDS}
use Rattle.fz_model.specs.State.{Map, Object}
use Rattle.fz_model.specs.Extents.{extents, extent_of, AreApart}
use Rattle.fz_model.specs.Allocation.{block_of, block_start}
use Rattle.fz_model.proofs.Objects.{to_covers}
use Rattle.fz_bits.specs.Flags.{Set}
use Rattle.fz_marker.specs.Marking.{is_newly_in, is_on_noted, is_readable, readable_count}
use Rattle.fz_marker.proofs.Counts.{count_is, count_either}
use Rattle.fz_marker.proofs.Members.{keys_once, member_of, still_in, one_fewer, len_listed, count_members}
use Rattle.fz_marker.proofs.Standing.{extent_here, noted_word}
use Rattle.fz_model.proofs.Lists.{any_of_range}

-- ---- the words of pages

abbrev HasWordsOf : Set → List ℕ → Type 0
HasWordsOf pages ws = (page w : ℕ) → IsTrue (contains pages page) → block_start page ≤ w → w < block_start page + BLOCK_WORDS → IsTrue (list_any (λ y. nat_eq y w) ws)

in_both : (w : ℕ) (xs ys : List ℕ) → IsTrue (list_any (λ y. nat_eq y w) xs) ⊎ IsTrue (list_any (λ y. nat_eq y w) ys) → IsTrue (list_any (λ y. nat_eq y w) (xs ++ ys))
in_both w xs ys (inl h) = list_any-append (λ y. nat_eq y w) xs ys ∙ or_left (list_any (λ y. nat_eq y w) xs) (list_any (λ y. nat_eq y w) ys) h
in_both w xs ys (inr h) = list_any-append (λ y. nat_eq y w) xs ys ∙ or_right (list_any (λ y. nat_eq y w) xs) (list_any (λ y. nat_eq y w) ys) h

one_more_page : (pages : Set) (own : ℕ) (ws : List ℕ) → HasWordsOf (remove pages own) ws → HasWordsOf pages (range_with_len (block_start own) BLOCK_WORDS ++ ws)
one_more_page pages own ws rest page w has low high = in_both w (range_with_len (block_start own) BLOCK_WORDS) ws (at (cases_eq page own))
  where
    at : (page ≡ own) ⊎ (page ≢ own) → IsTrue (list_any (λ y. nat_eq y w) (range_with_len (block_start own) BLOCK_WORDS)) ⊎ IsTrue (list_any (λ y. nat_eq y w) ws)
    at (inl is) = inl (any_of_range (λ y. nat_eq y w) (block_start own) BLOCK_WORDS w (omega (arith, is, low)) (omega (arith, is, high)) (eq-eqb w w refl))
    at (inr ne) = inr (rest page w (still_in pages own page ne has) low high)

-- a list of the words of so many pages
page_words : (n : ℕ) (pages : Set) → len pages ≡ n → (ws : List ℕ) × (length ws ≡ BLOCK_WORDS * n) × HasWordsOf pages ws
page_words zero pages none = ([], omega arith, λ page w has low high. absurd (both_ways (contains pages page) (ap (λ (s : Set). contains s page) (empty_of_len pages none) ∙ contains-empty nat_cmp page) has))
page_words (suc n) pages count =
    let own = member_of pages (omega (arith, count)) in
    let fewer = one_fewer pages own.0 own.1 in
    let rest = page_words n (remove pages own.0) (omega (arith, fewer, count)) in
    let range = range_with_len (block_start own.0) BLOCK_WORDS in
    let long = length-append range rest.0 in
    let first = length-range_with_len (block_start own.0) BLOCK_WORDS in
    let more = rest.1 in
    (range ++ rest.0, omega (arith, long, first, more), one_more_page pages own.0 rest.0 rest.2)

-- ---- objects by their words on noted pages

module _ (objects : Map Object) (noted : Set) where
  -- a word of the object lies on a noted page
  abbrev HasNotedWord : ℕ → ℕ → Type 0
  HasNotedWord a w = IsTrue (contains noted (block_of w)) × (o : Object) × (get objects a ≡ Some o) × (a ≤ w) × (w < a + length o.words)

  module _ (apart : (page : ℕ) → IsTrue (contains noted page) → AreApart (extents objects)) where
    one_has : (a b w : ℕ) → HasNotedWord a w → HasNotedWord b w → a ≡ b
    one_has a b w h k = apart (block_of w) h.0 a b w (extent_of h.1) (extent_of k.1) (extent_here objects a h.1 h.2) (extent_here objects b k.1 k.2) (to_covers a w (extent_of h.1) h.3 h.4) (to_covers b w (extent_of k.1) k.3 k.4)

    pub few_on_noted : (marked : Set) → ((a : ℕ) → IsTrue (contains marked a) → HEAP_START ≤ a) → readable_count objects (λ a. contains marked a && is_on_noted objects noted a) ≤ BLOCK_WORDS * len noted
    few_on_noted marked low =
        let words = page_words (len noted) noted refl in
        let few = count_members (λ a. (contains marked a && is_on_noted objects noted a) && is_readable objects a) HasNotedWord one_has (from_list words.0) (keys objects) (keys_once objects) (λ i a here passes. own words a passes) in
        let listed = len_listed words.0 in
        let count = words.1 in
        omega (arith, few, listed, count)
      where
        own : (words : (ws : List ℕ) × (length ws ≡ BLOCK_WORDS * len noted) × HasWordsOf noted ws) (a : ℕ) → IsTrue ((contains marked a && is_on_noted objects noted a) && is_readable objects a) → (w : ℕ) × IsTrue (contains (from_list {R = nat_cmp} words.0) w) × HasNotedWord a w
        own words a passes =
            let both = and_parts (contains marked a) (is_on_noted objects noted a) (and_parts (contains marked a && is_on_noted objects noted a) (is_readable objects a) passes).0 in
            let page = noted_word objects noted a both.1 in
            let word = page.2 in
            let from = low a both.0 in
            let after = word.after in
            let on = word.on in
            (word.address, contains-from_list_nat words.0 word.address ∙ words.2 page.0 word.address page.1 (omega (arith, from, after, on)) (omega (arith, from, after, on)), (subst (λ p. IsTrue (contains noted p)) (sym on) page.1, word.object, word.here, word.after, word.before))

    -- what is to be scanned at the end of a cycle wasn't scanned before, or lies on a noted page
    to_scan_cases : (m s n b : Bool) → count_is ((m && (not s || n)) && b) ≤ count_is ((m && not s) && b) + count_is ((m && n) && b)
    to_scan_cases false s n b = omega arith
    to_scan_cases true true n b = omega arith
    to_scan_cases true false n b = omega arith

    pub few_to_scan : (scanned marked : Set) → ((a : ℕ) → IsTrue (contains marked a) → HEAP_START ≤ a) → readable_count objects (λ a. contains marked a && (not (contains scanned a) || is_on_noted objects noted a)) ≤ readable_count objects (is_newly_in scanned marked) + BLOCK_WORDS * len noted
    few_to_scan scanned marked low =
        let both = count_either (λ a. (contains marked a && (not (contains scanned a) || is_on_noted objects noted a)) && is_readable objects a) (λ a. is_newly_in scanned marked a && is_readable objects a) (λ a. (contains marked a && is_on_noted objects noted a) && is_readable objects a)
        (λ a. to_scan_cases (contains marked a) (contains scanned a) (is_on_noted objects noted a) (is_readable objects a)) (keys objects) in
        let few = few_on_noted marked low in
        omega (arith, both, few)
