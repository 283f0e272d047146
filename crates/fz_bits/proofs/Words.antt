-- Sets of numbers by the bits of words.
use Rattle.std.proofs.Common.{◌≡◌, ◌≢◌, ℕ, zero, suc, ◌+◌, ◌-◌, ◌*◌, ◌/◌, ◌%◌, ◌^◌, ◌<◌, ◌≤◌, Bool, true, false, cond, not, ◌&&◌, ◌||◌, List, length, take, set, slice_index, replicate, nat_eq, nat_le, nat_cmp, refl, sym, ap, ◌∙◌, ⊎_elim, arith, w64, bit_and, bit_or, get_or, add-zero}
use Rattle.std.proofs.Math.Nat.{mod-eq_of_lt, div-mul-le_self, min-le_left}
use Rattle.std.proofs.Math.Pow.{pow-lt}
use Rattle.std.proofs.lemmas.Bool.{cond-false, cases_eq, cases_lt, eq-eqb, ne_eqb, eqb-false, and_parts, le-leb, lt-leb, leb-true, both_ways, false_from_ne_true}
use Rattle.std.proofs.lemmas.List.{get_or_past, get_or_read, get_or-set_same, get_or-set_other, get_or-replicate, get_or-take, length-replicate, length-take}
use Rattle.std.proofs.lemmas.Nat.{shr-shr, pow_pos}
use Rattle.std.proofs.lemmas.Nat.Bits.{bit_at-lt, bit_at-trailing_zeros, bit_at_cat_low, bit_at_cat_high, and_pow, shr_and_one, bit_at_set_same, bit_at_set_other, bit_at_clear_same, bit_at_clear_other}
use Rattle.std.specs.Cmp.{nat_cmp_total, ranked}
use Rattle.std.specs.Int.{bit_at, bit_not, trailing_zeros}
use Rattle.std.specs.List.{list_any, range_with_len}
use Rattle.std.specs.declared.cmp.Ordering.TheVariants.{Equal}
use Rattle.std.specs.FinSet.{contains, insert, remove, empty, len, len-empty, len-remove, from_list, contains-retain, contains-from_list_nat, contains-empty}
use Rattle.fz_bits.specs.Flags.{Set, flagged, Flagged, HasRoom, IsNext, IsRest}
use Rattle.fz_model.specs.Bits.{has_bit, has_flag}
use Rattle.fz_model.proofs.Sets.{has_removed, contains-inserted, contains-removed, same_members}
use Rattle.fz_model.proofs.Bits.{no_bits, has_flag-set}
use Rattle.fz_model.proofs.Lists.{any_of_range}

below_range : (a n q : ℕ) → q < a → list_any (λ y. nat_eq y q) (range_with_len a n) ≡ false
below_range a zero q low = refl
below_range a (suc n) q low = ap (λ t. t || list_any (λ y. nat_eq y q) (range_with_len (a + 1) n)) (ne_eqb a q (omega arith)) ∙ below_range (a + 1) n q (omega arith)

pub past_words : (words : List ℕ) (place : ℕ) → length words ≤ place / 64 → has_flag words place ≡ false
past_words words place past = ap (λ w. has_bit w (place % 64)) (get_or_past words (place / 64) 0 past) ∙ no_bits (place % 64)

pub contains-flagged : (first : ℕ) (words : List ℕ) (n : ℕ) → contains (flagged first words) n ≡ (nat_le first n && has_flag words (n - first))
contains-flagged first words n =
    contains-retain (from_list (range_with_len first (64 * length words))) (λ n. has_flag words (n - first)) n (λ x e. ap (λ n. has_flag words (n - first)) (sym (ranked n x Equal (sym e))))
    ∙ ap (λ t. t && has_flag words (n - first)) (contains-from_list_nat (range_with_len first (64 * length words)) n)
    ∙ ⊎_elim below from_first (cases_lt n first)
  where
    there : Bool
    there = list_any (λ y. nat_eq y n) (range_with_len first (64 * length words))

    neither : (s t : Bool) → t ≡ false → (s && t) ≡ t
    neither true t off = refl
    neither false t off = sym off

    below : n < first → (there && has_flag words (n - first)) ≡ (nat_le first n && has_flag words (n - first))
    below low = ap (λ t. t && has_flag words (n - first)) (below_range first (64 * length words) n low ∙ sym (lt-leb first n low))

    from_first : first ≤ n → (there && has_flag words (n - first)) ≡ (nat_le first n && has_flag words (n - first))
    from_first low =
        ⊎_elim
        (λ (lt : n < first + 64 * length words). ap (λ t. t && has_flag words (n - first)) (any_of_range (λ y. nat_eq y n) first (64 * length words) n low lt (eq-eqb n n refl) ∙ sym (le-leb first n low)))
        (λ (past : first + 64 * length words ≤ n).
        let off = past_words words (n - first) (omega arith) in
        neither there (has_flag words (n - first)) off ∙ sym (neither (nat_le first n) (has_flag words (n - first)) off))
        (cases_lt n (first + 64 * length words))

-- no smaller number is in the set
pub none_below : (first : ℕ) (words : List ℕ) (n : ℕ) → n < first → contains (flagged first words) n ≡ false
none_below first words n low = contains-flagged first words n ∙ ap (λ t. t && has_flag words (n - first)) (lt-leb first n low)

pub contains_from : (first : ℕ) (words : List ℕ) (n : ℕ) → first ≤ n → contains (flagged first words) n ≡ has_flag words (n - first)
contains_from first words n low = contains-flagged first words n ∙ ap (λ t. t && has_flag words (n - first)) (le-leb first n low)

-- ---- a word is put in

-- a number is told from another by its place
shifted : (first n q : ℕ) → first ≤ n → first ≤ q → nat_eq (q - first) (n - first) ≡ nat_eq q n
shifted first n q low above =
    ⊎_elim (λ (is : q ≡ n). eq-eqb (q - first) (n - first) (omega arith) ∙ sym (eq-eqb q n is)) (λ (ne : q ≢ n). ne_eqb (q - first) (n - first) (omega arith) ∙ sym (ne_eqb q n ne)) (cases_eq q n)

module _ (first : ℕ) (words : List ℕ) (n x : ℕ) (low : first ≤ n) (within : (n - first) / 64 < length words) (others : (i : ℕ) → i < 64 → i ≢ (n - first) % 64 → bit_at x i ≡ bit_at (slice_index words ((n - first) / 64)) i) where
  flag_set : (v : Bool) → has_bit x ((n - first) % 64) ≡ v → (q : ℕ) → contains (flagged first (set words ((n - first) / 64) x)) q ≡ cond (nat_eq q n) v (contains (flagged first words) q)
  flag_set v new q =
      contains-flagged first (set words ((n - first) / 64) x) q
      ∙ ⊎_elim
      (λ (below : q < first).
      ap (λ t. t && has_flag (set words ((n - first) / 64) x) (q - first)) (lt-leb first q below)
      ∙ sym (cond-false (nat_eq q n) v (contains (flagged first words) q) (ne_eqb q n (omega arith)) ∙ none_below first words q below))
      (λ (above : first ≤ q).
      ap (λ t. t && has_flag (set words ((n - first) / 64) x) (q - first)) (le-leb first q above)
      ∙ has_flag-set words (n - first) x v within new others (q - first)
      ∙ ap (λ t. cond t v (has_flag words (q - first))) (shifted first n q low above)
      ∙ ap (cond (nat_eq q n) v) (sym (contains_from first words q above)))
      (cases_lt q first)

pub flag_inserted : (first : ℕ) (words : List ℕ) (n word : ℕ) → first ≤ n → (n - first) / 64 < length words → word ≡ get_or words ((n - first) / 64) word → flagged first (set words ((n - first) / 64) (bit_or word (1 * 2 ^ ((n - first) % 64) % 18446744073709551616))) ≡ insert (flagged first words) n
flag_inserted first words n word low within read =
    let in_word : (n - first) % 64 < 64 = omega arith in
    let x = bit_or word (1 * 2 ^ ((n - first) % 64) % 18446744073709551616) in
    let others : (i : ℕ) → i < 64 → i ≢ (n - first) % 64 → bit_at x i ≡ bit_at (slice_index words ((n - first) / 64)) i = λ i lt ne. bit_at_set_other w64 word ((n - first) % 64) in_word i ne ∙ ap (λ w. bit_at w i) (get_or_read words ((n - first) / 64) word within read 0) in
    same_members _ _ (λ q. flag_set first words n x low within others true (eq-eqb _ 1 (bit_at_set_same w64 word ((n - first) % 64) in_word)) q ∙ sym (contains-inserted (flagged first words) n q))

pub flag_removed : (first : ℕ) (words : List ℕ) (n word : ℕ) → first ≤ n → (n - first) / 64 < length words → word ≡ get_or words ((n - first) / 64) word → flagged first (set words ((n - first) / 64) (bit_and word (bit_not w64 (1 * 2 ^ ((n - first) % 64) % 18446744073709551616)))) ≡ remove (flagged first words) n
flag_removed first words n word low within read =
    let in_word : (n - first) % 64 < 64 = omega arith in
    let x = bit_and word (bit_not w64 (1 * 2 ^ ((n - first) % 64) % 18446744073709551616)) in
    let others : (i : ℕ) → i < 64 → i ≢ (n - first) % 64 → bit_at x i ≡ bit_at (slice_index words ((n - first) / 64)) i = λ i lt ne. bit_at_clear_other w64 word ((n - first) % 64) in_word i lt ne ∙ ap (λ w. bit_at w i) (get_or_read words ((n - first) / 64) word within read 0) in
    same_members _ _ (λ q. flag_set first words n x low within others false (ap (λ b. nat_eq b 1) (bit_at_clear_same w64 word ((n - first) % 64) in_word)) q ∙ sym (contains-removed (flagged first words) n q))

-- ---- words that are zero

pub no_flags : (first n : ℕ) (words : List ℕ) → words ≡ replicate n 0 → flagged first words ≡ empty
no_flags first n words is = same_members _ _ (λ q. contains-flagged first words q ∙ off (nat_le first q) (has_flag words (q - first)) (none (q - first)) ∙ sym (contains-empty nat_cmp q))
  where
    off : (s t : Bool) → t ≡ false → (s && t) ≡ false
    off true t e = e
    off false t e = refl

    len : length words ≡ n
    len = ap length is ∙ length-replicate n 0

    none : (p : ℕ) → has_flag words p ≡ false
    none p =
        ⊎_elim
        (λ (lt : p / 64 < n). ap (λ w. has_bit w (p % 64)) (ap (λ ws. slice_index ws (p / 64)) is ∙ get_or-replicate n (p / 64) 0 0 lt) ∙ no_bits (p % 64))
        (λ (past : n ≤ p / 64). past_words words p (omega (arith, len, past)))
        (cases_lt (p / 64) n)

-- ---- words of zero are added

pub words_added : (first : ℕ) (old new : List ℕ) → ((k : ℕ) → slice_index new k ≡ slice_index old k) → flagged first new ≡ flagged first old
words_added first old new same = same_members _ _ (λ q.
    contains-flagged first new q
    ∙ ap (λ w. nat_le first q && has_bit w ((q - first) % 64)) (same ((q - first) / 64))
    ∙ sym (contains-flagged first old q))

-- each word of a list that was filled up with zeros, by what is said of those within it
pub filled_up : (old new : List ℕ) (n : ℕ) → length old ≤ n → length new ≡ n → ((k : ℕ) → k < n → k < length old → get_or new k 0 ≡ get_or old k 0) → ((k : ℕ) → length old ≤ k → k < n → get_or new k 0 ≡ 0) → (k : ℕ) → slice_index new k ≡ slice_index old k
filled_up old new n fewer len kept zeros k =
    ⊎_elim
    (λ (within : k < n). ⊎_elim (λ (low : k < length old). kept k within low) (λ (high : length old ≤ k). zeros k high within ∙ sym (get_or_past old k 0 high)) (cases_lt k (length old)))
    (λ (past : n ≤ k). get_or_past new k 0 (omega (arith, len, past)) ∙ sym (get_or_past old k 0 (omega (arith, fewer, past))))
    (cases_lt k n)

-- ---- a word is cleared

pub word_cleared : (first : ℕ) (words : List ℕ) (word n : ℕ) → word < length words → contains (flagged first (set words word 0)) n ≡ (contains (flagged first words) n && not (nat_eq ((n - first) / 64) word))
word_cleared first words word n within =
    contains-flagged first (set words word 0) n
    ∙ ap (λ t. nat_le first n && t) (⊎_elim same other (cases_eq ((n - first) / 64) word))
    ∙ regroup (nat_le first n) (has_flag words (n - first)) (not (nat_eq ((n - first) / 64) word))
    ∙ ap (λ t. t && not (nat_eq ((n - first) / 64) word)) (sym (contains-flagged first words n))
  where
    regroup : (a b c : Bool) → (a && (b && c)) ≡ ((a && b) && c)
    regroup true b c = refl
    regroup false b c = refl

    p : ℕ
    p = n - first

    nothing : (t : Bool) → (t && false) ≡ false
    nothing true = refl
    nothing false = refl

    all : (t : Bool) → (t && true) ≡ t
    all true = refl
    all false = refl

    same : p / 64 ≡ word → has_flag (set words word 0) p ≡ (has_flag words p && not (nat_eq (p / 64) word))
    same is =
        ap (λ w. has_bit w (p % 64)) (ap (λ k. slice_index (set words word 0) k) is ∙ get_or-set_same words word 0 0 within) ∙ no_bits (p % 64)
        ∙ sym (ap (λ t. has_flag words p && not t) (eq-eqb (p / 64) word is) ∙ nothing (has_flag words p))

    other : p / 64 ≢ word → has_flag (set words word 0) p ≡ (has_flag words p && not (nat_eq (p / 64) word))
    other ne =
        ap (λ w. has_bit w (p % 64)) (get_or-set_other words word (p / 64) 0 0 ne)
        ∙ sym (ap (λ t. has_flag words p && not t) (ne_eqb (p / 64) word ne) ∙ all (has_flag words p))

-- ---- what is in the set has a bit, and vice versa

-- a member has a word
pub member_within : (first : ℕ) (words : List ℕ) (n : ℕ) → contains (flagged first words) n ≡ true → (first ≤ n) × (n < first + 64 * length words)
member_within first words n is = at (nat_le first n) (has_flag words (n - first)) refl refl (sym (contains-flagged first words n) ∙ is)
  where
    at : (s t : Bool) → nat_le first n ≡ s → has_flag words (n - first) ≡ t → (s && t) ≡ true → (first ≤ n) × (n < first + 64 * length words)
    at false t low on never = absurd (both_ways false refl never)
    at true false low on never = absurd (both_ways false refl never)
    at true true low on rest =
        let above = leb-true first n low in (
          above,
          ⊎_elim (λ lt. lt)
              (λ (past : first + 64 * length words ≤ n). absurd (both_ways (has_flag words (n - first)) (past_words words (n - first) (omega (arith, past, above))) on))
              (cases_lt n (first + 64 * length words)),
        )

pub has_room : (first : ℕ) (words : List ℕ) → first + 64 * length words ≤ 2 ^ 64 → HasRoom first (record { size = 64 * length words; members = flagged first words })
has_room first words fits = record { fits = fits; each = member_within first words }

-- no greater number is in the set
pub none_past : (first : ℕ) (words : List ℕ) (n : ℕ) → first + 64 * length words ≤ n → contains (flagged first words) n ≡ false
none_past first words n past = contains_from first words n (omega (arith, past)) ∙ past_words words (n - first) (omega (arith, past))

-- so there are no more members than bits
pub few_members : (first n : ℕ) (s : Set) → ((q : ℕ) → contains s q ≡ true → (first ≤ q) × (q < first + n)) → len s ≤ n
few_members first zero s within = let none : len s ≡ 0 = ap len (same_members s empty (λ q. off q (contains s q) refl ∙ sym (contains-empty nat_cmp q))) ∙ len-empty nat_cmp in omega (arith, none)
  where
    off : (q : ℕ) (b : Bool) → contains s q ≡ b → contains s q ≡ false
    off q true e = let w = within q e in absurd (omega (arith, w.0, w.1))
    off q false e = e
few_members first (suc n) s within =
    let k = first + n in
    let fewer = few_members first n (remove s k) inner in
    one_less (contains s k) (len-remove nat_cmp_total s k) fewer
  where
    one_less : (b : Bool) → len (remove s (first + n)) ≡ cond b (len s - 1) (len s) → len (remove s (first + n)) ≤ n → len s ≤ suc n
    one_less true e fewer = omega (arith, e, fewer)
    one_less false e fewer = omega (arith, e, fewer)

    inner : (q : ℕ) → contains (remove s (first + n)) q ≡ true → (first ≤ q) × (q < first + n)
    inner q is = both (nat_eq q (first + n)) (contains s q) refl refl (sym (has_removed s (first + n) q) ∙ is)
      where
        both : (t u : Bool) → nat_eq q (first + n) ≡ t → contains s q ≡ u → (not t && u) ≡ true → (first ≤ q) × (q < first + n)
        both true u same has never = absurd (both_ways false refl never)
        both false false other has never = absurd (both_ways false refl never)
        both false true other has rest = let w = within q has in let ne = eqb-false q (first + n) other in (w.0, omega (arith, w.1, ne))

pub few_flags : (first : ℕ) (words : List ℕ) → len (flagged first words) ≤ 64 * length words
few_flags first words = few_members first (64 * length words) (flagged first words) (member_within first words)

pub word_read : (first : ℕ) (words : List ℕ) (index word : ℕ) → slice_index words index ≡ word → (place : ℕ) → place < 64 → has_bit word place ≡ contains (flagged first words) (first + 64 * index + place)
word_read first words index word is place lt =
    sym (
    contains_from first words (first + 64 * index + place) (omega arith)
    ∙ ap (has_flag words) at
    ∙ ap (λ k. has_bit (slice_index words k) ((64 * index + place) % 64)) row
    ∙ ap (λ k. has_bit (slice_index words index) k) column
    ∙ ap (λ w. has_bit w place) is)
  where
    at : first + 64 * index + place - first ≡ 64 * index + place
    at = omega arith

    row : (64 * index + place) / 64 ≡ index
    row = omega (arith, lt)

    column : (64 * index + place) % 64 ≡ place
    column = omega (arith, lt)

-- the test of the code
pub bit_read : (word place : ℕ) → nat_eq (bit_and (word / 2 ^ place) 1) 1 ≡ has_bit word place
bit_read word place = ap (λ n. nat_eq n 1) (shr_and_one word place)

-- a bit of a shifted word
bit_at_shifted : (n k j : ℕ) → bit_at (n / 2 ^ k) j ≡ bit_at n (k + j)
bit_at_shifted n k j = ap (λ x. x % 2) (shr-shr n k j)

small_bit : (place : ℕ) → place < 64 → 1 * 2 ^ place % 18446744073709551616 ≡ 2 ^ place
small_bit place lt = let below = pow-lt lt in mod-eq_of_lt (omega (arith, below)) ∙ omega arith

pub bit_missing : (word place : ℕ) → place < 64 → nat_eq (bit_and word (1 * 2 ^ place % 18446744073709551616)) 0 ≡ not (has_bit word place)
bit_missing word place lt = ap (λ n. nat_eq n 0) (ap (bit_and word) (small_bit place lt) ∙ and_pow word place) ∙ by (bit_at word place) (bit_at-lt word place)
  where
    by : (b : ℕ) → b < 2 → nat_eq (b * 2 ^ place) 0 ≡ not (nat_eq b 1)
    by zero h = eq-eqb (0 * 2 ^ place) 0 (omega arith)
    by (suc zero) h = ne_eqb (1 * 2 ^ place) 0 (let some = pow_pos place in omega (arith, some))
    by (suc (suc b)) h = absurd (omega (arith, h))

-- ---- walks over the words

module _ (first : ℕ) (set : Set) (from : ℕ) where
  -- a word without such bits has no member from there on
  pub rest_none : (index rest : ℕ) → IsRest first set from index rest → rest ≡ 0 → (n : ℕ) → from ≤ n → n < first + 64 * (index + 1) → contains set n ≡ false
  rest_none index rest are none n above lt =
      ⊎_elim (λ (less : n < first + 64 * index). are.before n above less)
      (λ (ge : first + 64 * index ≤ n).
      let j = n - (first + 64 * index) in
      let at : first + 64 * index + j ≡ n = omega (arith, ge) in
      let late : from - first ≤ 64 * index + j = omega (arith, ge, above) in
      let bits = are.bits j (omega (arith, ge, lt)) in
      ap (contains set) (sym at) ∙ sym (bits ∙ ap (λ t. t && contains set (first + 64 * index + j)) (le-leb (from - first) (64 * index + j) late)) ∙ ap (λ w. has_bit w j) none ∙ no_bits j)
      (cases_lt n (first + 64 * index))

  pub rest_next : (index rest word : ℕ) → IsRest first set from index rest → rest ≡ 0 → (from - first) / 64 ≤ index → ((place : ℕ) → place < 64 → has_bit word place ≡ contains set (first + 64 * (index + 1) + place)) → IsRest first set from (index + 1) word
  rest_next index rest word are none past read = record {
    bits = λ place lt. read place lt ∙ sym (ap (λ t. t && contains set (first + 64 * (index + 1) + place)) (le-leb (from - first) (64 * (index + 1) + place) (omega (arith, past))));
    before = rest_none index rest are none;
  }

  pub rest_found : (index rest zeros : ℕ) → IsRest first set from index rest → 0 < rest → rest < 2 ^ 64 → zeros ≡ trailing_zeros w64 rest → IsNext set from (first + 64 * index + zeros) × (zeros < 64)
  rest_found index rest zeros are some fits zeros_are = (
    record {
      member = (parts (nat_le (from - first) (64 * index + zeros)) (contains set (first + 64 * index + zeros)) on).1;
      after = let late = leb-true (from - first) (64 * index + zeros) (parts (nat_le (from - first) (64 * index + zeros)) (contains set (first + 64 * index + zeros)) on).0 in omega (arith, late);
      before = λ n above lt.
          ⊎_elim (λ (less : n < first + 64 * index). are.before n above less)
          (λ (ge : first + 64 * index ≤ n). unset n above ge (omega (arith, ge, lt)))
          (cases_lt n (first + 64 * index));
    },
    near,
  )
    where
      lowest : (trailing_zeros w64 rest < 64) × (bit_at rest (trailing_zeros w64 rest) ≡ 1) × ((i : ℕ) → i < trailing_zeros w64 rest → bit_at rest i ≡ 0)
      lowest = bit_at-trailing_zeros w64 rest some fits

      near : zeros < 64
      near = omega (arith, lowest.0, zeros_are)

      on : (nat_le (from - first) (64 * index + zeros) && contains set (first + 64 * index + zeros)) ≡ true
      on = sym (are.bits zeros near) ∙ eq-eqb _ 1 (ap (bit_at rest) zeros_are ∙ lowest.1)

      parts : (s t : Bool) → (s && t) ≡ true → (s ≡ true) × (t ≡ true)
      parts s t h = and_parts s t h

      unset : (n : ℕ) → from ≤ n → first + 64 * index ≤ n → n - (first + 64 * index) < zeros → contains set n ≡ false
      unset n above ge lt =
          let j = n - (first + 64 * index) in
          let at : first + 64 * index + j ≡ n = omega (arith, ge) in
          let late : from - first ≤ 64 * index + j = omega (arith, ge, above) in
          let early : j < trailing_zeros w64 rest = omega (arith, lt, zeros_are) in
          let bits = are.bits j (omega (arith, lt, near)) in
          ap (contains set) (sym at) ∙ sym (bits ∙ ap (λ t. t && contains set (first + 64 * index + j)) (le-leb (from - first) (64 * index + j) late)) ∙ ap (λ b. nat_eq b 1) (lowest.2 j early)

  -- the bits of a word from a number on
  pub rest_of_word : (word rest : ℕ) → word < 2 ^ 64 → ((place : ℕ) → place < 64 → has_bit word place ≡ contains set (first + 64 * ((from - first) / 64) + place)) → rest ≡ word / 2 ^ ((from - first) % 64) * 2 ^ ((from - first) % 64) % 2 ^ 64 → ((n : ℕ) → n < first → contains set n ≡ false) → IsRest first set from ((from - first) / 64) rest
  rest_of_word word rest fits read is low = record {
    bits = λ place lt. ⊎_elim (smaller place lt) (larger place lt) (cases_lt place k);
    before = λ n above lt. low n (omega (arith, above, lt));
  }
    where
      k : ℕ
      k = (from - first) % 64

      index : ℕ
      index = (from - first) / 64

      cleared : rest ≡ word / 2 ^ k * 2 ^ k + 0
      cleared = is ∙ mod-eq_of_lt (let le = div-mul-le_self word (2 ^ k) in omega (arith, le, fits)) ∙ sym (add-zero _)

      smaller : (place : ℕ) → place < 64 → place < k → has_bit rest place ≡ (nat_le (from - first) (64 * index + place) && contains set (first + 64 * index + place))
      smaller place lt less =
          ap (λ r. has_bit r place) cleared ∙ ap (λ b. nat_eq b 1) (bit_at_cat_low (word / 2 ^ k) k 0 place less) ∙ no_bits place
          ∙ sym (ap (λ t. t && contains set (first + 64 * index + place)) (lt-leb (from - first) (64 * index + place) (omega (arith, less))))

      larger : (place : ℕ) → place < 64 → k ≤ place → has_bit rest place ≡ (nat_le (from - first) (64 * index + place) && contains set (first + 64 * index + place))
      larger place lt more =
          let back : k + (place - k) ≡ place = omega (arith, more) in
          ap (λ r. has_bit r place) cleared
          ∙ ap (λ b. nat_eq b 1) (bit_at_cat_high (word / 2 ^ k) k 0 place (pow_pos k) more ∙ bit_at_shifted word k (place - k) ∙ ap (bit_at word) back)
          ∙ read place lt
          ∙ sym (ap (λ t. t && contains set (first + 64 * index + place)) (le-leb (from - first) (64 * index + place) (omega (arith, more))))

-- and that member has room
pub found_room : (first : ℕ) (f : Flagged) (from index rest zeros : ℕ) → HasRoom first f → IsRest first f.members from index rest → 0 < rest → rest < 2 ^ 64 → zeros ≡ trailing_zeros w64 rest → (first + 64 * index + zeros < first + f.size) × (first + f.size ≤ 2 ^ 64)
found_room first f from index rest zeros room are some fits zeros_are =
    let found = rest_found first f.members from index rest zeros are some fits zeros_are in
    ((room.each (first + 64 * index + zeros) found.0.member).1, room.fits)

-- ---- words past a limit go

pub words_cut : (first : ℕ) (words : List ℕ) (count : ℕ) → ((n : ℕ) → contains (flagged first words) n ≡ true → n < first + 64 * count) → flagged first (take count words) ≡ flagged first words
words_cut first words count low = same_members _ _ (λ q. contains-flagged first (take count words) q ∙ same q ∙ sym (contains-flagged first words q))
  where
    within : (q : ℕ) → first ≤ q → (q - first) / 64 < count → has_flag (take count words) (q - first) ≡ has_flag words (q - first)
    within q above lt = ap (λ w. has_bit w ((q - first) % 64)) (get_or-take count words ((q - first) / 64) 0 lt)

    past : (q : ℕ) → first ≤ q → count ≤ (q - first) / 64 → has_flag (take count words) (q - first) ≡ has_flag words (q - first)
    past q above ge =
        past_words (take count words) (q - first) (let few = length-take count words in omega (arith, ge, few, min-le_left count (length words)))
        ∙ sym (false_from_ne_true (has_flag words (q - first)) (λ is. let lt = low q (contains_from first words q above ∙ is) in omega (arith, lt, ge, above)))

    same : (q : ℕ) → (nat_le first q && has_flag (take count words) (q - first)) ≡ (nat_le first q && has_flag words (q - first))
    same q =
        ⊎_elim
        (λ (below : q < first). ap (λ t. t && has_flag (take count words) (q - first)) (lt-leb first q below) ∙ ap (λ t. t && has_flag words (q - first)) (sym (lt-leb first q below)))
        (λ (above : first ≤ q). ap (λ t. nat_le first q && t) (⊎_elim (within q above) (past q above) (cases_lt ((q - first) / 64) count)))
        (cases_lt q first)
