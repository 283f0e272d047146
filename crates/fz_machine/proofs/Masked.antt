-- The items that a word chooses, and the phases that only choose items.
use Rattle.std.proofs.Common.{◌≡◌, ◌≤◌, ◌<◌, ◌+◌, ◌-◌, ◌^◌, ◌++◌, ◌∷◌, ◌∙◌, [], ℕ, zero, suc, Bool, true, false, true≢false, not, cond, is_some, List, map, take, drop, set, length, min, slice_get, get_or, Some, None, refl, sym, ap, subst, w64, append-nil, append_assoc, ⊎_elim, arith}
use Rattle.std.proofs.lemmas.Bool.{cases_lt}
use Rattle.std.proofs.Math.Seq.{take-add}
use Rattle.std.proofs.lemmas.List.{length-append, take_min, drop_all, drop-set-lt, get_or-map, length-drop, length-map, length-take, take-map, take-set, take_more, take_more_set}
use Rattle.std.proofs.lemmas.List.FromFn.{fill_by_all, get_or-map-range_with_len, length-map-range_with_len, take-map-range_with_len}
use Rattle.std.proofs.lemmas.Option.{none-some, same_Some}
use Rattle.std.specs.Int.{bit_not, from_bool}
use Rattle.std.specs.List.{prefix_len, range_with_len, take_while}
use Rattle.fz_model.specs.Bits.{has_bit}
use Rattle.fz_model.proofs.Bits.{no_bits, not_bit}
use Rattle.fz_finalizers.specs.States.{State, View}
use Rattle.fz_machine.specs.declared.item.Item.{Item}
use Rattle.fz_machine.specs.declared.phase.Phase.{Phase}
use Rattle.fz_machine.specs.declared.question.Ask.{Ask}
use Rattle.fz_machine.specs.declared.question.Ask.TheVariants.{IsMarked}
use Rattle.fz_machine.specs.declared.phase.Phase.TheVariants.{Keys, KeysAgain, Holders, Values, ShortCleanups, ShortTargets, ShortKeys, Objects, Children, Again, Picks, LateAgain, LongTargets, LongKeys, ShortHolders, LongHolders, ShortKeyHolders, LongKeyHolders, LongCleanups}
use Rattle.fz_machine.specs.Asks.{bits_of}
use Rattle.fz_machine.specs.Going.{HasRoomOff, IsSameRoom, going}
use Rattle.fz_machine.specs.Off.{PutOff, put_off, stuck_with}
use Rattle.fz_machine.specs.Phases.{after, asks, keeps, settles}
use Rattle.fz_machine.specs.Sifts.{AreAll, chosen, idle_answer, keeps_all, keeps_known, keeps_marked, keeps_unmarked}
use Rattle.fz_machine.specs.Steps.{Going, skip, skipped, step, steps}
use Rattle.fz_machine.specs.Walks.{Walk}
use Rattle.fz_machine.proofs.Kept.{passed}

-- ---- the bits of a word

pub count_bits : (bits : ℕ) → length (bits_of bits) ≡ 64
count_bits bits = length-map-range_with_len (has_bit bits) 0 64

module _ (bits count : ℕ) (few : count ≤ 64) where
  first_bits : take count (bits_of bits) ≡ map (has_bit bits) (range_with_len 0 count)
  first_bits = take-map-range_with_len (has_bit bits) 0 64 count few

  pub bits_taken : length (take count (bits_of bits)) ≡ count
  bits_taken = ap length first_bits ∙ length-map-range_with_len (has_bit bits) 0 count

  pub bit_taken : (i : ℕ) → i < count → get_or (take count (bits_of bits)) i false ≡ has_bit bits i
  bit_taken i lt = ap (λ xs. get_or xs i false) first_bits ∙ get_or-map-range_with_len (has_bit bits) 0 count i i false lt (omega arith)

pub not_bits : (bits : ℕ) → bits < 2 ^ 64 → map not (bits_of bits) ≡ bits_of (bit_not w64 bits)
not_bits bits fits =
    fill_by_all (has_bit (bit_not w64 bits)) (map not (bits_of bits)) 64 false (length-map (bits_of bits) not ∙ count_bits bits)
    (λ k lt. get_or-map not (bits_of bits) k false false (let long = count_bits bits in omega (arith, long, lt)) ∙ ap not (get_or-map-range_with_len (has_bit bits) 0 64 k k false lt (omega arith)) ∙ sym (not_bit bits k fits lt))

-- the word none of whose bits is set
pub zero_bits : AreAll false 0
zero_bits =
    sym (fill_by_all (has_bit 0) (map (λ (b : Bool). false) (bits_of 0)) 64 false (length-map (bits_of 0) (λ (b : Bool). false) ∙ count_bits 0)
    (λ k lt. get_or-map (λ (b : Bool). false) (bits_of 0) k false false (let long = count_bits 0 in omega (arith, long, lt)) ∙ sym (no_bits k)))

-- the word all of whose bits are set
pub all_bits : (bits : ℕ) → map (λ (b : Bool). true) (bits_of bits) ≡ bits_of (bit_not w64 0)
all_bits bits =
    fill_by_all (has_bit (bit_not w64 0)) (map (λ (b : Bool). true) (bits_of bits)) 64 false (length-map (bits_of bits) (λ (b : Bool). true) ∙ count_bits bits)
    (λ k lt. get_or-map (λ (b : Bool). true) (bits_of bits) k false false (let long = count_bits bits in omega (arith, long, lt)) ∙ sym (not_bit 0 k (omega arith) lt ∙ ap not (no_bits k)))

-- ---- the items whose bits are set

pub chosen_none : (items : List Item) → chosen [] items ≡ []
chosen_none [] = refl
chosen_none (item ∷ items) = refl

-- one more bit
pub chosen_more : (bits : List Bool) (b : Bool) (items : List Item) (item : Item) → slice_get items (length bits) ≡ Some item → chosen (bits ++ b ∷ []) items ≡ chosen bits items ++ cond b (item ∷ []) []
chosen_more bits b [] item at = absurd (none-some item at)
chosen_more [] true (x ∷ items) item at = ap (λ y. y ∷ chosen [] items) (same_Some x item at) ∙ ap (λ xs. item ∷ xs) (chosen_none items)
chosen_more [] false (x ∷ items) item at = chosen_none items
chosen_more (true ∷ bits) b (x ∷ items) item at = ap (λ xs. x ∷ xs) (chosen_more bits b items item at)
chosen_more (false ∷ bits) b (x ∷ items) item at = chosen_more bits b items item at

-- bits beyond the items choose nothing
pub chosen_within : (bits : List Bool) (items : List Item) (n : ℕ) → length items ≤ n → chosen (take n bits) items ≡ chosen bits items
chosen_within bits [] n le = refl
chosen_within [] (x ∷ items) zero le = refl
chosen_within [] (x ∷ items) (suc n) le = refl
chosen_within (b ∷ bits) (x ∷ items) zero le = absurd (omega (arith, le))
chosen_within (true ∷ bits) (x ∷ items) (suc n) le = ap (λ xs. x ∷ xs) (chosen_within bits items n (omega (arith, le)))
chosen_within (false ∷ bits) (x ∷ items) (suc n) le = chosen_within bits items n (omega (arith, le))

pub chosen_few : (bits : List Bool) (items : List Item) (count few : ℕ) → few ≡ min count (length items) → chosen (take few bits) items ≡ chosen (take count bits) items
chosen_few bits items count few is =
    ⊎_elim
    (λ (lt : count < length items). let same : few ≡ count = omega (arith, is, lt) in ap (λ n. chosen (take n bits) items) same)
    (λ (le : length items ≤ count). chosen_within bits items few (omega (arith, is, le)) ∙ sym (chosen_within bits items count le))
    (cases_lt count (length items))

-- ---- one more item is moved, if its bit is set

pub item_behind : (n k m : ℕ) (xs : List Item) → m ≡ n + k → slice_get (drop n xs) k ≡ slice_get xs m
item_behind zero k m xs is = ap (slice_get xs) (let same : k ≡ m = omega (arith, is) in same)
item_behind (suc n) k m [] is = refl
item_behind (suc n) k m (x ∷ xs) is = item_behind n k (n + k) xs refl ∙ ap (slice_get (x ∷ xs)) (let next : suc (n + k) ≡ m = omega (arith, is) in next)

module _ (es were : List Item) (end place i : ℕ) (item : Item) (le : end ≤ place + i) (left : drop (place + i) es ≡ drop (place + i) were) where
  pub left_moved : drop (place + (i + 1)) (set es end item) ≡ drop (place + (i + 1)) were
  left_moved =
      let next : place + (i + 1) ≡ place + i + 1 = omega arith in
      drop-set-lt (place + (i + 1)) es end item (omega (arith, le)) ∙ ap (λ k. drop k es) next ∙ passed (place + i) es ∙ ap (drop 1) left ∙ sym (passed (place + i) were) ∙ sym (ap (λ k. drop k were) next)

  module _ (at : slice_get es (place + i) ≡ Some item) where
    was_there : slice_get (drop place were) i ≡ Some item
    was_there =
        let here : place + i ≡ place + i + 0 = omega arith in
        item_behind place i (place + i) were refl ∙ sym (item_behind (place + i) 0 (place + i) were here) ∙ ap (λ xs. slice_get xs 0) (sym left) ∙ item_behind (place + i) 0 (place + i) es here ∙ at

    module _ (bits : List Bool) (b : Bool) (bit : get_or bits i false ≡ b) (lt : i < length bits) where
      grown : chosen (take (i + 1) bits) (drop place were) ≡ chosen (take i bits) (drop place were) ++ cond b (item ∷ []) []
      grown =
          let taken : length (take i bits) ≡ i = let long = length-take i bits in omega (arith, long, lt) in
          ap (λ bs. chosen bs (drop place were)) (take_more bits i false lt ∙ ap (λ x. take i bits ++ x ∷ []) bit)
          ∙ chosen_more (take i bits) b (drop place were) item (ap (slice_get (drop place were)) taken ∙ was_there)

      pub kept_moved : (kept : List Item) (new : ℕ) → end < length es → new ≡ end + from_bool b → take end es ≡ kept ++ chosen (take i bits) (drop place were) → take new (set es end item) ≡ kept ++ chosen (take (i + 1) bits) (drop place were)
      kept_moved kept new within is so_far = by b is ∙ sym (ap (λ xs. kept ++ xs) grown)
        where
          by : (x : Bool) → new ≡ end + from_bool x → take new (set es end item) ≡ kept ++ (chosen (take i bits) (drop place were) ++ cond x (item ∷ []) [])
          by true one = ap (λ n. take n (set es end item)) one ∙ take_more_set es end item within ∙ ap (λ xs. xs ++ item ∷ []) so_far ∙ append_assoc kept (chosen (take i bits) (drop place were)) (item ∷ [])
          by false none =
              let same : new ≡ end = omega (arith, none) in
              ap (λ n. take n (set es end item)) same ∙ take-set es end item ∙ so_far ∙ ap (λ xs. kept ++ xs) (sym (append-nil (chosen (take i bits) (drop place were))))

-- all bits are set
pub chosen_all : (bits : List Bool) (items : List Item) → chosen (map (λ (b : Bool). true) bits) items ≡ take (length bits) items
chosen_all [] items = chosen_none items
chosen_all (b ∷ bits) [] = refl
chosen_all (b ∷ bits) (x ∷ items) = ap (λ xs. x ∷ xs) (chosen_all bits items)

-- no bit is set
chosen_of_none : (bits : List Bool) (items : List Item) → chosen (map (λ (b : Bool). false) bits) items ≡ []
chosen_of_none [] items = chosen_none items
chosen_of_none (b ∷ bits) [] = refl
chosen_of_none (b ∷ bits) (x ∷ items) = chosen_of_none bits items

pub chosen_by_zero : (count : ℕ) (items : List Item) → chosen (take count (bits_of 0)) items ≡ []
chosen_by_zero count items =
    ap (λ bs. chosen (take count bs) items) zero_bits ∙ ap (λ bs. chosen bs items) (take-map (λ (b : Bool). false) count (bits_of 0)) ∙ chosen_of_none (take count (bits_of 0)) items

-- the word all of whose bits are set chooses the first items
pub chosen_whole : (count : ℕ) → count ≤ 64 → (items : List Item) → chosen (take count (bits_of (bit_not w64 0))) items ≡ take count items
chosen_whole count few items =
    ap (λ bs. chosen (take count bs) items) (sym (all_bits 0)) ∙ ap (λ bs. chosen bs items) (take-map (λ (b : Bool). true) count (bits_of 0)) ∙ chosen_all (take count (bits_of 0)) items ∙ ap (λ n. take n items) (bits_taken 0 count few)

-- the first items are kept where they are
pub kept_whole : (bits count few kept place : ℕ) (items : List Item) → bits ≡ bit_not w64 0 → count ≤ 64 → kept ≡ place → few ≡ min count (length (drop place items)) → take (kept + few) items ≡ take kept items ++ chosen (take count (bits_of bits)) (drop place items)
kept_whole bits count few kept place items all le same is =
    take-add kept few items
    ∙ ap (λ xs. take kept items ++ xs)
    (ap (λ k. take few (drop k items)) same ∙ ap (λ n. take n (drop place items)) is ∙ take_min count (drop place items) ∙ sym (chosen_whole count le (drop place items)) ∙ ap (λ b. chosen (take count (bits_of b)) (drop place items)) (sym all))

-- of more items than bits only the first are chosen
pub chosen_first : (n : ℕ) (bits : List Bool) (items : List Item) → chosen (take n bits) (take n items) ≡ chosen (take n bits) items
chosen_first zero bits items = refl ∙ sym (chosen_none items)
chosen_first (suc n) [] items = chosen_none (take (suc n) items) ∙ sym (chosen_none items)
chosen_first (suc n) (b ∷ bits) [] = refl
chosen_first (suc n) (true ∷ bits) (x ∷ items) = ap (λ xs. x ∷ xs) (chosen_first n bits items)
chosen_first (suc n) (false ∷ bits) (x ∷ items) = chosen_first n bits items

-- what is chosen of a part of a list, by its length, is chosen of the first items from there on
pub chosen_left : (bits count few place : ℕ) (items read : List Item) → read ≡ items → few ≡ min count (length items - place)
    → chosen (take (length (take (place + few - place) (drop place read))) (bits_of bits)) (take (place + few - place) (drop place read)) ≡ chosen (take count (bits_of bits)) (drop place items)
chosen_left bits count few place items read is few_is =
    let xs = drop place items in
    let n : place + few - place ≡ few = omega arith in
    let long = length-drop place items in
    let short : few ≡ min count (length xs) = omega (arith, few_is, long) in
    let part : take (place + few - place) (drop place read) ≡ take few xs = (λ i. take (n i) (drop place (is i))) in
    let taken = length-take few xs in
    let count_is : length (take few xs) ≡ few = omega (arith, taken, short) in
    ap (λ (ys : List Item). chosen (take (length ys) (bits_of bits)) ys) part ∙ ap (λ k. chosen (take k (bits_of bits)) (take few xs)) count_is ∙ chosen_first few (bits_of bits) xs ∙ chosen_few (bits_of bits) xs count few short

-- a list of chosen items becomes longer by the next one, if its bit is set
pub appended_more : (bits count : ℕ) → count ≤ 64 → (i : ℕ) → i < count → (items : List Item) (item : Item) → slice_get items i ≡ Some item → (on : Bool) → on ≡ has_bit bits i → (list : List Item)
    → (list ++ chosen (take i (take count (bits_of bits))) items) ++ cond on (item ∷ []) [] ≡ list ++ chosen (take (i + 1) (take count (bits_of bits))) items
appended_more bits count few i lt items item at on is list =
    let taken = bits_taken bits count few in
    let before = take i (take count (bits_of bits)) in
    let long : length before ≡ i = length-take i (take count (bits_of bits)) ∙ (let all = taken in omega (arith, all, lt)) in
    append_assoc list (chosen before items) (cond on (item ∷ []) [])
    ∙ ap (λ xs. list ++ xs)
    (sym (chosen_more before on items item (ap (slice_get items) long ∙ at)) ∙ ap (λ b. chosen (before ++ b ∷ []) items) (is ∙ sym (bit_taken bits count few i lt))
    ∙ ap (λ bs. chosen bs items) (sym (take_more (take count (bits_of bits)) i false (omega (arith, taken, lt)))))

-- no more items are chosen than there are bits
pub chosen_long : (i : ℕ) (bits : List Bool) (items : List Item) → length (chosen (take i bits) items) ≤ i
chosen_long zero bits items = let none = ap length (chosen_none items) in omega (arith, none)
chosen_long (suc i) [] items = let none = ap length (chosen_none items) in omega (arith, none)
chosen_long (suc i) (b ∷ bits) [] = omega arith
chosen_long (suc i) (true ∷ bits) (x ∷ items) = let rest = chosen_long i bits items in omega (arith, rest)
chosen_long (suc i) (false ∷ bits) (x ∷ items) = let rest = chosen_long i bits items in omega (arith, rest)

-- each item is chosen or not
pub chosen_count : (bits : List Bool) (items : List Item) → length (chosen bits items) + length (chosen (map not bits) items) + length (drop (length bits) items) ≡ length items
chosen_count [] items =
    let none : length (chosen [] items) ≡ 0 = ap length (chosen_none items) in
    let neither : length (chosen (map not []) items) ≡ 0 = ap length (chosen_none items) in
    let all : length (drop 0 items) ≡ length items = refl in
    omega (arith, none, neither, all)
chosen_count (b ∷ bits) [] = refl
chosen_count (true ∷ bits) (x ∷ items) =
    let rest = chosen_count bits items in
    omega (arith, rest)
chosen_count (false ∷ bits) (x ∷ items) =
    let rest = chosen_count bits items in
    omega (arith, rest)

-- ---- the phases that only choose items

-- a phase that keeps an item by its answer alone, and changes nothing else
record Chooses (phase : Phase) (is_kept : Bool → Bool) : Type 0 where
  outside : settles phase ≡ false
  kept : (item : Item) (answer : Bool) → keeps phase item answer ≡ is_kept answer
  same : (item : Item) (answer : Bool) (s : State) → after phase item answer s ≡ s
  off : (item : Item) (answer : Bool) (off : PutOff) → put_off phase item answer off ≡ off

keeps_false : (phase : Phase) → keeps_unmarked phase ≡ true → Chooses phase not
keeps_false ShortTargets on = record { outside = refl; kept = λ item answer. refl; same = λ item answer s. refl; off = λ item answer o. refl }
keeps_false ShortKeys on = record { outside = refl; kept = λ item answer. refl; same = λ item answer s. refl; off = λ item answer o. refl }
keeps_false Objects on = record { outside = refl; kept = λ item answer. refl; same = λ item answer s. refl; off = λ item answer o. refl }
keeps_false Again on = record { outside = refl; kept = λ item answer. refl; same = λ item answer s. refl; off = λ item answer o. refl }
keeps_false LateAgain on = record { outside = refl; kept = λ item answer. refl; same = λ item answer s. refl; off = λ item answer o. refl }
keeps_false LongTargets on = record { outside = refl; kept = λ item answer. refl; same = λ item answer s. refl; off = λ item answer o. refl }
keeps_false LongKeys on = record { outside = refl; kept = λ item answer. refl; same = λ item answer s. refl; off = λ item answer o. refl }
keeps_false phase on = absurd (true≢false (sym on))

keeps_each : (phase : Phase) → keeps_all phase ≡ true → Chooses phase (λ (answer : Bool). true)
keeps_each Children on = record { outside = refl; kept = λ item answer. refl; same = λ item answer s. refl; off = λ item answer o. refl }
keeps_each Picks on = record { outside = refl; kept = λ item answer. refl; same = λ item answer s. refl; off = λ item answer o. refl }
keeps_each phase on = absurd (true≢false (sym on))

pub unsettled : (phase : Phase) → keeps_unmarked phase ≡ true → settles phase ≡ false
unsettled phase on = (keeps_false phase on).outside

pub unsettled_all : (phase : Phase) → keeps_all phase ≡ true → settles phase ≡ false
unsettled_all phase on = (keeps_each phase on).outside

module _ (phase : Phase) (is_kept : Bool → Bool) (only : Chooses phase is_kept) (s : State) (aside : List Item) (off : PutOff) (told : List (ℕ × ℕ)) where
  abbrev at : List Item → List Item → Going
  at kept left = record { finalizers = s; kept = kept; left = left; aside = aside; off = off; told = told }

  kept_one : (on : Bool) (bits : List Bool) (kept left : List Item) (item : Item) → cond on (kept ++ item ∷ []) kept ++ chosen bits left ≡ kept ++ chosen (on ∷ bits) (item ∷ left)
  kept_one false bits kept left item = refl
  kept_one true bits kept left item = append_assoc kept (item ∷ []) (chosen bits left)

  stepped_at : (answer : Bool) (kept left : List Item) (item : Item) → step phase answer (at kept (item ∷ left)) ≡ at (cond (is_kept answer) (kept ++ item ∷ []) kept) left
  stepped_at answer kept left item i = record { finalizers = only.same item answer s i; kept = cond (only.kept item answer i) (kept ++ item ∷ []) kept; left = left; aside = aside; off = only.off item answer off i; told = told }

  -- the answers choose among the items
  chosen_by : (answers : List Bool) (kept left : List Item) → steps phase answers (at kept left) ≡ at (kept ++ chosen (map is_kept answers) left) (drop (length answers) left)
  chosen_by [] kept left = ap (λ xs. at xs left) (sym (ap (λ xs. kept ++ xs) (chosen_none left) ∙ append-nil kept))
  chosen_by (answer ∷ answers) kept [] = chosen_by answers kept [] ∙ ap (at (kept ++ [])) (drop_all (length answers) [] (omega arith))
  chosen_by (answer ∷ answers) kept (item ∷ left) =
      ap (steps phase answers) (stepped_at answer kept left item) ∙ chosen_by answers (cond (is_kept answer) (kept ++ item ∷ []) kept) left
      ∙ ap (λ xs. at xs (drop (length answers) left)) (kept_one (is_kept answer) (map is_kept answers) kept left item)

-- a list of which a word chooses is the list after the answers, if the word's bits are those of the items that the answers keep
chosen_walk : (phase : Phase) (is_kept : Bool → Bool) → Chooses phase is_kept → (bits word count : ℕ) → bits_of word ≡ map is_kept (bits_of bits) → count ≤ 64 → (f : View) (old new : Walk) → new.kept ≡ old.kept ++ chosen (take count (bits_of word)) old.left → new.left ≡ drop count old.left
    → new ≡ record old { kept = new.kept; left = new.left } → going f new [] ≡ steps phase (take count (bits_of bits)) (going f old [])
chosen_walk phase is_kept only bits word count is few f old new kept left others =
    let mask : take count (bits_of word) ≡ map is_kept (take count (bits_of bits)) = ap (take count) is ∙ take-map is_kept count (bits_of bits) in
    let taken = bits_taken bits count few in
    ap (λ (w : Walk). going f w []) others
    ∙ (λ i. record { finalizers = f.state; kept = kept i; left = left i; aside = old.aside; off = old.off; told = [] })
    ∙ (λ i. record { finalizers = f.state; kept = old.kept ++ chosen (mask i) old.left; left = drop (sym taken i) old.left; aside = old.aside; off = old.off; told = [] })
    ∙ sym (chosen_by phase is_kept only f.state old.aside old.off [] (take count (bits_of bits)) old.kept old.left)

-- the items whose bits aren't set are kept
pub sifted : (phase : Phase) → keeps_unmarked phase ≡ true → (bits count : ℕ) → bits < 2 ^ 64 → count ≤ 64 → (f : View) (old new : Walk) → new.kept ≡ old.kept ++ chosen (take count (bits_of (bit_not w64 bits))) old.left → new.left ≡ drop count old.left
    → new ≡ record old { kept = new.kept; left = new.left } → going f new [] ≡ steps phase (take count (bits_of bits)) (going f old [])
sifted phase on bits count fits few f old new kept left others = chosen_walk phase not (keeps_false phase on) bits (bit_not w64 bits) count (sym (not_bits bits fits)) few f old new kept left others

-- all items are kept
pub sifted_all : (phase : Phase) → keeps_all phase ≡ true → (bits count : ℕ) → count ≤ 64 → (f : View) (old new : Walk) → new.kept ≡ old.kept ++ chosen (take count (bits_of (bit_not w64 0))) old.left → new.left ≡ drop count old.left
    → new ≡ record old { kept = new.kept; left = new.left } → going f new [] ≡ steps phase (take count (bits_of bits)) (going f old [])
sifted_all phase on bits count few f old new kept left others = chosen_walk phase (λ (answer : Bool). true) (keeps_each phase on) bits (bit_not w64 0) count (sym (all_bits bits)) few f old new kept left others

-- ---- the answers with which a phase drops an item, and changes nothing else

record IsIdle (phase : Phase) (answer : Bool) : Type 0 where
  kept : (item : Item) → keeps phase item answer ≡ false
  same : (item : Item) (s : State) → after phase item answer s ≡ s
  off : (item : Item) (off : PutOff) → put_off phase item answer off ≡ off

idle : (phase : Phase) (answer : Bool) → idle_answer phase ≡ Some answer → IsIdle phase answer
idle (Values moment) answer is = subst (IsIdle (Values moment)) (same_Some false answer is) (record { kept = λ item. refl; same = λ item s. refl; off = λ item o. refl })
idle ShortCleanups answer is = subst (IsIdle ShortCleanups) (same_Some true answer is) (record { kept = λ item. refl; same = λ item s. refl; off = λ item o. refl })
idle LongCleanups answer is = subst (IsIdle LongCleanups) (same_Some true answer is) (record { kept = λ item. refl; same = λ item s. refl; off = λ item o. refl })
idle ShortHolders answer is = subst (IsIdle ShortHolders) (same_Some true answer is) (record { kept = λ item. refl; same = λ item s. refl; off = λ item o. refl })
idle LongHolders answer is = subst (IsIdle LongHolders) (same_Some true answer is) (record { kept = λ item. refl; same = λ item s. refl; off = λ item o. refl })
idle ShortKeyHolders answer is = subst (IsIdle ShortKeyHolders) (same_Some true answer is) (record { kept = λ item. refl; same = λ item s. refl; off = λ item o. refl })
idle LongKeyHolders answer is = subst (IsIdle LongKeyHolders) (same_Some true answer is) (record { kept = λ item. refl; same = λ item s. refl; off = λ item o. refl })
idle phase answer is = absurd (none-some answer is)

module _ (phase : Phase) (answer : Bool) (it : IsIdle phase answer) (s : State) (kept aside : List Item) (off : PutOff) (told : List (ℕ × ℕ)) where
  abbrev idling : List Item → Going
  idling left = record { finalizers = s; kept = kept; left = left; aside = aside; off = off; told = told }

  idled : (bits : List Bool) (left : List Item) → steps phase (map (λ (bit : Bool). answer) bits) (idling left) ≡ idling (drop (length bits) left)
  idled [] left = refl
  idled (bit ∷ bits) [] = idled bits [] ∙ ap idling (drop_all (length bits) [] (omega arith))
  idled (bit ∷ bits) (item ∷ left) =
      ap (steps phase (map (λ (b : Bool). answer) bits)) (λ i. record { finalizers = it.same item s i; kept = cond (it.kept item i) (kept ++ item ∷ []) kept; left = left; aside = aside; off = it.off item off i; told = told })
      ∙ idled bits left

-- a list whose first items are dropped is the list after such answers
pub dropped : (phase : Phase) (answer : Bool) → idle_answer phase ≡ Some answer → (bits count : ℕ) → AreAll answer bits → count ≤ 64 → (f : View) (old new : Walk) → new ≡ record old { left = drop count old.left } → going f new [] ≡ steps phase (take count (bits_of bits)) (going f old [])
dropped phase answer is bits count all few f old new others =
    let taken = take count (bits_of bits) in
    ap (λ (w : Walk). going f w []) others ∙ ap (λ n. going f (record old { left = drop n old.left }) []) (sym (bits_taken bits count few))
    ∙ sym (idled phase answer (idle phase answer is) f.state old.kept old.aside old.off [] taken old.left) ∙ ap (λ bs. steps phase bs (going f old [])) (sym (ap (take count) all ∙ take-map (λ (bit : Bool). answer) count (bits_of bits)))

-- and no more can be put off than before
pub dropped_room : (settling : Bool) (old new : Walk) (count : ℕ) → new ≡ record old { left = drop count old.left } → HasRoomOff settling old → HasRoomOff settling new
dropped_room settling old new count is room = subst (HasRoomOff settling) (sym is) (by settling room)
  where
    by : (b : Bool) → HasRoomOff b old → HasRoomOff b (record old { left = drop count old.left })
    by true h =
        let less = length-drop count old.left in
        let list = h.0 in
        let beside = h.1 in
        let off = h.2 in
        (omega (arith, less, list), omega (arith, less, beside), omega (arith, less, off))
    by false h = h

-- ---- the phases that keep ephemerons, and put off the others

record Parts (phase : Phase) : Type 0 where
  inside : settles phase ≡ true
  kept : (item : Item) (answer : Bool) → keeps phase item answer ≡ answer
  same : (item : Item) (answer : Bool) (s : State) → after phase item answer s ≡ s
  off : (item : Item) (answer : Bool) (off : PutOff) → put_off phase item answer off ≡ cond answer off (stuck_with off item)

parts : (phase : Phase) → keeps_marked phase ≡ true → Parts phase
parts (Keys moment) on = record { inside = refl; kept = λ item answer. refl; same = λ item answer s. refl; off = λ item answer o. refl }
parts (KeysAgain moment) on = record { inside = refl; kept = λ item answer. refl; same = λ item answer s. refl; off = λ item answer o. refl }
parts (Holders moment) on = record { inside = refl; kept = λ item answer. refl; same = λ item answer s. refl; off = λ item answer o. refl }
parts phase on = absurd (true≢false (sym on))

pub settled : (phase : Phase) → keeps_marked phase ≡ true → settles phase ≡ true
settled phase on = (parts phase on).inside

abbrev with_stuck : PutOff → List Item → PutOff
with_stuck off items = record off { stuck = off.stuck ++ items }

module _ (phase : Phase) (only : Parts phase) (s : State) (aside : List Item) (told : List (ℕ × ℕ)) where
  abbrev having : List Item → List Item → PutOff → Going
  having kept left off = record { finalizers = s; kept = kept; left = left; aside = aside; off = off; told = told }

  parted_at : (answer : Bool) (kept left : List Item) (off : PutOff) (item : Item) → step phase answer (having kept (item ∷ left) off) ≡ having (cond answer (kept ++ item ∷ []) kept) left (cond answer off (stuck_with off item))
  parted_at answer kept left off item i = record { finalizers = only.same item answer s i; kept = cond (only.kept item answer i) (kept ++ item ∷ []) kept; left = left; aside = aside; off = only.off item answer off i; told = told }

  parted_by : (answers : List Bool) (kept left : List Item) (off : PutOff) → steps phase answers (having kept left off) ≡ having (kept ++ chosen answers left) (drop (length answers) left) (with_stuck off (chosen (map not answers) left))
  parted_by [] kept left off =
      let none = chosen_none left in
      (λ i. having (sym (ap (λ xs. kept ++ xs) none ∙ append-nil kept) i) left (record off { stuck = sym (ap (λ xs. off.stuck ++ xs) none ∙ append-nil off.stuck) i }))
  parted_by (answer ∷ answers) kept [] off = parted_by answers kept [] off ∙ ap (λ xs. having (kept ++ []) xs (with_stuck off [])) (drop_all (length answers) [] (omega arith))
  parted_by (true ∷ answers) kept (item ∷ left) off =
      ap (steps phase answers) (parted_at true kept left off item) ∙ parted_by answers (kept ++ item ∷ []) left off
      ∙ ap (λ xs. having xs (drop (length answers) left) (with_stuck off (chosen (map not answers) left))) (append_assoc kept (item ∷ []) (chosen answers left))
  parted_by (false ∷ answers) kept (item ∷ left) off =
      ap (steps phase answers) (parted_at false kept left off item) ∙ parted_by answers kept left (stuck_with off item)
      ∙ ap (λ xs. having (kept ++ chosen answers left) (drop (length answers) left) (record off { stuck = xs })) (append_assoc off.stuck (item ∷ []) (chosen (map not answers) left))

-- a list that a word parts is the list after the answers
pub parted : (phase : Phase) → keeps_marked phase ≡ true → (bits count : ℕ) → bits < 2 ^ 64 → count ≤ 64 → (f : View) (old new : Walk) → new.kept ≡ old.kept ++ chosen (take count (bits_of bits)) old.left → new.left ≡ drop count old.left
    → new.off ≡ with_stuck old.off (chosen (take count (bits_of (bit_not w64 bits))) old.left) → new ≡ record old { kept = new.kept; left = new.left; off = new.off; off_room = new.off_room } → going f new [] ≡ steps phase (take count (bits_of bits)) (going f old [])
parted phase on bits count fits few f old new kept left off others =
    let mask : take count (bits_of (bit_not w64 bits)) ≡ map not (take count (bits_of bits)) = ap (take count) (sym (not_bits bits fits)) ∙ take-map not count (bits_of bits) in
    let taken = bits_taken bits count few in
    ap (λ (w : Walk). going f w []) others
    ∙ (λ i. record { finalizers = f.state; kept = kept i; left = left i; aside = old.aside; off = off i; told = [] })
    ∙ (λ i. record { finalizers = f.state; kept = old.kept ++ chosen (take count (bits_of bits)) old.left; left = drop (sym taken i) old.left; aside = old.aside; off = with_stuck old.off (chosen (mask i) old.left); told = [] })
    ∙ sym (parted_by phase (parts phase on) f.state old.aside [] (take count (bits_of bits)) old.kept old.left old.off)

-- and all of it can still be put off
pub parted_room : (bits count : ℕ) → bits < 2 ^ 64 → count ≤ 64 → (old new : Walk) → new.kept ≡ old.kept ++ chosen (take count (bits_of bits)) old.left → new.left ≡ drop count old.left
    → new.off ≡ with_stuck old.off (chosen (take count (bits_of (bit_not w64 bits))) old.left) → new ≡ record old { kept = new.kept; left = new.left; off = new.off; off_room = new.off_room } → old.off_room ≤ new.off_room → HasRoomOff true old → HasRoomOff true new
parted_room bits count fits few old new kept left off others more room =
    let answers = take count (bits_of bits) in
    let mask : take count (bits_of (bit_not w64 bits)) ≡ map not answers = ap (take count) (sym (not_bits bits fits)) ∙ take-map not count (bits_of bits) in
    let all = chosen_count answers old.left in
    let here = ap length kept ∙ length-append old.kept (chosen answers old.left) in
    let rest = ap length left ∙ ap (λ n. length (drop n old.left)) (sym (bits_taken bits count few)) in
    let stuck = ap (λ (o : PutOff). length o.stuck) off ∙ length-append old.off.stuck (chosen (take count (bits_of (bit_not w64 bits))) old.left) in
    let others_off = ap (λ bs. length (chosen bs old.left)) mask in
    let index = ap (λ (o : PutOff). length o.index) off in
    let told = ap (λ (o : PutOff). length o.told) off in
    let list = room.0 in
    let beside = room.1 in
    let rows = room.2 in
    let room_is = ap (λ (w : Walk). w.room) others in
    let other_is = ap (λ (w : Walk). w.other) others in
    (omega (arith, all, here, rest, stuck, others_off, index, told, list, room_is), omega (arith, all, here, rest, stuck, others_off, index, told, beside, other_is), omega (arith, all, here, rest, stuck, others_off, index, told, rows, more))

-- ---- the phases that keep the items that are known

abbrev is_known : Item → Bool
is_known item = item.known

one_more : (n : ℕ) → 1 + n ≡ suc n
one_more n = omega arith

pub is_on : (b : Bool) → not b ≡ false → b ≡ true
is_on true off = refl
is_on false off = absurd (true≢false off)

-- none of a list is known first
pub none_known : (left : List Item) → left ≡ [] → prefix_len is_known left ≡ 0
none_known left is = ap (prefix_len is_known) is

module _ (left : List Item) (item : Item) (first : left ≡ item ∷ drop 1 left) where
  pub known_ends : item.known ≡ false → prefix_len is_known left ≡ 0
  known_ends off = ap (prefix_len is_known) first ∙ ap (λ b. cond b (1 + prefix_len is_known (drop 1 left)) 0) off

  pub known_moved : (kept : List Item) → item.known ≡ true → (kept ++ item ∷ []) ++ take_while is_known (drop 1 left) ≡ kept ++ take_while is_known left
  known_moved kept on =
      append_assoc kept (item ∷ []) (take_while is_known (drop 1 left))
      ∙ ap (λ xs. kept ++ xs) (sym (ap (take_while is_known) first ∙ ap (λ b. take (cond b (1 + prefix_len is_known (drop 1 left)) 0) (item ∷ drop 1 left)) on ∙ ap (λ n. take n (item ∷ drop 1 left)) (one_more (prefix_len is_known (drop 1 left)))))

  pub known_behind : item.known ≡ true → drop (prefix_len is_known (drop 1 left)) (drop 1 left) ≡ drop (prefix_len is_known left) left
  known_behind on =
      sym (ap (λ xs. drop (prefix_len is_known xs) xs) first ∙ ap (λ b. drop (cond b (1 + prefix_len is_known (drop 1 left)) 0) (item ∷ drop 1 left)) on ∙ ap (λ n. drop n (item ∷ drop 1 left)) (one_more (prefix_len is_known (drop 1 left))))

known_keeps : (phase : Phase) → keeps_known phase ≡ true → keeps_unmarked phase ≡ true
known_keeps ShortTargets on = refl
known_keeps Objects on = refl
known_keeps LongTargets on = refl
known_keeps phase on = absurd (true≢false (sym on))

asked_unless : (b : Bool) (ask : Ask) → is_some (cond b None (Some ask)) ≡ not b
asked_unless true ask = refl
asked_unless false ask = refl

asks_unknown : (phase : Phase) → keeps_known phase ≡ true → (item : Item) → is_some (asks phase item) ≡ not item.known
asks_unknown ShortTargets on item = asked_unless item.known IsMarked
asks_unknown Objects on item = asked_unless item.known IsMarked
asks_unknown LongTargets on item = asked_unless item.known IsMarked
asks_unknown phase on item = absurd (true≢false (sym on))

module _ (phase : Phase) (on : keeps_known phase ≡ true) (s : State) (aside : List Item) (off : PutOff) (told : List (ℕ × ℕ)) where
  only : Chooses phase not
  only = keeps_false phase (known_keeps phase on)

  abbrev here : List Item → List Item → Going
  here = at phase not only s aside off told

  abbrev IsSkipped : List Item → List Item → Type 0
  IsSkipped kept left = skipped phase left (here kept left) ≡ here (kept ++ take_while is_known left) (drop (prefix_len is_known left) left)

  skipped_one : (kept left : List Item) (item : Item) (b : Bool) → item.known ≡ b → ((k : List Item) → IsSkipped k left)
      → cond (not b) (here kept (item ∷ left)) (skipped phase left (step phase false (here kept (item ∷ left)))) ≡ here (kept ++ take_while is_known (item ∷ left)) (drop (prefix_len is_known (item ∷ left)) (item ∷ left))
  skipped_one kept left item true is rest =
      ap (skipped phase left) (stepped_at phase not only s aside off told false kept left item) ∙ rest (kept ++ item ∷ [])
      ∙ ap (λ xs. here xs (drop (prefix_len is_known left) left)) (append_assoc kept (item ∷ []) (take_while is_known left))
      ∙ ap (λ n. here (kept ++ take n (item ∷ left)) (drop n (item ∷ left))) (sym (one_more (prefix_len is_known left)))
      ∙ sym (ap (λ b. here (kept ++ take (cond b (1 + prefix_len is_known left) 0) (item ∷ left)) (drop (cond b (1 + prefix_len is_known left) 0) (item ∷ left))) is)
  skipped_one kept left item false is rest =
      ap (λ xs. here xs (item ∷ left)) (sym (append-nil kept))
      ∙ sym (ap (λ b. here (kept ++ take (cond b (1 + prefix_len is_known left) 0) (item ∷ left)) (drop (cond b (1 + prefix_len is_known left) 0) (item ∷ left))) is)

  known_skipped : (kept left : List Item) → IsSkipped kept left
  known_skipped kept [] = ap (λ xs. here xs []) (sym (append-nil kept))
  known_skipped kept (item ∷ left) =
      ap (λ b. cond b (here kept (item ∷ left)) (skipped phase left (step phase false (here kept (item ∷ left))))) (asks_unknown phase on item)
      ∙ skipped_one kept left item item.known refl (λ k. known_skipped k left)

-- a list whose first items are kept as long as they are known is the list once the items about which nothing is asked are skipped
pub known_kept : (phase : Phase) → keeps_known phase ≡ true → (f : View) (old new : Walk) → new.kept ≡ old.kept ++ take_while is_known old.left → new.left ≡ drop (prefix_len is_known old.left) old.left → new ≡ record old { kept = new.kept; left = new.left } → going f new [] ≡ skip phase (going f old [])
known_kept phase on f old new kept left others =
    ap (λ (w : Walk). going f w []) others ∙ (λ i. record { finalizers = f.state; kept = kept i; left = left i; aside = old.aside; off = old.off; told = [] })
    ∙ sym (known_skipped phase on f.state old.aside old.off [] old.kept old.left)

pub unsettled_known : (phase : Phase) → keeps_known phase ≡ true → settles phase ≡ false
unsettled_known phase on = unsettled phase (known_keeps phase on)

-- ---- the room of a list whose items are kept or not

pub same_lists : (old new : Walk) → new ≡ record old { kept = new.kept; left = new.left } → IsSameRoom old new
same_lists old new others = let off = ap (λ (w : Walk). w.off_room) others in (ap (λ (w : Walk). w.room) others, ap (λ (w : Walk). w.other) others, omega (arith, off))

pub room_to_part : (walk : Walk) → HasRoomOff true walk → length walk.left + length walk.off.stuck ≤ walk.off_room
room_to_part walk room = let rows = room.2 in omega (arith, rows)
