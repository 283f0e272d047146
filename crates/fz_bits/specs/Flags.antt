-- Sets of numbers, and how the bits of words represent one.
-- code: fz_bits/src/flags.rt, members.rt, small_flags.rt, sparse_flags.rt, word_flags.rt
use Rattle.std.specs.Prelude.{◌≡◌, ◌^◌, ℕ, nat_le, ◌&&◌, ◌+◌, ◌-◌, ◌*◌, ◌/◌, ◌<◌, ◌≤◌, List, length, filter, [], Option, None, Some, IsTrue, IsFalse, refl}
use Rattle.std.specs.Coded.{Coded, code_by, coded×, coded_ℕ}
use Rattle.std.specs.List.{range_with_len}
use Rattle.std.specs.Ordering.{nat_cmp}
use Rattle.std.specs.FinSet as sets
use Rattle.std.specs.FinSet.{FinSet, contains, from_list, retain}
use Rattle.fz_model.specs.Bits.{has_bit, has_flag}

abbrev pub Set : Type 0
Set = FinSet nat_cmp

-- a set, and for how many numbers it has room
pub record Flagged : Type 0 where
  pub size : ℕ
  pub members : Set

abbrev pub flagged_code : Coded Flagged
flagged_code = code_by (ℕ × Set) (coded× coded_ℕ (sets.code coded_ℕ)) (λ f. (f.size, f.members)) (λ p. record { size = p.0; members = p.1 }) (λ _. refl)

-- the index of the word that contains the number's bit
abbrev pub word_of : ℕ → ℕ → ℕ
word_of first n = (n - first) / 64

-- the numbers whose bits are set; the first bit belongs to `first`
abbrev pub flagged : ℕ → List ℕ → Set
flagged first words = retain (from_list (range_with_len first (64 * length words))) (λ n. has_flag words (n - first))

-- all members of one set are in another
abbrev pub IsWithin : Set → Set → Type 0
IsWithin inner outer = (n : ℕ) → IsTrue (contains inner n) → IsTrue (contains outer n)

-- `next` is the lowest member that is at least `from`
pub record IsNext (set : Set) (from next : ℕ) : Type 0 where
  pub member : IsTrue (contains set next)
  pub after : from ≤ next
  pub before : (n : ℕ) → from ≤ n → n < next → IsFalse (contains set n)

-- the members that are at least `next`, in ascending order
abbrev pub members_from : ℕ → Flagged → ℕ → List ℕ
members_from first f next = filter (contains f.members) (range_with_len next (first + f.size - next))

-- the same for an iterator, which may be at its end
abbrev pub members_left : ℕ → Flagged → Option ℕ → List ℕ
members_left first f None = []
members_left first f (Some next) = members_from first f next

-- The rest is for proofs alone: the invariant of two levels of bits, and the invariant of a loop over words.

-- the second set has the index of every word with members, and has room for all words
pub record AreWordsOf (flags words : Flagged) : Type 0 where
  pub fits : flags.size ≤ 2 ^ 64
  pub room : flags.size ≤ 64 * words.size
  pub within : (n : ℕ) → IsTrue (contains flags.members n) → n < flags.size
  pub noted : (n : ℕ) → IsTrue (contains flags.members n) → IsTrue (contains words.members (n / 64))
  pub some : (word : ℕ) → IsTrue (contains words.members word) → (n : ℕ) × (n / 64 ≡ word) × IsTrue (contains flags.members n)

-- the set has room only from the first number on, and its members lie within that room
pub record HasRoom (first : ℕ) (f : Flagged) : Type 0 where
  pub fits : first + f.size ≤ 2 ^ 64
  pub each : (n : ℕ) → IsTrue (contains f.members n) → (first ≤ n) × (n < first + f.size)

-- the bits of the word at an index, without those of numbers below `from`; no earlier word has a member that is at least `from`
pub record IsRest (first : ℕ) (set : Set) (from index rest : ℕ) : Type 0 where
  pub bits : (place : ℕ) → place < 64 → has_bit rest place ≡ (nat_le (from - first) (64 * index + place) && contains set (first + 64 * index + place))
  pub before : (n : ℕ) → from ≤ n → n < first + 64 * index → IsFalse (contains set n)
