-- Sets of block numbers, and runs of them.
-- code: fz_blocks/src/block_set.rt
use Rattle.std.specs.Prelude.{ℕ, ◌+◌, ◌-◌, nat_lt, nat_le, ◌<◌, Option, Some, None, Bool, if◌then◌else◌, List, slice_index_or, IsTrue, IsFalse}
use Rattle.std.specs.FinSet.{empty, contains}
use Rattle.fz_model.specs.Bits.{has_bit}
use Rattle.fz_bits.specs.Flags.{Set, Flagged}

abbrev pub BlockNumbers : Type 0
BlockNumbers = Set

abbrev pub no_room : Flagged
no_room = record { size = 0; members = empty }

-- the set of a class, and for how many blocks it has room
abbrev pub members_at : List Flagged → ℕ → BlockNumbers
members_at sets class = (slice_index_or sets class no_room).members

abbrev pub room_at : List Flagged → ℕ → ℕ
room_at sets class = (slice_index_or sets class no_room).size

-- the lowest member
pub record IsLeast (blocks : BlockNumbers) (least : ℕ) : Type 0 where
  pub member : IsTrue (contains blocks least)
  pub before : (b : ℕ) → b < least → IsFalse (contains blocks b)

-- the number is the lowest member, if there is one
abbrev pub IsLeastOf : BlockNumbers → Option ℕ → Type 0
IsLeastOf blocks None = (b : ℕ) → IsFalse (contains blocks b)
IsLeastOf blocks (Some b) = IsLeast blocks b

abbrev pub lesser : Option ℕ → ℕ → ℕ
lesser None block = block
lesser (Some least) block = if nat_le least block then least else block

-- the bit at an index of two words, one after the other
abbrev pub has_pair_bit : ℕ → ℕ → ℕ → Bool
has_pair_bit word next place = if nat_lt place 64 then has_bit word place else has_bit next (place - 64)

-- the bits of `runs` are the indices at which `count` successive set bits begin in two words, one after the other
pub record AreRunsOf (runs word next count : ℕ) : Type 0 where
  pub all : (place k : ℕ) → place < 64 → IsTrue (has_bit runs place) → k < count → IsTrue (has_pair_bit word next (place + k))
  pub each : (place : ℕ) → place < 64 → ((k : ℕ) → k < count → IsTrue (has_pair_bit word next (place + k))) → IsTrue (has_bit runs place)

-- the set contains `count` successive numbers from b on; and the lowest such b
abbrev pub HasRun : BlockNumbers → ℕ → ℕ → Type 0
HasRun blocks count b = (k : ℕ) → k < count → IsTrue (contains blocks (b + k))

pub record IsLeastRun (blocks : BlockNumbers) (count least : ℕ) : Type 0 where
  pub run : HasRun blocks count least
  pub before : (b : ℕ) → b < least → HasRun blocks count b → ⊥
