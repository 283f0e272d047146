-- The bits of a word, and of a list of 64-bit words.
-- code: fz_bits/src/word_flags.rt
use Rattle.std.specs.Prelude.{ℕ, ◌/◌, ◌%◌, Bool, ◌==◌, List, slice_index}
use Rattle.std.specs.Int.{bit_at}

-- whether the bit at this index is set, counted from the lowest bit
abbrev pub has_bit : ℕ → ℕ → Bool
has_bit word place = bit_at word place == 1

-- whether the bit at this index is set, in a list of 64-bit words
abbrev pub has_flag : List ℕ → ℕ → Bool
has_flag words place = has_bit (slice_index words (place / 64)) (place % 64)
