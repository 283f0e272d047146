-- What the hasher of addresses computes. Means only, since no result depends on it.
-- code: fz_table/src/hasher.rt
use Rattle.std.specs.Prelude.{ℕ, ◌*◌, ◌/◌, ◌%◌, ◌^◌, List, length, if◌then◌else◌, nat_eq, bit_xor}
use Rattle.std.specs.Int.{w64, from_le_bytes}
use Rattle.fz_table.specs.declared.hasher.AddressHasher.{AddressHasher}
use Rattle.fz_table.specs.declared.hasher.TheConstants.{SCATTER}

-- the hash of a number that comes after others in a row
abbrev pub hash_in_row : ℕ → ℕ
hash_in_row word =
    let mixed = bit_xor (bit_xor word (word / 2 ^ 7)) (word / 2 ^ 18) in
    bit_xor (mixed / 2 ^ 2) ((mixed * 2 ^ 24) % 2 ^ 64)

-- the hash of the address that was written
abbrev pub hash_of : AddressHasher → ℕ
hash_of h =
    if h.of_words then if nat_eq (h.word % 8) 0 then hash_in_row (h.word / 8) else hash_in_row ((h.word * SCATTER) % 2 ^ 64 / 2 ^ 20) else hash_in_row h.word

-- the hasher after a write; only the eight bytes of a word count
abbrev pub written : AddressHasher → List ℕ → AddressHasher
written h bytes = if nat_eq (length bytes) 8 then record h { word = from_le_bytes w64 bytes } else h
