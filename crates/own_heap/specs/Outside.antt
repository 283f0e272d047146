-- Links: in fields of records, and outside the heap.
-- code: own_heap/src/record.rt, host.rt
use Rattle.std.specs.Prelude.{◌≡◌, ℕ, Bool, true, false, if◌then◌else◌, Option, Some, None, nat_lt}
use Rattle.std.proofs.Common.{◌∙◌, sym}
use Rattle.std.proofs.lemmas.Option.{none-some, same_Some}
use Rattle.fz_pass.specs.Places.{StandApart}
use Rattle.own_heap.specs.declared.record.TheConstants.{OUTSIDE}

-- a link in a field has the field's address as its number; a number from `OUTSIDE` on names a link that lies in no record
abbrev pub place_of_link : ℕ → Option ℕ
place_of_link word = if nat_lt word OUTSIDE then Some word else None

-- a link in a field denotes the word of its own number
pub place_itself : (word a : ℕ) → place_of_link word ≡ Some a → word ≡ a
place_itself word a is = by (nat_lt word OUTSIDE) is
  where
    by : (b : Bool) → (if b then Some word else None) ≡ Some a → word ≡ a
    by true found = same_Some word a found
    by false found = absurd (none-some a found)

-- no two links denote one field
pub links_apart : StandApart place_of_link
links_apart v w a p q = place_itself v a p ∙ sym (place_itself w a q)
