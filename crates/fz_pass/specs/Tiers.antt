-- The two rounds of a pass: first the registrations of the model's kinds, then those of the kind unreachable.
-- code: fz_pass/src/listing.rt
use Rattle.std.specs.Prelude.{ℕ, Bool, true, false, not, ◌&&◌, ◌||◌}
use Rattle.std.specs.FinSet.{contains}
use Rattle.fz_table.specs.Tabled.{Set}

-- the flags of a pass, if it has tiers; without tiers there are none
abbrev pub tiered : Bool → Set → ℕ → Bool
tiered tiers late a = tiers && contains late a

-- whether a registration with this flag belongs to the other round
abbrev pub is_other : Bool → Bool → Bool
is_other true flag = not flag
is_other false flag = flag

-- whether a round passes an object over: it is marked, or belongs to the other round
abbrev pub skips : Bool → (ℕ → Bool) → (ℕ → Bool) → ℕ → Bool
skips second late marked a = marked a || is_other second (late a)
