-- Whether a table can take another key.
-- code: fz_table/src/table.rt, limits.rt
use Rattle.std.specs.Prelude.{ℕ, Bool, not, ◌&&◌, nat_le}
use Rattle.std.specs.FinMap.{len, contains_key}
use Rattle.fz_model.specs.State.{Map}
use Rattle.fz_table.specs.declared.limits.TheConstants.{MOST_ENTRIES}

-- the key is new, and the table has as many as it can have
abbrev pub lacks_place : {X : Type 0} → Map X → ℕ → Bool
lacks_place table key = not (contains_key table key) && nat_le MOST_ENTRIES (len table)
