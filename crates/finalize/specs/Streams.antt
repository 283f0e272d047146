-- How a stream interprets its writer's results.
-- code: finalize/src/stream.rt
use Rattle.std.specs.Prelude.{ℕ, zero, suc, Option, Some, None}

-- a write that takes no byte has failed
abbrev pub taken_of : Option ℕ → Option ℕ
taken_of None = None
taken_of (Some zero) = None
taken_of (Some (suc count)) = Some (suc count)
