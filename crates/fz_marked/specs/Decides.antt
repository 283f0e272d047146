-- What a pass decides, with the queue entries of its picks.
-- code: fz_marked/src/pass.rt
use Rattle.std.specs.Prelude.{◌≡◌, ℕ, ◌++◌, Bool, List}
use Rattle.fz_model.specs.declared.answers.Entry.{Entry}
use Rattle.fz_model.specs.declared.answers.Pick.{Pick}
use Rattle.fz_model.specs.Pass.{entries_of}
use Rattle.fz_pass.specs.Decides.{Parts, Decides}

-- the pass of this number makes this decision, and the entries of its picks are appended to the queue with successive numbers
abbrev pub DecidesInto : ℕ → ℕ → Parts → (ℕ → Bool) → Parts → List Entry → List Entry → Type 0
DecidesInto pass first old found new queue new_queue =
    (picks : List Pick) × (new_queue ≡ queue ++ entries_of pass first picks) × Decides old found picks new
