-- Opening a handle.
-- code: fz_c/src/machine/opening.rt
use Rattle.std.specs.Prelude.{◌≡◌, ℕ, Option, Some, None}
use Rattle.fz_finalizers.specs.States.{opening}
use Rattle.fz_machine.specs.declared.machine.By.{By}
use Rattle.fz_machine.specs.Going.{noted_by}
use Rattle.fz_machine.specs.Machines.{Machine, IsIdle, none_tabled}
use Rattle.fz_c.specs.declared.machine.codes.TheConstants.{OK, IS_OPEN, NO_MEMORY}

-- an open handle keeps what it has; a new one asks about regions or not
abbrev pub Opens : By → Option Machine → Option Machine → ℕ → Type 0
Opens by (Some old) new code = (code ≡ IS_OPEN) × (new ≡ Some old)
Opens by None (Some m) code = (code ≡ OK) × (m.finalizers.state ≡ opening) × IsIdle m × (m.by ≡ by) × (m.noted ≡ noted_by by) × (m.tabled ≡ none_tabled)
Opens by None None code = code ≡ NO_MEMORY
