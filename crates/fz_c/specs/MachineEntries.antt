-- Entries, as C represents them, and taking them.
-- code: fz_c/src/machine/entries.rt
use Rattle.std.specs.Prelude.{◌≡◌, ◌⊎◌, ℕ, List, [], Some, None}
use Rattle.fz_model.specs.declared.answers.Entry as answers
use Rattle.fz_finalizers.specs.Follows.{Event, Follows}
use Rattle.fz_finalizers.specs.Queue.{IsFirstHeldFrom}
use Rattle.fz_finalizers.specs.States.{waiting}
use Rattle.fz_machine.specs.Machines.{KeepsPass, Machine}
use Rattle.fz_c.specs.declared.machine.codes.TheConstants.{OK, EMPTY}
use Rattle.fz_c.specs.declared.machine.entries.HostEntry.{HostEntry}

abbrev pub entry_of : HostEntry → answers.Entry
entry_of e = record { seq = e.seq; pass = e.pass; reg = e.reg; obj = e.obj; birth = 0; proc = e.proc; cd = e.cd }

abbrev pub TellsEntry : answers.Entry → HostEntry → Type 0
TellsEntry e told = told ≡ record { seq = e.seq; pass = e.pass; reg = e.reg; obj = e.obj; proc = e.proc; cd = e.cd }

-- the first waiting entry is taken, as this event says, and stored in C's variable; or none waits, and the variable is unchanged; an open pass is unchanged
abbrev pub Takes : (answers.Entry → Event) → Machine → Machine → ℕ → HostEntry → HostEntry → Type 0
Takes event m n code old told =
    KeepsPass m n
    × (((code ≡ EMPTY) × (waiting m.finalizers.state ≡ []) × (n.finalizers.state ≡ m.finalizers.state) × (told ≡ old))
    ⊎ ((code ≡ OK) × ((e : answers.Entry) × Follows m.finalizers.state (event e) n.finalizers.state × TellsEntry e told)))

-- the first of these with a number of at least `from` is stored in C's variable; or there is none, and the variable is unchanged
abbrev pub ShowsUnfinished : List answers.Entry → ℕ → ℕ → HostEntry → HostEntry → Type 0
ShowsUnfinished entries from code old told =
    ((code ≡ EMPTY) × IsFirstHeldFrom entries from None × (told ≡ old))
    ⊎ ((code ≡ OK) × ((e : answers.Entry) × IsFirstHeldFrom entries from (Some e) × TellsEntry e told))
