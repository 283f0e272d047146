-- Which values of the model C's structs and numbers represent, in both headers.
-- code: fz_c/src/entry.rt, old.rt, kinds.rt
use Rattle.std.specs.Prelude.{◌≡◌, ◌==◌, ℕ, Bool, if◌then◌else◌, true, false, Option, Some, None}
use Rattle.fz_model.specs.declared.answers.Entry as answers
use Rattle.fz_model.specs.declared.answers.Old as answered
use Rattle.fz_model.specs.declared.kinds.LinkKind.{LinkKind}
use Rattle.fz_model.specs.declared.kinds.LinkKind.TheVariants.{Short, Long}
use Rattle.fz_model.specs.declared.kinds.RegKind.{RegKind}
use Rattle.fz_model.specs.declared.kinds.RegKind.TheVariants.{Normal, IgnoreSelf, NoOrder}
use Rattle.fz_c.specs.declared.entry.Entry.{Entry}
use Rattle.fz_c.specs.declared.old.Old.{Old}

abbrev pub entry_of : Entry → answers.Entry
entry_of e = record { seq = e.seq; pass = e.pass; reg = e.reg; obj = e.obj; birth = e.birth; proc = e.proc; cd = e.cd }

abbrev pub TellsOld : Old → Option answered.Old → Type 0
TellsOld told None = told ≡ record { proc = 0; cd = 0; was = false }
TellsOld told (Some old) = told ≡ record { proc = old.proc; cd = old.cd; was = true }

abbrev pub link_kind_of : Bool → LinkKind
link_kind_of true = Long
link_kind_of false = Short

-- the kind of a finalizer by its number in C
abbrev pub reg_kind_of : ℕ → RegKind
reg_kind_of number = if number == 0 then Normal else (if number == 1 then IgnoreSelf else NoOrder)
