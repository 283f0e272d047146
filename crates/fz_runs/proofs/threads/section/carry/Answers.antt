use Rattle.std.proofs.Common.{sym, subst}
use mir.Val.{bool_byte}
use Rattle.fz_runs.specs.Holds.{HasRefused, Carries}
use Rattle.fz_runs.proofs.Holding.{one_call}
use Rattle.fz_runs.proofs.threads.section.carry.Goals as goal

pub returns-in-Call-clause-refused : goal.returns-in-Call-clause-refused
returns-in-Call-clause-refused g c =
    subst (λ job. HasRefused g.O.Opening.origin (Carries job) (bool_byte c.hold_for.result)) (sym c.in-Call.is) (one_call _ c.in-Call.call _ c.hold_for.ensures)
