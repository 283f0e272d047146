-- The tables so far are renewed, or the same.
use Rattle.fz_machine.specs.Going.{AreRenewed}
use Rattle.fz_machine.proofs.tables.renew.Given as goal

abbrev pub invariant-loop-sweep : goal.invariant-loop-sweep
invariant-loop-sweep l = AreRenewed l.fn.by l.fn.finalizers.state l.fn.tables l.tables
