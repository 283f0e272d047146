use Rattle.std.proofs.Common.{ap}
use Rattle.fz_runs.specs.declared.arguments.Program.TheVariants.{Run}
use Rattle.finalize.proofs.Running.{completed, stopped}
use Rattle.finalize.proofs.program.run_script.Goals as goal

pub returns-in-Ok : goal.returns-in-Ok
returns-in-Ok g c = completed Run _ (record { remaining = g.I.Read.remaining c.new-reader.result.inner; failures = c.new-reader.result.failures }) _ _ _ (ap (λ (s : _). g.I.Read.remaining s.inner) c.new-reader.ensures) (_, _, c.in-Ok.ensures)

pub returns : goal.returns
returns g c = stopped Run _ (record { remaining = g.I.Read.remaining c.new-reader.result.inner; failures = c.new-reader.result.failures }) _ _ _ _ _ c.in-Err.fault (ap (λ (s : _). g.I.Read.remaining s.inner) c.new-reader.ensures) c.explain.ensures.status (_, c.in-Err.ensures) c.explain.ensures.line
