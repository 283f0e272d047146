use Rattle.fz_service.proofs.Lawful.{orders, sends, ends, runs}
use Rattle.fz_service.proofs.law.every_hold.Goals as goal

pub returns-clause-order : goal.returns-clause-order
returns-clause-order c = orders

pub returns-clause-sends : goal.returns-clause-sends
returns-clause-sends c = sends

pub returns-clause-ends : goal.returns-clause-ends
returns-clause-ends c = ends

pub returns-clause-runs : goal.returns-clause-runs
returns-clause-runs c = runs
