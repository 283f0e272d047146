use Rattle.fz_world.proofs.Lawful.{refuses, runs, marks, finds, retried}
use Rattle.fz_world.proofs.law.every_world.Goals as goal

pub returns-clause-refused : goal.returns-clause-refused
returns-clause-refused c = refuses

pub returns-clause-runs : goal.returns-clause-runs
returns-clause-runs c = runs

pub returns-clause-marks : goal.returns-clause-marks
returns-clause-marks c = marks

pub returns-clause-finds : goal.returns-clause-finds
returns-clause-finds c = finds

pub returns-clause-retried : goal.returns-clause-retried
returns-clause-retried c = retried
