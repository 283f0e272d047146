use Rattle.fz_runs_tests.proofs.drive.tests.run.Given as goal

abbrev pub ghosts-run_counted-I-Ledger : goal.ghosts-run_counted-I-Ledger
ghosts-run_counted-I-Ledger a = record { name = a.input.name; parts = a.input.parts }

abbrev pub ghosts-run_counted-O-Ledger : goal.ghosts-run_counted-O-Ledger
ghosts-run_counted-O-Ledger a = record { name = a.output.name; parts = a.output.parts }
