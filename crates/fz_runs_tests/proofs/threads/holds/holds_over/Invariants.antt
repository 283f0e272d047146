use Rattle.fz_runs_tests.proofs.threads.holds.holds_over.Given as goal

abbrev pub ghosts-holds_of-O-Opening : goal.ghosts-holds_of-O-Opening
ghosts-holds_of-O-Opening g a = record { origin = a.prepared }

abbrev pub ghosts-holds_of-I-Ledger : goal.ghosts-holds_of-I-Ledger
ghosts-holds_of-I-Ledger g a = record { name = a.input.name; parts = a.input.parts }
