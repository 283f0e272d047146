use Rattle.finalize.proofs.program.run_file.Given as goal

abbrev pub ghosts-run_script : goal.ghosts-run_script
ghosts-run_script g a = record { name = a.ledger.name; parts = a.ledger.parts }

abbrev pub ghosts-run_threads : goal.ghosts-run_threads
ghosts-run_threads g a = record { name = a.ledger.name; parts = a.ledger.parts }
