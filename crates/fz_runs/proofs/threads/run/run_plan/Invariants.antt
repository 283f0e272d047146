use Rattle.fz_runs.proofs.threads.run.run_plan.Given as goal

abbrev pub ghosts-run_prepared : goal.ghosts-run_prepared
ghosts-run_prepared g a = record { origin = a.prepared }
