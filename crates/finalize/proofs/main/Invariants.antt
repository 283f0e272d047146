use Rattle.finalize.proofs.main.Given as goal

abbrev pub ghosts-with_streams-O-Ledger : goal.ghosts-with_streams-O-Ledger
ghosts-with_streams-O-Ledger g a = record { name = a.out.name; parts = a.out.parts }

abbrev pub ghosts-with_streams-E-Ledger : goal.ghosts-with_streams-E-Ledger
ghosts-with_streams-E-Ledger g a = record { name = a.err.name; parts = a.err.parts }
