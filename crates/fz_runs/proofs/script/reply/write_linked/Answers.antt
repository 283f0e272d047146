use Rattle.fz_runs.proofs.script.reply.write_linked.Goals as goal

pub returns-in-Duplicate : goal.returns-in-Duplicate
returns-in-Duplicate g c = rw c.in-Duplicate.is c.write_line-in-Duplicate.ensures
