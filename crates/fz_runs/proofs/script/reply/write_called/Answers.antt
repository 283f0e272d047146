use Rattle.fz_runs.proofs.script.reply.write_called.Goals as goal

pub returns-in-Outstanding : goal.returns-in-Outstanding
returns-in-Outstanding g c = rw c.in-Outstanding.is c.write_line-in-Outstanding.ensures
