use Rattle.std.proofs.Common.{subst}
use Rattle.fz_runs.specs.Devices.{Gains}
use Rattle.fz_runs.specs.Replies.{end_words}
use Rattle.fz_runs.specs.Written.{text_line}
use Rattle.fz_runs.proofs.script.run.finish.Goals as goal

pub returns-in-Ok-write_end : goal.returns-in-Ok-write_end
returns-in-Ok-write_end g c = (
  c.in-Some.machine,
  c.in-Some.is,
  c.summary-summary.ensures,
  subst (λ s. Gains (g.W.Sink.log c.args.writer.now) (text_line (end_words s)) (g.W.Sink.log c.write_end.new.writer)) c.summary-summary.ensures c.in-Ok-write_end.ensures,
)
