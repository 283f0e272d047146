use Rattle.std.proofs.Common.{◌≡◌, ◌<◌, ◌≤◌, ◌^◌, ℕ, ◌+◌, ◌-◌, List}
use Rattle.fz_runs.specs.Reading.{unread}
use Rattle.std.specs.Io.KnownBytes.{Consumes, prepend_known}
use Rattle.fz_runs.specs.Devices.{Gains}
use Rattle.fz_runs.proofs.Runs.{Position}
use Rattle.fz_runs.proofs.script.run.drive.Given as goal

abbrev pub invariant-lines : goal.invariant-lines
invariant-lines g l = record {
  position : (seen : List ℕ) × (text : List ℕ) × Consumes (g.R.Source.feed l.fn.reader).remaining (prepend_known (unread l.chunk) (g.R.Source.feed l.reader).remaining) seen × Gains (g.W.Sink.log l.fn.writer) text (g.W.Sink.log l.writer) × Position seen l.number text l.machine l.counts;
  in_time : l.number ≤ 2 ^ 32 + 1;
  steps : l.counts.steps < l.number;
  refused : l.counts.refused < l.number;
  finished : l.counts.finished < l.number;
  forfeited : l.counts.forfeited < l.number;
  reads : (g.R.Source.feed l.reader).failures ≡ (g.R.Source.feed l.fn.reader).failures;
}

abbrev pub decreases-lines : goal.decreases-lines
decreases-lines g l = 2 ^ 32 + 2 - l.number
