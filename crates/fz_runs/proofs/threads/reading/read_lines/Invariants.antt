use Rattle.std.proofs.Common.{◌≡◌, ◌≤◌, ◌-◌, ℕ, List}
use Rattle.fz_runs.specs.Reading.{unread}
use Rattle.std.specs.Io.KnownBytes.{Consumes, prepend_known}
use Rattle.fz_runs.proofs.FileReading.{Place}
use Rattle.fz_runs.proofs.threads.reading.read_lines.Given as goal

abbrev pub invariant-lines : goal.invariant-lines
invariant-lines g l = record {
  place : (seen : List ℕ) × Consumes (g.R.Source.feed l.fn.reader).remaining (prepend_known (unread l.chunk) (g.R.Source.feed l.reader).remaining) seen × Place seen l.number l.draft;
  in_time : l.number ≤ 4097;
  reads : (g.R.Source.feed l.reader).failures ≡ (g.R.Source.feed l.fn.reader).failures;
}

abbrev pub decreases-lines : goal.decreases-lines
decreases-lines g l = 4098 - l.number
