use Rattle.std.proofs.Common.{◌≡◌, ◌≤◌, ◌-◌, length}
use Rattle.fz_runs.specs.Reading.{unread}
use Rattle.std.specs.Io.KnownBytes.{Consumes, prepend_known}
use Rattle.fz_runs.specs.Lines.{IsOneLine}
use Rattle.fz_runs.proofs.text.input.next_line.Given as goal

abbrev pub invariant-loop-line : goal.invariant-loop-line
invariant-loop-line g l = record {
  taken : Consumes (prepend_known (unread l.fn.chunk) (g.R.Source.feed l.fn.source).remaining) (prepend_known (unread l.chunk) (g.R.Source.feed l.source).remaining) l.line.items;
  one : IsOneLine l.line.items;
  short : length l.line.items ≤ 200;
  same : (g.R.Source.feed l.source).failures ≡ (g.R.Source.feed l.fn.source).failures;
}

abbrev pub decreases-loop-line : goal.decreases-loop-line
decreases-loop-line g l = 200 - length l.line.items
