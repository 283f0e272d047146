use Rattle.std.proofs.Common.{◌≡◌, ℕ, List, ◌++◌, length}
use Rattle.std.specs.Io.KnownBytes.{Appends}
use Rattle.fz_runs.proofs.text.output.write_all.Given as goal

abbrev pub invariant-loop-rest : goal.invariant-loop-rest
invariant-loop-rest g l = record {
  written : (done : List ℕ) × (l.bytes ≡ done ++ l.rest) × Appends (g.W.Sink.log l.fn.writer).written (g.W.Sink.log l.writer).written done;
  same : (g.W.Sink.log l.writer).failures ≡ (g.W.Sink.log l.fn.writer).failures;
}

abbrev pub decreases-loop-rest : goal.decreases-loop-rest
decreases-loop-rest g l = length l.rest
