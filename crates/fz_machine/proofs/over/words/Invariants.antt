-- The words of the regions so far are true.
use Rattle.std.proofs.Common.{◌≡◌, ◌≤◌, ◌<◌, ℕ, length, slice_index_or}
use Rattle.fz_machine.specs.Graph.{IsTrueWord, graph_of}
use Rattle.fz_machine.proofs.over.words.Given as goal

abbrev pub invariant-loop-index : goal.invariant-loop-index
invariant-loop-index g l = record {
  few : l.index ≤ length l.about;
  long : length l.words ≡ 64;
  honest : (i : ℕ) → i < l.index → IsTrueWord g.H.Host.place l.ask (graph_of (g.H.Host.objects l.host) (g.H.Host.marked l.host)) (slice_index_or l.about i 0) (slice_index_or l.words i 0);
}
