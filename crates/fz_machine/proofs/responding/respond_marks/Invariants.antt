-- The bits of the places so far are the marks.
use Rattle.std.proofs.Common.{◌+◌, ◌*◌, ◌<◌, ◌≤◌, ◌≡◌, ℕ, false}
use Rattle.fz_model.specs.Bits.{has_bit}
use Rattle.fz_machine.specs.Graph.{graph_of, is_told}
use Rattle.fz_machine.proofs.responding.respond_marks.Given as goal

abbrev pub invariant-loop-place : goal.invariant-loop-place
invariant-loop-place g l = record {
  most : l.place ≤ 64;
  done : (i : ℕ) → i < l.place → has_bit l.word i ≡ is_told g.H.Host.place l.ask (graph_of (g.H.Host.objects l.host) (g.H.Host.marked l.host)) (l.region + 16 * i);
  rest : (i : ℕ) → l.place ≤ i → has_bit l.word i ≡ false;
}
