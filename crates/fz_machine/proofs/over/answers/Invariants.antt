-- The answers so far are true, and the next item may be asked about.
use Rattle.std.proofs.Common.{◌≡◌, ◌≤◌, ℕ, List, false, drop, length, map}
use Rattle.std.specs.List.{range_with_len}
use Rattle.fz_model.specs.Bits.{has_bit}
use Rattle.fz_machine.specs.declared.item.Item.{Item}
use Rattle.fz_machine.specs.declared.phase.Phase.{Phase}
use Rattle.fz_machine.specs.Graph.{graph_of}
use Rattle.fz_machine.specs.Responds.{IsAbout}
use Rattle.fz_machine.specs.Runs.{AreAskable, AreHonest}
use Rattle.fz_machine.proofs.over.answers.Given as goal

abbrev pub invariant-loop-index : goal.invariant-loop-index
invariant-loop-index g l = record {
  few : l.index ≤ length l.about;
  rest : (i : ℕ) → l.index ≤ i → has_bit l.bits i ≡ false;
  honest : (phase : Phase) (items : List Item) → IsAbout g.H.Host.is_exact g.H.Host.place g.H.Values.value phase l.ask l.about items (graph_of (g.H.Host.objects l.initial.host) (g.H.Host.marked l.initial.host))
      → AreHonest g.H.Host.is_exact g.H.Host.place g.H.Values.value phase (map (has_bit l.bits) (range_with_len 0 l.index)) items (graph_of (g.H.Host.objects l.initial.host) (g.H.Host.marked l.initial.host)) (graph_of (g.H.Host.objects l.host) (g.H.Host.marked l.host));
  askable : (phase : Phase) (items : List Item) → IsAbout g.H.Host.is_exact g.H.Host.place g.H.Values.value phase l.ask l.about items (graph_of (g.H.Host.objects l.initial.host) (g.H.Host.marked l.initial.host))
      → AreAskable g.H.Host.is_exact g.H.Host.place g.H.Values.value phase (drop l.index items) (graph_of (g.H.Host.objects l.host) (g.H.Host.marked l.host));
  same : g.H.Host.is_same l.initial.host l.host;
}
