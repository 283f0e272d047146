-- The pass so far is a run whose answers are true of the host's graph.
use Rattle.std.proofs.Common.{◌≡◌, length}
use Rattle.fz_finalizers.specs.Follows.{next_pass}
use Rattle.fz_machine.specs.Graph.{graph_of}
use Rattle.fz_machine.specs.Machines.{IsBegun, KeepsNotes, Machine, Tells, next_of}
use Rattle.fz_machine.specs.Runs.{Runs}
use Rattle.fz_machine.proofs.Truly.{Fits, IsAlone, left_to_answer}
use Rattle.fz_machine.proofs.machine.Machine.pass_over.Given as goal

abbrev pub invariant-loop-step : goal.invariant-loop-step
invariant-loop-step g l = record {
  begun : (begun : Machine) × IsBegun l.fn.self begun
      × Runs g.H.Host.is_exact g.H.Host.place g.H.Values.value begun (graph_of (g.H.Host.objects l.fn.host) (g.H.Host.marked l.fn.host)) l.self (graph_of (g.H.Host.objects l.host) (g.H.Host.marked l.host));
  tells : Tells l.self (next_of l.step l.about);
  before : l.self.before ≡ length l.fn.self.finalizers.queue;
  fits : Fits l.fn.self.finalizers.state l.self.finalizers.state;
  alone : IsAlone (record l.fn.self.finalizers.state { passes = next_pass l.fn.self.finalizers.passes }) l.self.finalizers.state;
  regions : KeepsNotes l.fn.self l.self;
  same : g.H.Host.is_same l.fn.host l.host;
}

-- the answers and the questions about regions that may follow
abbrev pub decreases-loop-step : goal.decreases-loop-step
decreases-loop-step g l = left_to_answer l.fn.self.finalizers.state l.self
