-- The finalizers forget, and their state stays as it was.
use Rattle.std.proofs.Common.{length, sym, ap, subst, ◌∙◌, inl, inr, ⊎_elim, arith}
use Rattle.fz_finalizers.specs.States.{State}
use Rattle.fz_world.specs.World.{WorldView, IsWorld, HasNumber, HaveTargets, core_of, view_of}
use Rattle.fz_world.proofs.Plain.{all_held}
use Rattle.fz_world.proofs.Whole.{world_plain}
use Rattle.fz_world.proofs.world.World.forget.Goals as goal

pub invariant_of-self : goal.invariant_of-self
invariant_of-self c =
    let w = c.self.inside in
    let same = sym c.forget.ensures.state in (
      subst (λ (s : State). IsWorld w.marked.heap s w.marked.marker w.dirty w.cycle) same c.self.invariant.0,
      subst (λ (s : State). HasNumber s.passes w.cycle) same c.self.invariant.1,
      subst (λ (s : State). HaveTargets w.marked.heap.objects s.short) same c.self.invariant.2,
      subst (λ (s : State). HaveTargets w.marked.heap.objects s.long) same c.self.invariant.3,
      c.forget.ensures.whole ∙ c.self.invariant.4,
    )

pub returns-clause-same : goal.returns-clause-same
returns-clause-same c =
    let w = c.self.inside in
    let memory = c.forget.new.self.memory in
    (λ i. view_of (core_of w.marked.heap w.frames (c.forget.ensures.state i) w.closed w.cycle) w.marked.marker w.dirty memory)
    ∙ ap (λ (v : WorldView). record v { forgotten = memory.forgotten; remembered = memory.remembered }) c.self.view_is

pub returns-clause-forgotten : goal.returns-clause-forgotten
returns-clause-forgotten c =
    let plain = world_plain _ _ _ _ _ c.self.invariant.0 in
    ⊎_elim (λ still. inl (still ∙ ap (λ (v : WorldView). v.forgotten) c.self.view_is)) (λ all. inr (all ∙ plain.taken ∙ ap (λ (v : WorldView). length v.queue) c.self.view_is)) c.forget.ensures.forgotten

pub returns-clause-few : goal.returns-clause-few
returns-clause-few c =
    let plain = world_plain _ _ _ _ _ c.self.invariant.0 in
    let held = ap length (all_held c.self.inside.finalizers.state plain.taken) in
    let same = ap (λ (s : State). length s.held) c.forget.ensures.state in
    let few = c.forget.ensures.few in
    omega (arith, few, held, same)
