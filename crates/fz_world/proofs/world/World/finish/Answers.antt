use Rattle.std.proofs.Common.{◌∙◌, ap}
use Rattle.fz_finalizers.specs.States.{Memory}
use Rattle.fz_world.proofs.Leaving.{finishes}
use Rattle.fz_world.proofs.Linking.{IsKept}
use Rattle.fz_world.proofs.world.World.finish.Goals as goal

pub invariant_of-self : goal.invariant_of-self
invariant_of-self c =
    let w = c.self.inside in
    let e = c.finish.ensures in
    let h : IsKept w.marked.heap w.marked.marker w.dirty w.cycle w.finalizers.state = (c.self.invariant.0, c.self.invariant.1, c.self.invariant.2, c.self.invariant.3) in
    let now = finishes w.marked.heap w.marked.marker w.dirty w.cycle w.finalizers.state c.finish.new.self.state c.args.entry.now c.finish.result e.refused e.follows h in
    (now.0, now.1, now.2, now.3, ap (λ (m : Memory). m.whole) e.memory ∙ c.self.invariant.4)
