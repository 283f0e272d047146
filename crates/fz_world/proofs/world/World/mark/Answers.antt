use Rattle.std.proofs.Common.{◌≡◌, ◌<◌, None, refl, arith, rules, true}
use Rattle.std.specs.FinMap.{len}
use Rattle.fz_model.specs.declared.answers.Progress.TheVariants.{More}
use Rattle.fz_model.specs.Causes.{first_cause}
use Rattle.fz_model.specs.declared.call.Call.TheVariants.{Mark}
use Rattle.fz_model.specs.Events.{Make, causes}
use Rattle.fz_world.specs.World.{view_of}
use Rattle.fz_world.proofs.Does.{does_mark}
use Rattle.fz_world.proofs.Inside.{core_inside}
use Rattle.fz_world.proofs.Scans.{one_left}
use Rattle.fz_world.proofs.Whole.{world_unfinished, world_stepped}
use Rattle.fz_world.proofs.world.World.mark.Goals as goal

pub step-requires-clause-size : goal.step-requires-clause-size
step-requires-clause-size c = c.self.inside.marked.size

pub step-requires-clause-unfinished : goal.step-requires-clause-unfinished
step-requires-clause-unfinished c =
    let on : c.self.inside.cycle ≡ true = search rules in
    world_unfinished _ _ _ _ _ c.self.invariant.0 on

pub invariant_of-self : goal.invariant_of-self
invariant_of-self c = (world_stepped _ _ _ _ _ c.step.new.self c.step.ensures.kept c.step.ensures.closed c.step.ensures.still c.step.ensures.each_once c.self.invariant.0, c.self.invariant.1, c.self.invariant.2, c.self.invariant.3, c.self.invariant.4)

pub returns-clause-step : goal.returns-clause-step
returns-clause-step c =
    let w = c.self.inside in
    let none : first_cause (causes (core_inside w) (Make (Mark c.args.budget))) ≡ None = search rules in
    let few : c.step.result ≡ More → c.args.budget < len w.marked.heap.objects = λ more.
    let scans = c.step.ensures.more more in
    let each_once = c.step.ensures.each_once in
    let left = one_left w.marked.heap.objects c.step.new.self.marked w.marked.marker.scanned c.step.new.self.scanned (c.step.ensures.left more) in
    omega (arith, scans, each_once, left) in
    rw (← c.self.view_is) (does_mark (view_of (core_inside w) w.marked.marker w.dirty w.finalizers.memory) (view_of (core_inside w) c.step.new.self w.dirty w.finalizers.memory) c.args.budget c.step.result none (few, refl) c.step.ensures.led refl)
