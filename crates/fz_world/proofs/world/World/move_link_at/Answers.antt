use Rattle.std.proofs.Common.{◌≡◌, ap, ◌∙◌}
use Rattle.std.specs.FinMap.{get}
use Rattle.fz_model.specs.Steps.{moved_to}
use Rattle.fz_finalizers.specs.States.{Memory, links_of}
use Rattle.fz_world.proofs.Addresses.{framed, move_refused, moves}
use Rattle.fz_world.proofs.Inside.{same_inside}
use Rattle.fz_world.proofs.Linking.{IsKept, targets_of, relinked}
use Rattle.fz_world.proofs.Targets.{targets_moved}
use Rattle.fz_world.proofs.world.World.move_link_at.Goals as goal

pub returns-in_err-old-clause-by : goal.returns-in_err-old-clause-by
returns-in_err-old-clause-by c =
    rw (← c.self.view_is)
    (λ frames slot other there at there_too at_too. move_refused (framed c.self.inside frames) slot other there c.args.address at there_too c.args.to at_too c.args.which c.args.offset c.args.to_offset c.in_err-old.field-0.0 _ c.from_residual.ensures.1 c.in_err-old.ensures.judged)

pub invariant_of-self : goal.invariant_of-self
invariant_of-self c =
    let w = c.self.inside in
    let h : IsKept w.marked.heap w.marked.marker w.dirty w.cycle w.finalizers.state = (c.self.invariant.0, c.self.invariant.1, c.self.invariant.2, c.self.invariant.3) in
    let links = links_of w.finalizers.state c.args.which in
    let now = relinked w.marked.heap w.marked.marker w.dirty w.cycle w.finalizers.state c.move_within.new.finalizers.state c.args.which (moved_to links c.in_ok-old.old c.in_ok-old.new (get links c.in_ok-old.old)) c.move_within.ensures.moved
    (targets_moved w.marked.heap.objects links c.in_ok-old.old c.in_ok-old.new (targets_of w.marked.heap w.marked.marker w.dirty w.cycle w.finalizers.state c.args.which h)) h in
    (now.0, now.1, now.2, now.3, ap (λ (m : Memory). m.whole) c.move_within.ensures.memory ∙ c.self.invariant.4)

pub same-self : goal.same-self
same-self c = same_inside c.self.inside _

pub returns-clause-by : goal.returns-clause-by
returns-clause-by c =
    let e = c.move_within.ensures in
    let places = c.in_ok-old.ensures in
    rw (← c.self.view_is)
    (λ frames slot other there at there_too at_too. moves (framed c.self.inside frames) slot other there c.args.address at there_too c.args.to at_too c.args.which c.args.offset c.args.to_offset c.move_within.new.finalizers c.in_ok-old.old c.in_ok-old.new
    c.move_within.result places.judged places.first places.second e.answer e.moved e.memory)
