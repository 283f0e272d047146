use Rattle.std.proofs.Common.{ap, ◌∙◌}
use Rattle.std.specs.FinMap.{remove}
use Rattle.fz_finalizers.specs.States.{Memory, links_of}
use Rattle.fz_world.proofs.Addresses.{framed, unlink_refused, unlinks}
use Rattle.fz_world.proofs.Linking.{IsKept, targets_of, relinked}
use Rattle.fz_world.proofs.Targets.{targets_unlinked}
use Rattle.fz_world.proofs.world.World.unlink_at.Goals as goal

pub returns-in_err-link-clause-by : goal.returns-in_err-link-clause-by
returns-in_err-link-clause-by c =
    rw (← c.self.view_is) (λ frames slot there at. unlink_refused (framed c.self.inside frames) slot there c.args.address at c.args.which c.args.offset c.in_err-link.field-0.0 _ c.from_residual.ensures.1 c.in_err-link.ensures.judged)

pub invariant_of-self : goal.invariant_of-self
invariant_of-self c =
    let w = c.self.inside in
    let h : IsKept w.marked.heap w.marked.marker w.dirty w.cycle w.finalizers.state = (c.self.invariant.0, c.self.invariant.1, c.self.invariant.2, c.self.invariant.3) in
    let links = links_of w.finalizers.state c.args.which in
    let now = relinked w.marked.heap w.marked.marker w.dirty w.cycle w.finalizers.state c.unlink.new.self.state c.args.which (remove links c.in_ok-link.link) c.unlink.ensures.follows
    (targets_unlinked w.marked.heap.objects links c.in_ok-link.link (targets_of w.marked.heap w.marked.marker w.dirty w.cycle w.finalizers.state c.args.which h)) h in
    (now.0, now.1, now.2, now.3, ap (λ (m : Memory). m.whole) c.unlink.ensures.memory ∙ c.self.invariant.4)

pub returns-clause-by : goal.returns-clause-by
returns-clause-by c =
    let e = c.unlink.ensures in
    rw (← c.self.view_is)
    (λ frames slot there at. unlinks (framed c.self.inside frames) slot there c.args.address at c.args.which c.args.offset c.unlink.new.self c.in_ok-link.link c.unlink.result c.in_ok-link.ensures.judged c.in_ok-link.ensures.place e.answer e.follows e.memory)
