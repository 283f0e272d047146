use Rattle.std.proofs.Common.{◌≡◌, ap, ◌∙◌}
use Rattle.fz_finalizers.specs.States.{State, Memory, links_of, with_links}
use Rattle.fz_world.proofs.Addresses.{framed, link_refused_at, links_at}
use Rattle.fz_world.proofs.Inside.{same_inside}
use Rattle.fz_world.proofs.Linking.{IsKept, targets_of, relinked}
use Rattle.fz_world.proofs.Targets.{targets_registered}
use Rattle.fz_world.proofs.world.World.link_at.Goals as goal

pub returns-in_err-link-clause-by : goal.returns-in_err-link-clause-by
returns-in_err-link-clause-by c =
    rw (← c.self.view_is) (λ frames slot other there at there_too at_too. link_refused_at (framed c.self.inside frames) slot other there c.args.address at there_too c.args.target at_too c.args.which c.args.offset c.in_err-link.field-0.0 _ c.from_residual.ensures.1 c.in_err-link.ensures.judged)

pub invariant_of-self : goal.invariant_of-self
invariant_of-self c =
    let w = c.self.inside in
    let e = c.enroll.ensures in
    let h : IsKept w.marked.heap w.marked.marker w.dirty w.cycle w.finalizers.state = (c.self.invariant.0, c.self.invariant.1, c.self.invariant.2, c.self.invariant.3) in
    let mid = ap (λ (s : State). links_of s c.args.which) c.make_first_room.ensures.state in
    let links = links_of c.enroll.new.finalizers.state c.args.which in
    let now = relinked w.marked.heap w.marked.marker w.dirty w.cycle w.finalizers.state c.enroll.new.finalizers.state c.args.which links (e.same ∙ ap (λ (s : State). with_links s c.args.which links) c.make_first_room.ensures.state)
    (targets_registered w.marked.heap.objects (links_of w.finalizers.state c.args.which) (links_of c.make_first_room.new.finalizers.state c.args.which) links c.in_ok-link.link c.args.target c.enroll.result mid e.links.unchanged e.links.linked c.in_ok-link.ensures.object
    (targets_of w.marked.heap w.marked.marker w.dirty w.cycle w.finalizers.state c.args.which h)) h in
    (now.0, now.1, now.2, now.3, ap (λ (m : Memory). m.whole) (e.memory ∙ c.make_first_room.ensures.memory c.self.invariant.4) ∙ c.self.invariant.4)

pub same-self : goal.same-self
same-self c = same_inside c.self.inside _

pub returns-clause-by : goal.returns-clause-by
returns-clause-by c =
    let e = c.enroll.ensures in
    rw (← c.self.view_is)
    (λ frames slot other there at there_too at_too. links_at (framed c.self.inside frames) slot other there c.args.address at there_too c.args.target at_too c.args.which c.args.offset c.make_first_room.new.finalizers c.enroll.new.finalizers c.in_ok-link.link
    c.enroll.result c.in_ok-link.ensures.judged c.in_ok-link.ensures.place c.make_first_room.ensures.state (e.memory ∙ c.make_first_room.ensures.memory c.self.invariant.4) e.same e.links)
