use Rattle.std.proofs.Common.{◌≢◌, sym, IsTrue}
use Rattle.std.proofs.lemmas.Bool.{both_ways}
use Rattle.fz_marked.proofs.Traced.{traces_one, traces_as, target_of}
use Rattle.fz_marked.proofs.children.trace_target.Goals as goal
use Rattle.fz_marked.proofs.children.trace_target.Goals.{else-but_itself-via-then-but_itself+else-child-object, else-but_itself-via-else-but_itself}

pub returns : goal.returns
returns c =
    let objects = c.args.heap.now.objects in
    let apart : IsTrue c.args.but_itself → c.in-Some.child ≢ c.args.object = elim c.else-but_itself.branch [
      | else-but_itself-via-then-but_itself+else-child-object w ↦ λ on. w.if-child-object.false
      | else-but_itself-via-else-but_itself w ↦ λ on is. both_ways _ w.if-but_itself.false on
    ] in
    traces_as objects c.args.marker.now c.trace.new.self _ _ (target_of objects c.args.but_itself c.args.object c.args.word c.in-Some.child (sym c.in-Some.ensures.points) apart)
    (traces_one objects c.args.marker.now c.trace.new.self c.in-Some.child c.requires.closed c.trace.ensures.same c.trace.ensures.traced)
