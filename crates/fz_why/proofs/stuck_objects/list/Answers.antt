use Rattle.std.proofs.Common.{◌≡◌, ◌∙◌, Contains, ap, filter}
use Rattle.std.specs.Map.{keys_of}
use Rattle.fz_pass.proofs.Walking.{one_on, all_of}
use Rattle.fz_why.specs.Trail.{is_stuck_by}
use Rattle.fz_why.proofs.Circles.{listed_more}
use Rattle.fz_why.proofs.Whole.{is_next}
use Rattle.fz_why.proofs.stuck_objects.list.Goals as goal

pub loop-each-preserved : goal.loop-each-preserved
loop-each-preserved c =
    let inv = c.loop-each.invariant in
    let es = c.iter-each-items.result in
    let on = one_on c.loop-each.yielded c.loop-each.each-iterator _ c.next.new.self c.in-Some.each inv.rest c.in-Some.ensures.steps in
    let within : Contains es c.in-Some.each = is_next c.loop-each.yielded c.in-Some.each c.next.new.self es (on ∙ c.into_iter-each-iterator.ensures.into_iter_gives) in
    record {
      listed = listed_more c.args.finalizers.now.state c.args.found.now c.args.reached.now es c.loop-each.yielded c.in-Some.each c.loop-each.objects.items c.push_behind.new.objects.items c.iter-each-items.ensures.all within inv.listed c.in_ok-push_behind.ensures.pushed;
      rest = on;
    }

pub returns : goal.returns
returns c = record {
  listed =
      let es = c.iter-each-items.result in
      let all : c.loop-each.yielded ≡ es = all_of c.loop-each.yielded _ es (c.loop-each.invariant.rest ∙ c.into_iter-each-iterator.ensures.into_iter_gives) c.in-None.ensures.steps.0 in
      c.loop-each.invariant.listed ∙ ap (λ ys. filter (is_stuck_by c.args.finalizers.now.state c.args.found.now c.args.reached.now) (keys_of ys)) (all ∙ c.iter-each-items.ensures.order);
}
