use Rattle.std.proofs.Common.{◌++◌, ◌∙◌, ap, sym}
use Rattle.fz_why.proofs.Circles.{found_not, missed_not, listed_is, nothing_more}
use Rattle.fz_why.proofs.stuck_objects.push_behind.Goals as goal

pub returns-then-contains : goal.returns-then-contains
returns-then-contains c = record { pushed = nothing_more c.args.objects.now.items _ (found_not c.args.found.now c.args.reached.now c.args.object (sym c.contains.ensures ∙ c.if-contains.true)) }

pub returns-then-not-contains : goal.returns-then-not-contains
returns-then-not-contains c = record { pushed = nothing_more c.args.objects.now.items _ (missed_not c.args.found.now c.args.reached.now c.args.object (sym c.contains-2.ensures ∙ c.if-not-contains.true)) }

pub returns : goal.returns
returns c = record {
  pushed = c.in_ok-push.ensures.pushed ∙ ap (λ l. c.args.objects.now.items ++ l) (sym (listed_is c.args.found.now c.args.reached.now c.args.object (sym c.contains.ensures ∙ c.if-contains.false) (sym c.contains-2.ensures ∙ c.if-not-contains.false)));
}
