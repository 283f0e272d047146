use Rattle.std.proofs.Common.{◌+◌, ◌-◌, [], sym, ap, ◌∙◌, arith, true, List, length, replicate}
use Rattle.crossbeam_deque.specs.Handles.{worker_view}
use Rattle.fz_model.specs.declared.answers.Entry.{Entry}
use Rattle.fz_line.specs.declared.protocol.View.{View}
use Rattle.fz_line.specs.Views.{view_of, without_first}
use Rattle.fz_model.specs.declared.limits.TheConstants.{MAX_WORKERS}
use Rattle.fz_line.proofs.Passes.{forks_as}
use Rattle.fz_line.proofs.Draining.{none_of-less}
use Rattle.fz_line.proofs.opening.new_seat.Goals as goal

pub another-pass-requires : goal.another-pass-requires
another-pass-requires c =
    let end = c.requires.end.0 in
    let v = worker_view c.args.worker.now in
    forks_as _ _ v.sent v.popped [] _ (end.1 ∙ ap (λ (ls : List (List Entry)). view_of true v.sent v.popped ls) (none_of-less c.args.index c.requires.end.1))

pub returns-clause-end : goal.returns-clause-end
returns-clause-end c =
    let end = c.requires.end.0 in
    let lt = c.requires.end.1 in
    let v = worker_view c.args.worker.now in
    let a = c.another-pass.ensures in
    let left = a.rule.0 ∙ ap without_first (end.1 ∙ ap (λ (ls : List (List Entry)). view_of true v.sent v.popped ls) (none_of-less c.args.index lt)) in
    let rest : List (List Entry) = replicate (MAX_WORKERS - (c.args.index + 1)) [] in
    let sent = ap (λ (u : View). length u.sent) left in
    let room = end.0 in
    let same = a.same in (
      (
        (same.0.1 ∙ room.0, omega (arith, same.1, room.1, sent)),
        left ∙ (λ i. view_of true (sym left i).sent (sym left i).popped rest),
        omega arith,
      ),
      ap (λ (u : View). u.sent) left,
      ap (λ (u : View). u.popped) left,
    )
