use Rattle.std.proofs.Common.{[], ◌∙◌, drop, is_some, sym, ap}
use Rattle.fz_machine.specs.Going.{going}
use Rattle.fz_machine.proofs.Kept.{first_is, none_left}
use Rattle.fz_machine.proofs.Stepping.{skip_here, skip_none}
use Rattle.fz_machine.proofs.asking.skip_each.Goals as goal

pub returns-then-is_some-clause-skipped : goal.returns-then-is_some-clause-skipped
returns-then-is_some-clause-skipped c =
    let now = going c.loop-item.finalizers c.loop-item.walk [] in
    let here = first_is c.loop-item.walk.left c.in-Some.item (sym c.first.ensures ∙ c.in-Some.is) in
    let some = ap is_some (sym c.asks.ensures) ∙ sym c.is_some.ensures ∙ c.if-is_some.true in
    sym (skip_here c.args.phase now c.in-Some.item (drop 1 c.loop-item.walk.left) here some) ∙ c.loop-item.invariant.same

pub returns-clause-skipped : goal.returns-clause-skipped
returns-clause-skipped c =
    let now = going c.loop-item.finalizers c.loop-item.walk [] in
    let none = none_left c.loop-item.walk.left (sym c.first.ensures ∙ c.in_default.is) in
    sym (skip_none c.args.phase now none) ∙ c.loop-item.invariant.same
