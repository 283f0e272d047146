use Rattle.std.proofs.Common.{[], ◌∙◌, false, sym, ap}
use Rattle.fz_machine.specs.Going.{going}
use Rattle.fz_machine.specs.Steps.{Going, step}
use Rattle.fz_machine.proofs.Kept.{none_left}
use Rattle.fz_machine.proofs.Rooms.{same_twice}
use Rattle.fz_machine.proofs.Stepping.{steps_ended, steps_more}
use Rattle.fz_machine.proofs.asking.hear.Goals as goal

pub returns-in_default-clause-heard : goal.returns-in_default-clause-heard
returns-in_default-clause-heard c =
    let start = going c.args.finalizers.now c.args.walk.now [] in
    let none = none_left c.loop-yes.walk.left (sym c.first.ensures ∙ c.in_default.is) in
    let heard = c.loop-yes.invariant.heard in
    heard ∙ sym (steps_ended c.args.phase c.args.answers.now c.loop-yes.yes-index start (ap (λ (g : Going). g.left) (sym heard) ∙ none))

pub loop-yes-preserved : goal.loop-yes-preserved
loop-yes-preserved c =
    let start = going c.args.finalizers.now c.args.walk.now [] in
    record {
      heard = c.step.ensures.stepped ∙ ap (step c.args.phase _) c.loop-yes.invariant.heard ∙ sym (steps_more c.args.phase c.args.answers.now c.loop-yes.yes-index false start c.loop-yes-test.true);
      room = c.step.ensures.room;
      same = same_twice c.args.walk.now c.loop-yes.walk c.step.new.walk c.loop-yes.invariant.same c.step.ensures.same;
    }
