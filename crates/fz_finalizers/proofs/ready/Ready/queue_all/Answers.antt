use Rattle.std.proofs.Common.{ap, ◌∙◌, List, subst}
use Rattle.fz_finalizers.specs.Ready.{Ready, QueuesTable}
use Rattle.fz_model.specs.declared.answers.Entry.{Entry}
use Rattle.fz_finalizers.proofs.Taking.{gains, held_still}
use Rattle.fz_finalizers.proofs.ready.Ready.queue_all.Goals as goal

pub invariant_of-self : goal.invariant_of-self
invariant_of-self c = gains c.self.inside.queue _ c.self.inside.taken c.self.invariant 0 _ c.queue_all.ensures.gained.1

pub returns-clause-held : goal.returns-clause-held
returns-clause-held c = held_still c.self.inside.queue _ c.self.inside.taken c.self.invariant 0 _ c.queue_all.ensures.gained.1 ∙ ap (λ (r : Ready). r.held) c.self.view_is

pub returns-clause-queued : goal.returns-clause-queued
returns-clause-queued c =
    subst (λ (es : List Entry). QueuesTable c.args.table.now.content c.queue_all.new.table.late es c.queue_all.new.self.queue) (ap (λ (r : Ready). r.queue) c.self.view_is) c.queue_all.ensures.queued
