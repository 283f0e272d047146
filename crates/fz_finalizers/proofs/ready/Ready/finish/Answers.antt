use Rattle.std.proofs.Common.{filter, not, sym, ap, ◌∙◌}
use Rattle.fz_finalizers.specs.Ready.{Ready}
use Rattle.std.specs.List.{list_any}
use Rattle.fz_model.specs.Events.{same_entry}
use Rattle.fz_finalizers.proofs.Taking.{later_not_held, held_as, finishes, held_finished, none_of}
use Rattle.fz_finalizers.proofs.ready.Ready.finish.Goals as goal

pub invariant_of-self : goal.invariant_of-self
invariant_of-self c = finishes c.self.inside.queue c.self.inside.taken c.self.invariant c.args.entry.now c.if-entry-self.false c.finish.new.self c.finish.ensures.queue c.finish.ensures.forgotten.0 c.finish.ensures.held

not_there : goal.returns-then-entry-self-clause-answer
not_there c = sym (ap (λ (r : Ready). list_any (same_entry c.args.entry.now) r.held) (sym c.self.view_is) ∙ later_not_held c.self.inside.queue c.self.inside.taken c.self.invariant c.args.entry.now c.if-entry-self.true)

pub returns-then-entry-self-clause-answer : goal.returns-then-entry-self-clause-answer
returns-then-entry-self-clause-answer c = not_there c

pub returns-then-entry-self-clause-held : goal.returns-then-entry-self-clause-held
returns-then-entry-self-clause-held c = none_of c.args.entry.now c.args.self.now.held (sym (not_there c))

pub returns-clause-answer : goal.returns-clause-answer
returns-clause-answer c =
    c.finish.ensures.answer ∙ held_as c.self.inside.queue c.self.inside.taken c.self.invariant c.args.entry.now c.if-entry-self.false
    ∙ ap (λ (r : Ready). list_any (same_entry c.args.entry.now) r.held) c.self.view_is

pub returns-clause-held : goal.returns-clause-held
returns-clause-held c =
    held_finished c.self.inside.queue c.finish.new.self c.self.inside.taken c.self.invariant c.args.entry.now c.if-entry-self.false c.finish.ensures.queue c.finish.ensures.forgotten.0 c.finish.ensures.held
    ∙ ap (λ (r : Ready). filter (λ h. not (same_entry c.args.entry.now h)) r.held) c.self.view_is
