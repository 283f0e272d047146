use Rattle.std.proofs.Common.{◌∙◌, sym, ap}
use Rattle.std.proofs.lemmas.Bool.{le-ltb}
use Rattle.std.specs.List.{list_any}
use Rattle.fz_model.specs.Events.{same_entry}
use Rattle.fz_finalizers.specs.Ready.{Ready}
use Rattle.fz_finalizers.proofs.Taking.{later_not_held, held_as}
use Rattle.fz_finalizers.proofs.ready.Ready.is_held.Goals as goal

pub returns-then-entry-self : goal.returns-then-entry-self
returns-then-entry-self c =
    c.is_held.ensures ∙ held_as c.self.inside.queue c.self.inside.taken c.self.invariant c.args.entry.now c.if-entry-self.true
    ∙ ap (λ (r : Ready). list_any (same_entry c.args.entry.now) r.held) c.self.view_is

pub returns-else-entry-self : goal.returns-else-entry-self
returns-else-entry-self c =
    le-ltb c.args.entry.now.seq c.self.inside.taken c.if-entry-self.false
    ∙ sym (later_not_held c.self.inside.queue c.self.inside.taken c.self.invariant c.args.entry.now c.if-entry-self.false)
    ∙ ap (λ (r : Ready). list_any (same_entry c.args.entry.now) r.held) c.self.view_is
