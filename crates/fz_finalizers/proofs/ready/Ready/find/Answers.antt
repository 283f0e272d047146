use Rattle.std.proofs.Common.{◌≡◌, ◌≢◌, ◌<◌, ◌++◌, List, MatchOption, Contains, drop, sym, ap, ◌∙◌, subst}
use Rattle.fz_model.specs.declared.answers.Entry.{Entry}
use Rattle.fz_finalizers.specs.Ready.{Ready}
use Rattle.fz_finalizers.proofs.Taking.{all_open}
use Rattle.fz_finalizers.proofs.ready.Ready.find.Goals as goal

pub returns-clause-kept : goal.returns-clause-kept
returns-clause-kept c = λ early.
    subst (λ (es : List Entry). MatchOption c.find.result ((e : Entry) → Contains es e → e.seq ≢ c.args.number) (λ e. Contains es e × (e.seq ≡ c.args.number)))
    (all_open c.self.inside.queue c.self.inside.taken c.self.invariant ∙ ap (λ (r : Ready). r.held ++ drop r.taken r.queue) c.self.view_is)
    (c.find.ensures.kept (subst (λ (r : Ready). c.args.number < r.memory.forgotten) (sym c.self.view_is) early))
