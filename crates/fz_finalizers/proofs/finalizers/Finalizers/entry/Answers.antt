use Rattle.std.proofs.Common.{◌≡◌, ◌≢◌, ◌<◌, MatchOption, Contains, subst}
use Rattle.fz_model.specs.declared.answers.Entry.{Entry}
use Rattle.fz_finalizers.specs.States.{View, unfinished}
use Rattle.fz_finalizers.proofs.finalizers.Finalizers.entry.Goals as goal

pub returns-clause-kept : goal.returns-clause-kept
returns-clause-kept c =
    subst (λ (v : View). c.args.number < v.memory.forgotten → MatchOption c.find.result ((e : Entry) → Contains (unfinished v.state) e → e.seq ≢ c.args.number) (λ e. Contains (unfinished v.state) e × (e.seq ≡ c.args.number)))
    c.self.view_is c.find.ensures.kept
