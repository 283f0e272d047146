use Rattle.std.proofs.Common.{◌++◌, drop, ap, ◌∙◌}
use Rattle.fz_finalizers.specs.Ready.{Ready}
use Rattle.fz_finalizers.proofs.Taking.{all_open}
use Rattle.fz_finalizers.proofs.ready.Ready.unfinished.Goals as goal

pub returns-clause-all : goal.returns-clause-all
returns-clause-all c =
    c.unfinished.ensures.all ∙ all_open c.self.inside.queue c.self.inside.taken c.self.invariant
    ∙ ap (λ (r : Ready). r.held ++ drop r.taken r.queue) c.self.view_is
