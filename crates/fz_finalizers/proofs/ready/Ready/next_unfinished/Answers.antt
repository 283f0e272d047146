use Rattle.std.proofs.Common.{◌<◌, ◌++◌, List, MatchOption, Contains, drop, ap, ◌∙◌, subst}
use Rattle.fz_model.specs.declared.answers.Entry.{Entry}
use Rattle.fz_finalizers.specs.Queue.{IsNextHeld}
use Rattle.fz_finalizers.specs.Ready.{Ready}
use Rattle.fz_finalizers.proofs.Taking.{all_open}
use Rattle.fz_finalizers.proofs.ready.Ready.next_unfinished.Goals as goal

pub returns-clause-next : goal.returns-clause-next
returns-clause-next c =
    subst (λ (es : List Entry). MatchOption c.next_held.result ((e : Entry) → Contains es e → e.seq < c.args.from) (IsNextHeld es c.args.from))
    (all_open c.self.inside.queue c.self.inside.taken c.self.invariant ∙ ap (λ (r : Ready). r.held ++ drop r.taken r.queue) c.self.view_is)
    c.next_held.ensures.next
