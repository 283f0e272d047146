use Rattle.std.proofs.Common.{◌<◌, MatchOption, Contains, subst}
use Rattle.fz_model.specs.declared.answers.Entry.{Entry}
use Rattle.fz_finalizers.specs.Queue.{IsNextHeld}
use Rattle.fz_finalizers.specs.States.{View, unfinished}
use Rattle.fz_finalizers.proofs.finalizers.Finalizers.next_unfinished.Goals as goal

pub returns-clause-next : goal.returns-clause-next
returns-clause-next c =
    subst (λ (v : View). MatchOption c.next_unfinished.result ((e : Entry) → Contains (unfinished v.state) e → e.seq < c.args.from) (IsNextHeld (unfinished v.state) c.args.from))
    c.self.view_is c.next_unfinished.ensures.next
