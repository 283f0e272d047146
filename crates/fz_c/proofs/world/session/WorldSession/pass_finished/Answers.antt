-- The world's next held entry is the one that the session comes to.
use Rattle.std.proofs.Common.{◌∙◌}
use Rattle.fz_c.proofs.Passing.{comes_to_held, comes_to_end}
use Rattle.fz_c.proofs.world.session.WorldSession.pass_finished.Goals.{in-Some, in-None}
use Rattle.fz_c.proofs.world.session.WorldSession.pass_finished.Goals as goal

pub returns-clause-next : goal.returns-clause-next
returns-clause-next c =
    let told = c.next_held-next.ensures in
    elim c.match-next.branch [
      | in-Some w ↦ (comes_to_held c.args.self.now.world _ _ told.next told.queued told.passed _ _ w.in-Some.is w.self-is).0
      | in-None w ↦ (comes_to_end c.args.self.now.world _ _ told.next told.queued told.passed _ _ w.in-None.is w.queued.ensures (w.self-is ∙ w.max-self.ensures)).0
    ]

pub returns-clause-entry : goal.returns-clause-entry
returns-clause-entry c =
    let told = c.next_held-next.ensures in
    elim c.match-next.branch [
      | in-Some w ↦ (comes_to_held c.args.self.now.world _ _ told.next told.queued told.passed _ _ w.in-Some.is w.self-is).1
      | in-None w ↦ (comes_to_end c.args.self.now.world _ _ told.next told.queued told.passed _ _ w.in-None.is w.queued.ensures (w.self-is ∙ w.max-self.ensures)).1
    ]
