use Rattle.std.proofs.Common.{◌≡◌, ◌<◌, ◌≤◌, Contains, ap, length, sym, subst}
use Rattle.fz_world.specs.World.{WorldView}
use Rattle.fz_service.specs.States.{LockedState, IsReachedFrom, line_room, one_more}
use Rattle.fz_service.proofs.Keeps.{ran}
use Rattle.fz_service.proofs.Served.{let_go, not_there, same_queue, still_sent, still_short}
use Rattle.fz_service.proofs.locked.Locked.serve_duty.Goals as goal

pub invariant_of-self : goal.invariant_of-self
invariant_of-self g c = (ran _ _ _ _ _ _ _ c.run.ensures.calls c.self.invariant.0, c.self.invariant.1)

pub returns-in-Ok-clause-answer : goal.returns-in-Ok-clause-answer
returns-in-Ok-clause-answer g c = let_go _ _ _ c.in-Ok.ensures.gone

pub returns-in-Ok-clause-sent : goal.returns-in-Ok-clause-sent
returns-in-Ok-clause-sent g c =
    let mid = c.publish.new.self in
    let world = sym (ap (λ (s : LockedState). s.world) c.publish.ensures.sent) in
    let reached = subst (IsReachedFrom g.O.Opening.origin) world (ran _ _ _ _ _ _ _ c.run.ensures.calls c.self.invariant.0).reached in
    still_sent (line_room g.O.Opening.origin.blocks) mid c.finish.new.self (ap (λ (s : LockedState). s.published) c.in-Ok.ensures.counted) (same_queue g.O.Opening.origin _ _ _ c.in-Ok.ensures.step reached)
    (subst (λ (w : WorldView). mid.published < length w.queue → line_room g.O.Opening.origin.blocks ≤ mid.published) world c.publish.ensures.room)

pub returns-in-Ok-clause-short : goal.returns-in-Ok-clause-short
returns-in-Ok-clause-short g c =
    let mid = c.publish.new.self in
    let counted = c.in-Ok.ensures.counted in
    let world = sym (ap (λ (s : LockedState). s.world) c.publish.ensures.sent) in
    let reached = subst (IsReachedFrom g.O.Opening.origin) world (ran _ _ _ _ _ _ _ c.run.ensures.calls c.self.invariant.0).reached in
    subst (λ n. c.finish.new.self.published < length c.finish.new.self.world.queue → c.finish.new.self.shortages ≡ one_more n) (ap (λ (s : LockedState). s.shortages) c.self.view_is)
    (still_short _ mid c.finish.new.self (ap (λ (s : LockedState). s.shortages) counted) (ap (λ (s : LockedState). s.published) counted) (same_queue g.O.Opening.origin _ _ _ c.in-Ok.ensures.step reached)
    (subst (λ (w : WorldView). mid.published < length w.queue → mid.shortages ≡ one_more c.self.inside.shortages.count) world c.publish.ensures.short))

pub returns-in-Err-clause-answer : goal.returns-in-Err-clause-answer
returns-in-Err-clause-answer g c =
    let world = sym (ap (λ (s : LockedState). s.world) c.publish.ensures.sent) in
    let reached = subst (IsReachedFrom g.O.Opening.origin) world (ran _ _ _ _ _ _ _ c.run.ensures.calls c.self.invariant.0).reached in
    let there = not_there g.O.Opening.origin _ _ _ _ c.in-Err.ensures.step reached in
    λ held. there (subst (λ (s : LockedState). Contains s.world.held c.args.duty.entry) c.in-Err.ensures.refused.1 held)
