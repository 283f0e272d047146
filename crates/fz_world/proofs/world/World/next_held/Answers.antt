-- The finalizers tell their next unfinished entry, and the unfinished ones are those that are held.
use Rattle.std.proofs.Common.{◌≡◌, ◌≤◌, ◌<◌, ℕ, List, Option, Some, Contains, IfSome, MatchOption, slice_get, IsFalse, subst}
use Rattle.std.specs.List.{list_any}
use Rattle.fz_model.specs.declared.answers.Entry.{Entry}
use Rattle.fz_model.specs.Events.{same_entry}
use Rattle.fz_world.specs.Shown.{IsNextHeld}
use Rattle.fz_world.specs.World.{WorldView}
use Rattle.fz_world.proofs.Inside.{core_inside}
use Rattle.fz_world.proofs.Plain.{all_held}
use Rattle.fz_world.proofs.Telling.{next_queued, passed}
use Rattle.fz_world.proofs.Whole.{world_plain, world_sound}
use Rattle.fz_world.proofs.world.World.next_held.Goals as goal

abbrev IsNextOf : ℕ → Option Entry → List Entry → Type 0
IsNextOf from found held = MatchOption found ((e : Entry) → Contains held e → e.seq < from) (IsNextHeld held from)

pub returns-clause-next : goal.returns-clause-next
returns-clause-next c =
    let plain = world_plain _ _ _ _ _ c.self.invariant.0 in
    subst (λ (w : WorldView). IsNextOf c.args.from c.next_unfinished.result w.held) c.self.view_is
    (subst (IsNextOf c.args.from c.next_unfinished.result) (all_held c.self.inside.finalizers.state plain.taken) c.next_unfinished.ensures.next)

pub returns-clause-queued : goal.returns-clause-queued
returns-clause-queued c =
    let plain = world_plain _ _ _ _ _ c.self.invariant.0 in
    let next = subst (IsNextOf c.args.from c.next_unfinished.result) (all_held c.self.inside.finalizers.state plain.taken) c.next_unfinished.ensures.next in
    subst (λ (w : WorldView). IfSome c.next_unfinished.result (λ e. slice_get w.queue e.seq ≡ Some e)) c.self.view_is
    (next_queued (core_inside c.self.inside) (world_sound _ _ _ _ _ c.self.invariant.0) c.args.from c.next_unfinished.result next)

pub returns-clause-passed : goal.returns-clause-passed
returns-clause-passed c =
    let plain = world_plain _ _ _ _ _ c.self.invariant.0 in
    let next = subst (IsNextOf c.args.from c.next_unfinished.result) (all_held c.self.inside.finalizers.state plain.taken) c.next_unfinished.ensures.next in
    subst
    (λ (w : WorldView). (k : ℕ) (e : Entry) → c.args.from ≤ k → IfSome c.next_unfinished.result (λ next. k < next.seq) → slice_get w.queue k ≡ Some e → IsFalse (list_any (same_entry e) w.held))
    c.self.view_is
    (passed (core_inside c.self.inside) (world_sound _ _ _ _ _ c.self.invariant.0) c.args.from c.next_unfinished.result next)
