-- The entry that the finalizers tell is the world's.
use Rattle.std.proofs.Common.{◌≡◌, ◌≢◌, ◌<◌, ℕ, List, Option, Some, Contains, MatchOption, slice_get, IsFalse, subst}
use Rattle.std.specs.List.{list_any}
use Rattle.fz_model.specs.declared.answers.Entry.{Entry}
use Rattle.fz_model.specs.Events.{same_entry}
use Rattle.fz_world.specs.World.{WorldView}
use Rattle.fz_world.proofs.Inside.{core_inside}
use Rattle.fz_world.proofs.Plain.{all_held}
use Rattle.fz_world.proofs.Telling.{told}
use Rattle.fz_world.proofs.Whole.{world_plain, world_sound}
use Rattle.fz_world.proofs.world.World.next.Goals as goal

abbrev IsKept : ℕ → ℕ → Option Entry → List Entry → Type 0
IsKept number forgotten found held = number < forgotten → MatchOption found ((e : Entry) → Contains held e → e.seq ≢ number) (λ e. Contains held e × (e.seq ≡ number))

pub returns-clause-kept : goal.returns-clause-kept
returns-clause-kept c =
    let plain = world_plain _ _ _ _ _ c.self.invariant.0 in
    subst (λ (w : WorldView). IsKept c.args.taken w.forgotten c.entry.result w.held) c.self.view_is
    (subst (IsKept c.args.taken c.self.inside.finalizers.memory.forgotten c.entry.result) (all_held c.self.inside.finalizers.state plain.taken) c.entry.ensures.kept)

pub returns-clause-queued : goal.returns-clause-queued
returns-clause-queued c =
    let plain = world_plain _ _ _ _ _ c.self.invariant.0 in
    let kept = subst (IsKept c.args.taken c.self.inside.finalizers.memory.forgotten c.entry.result) (all_held c.self.inside.finalizers.state plain.taken) c.entry.ensures.kept in
    subst
    (λ (w : WorldView). MatchOption c.entry.result ((e : Entry) → slice_get w.queue c.args.taken ≡ Some e → IsFalse (list_any (same_entry e) w.held)) (λ e. slice_get w.queue c.args.taken ≡ Some e))
    c.self.view_is
    (told (core_inside c.self.inside) (world_sound _ _ _ _ _ c.self.invariant.0) c.args.taken c.self.inside.finalizers.memory.forgotten c.entry.result c.entry.ensures.shown kept)
