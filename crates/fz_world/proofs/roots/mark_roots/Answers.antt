use Rattle.std.proofs.Common.{◌⊎◌, List, IsTrue, subst}
use Rattle.fz_model.specs.declared.answers.Entry.{Entry}
use Rattle.fz_finalizers.specs.States.{unfinished}
use Rattle.fz_world.specs.Roots.{Marks, SomeOf, IsInSlot, IsRegistered, IsRootOf, IsRootHere}
use Rattle.fz_world.proofs.Marking.{marks_then}
use Rattle.fz_world.proofs.Plain.{all_held}
use Rattle.fz_world.proofs.roots.mark_roots.Goals as goal

pub returns : goal.returns
returns c =
    let objects = c.args.heap.now.objects in
    let frames = c.args.frames.now in
    let s = c.args.finalizers.now.state in
    let slots = IsInSlot objects frames in
    let registered = IsRegistered objects (IsTrue c.args.closed) s.registrations in
    let first = marks_then c.args.marker.now c.mark_slots.new.marker c.mark_registrations.new.marker slots registered c.mark_slots.ensures c.mark_registrations.ensures in
    let all = marks_then c.args.marker.now c.mark_registrations.new.marker c.mark_unfinished.new.marker (λ a. slots a ⊎ registered a) (SomeOf (IsRootOf objects) (unfinished s)) first c.mark_unfinished.ensures in
    subst (λ (held : List Entry). Marks c.args.marker.now c.mark_unfinished.new.marker (IsRootHere objects frames s.registrations held (IsTrue c.args.closed))) (all_held s c.requires.plain.taken) all
