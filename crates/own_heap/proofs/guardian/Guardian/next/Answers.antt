use Rattle.std.proofs.Common.{is_some, refl, ap, sym}
use Rattle.std.proofs.lemmas.Bool.{both_ways}
use Rattle.std.specs.FinMap.{contains_key}
use Rattle.own_heap.specs.Records.{objects_of}
use Rattle.own_heap.proofs.Guarding.{guarded_none, guarded_waits, guarded_first, guarded_stands}
use Rattle.own_heap.proofs.guardian.Guardian.next.Goals as goal

pub returns-in_default-clause-given : goal.returns-in_default-clause-given
returns-in_default-clause-given c = (guarded_none c.args.runtime.now.finalizers.state c.args.self.procedure c.in_default.ensures, refl)

pub returns-in_default-find-clause-given : goal.returns-in_default-find-clause-given
returns-in_default-find-clause-given c =
    let old = c.args.runtime.now in
    let here = guarded_stands old.finalizers.state c.args.self.procedure c.in-Some.entry c.in-Some.ensures.0 c.in-Some.ensures.1 (objects_of old.heap.records.slots.items) old.sound.held in
    absurd (both_ways (contains_key (objects_of old.heap.records.slots.items) c.in-Some.entry.obj) (ap is_some (c.in_default-find.ensures.none refl)) here)

pub returns-in-Ok-clause-given : goal.returns-in-Ok-clause-given
returns-in-Ok-clause-given c =
    let old = c.args.runtime.now in
    let first = guarded_first old.finalizers.state c.args.self.procedure c.in-Some.entry c.in-Some.ensures.0 c.in-Some.ensures.1 c.in-Ok.ensures.judged in
    record { entry = c.in-Some.entry; rest = first.0; first = first.1; object = sym c.in-Some-find.ensures.found.0; finished = c.in-Ok.ensures.follows }

pub returns-in-Err-clause-given : goal.returns-in-Err-clause-given
returns-in-Err-clause-given c =
    (guarded_waits c.args.runtime.now.finalizers.state c.args.self.procedure c.in-Some.entry c.in-Some.ensures.0 c.in-Some.ensures.1 _ c.in-Err.ensures.judged, c.in-Err.ensures.refused)
