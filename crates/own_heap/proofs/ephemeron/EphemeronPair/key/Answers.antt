use Rattle.std.proofs.Common.{is_some, refl, ap, sym}
use Rattle.std.proofs.lemmas.Bool.{both_ways}
use Rattle.std.specs.FinMap.{contains_key}
use Rattle.own_heap.specs.Records.{objects_of}
use Rattle.own_heap.proofs.ephemeron.EphemeronPair.key.Goals as goal

pub returns-in_default-find-clause-key : goal.returns-in_default-find-clause-key
returns-in_default-find-clause-key c =
    let now = c.args.runtime.now in
    let here = now.sound.short_keys _ c.in-Some.address (sym c.in-Some.ensures) in
    absurd (both_ways (contains_key (objects_of now.heap.records.slots.items) c.in-Some.address) (ap is_some (c.in_default-find.ensures.none refl)) here)
