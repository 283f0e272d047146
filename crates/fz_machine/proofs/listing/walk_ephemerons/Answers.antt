use Rattle.std.proofs.Common.{◌∙◌, length, ap, arith}
use Rattle.std.proofs.lemmas.List.{length-append}
use Rattle.fz_machine.specs.Walks.{Walk}
use Rattle.fz_machine.proofs.Listed.{links_count}
use Rattle.fz_machine.proofs.listing.walk_ephemerons.Goals as goal

pub list_ephemerons-requires-2 : goal.list_ephemerons-requires-2
list_ephemerons-requires-2 c =
    let shorts = c.list_ephemerons.ensures.listed in
    let long = ap length shorts.2 ∙ length-append c.take_room-items.result.items shorts.0 in
    let none = ap length c.take_room-items.ensures.none in
    let count = links_count c.args.finalizers.now.state.ephemerons.short shorts.0 shorts.1 in
    record { room = omega (arith, long, none, count, c.list_ephemerons.new.items.ok.0, c.take_room-items.ensures.room, c.list_ephemerons.ensures.room, c.requires.room) }

pub returns-clause-count : goal.returns-clause-count
returns-clause-count c =
    let shorts = c.list_ephemerons.ensures.listed in
    let longs = c.list_ephemerons-2.ensures.listed in
    let first = ap length shorts.2 ∙ length-append c.take_room-items.result.items shorts.0 in
    let second = ap length longs.2 ∙ length-append c.list_ephemerons.new.items.items longs.0 in
    let none = ap length c.take_room-items.ensures.none in
    let short_count = links_count c.args.finalizers.now.state.ephemerons.short shorts.0 shorts.1 in
    let long_count = links_count c.args.finalizers.now.state.ephemerons.long longs.0 longs.1 in
    let left = ap (λ (w : Walk). length w.left) c.put.ensures in
    omega (arith, left, first, second, none, short_count, long_count)
