use Rattle.std.proofs.Common.{◌∙◌, List, length, refl, ap, arith}
use Rattle.std.proofs.lemmas.List.{length-set}
use Rattle.fz_blocks.specs.declared.block.Block.{Block}
use Rattle.fz_blocks.proofs.Freed.{span_within}
use Rattle.fz_blocks.proofs.Mapped.{none_condemned, map_condemned, some_condemned}
use Rattle.fz_blocks.proofs.Staying.{stays_alike, stays_condemned}
use Rattle.fz_blocks.proofs.claims.condemn_at.Goals as goal

pub free_later-requires-clause-within : goal.free_later-requires-clause-within
free_later-requires-clause-within c =
    let ne = c.if-count-eq0.false in
    let some = c.condemn-count.ensures.some (omega (arith, ne)) in
    let within = span_within c.args.blocks.now c.requires.map.runs c.args.at some.0 c.get-left.result c.get-left.ensures some.1 in
    let long = ap (λ (bs : List Block). length bs) c.put.ensures ∙ length-set c.args.blocks.now c.args.at c.condemn-count.new.self in
    omega (arith, within, long, c.condemn-count.ensures.condemns.alike.size, c.span.ensures)

pub returns-then-count-eq0-clause-condemned : goal.returns-then-count-eq0-clause-condemned
returns-then-count-eq0-clause-condemned c = none_condemned c.args.blocks.now c.args.at c.args.places c.get-left.result c.condemn-count.new.self c.get-left.ensures c.condemn-count.ensures.condemns (c.condemn-count.ensures.none c.if-count-eq0.true)

pub returns-clause-map : goal.returns-clause-map
returns-clause-map c =
    let ne = c.if-count-eq0.false in
    map_condemned c.args.blocks.now c.args.at c.args.places c.get-left.result c.condemn-count.new.self c.get-left.ensures c.condemn-count.ensures.condemns c.requires.map (c.condemn-count.ensures.some (omega (arith, ne))) c.put.new.self c.put.ensures c.span.result c.span.ensures c.free_later.new.blocks c.free_later.ensures

pub returns-clause-condemned : goal.returns-clause-condemned
returns-clause-condemned c =
    let ne = c.if-count-eq0.false in
    some_condemned c.args.blocks.now c.args.at c.args.places c.get-left.result c.condemn-count.new.self c.get-left.ensures c.condemn-count.ensures.condemns c.requires.map (c.condemn-count.ensures.some (omega (arith, ne))) c.put.new.self c.put.ensures c.span.result c.span.ensures c.free_later.new.blocks c.free_later.ensures c.condemn-count.result c.condemn-count.ensures.count

pub condemn_alike-requires-clause-alike : goal.condemn_alike-requires-clause-alike
condemn_alike-requires-clause-alike c = λ was left here all.
    let stays = c.if-stays_alike_without.ensures in
    stays_alike c.args.blocks.now c.args.at c.args.places c.block.result.now c.block.ensures (stays.unfull refl) (stays.gone refl) (stays.left refl) was left here all

pub returns-then-stays_alike_without-clause-map : goal.returns-then-stays_alike_without-clause-map
returns-then-stays_alike_without-clause-map c =
    let stays = c.if-stays_alike_without.ensures in
    (stays_condemned c.args.blocks.now c.args.at c.args.places c.block.result.now c.block.ensures (stays.unfull refl) (stays.gone refl) c.condemn_alike.new.self c.condemn_alike.result c.condemn_alike.ensures c.requires.map).0

pub returns-then-stays_alike_without-clause-condemned : goal.returns-then-stays_alike_without-clause-condemned
returns-then-stays_alike_without-clause-condemned c =
    let stays = c.if-stays_alike_without.ensures in
    (stays_condemned c.args.blocks.now c.args.at c.args.places c.block.result.now c.block.ensures (stays.unfull refl) (stays.gone refl) c.condemn_alike.new.self c.condemn_alike.result c.condemn_alike.ensures c.requires.map).1
