use Rattle.std.proofs.Common.{refl, nat_lt, rules, arith, vec_capacity, ◌≡◌, true, false}
use Rattle.std.proofs.lemmas.List.{length-set}
use Rattle.std.proofs.lemmas.List.Sorted.{IsPartitionPoint-from_clause, IsPartitionedBy-ltb}
use Rattle.std.specs.List.Sorted.{IsPartitionPoint}
use Rattle.fz_machine.specs.declared.rows.Row.{Row}
use Rattle.fz_machine.specs.Off.{key_of}
use Rattle.fz_machine.proofs.Index.{may_tell, none_told, one_more_told, others_before, row_within, told_whole}
use Rattle.fz_machine.proofs.rows.tell_rows.Goals as goal

module _ (c : goal.After-partition_point-place) where
  point : IsPartitionPoint (λ (row : Row). nat_lt (key_of row) c.args.key ≡ true) (λ (row : Row). nat_lt (key_of row) c.args.key ≡ false) c.args.index.now c.partition_point-place.result
  point =
      IsPartitionPoint-from_clause (λ (row : Row). nat_lt (key_of row) c.args.key) c.args.index.now c.partition_point-place.result c.partition_point-place.ensures.partitioned
      (IsPartitionedBy-ltb key_of c.args.index.now c.args.key c.requires.sorted) (λ a r q k. search rules)

pub loop-row-init : goal.loop-row-init
loop-row-init c = record {
  point = point c;
  are = none_told c.args.key c.args.index.now c.args.told.now.items c.partition_point-place.result (others_before c.args.key c.args.index.now c.partition_point-place.result (point c) c.partition_point-place.ensures.bound);
  grown = omega arith;
}

pub put_row-requires : goal.put_row-requires
put_row-requires c =
    let are = c.loop-row.invariant.are in
    let grown = c.loop-row.invariant.grown in
    let room = c.requires.room in
    let ok = c.loop-row.told.ok.0 in
    let was = c.args.told.now.ok.0 in
    let few = may_tell c.args.key c.args.index.now c.args.told.now.items c.partition_point-place.result c.loop-row.place c.loop-row.index c.loop-row.told.items are c.in-Some.row (vec_capacity c.args.told.now) c.in-Some.ensures.some.0 c.in-Some.ensures.some.1 (omega (arith, was, room)) in
    record { room = omega (arith, few, ok, grown) }

pub overflow_add-place : goal.overflow_add-place
overflow_add-place c = let within = row_within c.loop-row.index c.loop-row.place c.in-Some.row c.in-Some.ensures.some.0 in omega (arith, within, c.loop-row.auto.index)

pub loop-row-smaller : goal.loop-row-smaller
loop-row-smaller c =
    let within = row_within c.loop-row.index c.loop-row.place c.in-Some.row c.in-Some.ensures.some.0 in
    let long = length-set c.loop-row.index c.loop-row.place (record { item = c.in-Some.row.item; told = true }) in
    omega (arith, within, long)

pub loop-row-preserved : goal.loop-row-preserved
loop-row-preserved c =
    let grown = c.loop-row.invariant.grown in
    let more = c.put_row.ensures.room in
    record {
      point = c.loop-row.invariant.point;
      are = one_more_told c.args.key c.args.index.now c.args.told.now.items c.partition_point-place.result c.loop-row.place c.loop-row.index c.loop-row.told.items c.loop-row.invariant.are c.in-Some.row c.put_row.new.items.items
          c.in-Some.ensures.some.0 c.in-Some.ensures.some.1 c.put_row.ensures.listed;
      grown = omega (arith, grown, more);
    }

pub returns-clause-index : goal.returns-clause-index
returns-clause-index c =
    (told_whole c.args.key c.args.index.now c.partition_point-place.result c.loop-row.invariant.point c.args.told.now.items c.loop-row.place c.loop-row.index c.loop-row.told.items c.requires.sorted c.loop-row.invariant.are (c.in_default.ensures.none refl)).0

pub returns-clause-told : goal.returns-clause-told
returns-clause-told c =
    (told_whole c.args.key c.args.index.now c.partition_point-place.result c.loop-row.invariant.point c.args.told.now.items c.loop-row.place c.loop-row.index c.loop-row.told.items c.requires.sorted c.loop-row.invariant.are (c.in_default.ensures.none refl)).1
