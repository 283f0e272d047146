use Rattle.std.proofs.Common.{nat_lt, arith, rules}
use Rattle.std.proofs.lemmas.List.Sorted.{IsPartitionPoint-from_clause}
use Rattle.fz_model.specs.declared.answers.Entry.{Entry}
use Rattle.fz_finalizers.proofs.Queues.{kept_few, are_parted, early_place, late_place}
use Rattle.fz_finalizers.proofs.stored.place_of.Goals as goal

pub overflow_add-result : goal.overflow_add-result
overflow_add-result c = let few = kept_few c.args.entries.now c.args.kept c.args.first c.requires in omega (arith, few)

pub returns-then-number-first : goal.returns-then-number-first
returns-then-number-first c = let from = c.if-number-first.true in late_place c.args.entries.now c.args.kept c.args.first c.requires c.args.number _ from (omega (arith, from))

pub returns : goal.returns
returns c =
    early_place c.args.entries.now c.args.kept c.args.first c.requires c.args.number c.partition_point.result c.if-number-first.false c.partition_point.ensures.bound
    (IsPartitionPoint-from_clause (λ (e : Entry). nat_lt e.seq c.args.number) _ _ c.partition_point.ensures.partitioned (are_parted c.args.entries.now c.args.kept c.args.first c.requires c.args.number) (λ a r q k. search rules))
