use Rattle.own_heap.proofs.Cleared.{cleared_values}
use Rattle.own_heap.proofs.References.{references_are_children, made_is_inserted}
use Rattle.own_heap.proofs.Valued.{hidden_are_values}
use Rattle.own_heap.proofs.law.objects_are_records.Goals as goal

pub returns-clause-children : goal.returns-clause-children
returns-clause-children c = references_are_children

pub returns-clause-made : goal.returns-clause-made
returns-clause-made c = made_is_inserted

pub returns-clause-hidden : goal.returns-clause-hidden
returns-clause-hidden c = hidden_are_values

pub returns-clause-cleared : goal.returns-clause-cleared
returns-clause-cleared c = cleared_values
