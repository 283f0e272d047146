use Rattle.own_heap.proofs.KeptValues.{pairs_keep_values}
use Rattle.own_heap.proofs.KeyedPairs.{keys_are_not_retained, pairs_lose_keys}
use Rattle.own_heap.proofs.law.keys_are_not_retained.Goals as goal

pub returns-clause-own : goal.returns-clause-own
returns-clause-own c = keys_are_not_retained

pub returns-clause-keys : goal.returns-clause-keys
returns-clause-keys c = pairs_lose_keys

pub returns-clause-values : goal.returns-clause-values
returns-clause-values c = pairs_keep_values
