-- In the blocks so far only kept objects are left, and the others' cells are condemned.
use Rattle.std.proofs.Common.{◌≡◌, ◌+◌, ◌≤◌, ◌||◌, ◌&&◌, not, ℕ}
use Rattle.std.specs.FinSet.{contains}
use Rattle.std.specs.FinSet as sets
use Rattle.std.specs.FinMap.{retain_keys, contains_key, len}
use Rattle.fz_marked.proofs.Condemned.{is_left}
use Rattle.fz_marked.proofs.reclaiming.condemn_outside.Given as goal

abbrev pub invariant-loop-block : goal.invariant-loop-block
invariant-loop-block l = record {
  rest : l.heap ≡ record l.initial.heap { objects = l.heap.objects; condemned = l.heap.condemned };
  objects : l.heap.objects ≡ retain_keys l.initial.heap.objects (is_left (contains l.kept.members) l.block);
  condemned : (a : ℕ) → contains l.heap.condemned a ≡ (contains_key l.initial.heap.objects a && not (is_left (contains l.kept.members) l.block a) || contains l.initial.heap.condemned a);
  count : len l.heap.objects + sets.len l.heap.condemned ≡ len l.initial.heap.objects + sets.len l.initial.heap.condemned;
  more : sets.len l.initial.heap.condemned ≤ sets.len l.heap.condemned;
}
