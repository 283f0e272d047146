-- The entries at the places so far are at the front, those from here on are as they were, and so are the places.
use Rattle.std.proofs.Common.{◌≡◌, ◌≤◌, ◌||◌, ◌&&◌, ◌-◌, ℕ, nat_le, nat_lt, take, length, slice_get, vec_capacity}
use Rattle.std.specs.FinSet.{contains}
use Rattle.fz_finalizers.specs.Queue.{placed_in}
use Rattle.fz_finalizers.proofs.stored.gather.Given as goal

abbrev pub decreases-loop-place : goal.decreases-loop-place
decreases-loop-place l = length l.initial.entries.items - l.from

abbrev pub invariant-loop-place : goal.invariant-loop-place
invariant-loop-place l = record {
  len : length l.entries.items ≡ length l.initial.entries.items;
  capacity : vec_capacity l.entries ≡ vec_capacity l.initial.entries;
  size : l.held.size ≡ l.initial.held.size;
  low : l.count ≤ l.from;
  within : l.from ≤ length l.initial.entries.items;
  places : (n : ℕ) → contains l.held.members n ≡ (nat_lt n l.count || (nat_le l.from n && contains l.initial.held.members n));
  front : take l.count l.entries.items ≡ placed_in l.initial.held.members 0 (take l.from l.initial.entries.items);
  rest : (k : ℕ) → l.from ≤ k → slice_get l.entries.items k ≡ slice_get l.initial.entries.items k;
}
