use Rattle.std.proofs.Common.{◌≡◌, ◌≤◌, ◌<◌, ℕ, false, cond, get_or, None, length}
use Rattle.own_heap.proofs.heap.Heap.sweep.Given as goal

-- the places so far are free or marked, and the others are what they were
abbrev pub invariant-loop-place : goal.invariant-loop-place
invariant-loop-place l = record {
  size : length l.self.records.slots.items ≡ length l.initial.self.records.slots.items;
  marks : l.self.marks ≡ l.initial.self.marks;
  roots : l.self.roots ≡ l.initial.self.roots;
  cursor : l.self.cursor ≡ 0;
  swept : (k : ℕ) → k < l.place → get_or l.self.records.slots.items k None ≡ cond (get_or l.self.marks.marked.items k false) (get_or l.initial.self.records.slots.items k None) None;
  ahead : (k : ℕ) → l.place ≤ k → get_or l.self.records.slots.items k None ≡ get_or l.initial.self.records.slots.items k None;
}
