-- What is kept once all known items are passed is the same.
use Rattle.std.proofs.Common.{◌≡◌, ◌++◌, drop, length}
use Rattle.std.specs.List.{prefix_len, take_while}
use Rattle.fz_machine.specs.declared.item.Item.{Item}
use Rattle.fz_machine.proofs.walk.Walk.keep_known.Given as goal

abbrev pub invariant-loop-item : goal.invariant-loop-item
invariant-loop-item l = record {
  kept : l.self.kept ++ take_while (λ (item : Item). item.known) l.self.left ≡ l.initial.self.kept ++ take_while (λ (item : Item). item.known) l.initial.self.left;
  left : drop (prefix_len (λ (item : Item). item.known) l.self.left) l.self.left ≡ drop (prefix_len (λ (item : Item). item.known) l.initial.self.left) l.initial.self.left;
  others : l.self ≡ record l.initial.self { kept = l.self.kept; left = l.self.left };
}

abbrev pub decreases-loop-item : goal.decreases-loop-item
decreases-loop-item l = length l.self.left
