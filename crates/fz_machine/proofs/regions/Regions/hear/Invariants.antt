-- What is told so far, and what is left to tell.
use Rattle.std.proofs.Common.{◌≡◌, ◌-◌, ◌++◌, drop, take, zip}
use Rattle.fz_machine.proofs.regions.Regions.hear.Given as goal

abbrev pub invariant-loop-word : goal.invariant-loop-word
invariant-loop-word l = record {
  told : l.self.told ++ zip (take (l.initial.self.asked - l.word-index) l.self.left) (drop l.word-index l.words) ≡ l.initial.self.told ++ zip (take l.initial.self.asked l.initial.self.left) l.words;
  left : l.self.left ≡ drop l.word-index l.initial.self.left;
  same : l.self ≡ record l.initial.self { told = l.self.told; left = l.self.left };
}
