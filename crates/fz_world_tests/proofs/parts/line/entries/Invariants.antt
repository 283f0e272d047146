use Rattle.std.proofs.Common.{◌≡◌, vec_len, vec_capacity}
use Rattle.fz_line.specs.Numbers.{AreNumberedFrom}
use Rattle.fz_world_tests.proofs.parts.line.entries.Given as goal

abbrev pub invariant-loop-seq : goal.invariant-loop-seq
invariant-loop-seq l = record {
  numbered : AreNumberedFrom 0 l.all.items;
  len : vec_len l.all ≡ l.seq;
  room : vec_capacity l.all ≡ l.count;
}
