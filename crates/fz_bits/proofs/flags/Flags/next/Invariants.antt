use Rattle.std.proofs.Common.{◌<◌, ◌≤◌, ◌-◌, ◌/◌, ◌^◌, length}
use Rattle.fz_bits.specs.Flags.{IsRest}
use Rattle.fz_bits.proofs.flags.Flags.next.Given as goal

abbrev pub invariant-loop-rest : goal.invariant-loop-rest
invariant-loop-rest g l = record {
  rest : IsRest g.row.FIRST l.self.members l.from l.index l.rest;
  past : (l.from - g.row.FIRST) / 64 ≤ l.index;
  small : l.index < 2 ^ 60;
  fits : l.rest < 2 ^ 64;
}

abbrev pub decreases-loop-rest : goal.decreases-loop-rest
decreases-loop-rest g l = length l.self-inside.words.items - l.index
