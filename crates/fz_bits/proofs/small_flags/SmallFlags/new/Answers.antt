use Rattle.std.proofs.Common.{ap, arith}
use Rattle.fz_bits.specs.Flags.{Flagged}
use Rattle.fz_bits.proofs.TwoLevels.{no_words}
use Rattle.fz_bits.proofs.small_flags.SmallFlags.new.Goals as goal

pub invariant_of-result : goal.invariant_of-result
invariant_of-result c =
    let size = ap (λ (f : Flagged). f.size) c.in_ok-flags.ensures.made in
    let count = ap (λ (f : Flagged). f.size) c.new-2.ensures in (
      no_words c.in_ok-flags.flags c.new-2.result (ap (λ (f : Flagged). f.members) c.in_ok-flags.ensures.made) (ap (λ (f : Flagged). f.members) c.new-2.ensures) (omega (arith, size, c.requires)) (omega (arith, size, count, c.requires)),
      count,
    )
