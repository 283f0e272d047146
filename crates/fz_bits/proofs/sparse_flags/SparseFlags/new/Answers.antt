use Rattle.std.proofs.Common.{ap, arith}
use Rattle.fz_bits.specs.Flags.{Flagged}
use Rattle.std.proofs.lemmas.Grind.{div_ceil_times}
use Rattle.fz_bits.proofs.TwoLevels.{no_words}
use Rattle.fz_bits.proofs.sparse_flags.SparseFlags.new.Goals as goal

pub invariant_of-result : goal.invariant_of-result
invariant_of-result c =
    let size = ap (λ (f : Flagged). f.size) c.in_ok-flags.ensures.made in
    let count = ap (λ (f : Flagged). f.size) c.in_ok-words.ensures.made in
    let enough = div_ceil_times c.args.words 64 (omega arith) in
    no_words c.in_ok-flags.flags c.in_ok-words.words (ap (λ (f : Flagged). f.members) c.in_ok-flags.ensures.made) (ap (λ (f : Flagged). f.members) c.in_ok-words.ensures.made) (omega (arith, size, c.requires.fits)) (omega (arith, size, count, enough.0, c.div_ceil.ensures))
