use Rattle.std.proofs.Common.{◌≤◌, ◌*◌, max, arith}
use Rattle.std.proofs.Math.Nat.{max-le}
use Rattle.std.proofs.lemmas.Grind.{div_ceil_times}
use Rattle.fz_bits.proofs.TwoLevels.{words_kept}
use Rattle.fz_bits.proofs.sparse_flags.SparseFlags.extend_to.Goals as goal

pub invariant_of-self-2 : goal.invariant_of-self-2
invariant_of-self-2 c =
    let are = c.self.invariant in
    let flags = c.extend_to-2.ensures in
    let words = c.in_ok-extend_to.ensures in
    let most = flags.more in
    let fits = max-le are.fits c.requires.fits in
    let enough = (div_ceil_times c.args.words 64 (omega arith)).0 in
    let kept = words.kept in
    let room = words.room in
    let was = are.room in
    let covered : max c.self.inside.flags.size (64 * c.args.words) ≤ 64 * c.extend_to.new.self.size = max-le (omega (arith, was, kept)) (omega (arith, room, enough, c.div_ceil.ensures)) in
    words_kept c.self.inside.flags c.self.inside.words are c.extend_to-2.new.self c.extend_to.new.self flags.members words.members flags.kept (omega (arith, most, fits)) (omega (arith, most, covered))
