use Rattle.std.proofs.Common.{◌≤◌, ℕ, IsFalse, subst, arith, refl}
use Rattle.std.specs.FinSet.{contains}
use Rattle.fz_bits.specs.Flags.{Flagged, IsNext}
use Rattle.fz_bits.proofs.OneWord.{none_from_64, none_left, next_left}
use Rattle.fz_bits.proofs.word_flags.WordFlags.next.Goals as goal

pub returns-then-from-ge-BITS : goal.returns-then-from-ge-BITS
returns-then-from-ge-BITS c = subst (λ (v : Flagged). (n : ℕ) → c.args.from ≤ n → IsFalse (contains v.members n)) c.self.view_is (λ n above. none_from_64 c.self.inside.bits n (omega (arith, above, c.if-from-ge-BITS.true)))

pub returns-then-rest-eq0 : goal.returns-then-rest-eq0
returns-then-rest-eq0 c =
    subst (λ (v : Flagged). (n : ℕ) → c.args.from ≤ n → IsFalse (contains v.members n)) c.self.view_is
    (none_left c.self.inside.bits c.args.from _ (omega arith) c.if-from-ge-BITS.false refl c.if-rest-eq0.true)

pub returns : goal.returns
returns c =
    subst (λ (v : Flagged). IsNext v.members c.args.from c.from.result) c.self.view_is
    (next_left c.self.inside.bits c.args.from _ (omega arith) c.if-from-ge-BITS.false refl c.from.result (omega arith) (omega arith) c.from.ensures)
