use Rattle.std.proofs.Common.{◌∙◌, ap}
use Rattle.std.specs.FinSet.{insert}
use Rattle.fz_bits.specs.Flags.{Flagged}
use Rattle.fz_bits.proofs.OneWord.{one_inserted}
use Rattle.fz_bits.proofs.word_flags.WordFlags.insert.Goals as goal

pub returns : goal.returns
returns c =
    (λ i. record { size = 64; members = one_inserted c.self.inside.bits c.args.number c.requires i })
    ∙ ap (λ (v : Flagged). record v { members = insert v.members c.args.number }) c.self.view_is
