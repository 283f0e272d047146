use Rattle.std.proofs.Common.{◌∙◌, ap}
use Rattle.std.specs.FinSet.{remove}
use Rattle.fz_bits.specs.Flags.{Flagged}
use Rattle.fz_bits.proofs.OneWord.{one_removed}
use Rattle.fz_bits.proofs.word_flags.WordFlags.remove.Goals as goal

pub returns : goal.returns
returns c =
    (λ i. record { size = 64; members = one_removed c.self.inside.bits c.args.number c.requires i })
    ∙ ap (λ (v : Flagged). record v { members = remove v.members c.args.number }) c.self.view_is
