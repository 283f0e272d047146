use Rattle.std.proofs.Common.{◌∷◌, [], refl}
use Rattle.fz_bits.proofs.Words.{no_flags}
use Rattle.fz_bits.proofs.word_flags.WordFlags.new.Goals as goal

pub returns : goal.returns
returns c = λ i. record { size = 64; members = no_flags 0 1 (0 ∷ []) refl i }
