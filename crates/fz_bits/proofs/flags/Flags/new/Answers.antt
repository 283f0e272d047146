use Rattle.std.proofs.Common.{rules, ◌≡◌, ◌*◌, ◌∙◌, ap, length, replicate}
use Rattle.std.proofs.lemmas.List.{length-replicate}
use Rattle.fz_bits.proofs.Words.{no_flags}
use Rattle.fz_bits.proofs.flags.Flags.new.Goals as goal

pub returns-clause-made : goal.returns-clause-made
returns-clause-made g c =
    let n = c.args.words in
    let is : c.in_ok-words.words.items ≡ replicate n 0 = search rules in
    λ i. record { size = 64 * (ap length is ∙ length-replicate n 0) i; members = no_flags g.row.FIRST n c.in_ok-words.words.items is i }
