use Rattle.std.proofs.Common.{◌≡◌, ◌+◌, ◌*◌, ◌∙◌, sym, ap, slice_index}
use Rattle.std.specs.FinSet.{contains}
use Rattle.fz_bits.specs.Flags.{Flagged}
use Rattle.fz_bits.proofs.Words.{word_read}
use Rattle.fz_bits.proofs.flags.Flags.word.Goals as goal

pub returns : goal.returns
returns g c = λ place lt.
    let words = c.self.inside.words.items in
    let first = g.row.FIRST in
    let index = c.args.index in
    let read : slice_index words index ≡ c.word_at.result = ap (λ ws. slice_index ws index) (sym c.deref.ensures.value) ∙ sym c.word_at.ensures in
    word_read first words index c.word_at.result read place lt ∙ ap (λ (v : Flagged). contains v.members (first + 64 * index + place)) c.self.view_is
