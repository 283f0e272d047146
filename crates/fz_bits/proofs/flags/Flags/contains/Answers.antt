use Rattle.std.proofs.Common.{◌≡◌, ◌+◌, ◌*◌, ◌/◌, ◌%◌, ◌∙◌, sym, ap, arith, slice_index}
use Rattle.std.specs.FinSet.{contains}
use Rattle.fz_bits.specs.Flags.{Flagged, flagged}
use Rattle.std.proofs.lemmas.Bool.{lt-leb}
use Rattle.fz_bits.proofs.Words.{none_below, bit_read, word_read}
use Rattle.fz_bits.proofs.flags.Flags.contains.Goals as goal

pub returns-then-number : goal.returns-then-number
returns-then-number g c =
    let words = c.self.inside.words.items in
    let first = g.row.FIRST in
    let place = c.saturating_sub-place.result in
    let word = c.word_at-word.result in
    let read : slice_index words (place / 64) ≡ word = ap (λ ws. slice_index ws (place / 64)) (sym c.deref.ensures.value) ∙ sym c.word_at-word.ensures in
    let at : first + 64 * (place / 64) + place % 64 ≡ c.args.number = omega (arith, c.saturating_sub-place.ensures, c.if-number.true) in
    bit_read word (place % 64) ∙ word_read first words (place / 64) word read (place % 64) (omega arith) ∙ ap (contains (flagged first words)) at
    ∙ ap (λ (v : Flagged). contains v.members c.args.number) c.self.view_is

pub returns-else-number : goal.returns-else-number
returns-else-number g c =
    lt-leb g.row.FIRST c.args.number (c.if-number.false) ∙ sym (none_below g.row.FIRST c.self.inside.words.items c.args.number (c.if-number.false))
    ∙ ap (λ (v : Flagged). contains v.members c.args.number) c.self.view_is
