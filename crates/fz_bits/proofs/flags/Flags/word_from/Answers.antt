use Rattle.std.proofs.Common.{◌≡◌, ◌-◌, ◌*◌, ◌/◌, ◌%◌, ◌^◌, ◌∙◌, sym, ap, subst, arith, slice_index}
use Rattle.fz_bits.specs.Flags.{Flagged, flagged, HasRoom, IsRest}
use Rattle.fz_bits.proofs.Words.{word_read, rest_of_word, has_room, none_below}
use Rattle.fz_bits.proofs.flags.Flags.word_from.Goals as goal

pub returns-clause-rest : goal.returns-clause-rest
returns-clause-rest g c =
    let words = c.self.inside.words.items in
    let first = g.row.FIRST in
    let place = c.saturating_sub-place.result in
    let is : place ≡ c.args.number - first = c.saturating_sub-place.ensures in
    let word = c.word_at.result in
    let read : slice_index words (place / 64) ≡ word = ap (λ ws. slice_index ws (place / 64)) (sym c.deref.ensures.value) ∙ sym c.word_at.ensures in
    subst (λ (v : Flagged). IsRest first v.members c.args.number ((c.args.number - first) / 64) (word / 2 ^ (place % 64) * 2 ^ (place % 64) % 2 ^ 64)) c.self.view_is
    (rest_of_word first (flagged first words) c.args.number word _ (omega arith)
    (word_read first words ((c.args.number - first) / 64) word (subst (λ p. slice_index words (p / 64) ≡ word) is read))
    (ap (λ p. word / 2 ^ (p % 64) * 2 ^ (p % 64) % 2 ^ 64) is)
    (none_below first words))

pub returns-clause-room : goal.returns-clause-room
returns-clause-room g c = subst (HasRoom g.row.FIRST) c.self.view_is (has_room g.row.FIRST c.self.inside.words.items c.self.invariant)
