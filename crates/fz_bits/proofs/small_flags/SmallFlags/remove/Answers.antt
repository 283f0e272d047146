use Rattle.std.proofs.Common.{◌≡◌, ◌∙◌, not, refl, sym, ap, subst, arith}
use Rattle.fz_model.proofs.Sets.{removed_again}
use Rattle.fz_bits.specs.Flags.{Flagged, AreWordsOf}
use Rattle.fz_bits.proofs.TwoLevels.{words_kept, word_less, word_left}
use Rattle.fz_bits.proofs.small_flags.SmallFlags.remove.Goals as goal

pub invariant_of-self : goal.invariant_of-self
invariant_of-self c =
    let flags = c.self.inside.flags in
    let are = c.self.invariant.0 in
    let left = c.remove.ensures.removed in
    let size : c.remove.new.self.size ≡ flags.size = ap (λ (f : Flagged). f.size) left in
    let same : c.remove.new.self.members ≡ flags.members = ap (λ (f : Flagged). f.members) left ∙ removed_again flags.members c.args.number (sym c.remove.ensures.found ∙ c.if-not-remove.true) in
    let fits = are.fits in
    let room = are.room in
    (words_kept flags c.self.inside.words are c.remove.new.self c.self.inside.words same refl (omega (arith, size)) (omega (arith, size, fits)) (omega (arith, size, room)), c.self.invariant.1)

pub invariant_of-self-then-is_none : goal.invariant_of-self-then-is_none
invariant_of-self-then-is_none c = (
  subst (AreWordsOf c.remove.new.self) (sym c.remove-then-is_none.ensures)
      (word_less c.self.inside.flags c.self.inside.words c.self.invariant.0 c.args.number c.remove.new.self c.remove.ensures.removed c.next_in_word.result (c.is_none.ensures ∙ ap not c.if-is_none.true) c.next_in_word.ensures.next),
  ap (λ (f : Flagged). f.size) c.remove-then-is_none.ensures ∙ c.self.invariant.1,
)

pub invariant_of-self-else-is_none : goal.invariant_of-self-else-is_none
invariant_of-self-else-is_none c = (
  word_left c.self.inside.flags c.self.inside.words c.self.invariant.0 c.args.number c.remove.new.self c.remove.ensures.removed c.next_in_word.result (c.is_none.ensures ∙ ap not c.if-is_none.false) c.next_in_word.ensures.next c.next_in_word.ensures.near,
  c.self.invariant.1,
)
