use Rattle.std.proofs.Common.{◌∙◌, not, sym, ap, subst}
use Rattle.fz_bits.specs.Flags.{AreWordsOf}
use Rattle.fz_bits.proofs.TwoLevels.{word_less, word_left}
use Rattle.fz_bits.proofs.sparse_flags.SparseFlags.remove.Goals as goal

pub invariant_of-self : goal.invariant_of-self
invariant_of-self c =
    subst (AreWordsOf c.remove-is_member.new.self) (sym c.remove.ensures.removed)
    (word_less c.self.inside.flags c.self.inside.words c.self.invariant c.args.number c.remove-is_member.new.self c.remove-is_member.ensures.removed c.next_in_word.result (c.is_none.ensures ∙ ap not c.if-is_none.true) c.next_in_word.ensures.next)

pub invariant_of-self-else-is_none : goal.invariant_of-self-else-is_none
invariant_of-self-else-is_none c =
    word_left c.self.inside.flags c.self.inside.words c.self.invariant c.args.number c.remove-is_member.new.self c.remove-is_member.ensures.removed c.next_in_word.result (c.is_none.ensures ∙ ap not c.if-is_none.false) c.next_in_word.ensures.next c.next_in_word.ensures.near
