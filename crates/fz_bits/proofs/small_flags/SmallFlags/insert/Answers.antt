use Rattle.std.proofs.Common.{◌<◌, ◌∙◌, ap, sym, subst}
use Rattle.std.specs.FinSet.{insert}
use Rattle.fz_bits.specs.Flags.{Flagged, AreWordsOf}
use Rattle.fz_bits.proofs.TwoLevels.{word_more}
use Rattle.fz_bits.proofs.small_flags.SmallFlags.insert.Goals as goal

pub invariant_of-self : goal.invariant_of-self
invariant_of-self c =
    let flags = c.self.inside.flags in
    let within : c.args.number < flags.size = subst (λ (f : Flagged). c.args.number < f.size) (sym c.self.view_is) c.requires in (
      subst (λ f. AreWordsOf f c.insert.new.self) (sym c.insert-2.ensures.inserted)
          (subst (AreWordsOf (record flags { members = insert flags.members c.args.number })) (sym c.insert.ensures) (word_more flags c.self.inside.words c.self.invariant.0 c.args.number within)),
      ap (λ (f : Flagged). f.size) c.insert.ensures ∙ c.self.invariant.1,
    )
