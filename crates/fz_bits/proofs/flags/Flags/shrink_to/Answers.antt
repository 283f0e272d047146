use Rattle.std.proofs.Common.{◌<◌, ◌+◌, ◌*◌, ◌∙◌, ap, sym, subst}
use Rattle.std.specs.FinSet.{contains}
use Rattle.fz_bits.specs.Flags.{Flagged, flagged}
use Rattle.fz_bits.proofs.Words.{words_cut}
use Rattle.fz_bits.proofs.flags.Flags.shrink_to.Goals as goal

pub returns-clause-members : goal.returns-clause-members
returns-clause-members g c =
    let was = ap (λ (v : Flagged). v.members) c.self.view_is in
    ap (flagged g.row.FIRST) (c.shrink_to_fit.ensures.items ∙ c.truncate.ensures.items)
    ∙ words_cut g.row.FIRST c.self.inside.words.items c.args.words (λ n is. c.requires n (ap (λ s. contains s n) (sym was) ∙ is)) ∙ was
