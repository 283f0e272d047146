use Rattle.std.proofs.Common.{◌≡◌, ◌∙◌, refl, sym, ap, length, vec_len, arith, rules}
use Rattle.fz_bits.specs.Flags.{Flagged}
use Rattle.fz_bits.proofs.Words.{words_added, filled_up}
use Rattle.fz_bits.proofs.flags.Flags.extend_to.Goals as goal

pub returns-in_ok-resize-clause-members : goal.returns-in_ok-resize-clause-members
returns-in_ok-resize-clause-members g c =
    let old = c.self.inside.words.items in
    let len : vec_len c.resize.new.self ≡ length c.resize.new.self.items = search rules in
    let was : vec_len c.self.inside.words ≡ length old = search rules in
    let by = c.in_ok-resize.ensures.by_index in
    words_added g.row.FIRST old c.resize.new.self.items (filled_up old c.resize.new.self.items c.args.words (omega arith) (sym len ∙ c.in_ok-resize.ensures.len) (λ k within low. by.0 k 0 within (omega (arith, was, low))) (λ k high within. by.1 k 0 refl (omega (arith, was, high)) within))
    ∙ ap (λ (v : Flagged). v.members) c.self.view_is
