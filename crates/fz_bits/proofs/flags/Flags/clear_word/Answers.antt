use Rattle.std.proofs.Common.{set, ◌≡◌, ◌<◌, ◌*◌, ◌-◌, ◌/◌, ◌∙◌, ap, arith, length, not, nat_eq, ◌&&◌}
use Rattle.std.specs.FinSet.{contains}
use Rattle.fz_bits.specs.Flags.{Flagged}
use Rattle.fz_bits.proofs.Words.{word_cleared, few_flags}
use Rattle.fz_bits.proofs.flags.Flags.clear_word.Goals as goal

pub returns-clause-cleared : goal.returns-clause-cleared
returns-clause-cleared g c = λ n.
    let words = c.self.inside.words.items in
    let size : 64 * length words ≡ c.args.self.now.size = ap (λ (v : Flagged). v.size) c.self.view_is in
    let within : c.args.index < length words = omega (arith, size, c.requires) in
    word_cleared g.row.FIRST words c.args.index n within ∙ ap (λ (v : Flagged). contains v.members n && not (nat_eq ((n - g.row.FIRST) / 64) c.args.index)) c.self.view_is

pub returns-clause-room : goal.returns-clause-room
returns-clause-room g c = few_flags g.row.FIRST (set c.self.inside.words.items c.args.index 0)
