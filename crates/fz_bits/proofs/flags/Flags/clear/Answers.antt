use Rattle.std.proofs.Common.{rules, ◌≡◌, ◌*◌, ◌∙◌, ap, length, vec_len, replicate}
use Rattle.fz_bits.specs.Flags.{Flagged}
use Rattle.fz_bits.proofs.Words.{no_flags}
use Rattle.std.specs.FinSet.{empty}
use Rattle.fz_bits.proofs.flags.Flags.clear.Goals as goal

pub returns : goal.returns
returns g c =
    let old = c.self.inside.words in
    let new = c.fill.new.self.items in
    let is : new ≡ replicate (vec_len old) 0 = c.fill.ensures.items (λ y e. e) in
    let len : length new ≡ length old.items = search rules in
    (λ i. record { size = 64 * len i; members = no_flags g.row.FIRST (vec_len old) new is i })
    ∙ ap (λ (v : Flagged). record v { members = empty }) c.self.view_is
