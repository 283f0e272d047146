use Rattle.std.proofs.Common.{◌≡◌, ap, arith}
use Rattle.fz_bits.specs.Flags.{Flagged}
use Rattle.fz_dirty.proofs.Pages.{no_pages}
use Rattle.fz_dirty.proofs.Dirty.take_all.Goals as goal

pub invariant_of-self : goal.invariant_of-self
invariant_of-self c =
    let size : c.clear.new.self.size ≡ c.self.inside.noted.size = ap (λ (f : Flagged). f.size) c.clear.ensures in
    no_pages c.clear.new.self c.self.inside.pages (ap (λ (f : Flagged). f.members) c.clear.ensures) (omega (arith, size, c.self.invariant.room))
