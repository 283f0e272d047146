use Rattle.std.proofs.Common.{◌≡◌, ◌*◌, ◌+◌, ◌/◌, ap, arith}
use Rattle.std.specs.FinSet.{empty}
use Rattle.fz_bits.specs.Flags.{Flagged}
use Rattle.fz_dirty.proofs.Pages.{no_pages}
use Rattle.fz_dirty.proofs.Dirty.new.Goals as goal

pub invariant_of-result : goal.invariant_of-result
invariant_of-result c =
    let is : c.in_ok-noted.noted ≡ record { size = 64 * (c.args.pages / 64 + 1); members = empty } = c.in_ok-noted.ensures.made in
    let size = ap (λ (f : Flagged). f.size) is in
    no_pages c.in_ok-noted.noted c.args.pages (ap (λ (f : Flagged). f.members) is) (omega (arith, size))
