use Rattle.std.proofs.Common.{◌≡◌, ◌∙◌, nat_cmp, length, ap, arith}
use Rattle.std.specs.FinSet.{len, len-empty}
use Rattle.fz_bits.specs.Flags.{Flagged}
use Rattle.fz_marker.proofs.frontier.Frontier.clear.Goals as goal

pub invariant_of-self : goal.invariant_of-self
invariant_of-self c =
    let size : c.clear.new.self.size ≡ c.self.inside.set.size = ap (λ (f : Flagged). f.size) c.clear.ensures in
    let none : len c.clear.new.self.members ≡ 0 = ap (λ (f : Flagged). len f.members) c.clear.ensures ∙ len-empty nat_cmp in
    let long : length c.clear-2.new.self.items ≡ 0 = ap length c.clear-2.ensures.items in
    record {
      wait = omega (arith, long);
      few = omega (arith, none);
      room = omega (arith, size, c.clear-2.ensures.capacity, c.self.invariant.room);
      within = λ a h. absurd (omega (arith, long, h.1));
    }
