use Rattle.std.proofs.Common.{◌≡◌, ◌*◌, ◌∙◌, nat_cmp, length, ap, arith}
use Rattle.std.specs.FinSet.{len, len-empty}
use Rattle.fz_model.specs.declared.limits.TheConstants.{BLOCK_WORDS}
use Rattle.fz_bits.specs.Flags.{Flagged}
use Rattle.fz_marker.proofs.frontier.Frontier.new.Goals as goal

pub invariant_of-result : goal.invariant_of-result
invariant_of-result c =
    let size : c.in_ok-set.set.size ≡ BLOCK_WORDS * c.args.blocks = ap (λ (f : Flagged). f.size) c.in_ok-set.ensures.made in
    let none : len c.in_ok-set.set.members ≡ 0 = ap (λ (f : Flagged). len f.members) c.in_ok-set.ensures.made ∙ len-empty nat_cmp in
    let long : length c.in_ok-work.work.items ≡ 0 = ap length c.in_ok-work.ensures.empty in
    record {
      wait = omega (arith, long);
      few = omega (arith, none);
      room = omega (arith, size, c.in_ok-work.ensures.room);
      within = λ a h. absurd (omega (arith, long, h.1));
    }
