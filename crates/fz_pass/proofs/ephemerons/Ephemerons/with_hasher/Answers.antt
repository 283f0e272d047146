use Rattle.std.proofs.Common.{ℕ, nat_cmp, ap, ◌∙◌, arith}
use Rattle.std.specs.FinMap.{len, len-empty}
use Rattle.fz_pass.proofs.ephemerons.Ephemerons.with_hasher.Goals as goal

pub invariant_of-result : goal.invariant_of-result
invariant_of-result c =
    let short = ap len c.with_hasher.ensures ∙ len-empty nat_cmp ℕ in
    let long = ap len c.with_hasher-2.ensures ∙ len-empty nat_cmp ℕ in
    record { none_waits = c.new.ensures.items; none_rests = c.new-2.ensures.items; waiting_has = omega (arith, short, long); rest_has = omega (arith, short, long) }
