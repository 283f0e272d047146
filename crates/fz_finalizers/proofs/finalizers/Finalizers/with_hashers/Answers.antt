use Rattle.std.proofs.Common.{ℕ, nat_cmp, ap, ◌∙◌, arith}
use Rattle.std.specs.FinMap.{len, len-empty}
use Rattle.fz_finalizers.proofs.Fitting.{none_fits}
use Rattle.fz_finalizers.proofs.finalizers.Finalizers.with_hashers.Goals as goal

pub invariant_of-result : goal.invariant_of-result
invariant_of-result c =
    let short = ap len c.with_hasher-2.ensures ∙ len-empty nat_cmp ℕ in
    let long = ap len c.with_hasher-3.ensures ∙ len-empty nat_cmp ℕ in
    (none_fits c.with_hasher.result.content c.new-2.result.cleanups c.in_ok-ready.ready (λ i. record { registered = c.with_hasher.ensures.registered i; late = c.with_hasher.ensures.late i }) c.new-2.ensures c.in_ok-ready.ensures.queue, record { none = c.new-3.ensures.items; few_short = omega (arith, short); few_long = omega (arith, long) })
