use Rattle.std.proofs.Common.{◌≤◌, nat_cmp, sym, subst, arith}
use Rattle.std.specs.FinMap.{len, from_entries, len-empty}
use Rattle.fz_table.specs.declared.limits.TheConstants.{MOST_ENTRIES}
use Rattle.fz_finalizers.specs.declared.cleanups.Attached.{Attached}
use Rattle.fz_finalizers.proofs.cleanups.Cleanups.new.Goals as goal

pub invariant_of-result : goal.invariant_of-result
invariant_of-result c = subst (λ es. len (from_entries {R = nat_cmp} es) ≤ MOST_ENTRIES) (sym c.with_hasher.ensures.empty) (omega (arith, len-empty nat_cmp Attached))
