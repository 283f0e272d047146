use Rattle.std.proofs.Common.{ℕ, ◌≤◌, nat_cmp, sym, subst, arith}
use Rattle.std.specs.FinMap.{len, from_entries, len-empty}
use Rattle.fz_table.specs.declared.limits.TheConstants.{MOST_ENTRIES}
use Rattle.fz_links.proofs.links.Links.with_hasher.Goals as goal

pub invariant_of-result : goal.invariant_of-result
invariant_of-result c =
    record { few = subst (λ es. len (from_entries {R = nat_cmp} es) ≤ MOST_ENTRIES) (sym c.with_hasher.ensures.empty) (omega (arith, len-empty nat_cmp ℕ)); spared = omega arith }
