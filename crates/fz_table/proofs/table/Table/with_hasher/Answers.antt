use Rattle.std.proofs.Common.{◌≤◌, ◌∙◌, map, nat_cmp, ap, sym, subst, arith}
use Rattle.std.specs.FinMap.{len, from_entries, len-empty}
use Rattle.std.specs.FinSet as sets
use Rattle.fz_model.specs.declared.answers.Registration.{Registration}
use Rattle.fz_table.specs.declared.limits.TheConstants.{MOST_ENTRIES}
use Rattle.fz_table.specs.Tabled.{flagged, plain}
use Rattle.fz_table.proofs.Flagged.{no_flags}
use Rattle.fz_table.proofs.table.Table.with_hasher.Goals as goal

pub invariant_of-result : goal.invariant_of-result
invariant_of-result c = record {
  few = subst (λ es. len (from_entries {R = nat_cmp} (map plain es)) ≤ MOST_ENTRIES) (sym c.with_hasher.ensures.empty) (omega (arith, len-empty nat_cmp Registration));
  flags_are = ap (λ es. sets.len (flagged es)) c.with_hasher.ensures.empty ∙ ap sets.len no_flags ∙ sets.len-empty nat_cmp;
  fewer = omega arith;
}

pub returns-clause-late : goal.returns-clause-late
returns-clause-late c = ap flagged c.with_hasher.ensures.empty ∙ no_flags
