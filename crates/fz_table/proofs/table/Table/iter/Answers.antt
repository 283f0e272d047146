use Rattle.std.proofs.Common.{◌∙◌, nat_eq, ap, sym, subst}
use Rattle.std.specs.List.{IsDistinct}
use Rattle.std.specs.Map.{keys_of}
use Rattle.fz_table.proofs.Flagged.{keys_plain}
use Rattle.fz_table.proofs.table.Table.iter.Goals as goal

pub returns-clause-once : goal.returns-clause-once
returns-clause-once c = subst (IsDistinct nat_eq) (sym (ap keys_of c.of.ensures ∙ keys_plain c.iter_stored.result)) c.iter_stored.ensures.once
