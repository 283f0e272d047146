use Rattle.std.proofs.Common.{◌≡◌, ◌∙◌, ℕ, List, Some, is_some, nat_eq, slice_get, sym, ap, subst}
use Rattle.std.specs.Map.{keys_of, lookup}
use Rattle.std.specs.Option.{IfSome}
use Rattle.fz_machine.specs.Regions.{Regions}
use Rattle.fz_machine.proofs.Noting.{index_found, keys_placed, placed_there, there_at}
use Rattle.fz_machine.proofs.regions.Regions.index_of.Goals as goal

pub returns-then-is_at-clause-there : goal.returns-then-is_at-clause-there
returns-then-is_at-clause-there c = sym (there_at c.args.self.now.order _ c.args.region (c.is_at.ensures c.if-is_at.true))

pub returns-clause-found : goal.returns-clause-found
returns-clause-found c =
    let es = c.self.inside.noted.entries in
    subst (λ (ks : List ℕ). IfSome c.get_index_of.result (λ i. slice_get ks i ≡ Some c.args.region)) (sym (keys_placed es) ∙ ap (λ (r : Regions). keys_of r.order) c.self.view_is) (index_found (keys_of es) c.args.region c.get_index_of.result c.get_index_of.ensures.index)

pub returns-clause-there : goal.returns-clause-there
returns-clause-there c = c.get_index_of.ensures.found ∙ placed_there c.self.inside.noted.entries c.args.region ∙ ap (λ (r : Regions). is_some (lookup (nat_eq c.args.region) r.order)) c.self.view_is
