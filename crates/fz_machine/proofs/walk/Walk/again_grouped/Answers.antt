use Rattle.std.proofs.Common.{◌∙◌, List, rules, subst}
use Rattle.std.specs.List.Sorted.{IsPermutation}
use Rattle.std.proofs.lemmas.List.Sorted.{IsNonDecreasingBy-from_sort_by_key}
use Rattle.fz_machine.specs.declared.item.Item.{Item}
use Rattle.fz_machine.specs.Items.{group_of}
use Rattle.fz_machine.proofs.walk.Walk.again_grouped.Goals as goal

pub returns-clause-left : goal.returns-clause-left
returns-clause-left c =
    let sorted = c.sort_unstable_by_key.ensures in
    let kept = c.truncate.ensures.items ∙ (λ i. (c.self.view_is i).kept) in (
      subst (λ (xs : List Item). IsPermutation xs c.sort_unstable_by_key.new.self.items) kept sorted.permutation,
      IsNonDecreasingBy-from_sort_by_key (λ (item : Item). group_of item.kind) _ sorted.sorted (λ a r q k. search rules),
    )
