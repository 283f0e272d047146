use Rattle.std.proofs.Common.{List, ℕ, ◌<◌, ◌^◌, rules, subst, sym}
use Rattle.std.specs.List.Sorted.{IsPermutation}
use Rattle.std.proofs.lemmas.List.Sorted.{All-permutation, IsNonDecreasingBy-from_sort_by_key}
use Rattle.fz_finalizers.specs.declared.cleanups.Attached.{Attached}
use Rattle.fz_machine.specs.declared.item.Item.{Item}
use Rattle.fz_machine.specs.Items.{AreCleanups, of_cleanup}
use Rattle.fz_machine.specs.Regions.{is_unmarked}
use Rattle.fz_machine.specs.Walks.{Walk}
use Rattle.fz_machine.proofs.Ordered.{are_cleanups, numbered, unmapped}
use Rattle.fz_machine.proofs.listing.walk_cleanups.Goals as goal

pub returns-clause-listed : goal.returns-clause-listed
returns-clause-listed c =
    let sorted = c.sort_unstable_by_key.ensures in
    let items = c.sort_unstable_by_key.new.self.items in
    let up = IsNonDecreasingBy-from_sort_by_key numbered items sorted.sorted (λ a r q k. search rules) in
    let of = c.list_cleanups.ensures.listed in
    let told = c.args.table.now.told in
    let f : ℕ × Attached → Item = λ e. of_cleanup (is_unmarked told e.1.object) e in
    let zs = unmapped f _ items (subst (λ (xs : List Item). IsPermutation xs items) of.2 sorted.permutation) in
    let words = All-permutation (λ (i : Item). i.word < 2 ^ 64) c.list_cleanups.new.items.items items sorted.permutation c.list_cleanups.ensures.numbers in
    subst (λ (w : Walk). AreCleanups c.args.from told c.args.when c.args.finalizers.now.state.cleanups w.left) (sym c.put.ensures)
    (are_cleanups c.args.from told c.args.when _ of.0 of.1 zs.0 zs.1 items zs.2 words up)
