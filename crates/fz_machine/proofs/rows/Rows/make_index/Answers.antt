use Rattle.std.proofs.Common.{◌∙◌, List, length, map, rules, subst, ap, arith}
use Rattle.std.specs.List.Sorted.{IsPermutation}
use Rattle.std.proofs.lemmas.List.Sorted.{IsNonDecreasingBy-from_sort_by_key, length_permutation}
use Rattle.fz_machine.specs.declared.item.Item.{Item}
use Rattle.fz_machine.specs.Off.{Rows, fresh, key_of, untold}
use Rattle.fz_machine.proofs.Index.{index_made, index_of, index_stays}
use Rattle.fz_machine.proofs.rows.Rows.make_index.Goals as goal

pub returns-then-self-gt0-clause-indexed : goal.returns-then-self-gt0-clause-indexed
returns-then-self-gt0-clause-indexed c =
    let long = ap (λ (r : Rows). length r.off.index) c.self.view_is in
    let is = c.self.invariant.0 in
    index_stays c.args.self.now.off.index c.args.self.now.off (omega (arith, c.if-self-gt0.true, long, is))

pub invariant_of-self : goal.invariant_of-self
invariant_of-self c =
    let sorted = c.sort_unstable_by_key.ensures in
    let rows = c.sort_unstable_by_key.new.self.items in
    let p = index_of c.self.inside.stuck.items c.put_rows.new.index.items rows (c.put_rows.ensures.listed ∙ ap (map fresh) c.deref.ensures.value) sorted.permutation in
    let few = length_permutation c.self.inside.stuck.items (untold rows) p in
    let ok = c.self.inside.stuck.ok.0 in
    let len = c.len-self-inside.ensures in
    (omega (arith, few, ok, len), IsNonDecreasingBy-from_sort_by_key key_of rows sorted.sorted (λ a r q k. search rules))

pub returns-clause-indexed : goal.returns-clause-indexed
returns-clause-indexed c =
    let sorted = c.sort_unstable_by_key.ensures in
    let rows = c.sort_unstable_by_key.new.self.items in
    let p = index_of c.self.inside.stuck.items c.put_rows.new.index.items rows (c.put_rows.ensures.listed ∙ ap (map fresh) c.deref.ensures.value) sorted.permutation in
    let long = ap (λ (r : Rows). length r.off.index) c.self.view_is in
    let is = c.self.invariant.0 in
    index_made c.args.self.now.off.index c.args.self.now.off (record { index = untold rows; stuck = c.clear-2.new.self.items; told = c.self.inside.told.items; again = c.self.inside.again }) (omega (arith, c.if-self-gt0.false, long, is)) (
      (λ i. record { index = untold rows; stuck = c.clear-2.ensures.items i; told = (c.self.view_is i).off.told; again = (c.self.view_is i).off.again }),
      subst (λ (xs : List Item). IsPermutation xs (untold rows)) (ap (λ (r : Rows). r.off.stuck) c.self.view_is) p,
    )
