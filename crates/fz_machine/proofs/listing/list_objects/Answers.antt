use Rattle.std.proofs.Common.{◌≡◌, ◌∙◌, ◌++◌, ◌∷◌, ◌&&◌, [], ℕ, Bool, cond, nat_le, not, length, sym, ap, subst, arith}
use Rattle.fz_pass.proofs.Walking.{one_on, all_of}
use Rattle.fz_table.specs.declared.stored.Stored.{Stored}
use Rattle.fz_machine.specs.declared.item.Item.{Item}
use Rattle.fz_machine.specs.declared.phase.Sweep.TheVariants as sweeps
use Rattle.fz_machine.specs.Items.{of_stored}
use Rattle.fz_machine.specs.Regions.{Regions, is_marked, is_unmarked}
use Rattle.fz_machine.proofs.Among.{OneOf}
use Rattle.fz_machine.proofs.Renoted.{IsObjectOf, filled_if, fewer_than, items_more, no_objects, objects_entered, one_looked, renoted_all}
use Rattle.fz_machine.proofs.listing.list_objects.Goals as goal

pub returns-then-not-lists-clause-listed : goal.returns-then-not-lists-clause-listed
returns-then-not-lists-clause-listed c =
    let s = c.args.finalizers.now.state in
    let es = c.iter_stored-registrations.result in
    let told = c.args.table.now.told in
    let none = c.lists.ensures.none c.if-not-lists.true in (
      es,
      c.iter_stored-registrations.ensures.all,
      c.iter_stored-registrations.ensures.flags,
      c.requires.empty ∙ no_objects told c.args.from s es c.iter_stored-registrations.ensures.all (λ n is_of. none.1 n (c.requires.told.noted none.0 n is_of)) (λ e. of_stored (is_unmarked told e.0) e),
    )

pub loop-object-preserved : goal.loop-object-preserved
loop-object-preserved c =
    let inv = c.loop-object.invariant in
    let e : ℕ × Stored = (c.in-Some.object, c.in-Some.stored) in
    let mid = c.lists.new.self in
    let told = mid.told in
    let same = ap (λ (t : Regions). t.told) inv.looked.same in
    let f : ℕ × Stored → Item = λ x. of_stored (is_unmarked told x.0) x in
    let young : Bool = nat_le c.args.from c.in-Some.stored.number in
    let on : Bool = young && not (is_marked told e.0) in
    let put = c.put_object.ensures.listed ∙ filled_if c.loop-object.items.items (λ t. young && not (is_marked t e.0)) (λ t. of_stored (is_unmarked t e.0) e) told c.loop-object.table.told same in
    let steps = ap length c.in-Some.ensures.steps in
    let more = fewer_than on c.loop-object.items.items (f e) in
    let long = ap length put in
    let few = inv.few in
    let grown = inv.grown in
    let capacity = c.put_object.ensures.capacity in
    record {
      listed = put ∙ ap (λ xs. cond on (xs ++ f e ∷ []) xs) inv.listed ∙ sym (items_more (λ x. nat_le c.args.from x.1.number && not (is_marked told x.0)) f c.loop-object.yielded e);
      few = omega (arith, steps, more, long, few);
      grown = omega (arith, grown, capacity);
      rest = one_on c.loop-object.yielded c.loop-object.object-iterator _ c.next.new.self e inv.rest c.in-Some.ensures.steps;
      looked = one_looked IsObjectOf mid c.loop-object.table c.put_object.new.table c.loop-object.yielded e inv.looked e.0 c.put_object.ensures.looked (λ n is. is);
    }

pub returns-clause-renoted : goal.returns-clause-renoted
returns-clause-renoted c =
    let es = c.iter_stored-registrations.result in
    let inv = c.loop-object.invariant in
    let all : c.loop-object.yielded ≡ es = all_of c.loop-object.yielded _ es (inv.rest ∙ c.into_iter-object-iterator.ensures.into_iter_gives) c.in-None.ensures.steps.0 in
    renoted_all sweeps.Objects c.args.finalizers.now.state c.args.table.now c.lists.new.self c.requires.told c.end-2.new.self c.end-2.ensures.untold IsObjectOf c.loop-object.table c.loop-object.yielded c.lists.ensures.same c.lists.ensures.keys inv.looked
    (λ n is_of. subst (OneOf (λ e. IsObjectOf e n)) (sym all) (objects_entered c.args.finalizers.now.state es c.iter_stored-registrations.ensures.all n is_of))
    c.end-2.ensures.same c.end-2.ensures.noted c.end-2.ensures.fewer
