use Rattle.std.proofs.Common.{◌≡◌, ◌∙◌, ◌++◌, ◌∷◌, [], ℕ, Bool, cond, not, length, sym, ap, subst, arith}
use Rattle.fz_pass.proofs.Walking.{one_on, all_of}
use Rattle.fz_machine.specs.declared.item.Item.{Item}
use Rattle.fz_finalizers.specs.States.{links_of}
use Rattle.fz_machine.specs.Items.{AreEntriesOf, link_number, of_link}
use Rattle.fz_machine.specs.Regions.{Regions, is_marked, is_unmarked, link_sweep}
use Rattle.fz_machine.proofs.Among.{OneOf}
use Rattle.fz_machine.proofs.Renoted.{IsNumberOf, filled, fewer_than, items_more, links_entered, no_links, one_looked, renoted_all}
use Rattle.fz_machine.proofs.listing.list_links.Goals as goal

pub returns-then-not-lists-clause-listed : goal.returns-then-not-lists-clause-listed
returns-then-not-lists-clause-listed c =
    let s = c.args.finalizers.now.state in
    let es = c.iter_links-links.result in
    let told = c.args.table.now.told in
    let none = c.lists.ensures.none c.if-not-lists.true in
    let are : AreEntriesOf (links_of s c.args.kind) es = (c.iter_links-links.ensures.all, c.iter_links-links.ensures.once) in (
      es,
      are,
      c.requires.empty ∙ no_links told c.args.words c.args.kind s es are (λ n is_of. none.1 n (c.requires.told.noted none.0 n is_of)) (λ e. of_link (is_unmarked told (link_number c.args.words e)) e),
    )

pub loop-word-preserved : goal.loop-word-preserved
loop-word-preserved c =
    let inv = c.loop-word.invariant in
    let e : ℕ × ℕ = (c.in-Some.word, c.in-Some.target) in
    let mid = c.lists.new.self in
    let told = mid.told in
    let same = ap (λ (t : Regions). t.told) inv.looked.same in
    let f : ℕ × ℕ → Item = λ x. of_link (is_unmarked told (link_number c.args.words x)) x in
    let on : Bool = not (is_marked told (link_number c.args.words e)) in
    let put = c.put_link.ensures.listed ∙ filled c.loop-word.items.items (f e) (λ t. is_marked t (link_number c.args.words e)) (λ t. of_link (is_unmarked t (link_number c.args.words e)) e) told c.loop-word.table.told same in
    let steps = ap length c.in-Some.ensures.steps in
    let more = fewer_than on c.loop-word.items.items (f e) in
    let long = ap length put in
    let few = inv.few in
    let grown = inv.grown in
    let capacity = c.put_link.ensures.capacity in
    record {
      listed = put ∙ ap (λ xs. cond on (xs ++ f e ∷ []) xs) inv.listed ∙ sym (items_more (λ x. not (is_marked told (link_number c.args.words x))) f c.loop-word.yielded e);
      few = omega (arith, steps, more, long, few);
      grown = omega (arith, grown, capacity);
      rest = one_on c.loop-word.yielded c.loop-word.word-iterator _ c.next.new.self e inv.rest c.in-Some.ensures.steps;
      looked = one_looked (IsNumberOf c.args.words) mid c.loop-word.table c.put_link.new.table c.loop-word.yielded e inv.looked (link_number c.args.words e) c.put_link.ensures.looked (λ n is. is);
    }

pub returns-clause-renoted : goal.returns-clause-renoted
returns-clause-renoted c =
    let es = c.iter_links-links.result in
    let inv = c.loop-word.invariant in
    let all : c.loop-word.yielded ≡ es = all_of c.loop-word.yielded _ es (inv.rest ∙ c.into_iter-word-iterator.ensures.into_iter_gives) c.in-None.ensures.steps.0 in
    renoted_all (link_sweep c.args.words c.args.kind) c.args.finalizers.now.state c.args.table.now c.lists.new.self c.requires.told c.end-2.new.self c.end-2.ensures.untold (IsNumberOf c.args.words) c.loop-word.table c.loop-word.yielded c.lists.ensures.same c.lists.ensures.keys inv.looked
    (λ n is_of. subst (OneOf (λ e. IsNumberOf c.args.words e n)) (sym all) (links_entered c.args.words c.args.kind c.args.finalizers.now.state es (c.iter_links-links.ensures.all, c.iter_links-links.ensures.once) n is_of))
    c.end-2.ensures.same c.end-2.ensures.noted c.end-2.ensures.fewer
