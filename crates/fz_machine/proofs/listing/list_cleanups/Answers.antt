use Rattle.std.proofs.Common.{◌≡◌, ◌∙◌, ◌++◌, ◌∷◌, [], ℕ, Bool, cond, IsTrue, IsFalse, true≢false, length, sym, ap, subst, ⊎_elim, arith}
use Rattle.fz_pass.proofs.Walking.{one_on, all_of}
use Rattle.fz_finalizers.specs.declared.cleanups.Attached.{Attached}
use Rattle.fz_finalizers.specs.Cleanups.{is_when}
use Rattle.fz_machine.specs.declared.item.Item.{Item}
use Rattle.fz_machine.specs.Items.{is_listed, of_cleanup}
use Rattle.fz_machine.specs.Regions.{IsLooked, Regions, attached, is_unmarked}
use Rattle.fz_machine.proofs.Among.{OneOf}
use Rattle.fz_machine.proofs.Ordered.{AreWords, words_more}
use Rattle.fz_machine.proofs.Renoted.{IsCleanedOf, filled_if, fewer_than, items_more, no_cleanups, cleanups_entered, one_looked, one_passed, renoted_all}
use Rattle.fz_machine.proofs.listing.list_cleanups.Goals as goal

pub returns-then-not-lists-clause-listed : goal.returns-then-not-lists-clause-listed
returns-then-not-lists-clause-listed c =
    let s = c.args.finalizers.now.state in
    let es = c.iter_cleanups-cleanups.result in
    let told = c.args.table.now.told in
    let none = c.lists.ensures.none c.if-not-lists.true in (
      es,
      c.iter_cleanups-cleanups.ensures.all,
      c.requires.empty ∙ no_cleanups told c.args.from c.args.when s es c.iter_cleanups-cleanups.ensures.all (λ n is_of. none.1 n (c.requires.told.noted none.0 n is_of)) (λ e. of_cleanup (is_unmarked told e.1.object) e),
    )

pub loop-number-preserved : goal.loop-number-preserved
loop-number-preserved c =
    let inv = c.loop-number.invariant in
    let e : ℕ × Attached = (c.in-Some.number, c.in-Some.attached) in
    let mid = c.lists.new.self in
    let told = mid.told in
    let same = ap (λ (t : Regions). t.told) inv.looked.same in
    let f : ℕ × Attached → Item = λ x. of_cleanup (is_unmarked told x.1.object) x in
    let on : Bool = is_listed c.args.from told c.args.when e in
    let put = c.put_cleanup.ensures.listed ∙ filled_if c.loop-number.items.items (λ t. is_listed c.args.from t c.args.when e) (λ t. of_cleanup (is_unmarked t e.1.object) e) told c.loop-number.table.told same in
    let steps = ap length c.in-Some.ensures.steps in
    let more = fewer_than on c.loop-number.items.items (f e) in
    let long = ap length put in
    let few = inv.few in
    let grown = inv.grown in
    let capacity = c.put_cleanup.ensures.capacity in
    record {
      listed = put ∙ ap (λ xs. cond on (xs ++ f e ∷ []) xs) inv.listed ∙ sym (items_more (is_listed c.args.from told c.args.when) f c.loop-number.yielded e);
      words = subst AreWords (sym put) (words_more on c.loop-number.items.items (f e) c.put_cleanup.ensures.number inv.words);
      few = omega (arith, steps, more, long, few);
      grown = omega (arith, grown, capacity);
      rest = one_on c.loop-number.yielded c.loop-number.number-iterator _ c.next.new.self e inv.rest c.in-Some.ensures.steps;
      looked = ⊎_elim
          (λ (h : IsTrue (is_when c.args.when e.1.cleanup.when) × IsLooked e.1.object c.loop-number.table c.put_cleanup.new.table). one_looked (IsCleanedOf c.args.when) mid c.loop-number.table c.put_cleanup.new.table c.loop-number.yielded e inv.looked e.1.object h.1 (λ n is. is.1))
          (λ (h : IsFalse (is_when c.args.when e.1.cleanup.when) × (c.put_cleanup.new.table ≡ c.loop-number.table)).
          one_passed (IsCleanedOf c.args.when) mid c.loop-number.table c.put_cleanup.new.table c.loop-number.yielded e inv.looked h.1 (λ n is. absurd (true≢false (sym is.0 ∙ h.0))))
          c.put_cleanup.ensures.looked;
    }

pub returns-clause-renoted : goal.returns-clause-renoted
returns-clause-renoted c =
    let es = c.iter_cleanups-cleanups.result in
    let inv = c.loop-number.invariant in
    let all : c.loop-number.yielded ≡ es = all_of c.loop-number.yielded _ es (inv.rest ∙ c.into_iter-number-iterator.ensures.into_iter_gives) c.in-None.ensures.steps.0 in
    renoted_all (attached c.args.when) c.args.finalizers.now.state c.args.table.now c.lists.new.self c.requires.told c.end-2.new.self c.end-2.ensures.untold (IsCleanedOf c.args.when) c.loop-number.table c.loop-number.yielded c.lists.ensures.same c.lists.ensures.keys inv.looked
    (λ n is_of. subst (OneOf (λ e. IsCleanedOf c.args.when e n)) (sym all) (cleanups_entered c.args.when c.args.finalizers.now.state es c.iter_cleanups-cleanups.ensures.all n is_of))
    c.end-2.ensures.same c.end-2.ensures.noted c.end-2.ensures.fewer
