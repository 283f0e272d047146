use Rattle.std.proofs.Common.{◌≡◌, ◌∙◌, ap, sym, filter}
use Rattle.fz_finalizers.specs.Walks.{somes}
use Rattle.fz_pass.proofs.Walking.{one_on, all_of}
use Rattle.own_heap.specs.Guarding.{is_guarded}
use Rattle.own_heap.proofs.Guarding.{first_on, none_on}
use Rattle.own_heap.proofs.guardian.first_guarded.Goals as goal

pub loop-entry-preserved : goal.loop-entry-preserved
loop-entry-preserved c =
    let inv = c.loop-entry.invariant in
    record {
      none = none_on (is_guarded c.args.procedure) c.loop-entry.yielded c.in-Some.entry inv.none (sym c.is_guarded.ensures ∙ c.if-is_guarded.false);
      rest = one_on c.loop-entry.yielded (somes c.loop-entry.entry-iterator) _ (somes c.next.new.self) c.in-Some.entry inv.rest c.in-Some.ensures.steps;
    }

pub returns-then-is_guarded : goal.returns-then-is_guarded
returns-then-is_guarded c =
    let inv = c.loop-entry.invariant in
    let passes = is_guarded c.args.procedure in
    let on = one_on c.loop-entry.yielded (somes c.loop-entry.entry-iterator) _ (somes c.next.new.self) c.in-Some.entry inv.rest c.in-Some.ensures.steps in
    let all = on ∙ ap somes c.into_iter-entry-iterator.ensures.into_iter_gives ∙ c.entries-entry-items.ensures.all in
    (filter passes (somes c.next.new.self), ap (filter passes) (sym all) ∙ first_on passes c.loop-entry.yielded c.in-Some.entry (somes c.next.new.self) inv.none (sym c.is_guarded.ensures ∙ c.if-is_guarded.true))

pub returns : goal.returns
returns c =
    let inv = c.loop-entry.invariant in
    let words = somes c.entries-entry-items.result in
    let all : c.loop-entry.yielded ≡ words = all_of c.loop-entry.yielded _ words (inv.rest ∙ ap somes c.into_iter-entry-iterator.ensures.into_iter_gives) c.in-None.ensures.steps.0 in
    ap (filter (is_guarded c.args.procedure)) (sym (all ∙ c.entries-entry-items.ensures.all)) ∙ inv.none
