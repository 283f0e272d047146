use Rattle.std.proofs.Common.{vec_capacity, ◌++◌, ◌∷◌, [], ◌∙◌, length, map, ap, false, arith}
use Rattle.fz_machine.specs.Items.{of_link}
use Rattle.fz_machine.proofs.Listed.{none_listed, one_more, all_listed, may_put, untold}
use Rattle.fz_machine.proofs.listing.list_ephemerons.Goals as goal

pub loop-word-init : goal.loop-word-init
loop-word-init c = record { are = none_listed (of_link false) c.args.items.now.items c.into_iter-word-iterator.result; grown = omega arith }

pub put-requires : goal.put-requires
put-requires c =
    let given = ap length c.into_iter-word-iterator.ensures.into_iter_gives in
    record {
      room = may_put _ _ _ _ _ _ c.loop-word.invariant.are (vec_capacity c.loop-word.items) _ _ _ c.in-Some.ensures.steps c.loop-word.items.ok.0
          (omega (arith, given, c.args.items.now.ok.0, c.iter_ephemerons-word-items.ensures.count, c.requires.room, c.loop-word.invariant.grown));
    }

pub loop-word-preserved : goal.loop-word-preserved
loop-word-preserved c = record {
  are = one_more _ _ _ _ _ _ c.loop-word.invariant.are _ _ (c.in-Some.word, c.in-Some.key)
      (c.put.ensures.listed ∙ ap (λ x. c.loop-word.items.items ++ x ∷ []) c.of_link.ensures) c.in-Some.ensures.steps;
  grown = omega (arith, c.loop-word.invariant.grown, c.put.ensures.capacity);
}

pub returns-clause-listed : goal.returns-clause-listed
returns-clause-listed c =
    let es = c.iter_ephemerons-word-items.result in
    let given = c.into_iter-word-iterator.ensures.into_iter_gives in
    let all = all_listed _ _ _ _ _ _ c.loop-word.invariant.are c.in-None.ensures.steps.0 in
    (map (of_link false) es, (es, (c.iter_ephemerons-word-items.ensures.all, c.iter_ephemerons-word-items.ensures.once), untold es), all ∙ ap (λ xs. c.args.items.now.items ++ map (of_link false) xs) given)
