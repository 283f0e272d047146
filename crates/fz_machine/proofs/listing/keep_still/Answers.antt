use Rattle.std.proofs.Common.{◌++◌, ◌∙◌, List, filter, sym, ap}
use Rattle.fz_machine.specs.declared.item.Item.{Item}
use Rattle.fz_machine.specs.Items.{is_still}
use Rattle.fz_machine.proofs.Beside.{still_all, still_on}
use Rattle.fz_machine.proofs.Kept.{first_is, none_left}
use Rattle.fz_machine.proofs.listing.keep_still.Goals as goal

pub loop-item-preserved : goal.loop-item-preserved
loop-item-preserved c =
    let walk = c.loop-item.walk in
    let now = c.pass_on.new.self in
    let item = c.in-Some.item in
    let test = is_still c.args.kind c.args.finalizers.now.ephemerons in
    let first = first_is walk.left item (sym c.first.ensures ∙ c.in-Some.is) in
    record {
      kept = ap (λ (xs : List Item). now.kept ++ filter test xs) c.pass_on.ensures.left ∙ still_on test walk.kept walk.left now.kept item c.is_still.result first c.is_still.ensures c.pass_on.ensures.kept ∙ c.loop-item.invariant.kept;
      others = c.pass_on.ensures.others ∙ (λ i. record (c.loop-item.invariant.others i) { kept = now.kept; left = now.left });
    }

pub returns-clause-left : goal.returns-clause-left
returns-clause-left c = none_left c.loop-item.walk.left (sym c.first.ensures ∙ c.in_default.is)

pub returns-clause-kept : goal.returns-clause-kept
returns-clause-kept c =
    let walk = c.loop-item.walk in
    still_all (is_still c.args.kind c.args.finalizers.now.ephemerons) walk.kept walk.left _ (none_left walk.left (sym c.first.ensures ∙ c.in_default.is)) c.loop-item.invariant.kept
