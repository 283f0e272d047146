use Rattle.std.proofs.Common.{◌∙◌, ◌++◌, ◌∷◌, [], drop, ap, sym}
use Rattle.std.specs.List.{prefix_len, take_while}
use Rattle.fz_machine.specs.declared.item.Item.{Item}
use Rattle.fz_machine.specs.Walks.{Walk}
use Rattle.fz_machine.proofs.Kept.{first_is}
use Rattle.fz_machine.proofs.Masked.{is_on, known_behind, known_moved}
use Rattle.fz_machine.proofs.walk.Walk.keep_known.Goals as goal

pub loop-item-preserved : goal.loop-item-preserved
loop-item-preserved c =
    let now = c.loop-item.self in
    let new = c.pass_on.new.self in
    let item = c.in-Some.item in
    let inv = c.loop-item.invariant in
    let e = c.pass_on.ensures in
    let first = first_is now.left item (sym c.first.ensures ∙ c.in-Some.is) in
    let on = is_on item.known c.if-not-item.false in
    record {
      kept = ap (λ xs. xs ++ take_while (λ (it : Item). it.known) new.left) e.kept ∙ ap (λ xs. (now.kept ++ item ∷ []) ++ take_while (λ (it : Item). it.known) xs) e.left ∙ known_moved now.left item first now.kept on ∙ inv.kept;
      left = ap (λ xs. drop (prefix_len (λ (it : Item). it.known) xs) xs) e.left ∙ known_behind now.left item first on ∙ inv.left;
      others = e.others ∙ ap (λ (w : Walk). record w { kept = new.kept; left = new.left }) inv.others;
    }
