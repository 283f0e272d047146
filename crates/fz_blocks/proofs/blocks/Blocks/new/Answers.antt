use Rattle.std.proofs.Common.{◌≡◌, ap, sym, ◌∙◌, rules, replicate}
use Rattle.std.proofs.lemmas.Bool.{and_from, eq-eqb}
use Rattle.fz_blocks.specs.Layout.{waiting_in}
use Rattle.fz_blocks.proofs.Opening.{all_new, listed_new, none_waiting}
use Rattle.fz_blocks.proofs.blocks.Blocks.new.Goals as goal

pub invariant_of-result : goal.invariant_of-result
invariant_of-result c =
    let are : c.in_ok-blocks.blocks.items ≡ replicate c.args.blocks c.of-block.result = search rules in
    (listed_new c.in_ok-blocks.blocks.items c.args.blocks c.of-block.result are (and_from _ _ (eq-eqb _ 0 c.of-block.ensures.bare.0) (eq-eqb _ 0 c.of-block.ensures.bare.1)) c.of-block.ensures.bare.2 c.requires c.in_ok-bare.bare c.in_ok-rooms.rooms.items c.in_ok-bare.ensures.room c.in_ok-bare.ensures.made c.in_ok-rooms.ensures.long c.in_ok-rooms.ensures.made, sym (ap waiting_in are ∙ none_waiting c.args.blocks c.of-block.result c.of-block.ensures.bare.2))

pub returns-clause-made : goal.returns-clause-made
returns-clause-made c =
    let are : c.in_ok-blocks.blocks.items ≡ replicate c.args.blocks c.of-block.result = search rules in
    all_new c.in_ok-blocks.blocks.items c.args.blocks c.of-block.result are (and_from _ _ (eq-eqb _ 0 c.of-block.ensures.bare.0) (eq-eqb _ 0 c.of-block.ensures.bare.1)) c.of-block.ensures.bare.2
