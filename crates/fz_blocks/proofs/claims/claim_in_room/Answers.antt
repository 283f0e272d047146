use Rattle.std.proofs.Common.{◌≡◌, ◌∙◌, ℕ, List, Some, true, slice_get, refl, sym, subst, arith}
use Rattle.std.proofs.lemmas.Bool.{and_parts}
use Rattle.std.proofs.lemmas.Option.{same_Some, slice_get_within}
use Rattle.fz_blocks.specs.declared.block.Block.{Block}
use Rattle.fz_blocks.specs.Blocks.{has_free_cell, Claims}
use Rattle.fz_blocks.specs.Classes.{class_of}
use Rattle.fz_blocks.specs.Layout.{has_room}
use Rattle.fz_blocks.specs.Listed.{IsFirst}
use Rattle.fz_blocks.proofs.Alike.{roomy_own, roomy_unfull, claimed_alike}
use Rattle.fz_blocks.proofs.Bits.{cell_fits}
use Rattle.fz_blocks.proofs.Claiming.{room_claimed}
use Rattle.fz_blocks.proofs.Listed.{room_is}
use Rattle.fz_blocks.proofs.claims.claim_in_room.Goals as goal

roomy : (class : ℕ) (blocks : List Block) (at : ℕ) → IsFirst (has_room class) blocks at → (block : Block) → slice_get blocks at ≡ Some block → has_free_cell block ≡ true
roomy class blocks at first block here =
    subst (λ k. has_free_cell k ≡ true) (same_Some first.block block (sym first.here ∙ here)) (and_parts (has_free_cell first.block) _ (sym (room_is class first.block) ∙ first.passes)).0

pub get-block-requires : goal.get-block-requires
get-block-requires c = slice_get_within c.args.blocks.now c.args.at c.requires.first.block c.requires.first.here

pub claim_least-place-requires-clause-own : goal.claim_least-place-requires-clause-own
claim_least-place-requires-clause-own c = roomy_own c.get-block.result (roomy (class_of c.args.size c.args.kind) c.args.blocks.now c.args.at c.requires.first c.get-block.result c.get-block.ensures)

pub claim_least-place-requires-clause-room : goal.claim_least-place-requires-clause-room
claim_least-place-requires-clause-room c = roomy_unfull c.get-block.result (roomy (class_of c.args.size c.args.kind) c.args.blocks.now c.args.at c.requires.first c.get-block.result c.get-block.ensures)

pub overflow_add-result-3 : goal.overflow_add-result-3
overflow_add-result-3 c =
    let small = cell_fits c.get-block.result.size c.claim_least-place.result c.get-block.result.sized c.claim_least-place.ensures.cell in
    let lt = slice_get_within c.args.blocks.now c.args.at c.get-block.result c.get-block.ensures in
    omega (arith, lt, c.requires.few, small)

pub returns : goal.returns
returns c =
    room_claimed c.args.blocks.now c.put.new.self c.requires.runs c.args.size c.args.kind c.requires.sized c.requires.small c.args.at c.claim_least-place.result c.get-block.result c.claim_least-place.new.self c.claim_least-place.ensures c.put.ensures c.get-block.ensures c.requires.first

pub claim_alike-requires-clause-alike : goal.claim_alike-requires-clause-alike
claim_alike-requires-clause-alike c = λ was new place here claims.
    let unfull = c.if-has_two_free.ensures refl new place (subst (λ (k : Block). Claims k new place) (same_Some was c.block.result.now (sym here ∙ c.block.ensures)) claims) in
    claimed_alike was new place claims (roomy (class_of c.args.size c.args.kind) c.args.blocks.now c.args.at c.requires.first was here) unfull c.args.blocks.now c.args.at here

pub overflow_add-result-then-has_two_free : goal.overflow_add-result-then-has_two_free
overflow_add-result-then-has_two_free c =
    let did = c.claim_alike.ensures in
    let small = cell_fits did.was.size c.claim_alike.result did.was.sized did.claims.cell in
    let lt = slice_get_within c.args.blocks.now c.args.at did.was did.here in
    omega (arith, lt, c.requires.few, small)

pub returns-then-has_two_free : goal.returns-then-has_two_free
returns-then-has_two_free c =
    let did = c.claim_alike.ensures in
    room_claimed c.args.blocks.now c.claim_alike.new.self c.requires.runs c.args.size c.args.kind c.requires.sized c.requires.small c.args.at c.claim_alike.result did.was did.now did.claims did.new_is did.here c.requires.first

pub put-requires : goal.put-requires
put-requires c = slice_get_within c.args.blocks.now c.args.at c.requires.first.block c.requires.first.here

pub overflow_mul-result-2 : goal.overflow_mul-result-2
overflow_mul-result-2 c =
    let lt = slice_get_within c.args.blocks.now c.args.at c.get-block.result c.get-block.ensures in
    omega (arith, lt, c.requires.few)
