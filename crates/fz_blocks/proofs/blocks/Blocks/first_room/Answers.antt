use Rattle.std.proofs.Common.{ℕ, List, Some, ◌≡◌, ◌≤◌, ◌<◌, ◌∙◌, ap, arith, MatchOption, subst, slice_get, slice_index_or, false}
use Rattle.std.specs.FinSet.{empty}
use Rattle.std.proofs.lemmas.List.{get_or_read}
use Rattle.fz_model.specs.declared.kinds.ObjKind.{ObjKind}
use Rattle.fz_model.specs.declared.kinds.ObjKind.TheVariants.{Scanned, Atomic}
use Rattle.fz_blocks.specs.declared.block.Block.{Block}
use Rattle.fz_blocks.specs.BlockSets.{no_room, members_at, IsLeast}
use Rattle.fz_bits.specs.Flags.{Flagged}
use Rattle.fz_blocks.specs.Classes.{class_of}
use Rattle.fz_blocks.specs.Layout.{has_room}
use Rattle.fz_blocks.specs.Listed.{IsFirst}
use Rattle.fz_blocks.proofs.Listed.{first_found, small_found}
use Rattle.fz_blocks.proofs.blocks.Blocks.first_room.Goals as goal

class_within : (s : ℕ) (k : ObjKind) → 1 ≤ s → s ≤ 64 → class_of s k < 128
class_within s Scanned s1 s64 = omega arith
class_within s Atomic s1 s64 = omega arith

pub returns : goal.returns
returns c =
    let small : c.args.size ≤ 64 = c.if-size-gt-BLOCK_WORDS.false in
    let lt = class_within c.args.size c.args.kind c.requires small in
    let is = c.class_of.ensures in
    let long = c.self.invariant.0.classes in
    let read = get_or_read c.self.inside.rooms.items c.class_of.result c.index.result.now (omega (arith, lt, is, long)) c.index.ensures no_room ∙ ap (λ j. slice_index_or c.self.inside.rooms.items j no_room) is in
    subst (λ (bs : List Block). MatchOption c.first.result (c.args.size ≤ 64 → (b : ℕ) (block : Block) → slice_get bs b ≡ Some block → has_room (class_of c.args.size c.args.kind) block ≡ false) (λ b. (c.args.size ≤ 64) × IsFirst (has_room (class_of c.args.size c.args.kind)) bs b)) c.self.view_is
    (small_found c.self.inside.blocks.items (has_room (class_of c.args.size c.args.kind)) c.args.size small c.first.result
    (first_found c.self.inside.blocks.items (members_at c.self.inside.rooms.items (class_of c.args.size c.args.kind)) (has_room (class_of c.args.size c.args.kind)) (λ b. c.self.invariant.0.rooms_are (class_of c.args.size c.args.kind) b lt) c.first.result
    (subst (λ (s : Flagged). MatchOption c.first.result (s.members ≡ empty) (λ b. IsLeast s.members b)) read c.first.ensures)))
