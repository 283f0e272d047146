use Rattle.std.proofs.Common.{List, ◌≡◌, ◌==◌, ◌∙◌, Some, false, ap, sym, refl, arith, cond, subst, slice_get, slice_set, length}
use Rattle.std.proofs.lemmas.Option.{slice_get_read, slice_get_within}
use Rattle.std.proofs.lemmas.List.{with_items_is}
use Rattle.std.specs.FinSet.{contains}
use Rattle.std.specs.Option.{option_map_or}
use Rattle.fz_blocks.specs.declared.block.Block.{Block}
use Rattle.fz_blocks.specs.BlockSets.{room_at, members_at}
use Rattle.fz_blocks.specs.Blocks.{is_bare}
use Rattle.fz_blocks.specs.Layout.{has_room}
use Rattle.fz_blocks.specs.Listed.{AreListed, Changes}
use Rattle.fz_blocks.proofs.Condemned.{waiting_set, few_waiting, few_condemned}
use Rattle.fz_blocks.proofs.Listed.{put_listed}
use Rattle.fz_blocks.proofs.blocks.Blocks.put.Goals as goal
use Rattle.fz_blocks.proofs.blocks.Blocks.put.Goals.{After-index}

here : (c : After-index) → slice_get c.self.inside.blocks.items c.args.at ≡ Some c.index.result.now
here c =
    let long = ap (λ (bs : List Block). length bs) c.self.view_is in
    slice_get_read c.self.inside.blocks.items (length c.self.inside.blocks.items) c.args.at c.index.result.now refl (omega (arith, long, c.requires)) c.index.ensures

pub change_room-requires-clause-room : goal.change_room-requires-clause-room
change_room-requires-clause-room c = λ class small.
    let lt = slice_get_within c.self.inside.blocks.items c.args.at c.index.result.now (here (goal.at.change_room-requires-clause-room c).After-index) in
    omega (arith, lt, c.self.invariant.0.rooms_room class small, ap (λ rs. room_at rs class) c.deref_mut.ensures.value)

pub change_room-requires-clause-listed : goal.change_room-requires-clause-listed
change_room-requires-clause-listed c = λ class small.
    ap (λ rs. contains (members_at rs class) c.args.at) c.deref_mut.ensures.value
    ∙ c.self.invariant.0.rooms_are class c.args.at small ∙ ap (λ o. option_map_or (has_room class) o false) (here (goal.at.change_room-requires-clause-listed c).After-index)

pub change_bare-requires-clause-room : goal.change_bare-requires-clause-room
change_bare-requires-clause-room c =
    let lt = slice_get_within c.self.inside.blocks.items c.args.at c.index.result.now (here (goal.at.change_bare-requires-clause-room c).After-index) in
    omega (arith, lt, c.self.invariant.0.bare_room)

pub change_bare-requires-clause-listed : goal.change_bare-requires-clause-listed
change_bare-requires-clause-listed c =
    c.self.invariant.0.bare_are c.args.at ∙ ap (λ o. option_map_or is_bare o false) (here (goal.at.change_bare-requires-clause-listed c).After-index) ∙ sym c.is_bare.ensures

pub invariant_of-self : goal.invariant_of-self
invariant_of-self c =
    let blocks = c.self.inside.blocks.items in
    let rooms = with_items_is c.self.inside.rooms c.change_room.new.rooms (c.change_room.ensures.long ∙ c.deref_mut.ensures.len) in
    let here = here (goal.at.invariant_of-self c).After-index in
    let within = slice_get_within blocks c.args.at c.index.result.now here in
    let changes = subst (λ rs. Changes rs c.change_room.new.rooms c.args.block c.args.at) c.deref_mut.ensures.value c.change_room.ensures in
    let sum = waiting_set blocks c.args.at c.index.result.now c.args.block within here in (
      subst (λ rs. AreListed (slice_set c.self.inside.blocks.items c.args.at c.args.block) c.change_bare.new.bare rs) (sym rooms)
          (put_listed blocks c.self.inside.bare c.change_bare.new.bare c.self.inside.rooms.items c.change_room.new.rooms c.args.at c.args.block c.self.invariant.0 within changes c.change_bare.ensures.room
          (λ b. c.change_bare.ensures.members b ∙ ap (λ t. cond (b == c.args.at) t (contains c.self.inside.bare.members b)) c.is_bare-2.ensures)),
      omega (arith, sum, c.self.invariant.1, c.waiting.ensures, c.waiting-2.ensures),
    )

pub overflow_add-self : goal.overflow_add-self
overflow_add-self c =
    let few = few_waiting c.self.inside.blocks.items in
    let less = few_condemned c.args.block in
    omega (arith, few, less, c.self.invariant.0.few, c.self.invariant.1, c.waiting.ensures)
