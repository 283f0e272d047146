use Rattle.std.proofs.Common.{◌∙◌, sym, ap, subst, arith}
use Rattle.fz_machine.specs.Going.{HasRoomOff}
use Rattle.fz_machine.specs.Phases.{settles}
use Rattle.fz_machine.specs.Walks.{Walk}
use Rattle.fz_machine.proofs.Beside.{rows_same}
use Rattle.fz_machine.proofs.Masked.{dropped, dropped_room, parted, parted_room, room_to_part, same_lists, settled, sifted, sifted_all, unsettled, unsettled_all}
use Rattle.fz_machine.proofs.asking.hear_bits.Goals as goal

pub returns-then-keeps_unmarked-clause-heard : goal.returns-then-keeps_unmarked-clause-heard
returns-then-keeps_unmarked-clause-heard c =
    sifted c.args.phase (sym c.keeps_unmarked.ensures ∙ c.if-keeps_unmarked.true) c.args.bits c.args.count c.ranges.bits.fits c.requires.few c.args.finalizers.now c.args.walk.now c.sift.new.self c.sift.ensures.kept c.sift.ensures.left c.sift.ensures.others

pub returns-then-keeps_unmarked-clause-room : goal.returns-then-keeps_unmarked-clause-room
returns-then-keeps_unmarked-clause-room c =
    rows_same (settles c.args.phase) c.args.walk.now c.sift.new.self (unsettled c.args.phase (sym c.keeps_unmarked.ensures ∙ c.if-keeps_unmarked.true)) c.sift.ensures.others c.requires.room

pub returns-then-keeps_unmarked-clause-same : goal.returns-then-keeps_unmarked-clause-same
returns-then-keeps_unmarked-clause-same c = same_lists c.args.walk.now c.sift.new.self c.sift.ensures.others

pub part-requires : goal.part-requires
part-requires c =
    let on = settled c.args.phase (sym c.keeps_marked.ensures ∙ c.if-keeps_marked.true) in
    record { few = c.requires.few; room = room_to_part c.args.walk.now (subst (λ b. HasRoomOff b c.args.walk.now) on c.requires.room) }

pub returns-then-keeps_marked-clause-heard : goal.returns-then-keeps_marked-clause-heard
returns-then-keeps_marked-clause-heard c =
    let e = c.part.ensures in
    parted c.args.phase (sym c.keeps_marked.ensures ∙ c.if-keeps_marked.true) c.args.bits c.args.count c.ranges.bits.fits c.requires.few c.args.finalizers.now c.args.walk.now c.part.new.self e.kept e.left e.off e.others

pub returns-then-keeps_marked-clause-room : goal.returns-then-keeps_marked-clause-room
returns-then-keeps_marked-clause-room c =
    let e = c.part.ensures in
    let on = settled c.args.phase (sym c.keeps_marked.ensures ∙ c.if-keeps_marked.true) in
    subst (λ b. HasRoomOff b c.part.new.self) (sym on)
    (parted_room c.args.bits c.args.count c.ranges.bits.fits c.requires.few c.args.walk.now c.part.new.self e.kept e.left e.off e.others e.room (subst (λ b. HasRoomOff b c.args.walk.now) on c.requires.room))

pub returns-then-keeps_marked-clause-same : goal.returns-then-keeps_marked-clause-same
returns-then-keeps_marked-clause-same c = let others = c.part.ensures.others in (ap (λ (w : Walk). w.room) others, ap (λ (w : Walk). w.other) others, c.part.ensures.room)

pub returns-then-keeps_all-clause-heard : goal.returns-then-keeps_all-clause-heard
returns-then-keeps_all-clause-heard c =
    let e = c.sift-then-keeps_all.ensures in
    sifted_all c.args.phase (sym c.keeps_all.ensures ∙ c.if-keeps_all.true) c.args.bits c.args.count c.requires.few c.args.finalizers.now c.args.walk.now c.sift-then-keeps_all.new.self e.kept e.left e.others

pub returns-then-keeps_all-clause-room : goal.returns-then-keeps_all-clause-room
returns-then-keeps_all-clause-room c =
    rows_same (settles c.args.phase) c.args.walk.now c.sift-then-keeps_all.new.self (unsettled_all c.args.phase (sym c.keeps_all.ensures ∙ c.if-keeps_all.true)) c.sift-then-keeps_all.ensures.others c.requires.room

pub returns-then-keeps_all-clause-same : goal.returns-then-keeps_all-clause-same
returns-then-keeps_all-clause-same c = same_lists c.args.walk.now c.sift-then-keeps_all.new.self c.sift-then-keeps_all.ensures.others

pub returns-then-is_idle-clause-heard : goal.returns-then-is_idle-clause-heard
returns-then-is_idle-clause-heard c =
    let it = c.is_idle.ensures c.if-is_idle.true in
    dropped c.args.phase it.0 it.1 c.args.bits c.args.count it.2 c.requires.few c.args.finalizers.now c.args.walk.now c.drop_first.new.self c.drop_first.ensures

pub returns-then-is_idle-clause-room : goal.returns-then-is_idle-clause-room
returns-then-is_idle-clause-room c = dropped_room (settles c.args.phase) c.args.walk.now c.drop_first.new.self c.args.count c.drop_first.ensures c.requires.room

pub returns-then-is_idle-clause-same : goal.returns-then-is_idle-clause-same
returns-then-is_idle-clause-same c =
    let others = c.drop_first.ensures in
    let off = ap (λ (w : Walk). w.off_room) others in
    (ap (λ (w : Walk). w.room) others, ap (λ (w : Walk). w.other) others, omega (arith, off))
