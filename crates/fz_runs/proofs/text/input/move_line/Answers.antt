use Rattle.std.proofs.Common.{arith, ap, sym, length, length-take-le}
use Rattle.fz_runs.proofs.Reading.{moves_too_long, moves_whole, moves_all}
use Rattle.fz_runs.proofs.text.input.move_line.Goals as goal

pub slice_bounds-append-end : goal.slice_bounds-append-end
slice_bounds-append-end c = let w = c.line_length-end.ensures.within in let l = c.if-room-end.true in sym (length-take-le _ _ (omega (arith, w, l)))

pub advance-requires : goal.advance-requires
advance-requires c = let w = c.line_length-end.ensures.within in let l = c.if-room-end.true in let e = ap length c.unread-unread.ensures in omega (arith, w, l, e)

pub returns-then-room-end : goal.returns-then-room-end
returns-then-room-end c = moves_too_long c.unread-unread.result.now _ _ _ _ c.remaining_capacity-room.result c.line_length-end.result c.unread-unread.ensures c.remaining_capacity-room.ensures c.if-room-end.true c.line_length-end.ensures.within c.line_length-end.ensures.before c.append.ensures c.advance.ensures

pub returns-then-end-unread : goal.returns-then-end-unread
returns-then-end-unread c = moves_whole c.unread-unread.result.now _ _ _ _ c.remaining_capacity-room.result c.line_length-end.result c.unread-unread.ensures c.remaining_capacity-room.ensures c.if-room-end.false c.if-end-unread.true c.line_length-end.ensures.before (c.line_length-end.ensures.feed c.if-end-unread.true) c.append-2.ensures c.advance-then-end-unread.ensures

pub returns : goal.returns
returns c = moves_all c.unread-unread.result.now _ _ _ _ c.remaining_capacity-room.result c.line_length-end.result c.unread-unread.ensures c.remaining_capacity-room.ensures c.if-room-end.false (let w = c.line_length-end.ensures.within in let f = c.if-end-unread.false in omega (arith, w, f)) c.line_length-end.ensures.before c.append-2.ensures c.advance-2.ensures
