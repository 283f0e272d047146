use Rattle.std.proofs.Common.{◌∙◌, ap, arith}
use Rattle.std.specs.FinMap.{len}
use Rattle.fz_links.proofs.Moved.{len_moved_to}
use Rattle.fz_pass.proofs.ephemerons.Ephemerons.move_word.Goals as goal

pub invariant_of-self : goal.invariant_of-self
invariant_of-self c =
    let e = c.self.inside in
    let has = c.self.invariant in
    let short = ap len c.move_within.ensures.moved ∙ len_moved_to e.short.links c.args.word c.args.to in
    let long = ap len c.move_within-2.ensures.moved ∙ len_moved_to e.long.links c.args.word c.args.to in
    let first = c.move_within.ensures.list in
    let second = c.move_within-2.ensures.list in
    record {
      none_waits = c.move_within-2.ensures.empty;
      none_rests = has.none_rests;
      waiting_has = let room = has.waiting_has in omega (arith, short, long, first, second, room);
      rest_has = let room = has.rest_has in omega (arith, short, long, room);
    }
