use Rattle.std.proofs.Common.{◌-◌, ◌/◌, arith}
use Rattle.fz_bits.proofs.Words.{rest_none, rest_found, found_room}
use Rattle.fz_bits.proofs.flags.Flags.next_in_word.Goals as goal

pub returns-then-rest-eq0-clause-next : goal.returns-then-rest-eq0-clause-next
returns-then-rest-eq0-clause-next g c = λ n above same.
    rest_none g.row.FIRST c.args.self.now.members c.args.from ((c.args.from - g.row.FIRST) / 64) c.word_from-rest.result c.word_from-rest.ensures.rest c.if-rest-eq0.true n above (omega (arith, same))

pub overflow_add-result-2 : goal.overflow_add-result-2
overflow_add-result-2 g c =
    let here = found_room g.row.FIRST c.args.self.now c.args.from ((c.args.from - g.row.FIRST) / 64) c.word_from-rest.result c.from.result c.word_from-rest.ensures.room c.word_from-rest.ensures.rest (omega arith) (omega arith) c.from.ensures in
    omega (arith, here.0, here.1)

pub returns-clause-next : goal.returns-clause-next
returns-clause-next g c =
    rw c.saturating_sub-index.ensures ((rest_found g.row.FIRST c.args.self.now.members c.args.from ((c.args.from - g.row.FIRST) / 64) c.word_from-rest.result c.from.result c.word_from-rest.ensures.rest (omega arith) (omega arith) c.from.ensures).0)

pub returns-clause-within : goal.returns-clause-within
returns-clause-within g c =
    rw c.saturating_sub-index.ensures ((found_room g.row.FIRST c.args.self.now c.args.from ((c.args.from - g.row.FIRST) / 64) c.word_from-rest.result c.from.result c.word_from-rest.ensures.room c.word_from-rest.ensures.rest (omega arith) (omega arith) c.from.ensures).0)
