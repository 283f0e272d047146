use Rattle.std.proofs.Common.{◌∙◌, sym}
use Rattle.fz_machine.specs.Phases.{settles}
use Rattle.fz_machine.proofs.Beside.{rows_same}
use Rattle.fz_machine.proofs.Masked.{known_kept, same_lists, unsettled_known}
use Rattle.fz_machine.proofs.asking.skip.Goals as goal

pub returns-then-keeps_known-clause-skipped : goal.returns-then-keeps_known-clause-skipped
returns-then-keeps_known-clause-skipped c =
    let e = c.keep_known.ensures in
    known_kept c.args.phase (sym c.keeps_known.ensures ∙ c.if-keeps_known.true) c.args.finalizers.now c.args.walk.now c.keep_known.new.self e.kept e.left e.others

pub returns-then-keeps_known-clause-room : goal.returns-then-keeps_known-clause-room
returns-then-keeps_known-clause-room c =
    rows_same (settles c.args.phase) c.args.walk.now c.keep_known.new.self (unsettled_known c.args.phase (sym c.keeps_known.ensures ∙ c.if-keeps_known.true)) c.keep_known.ensures.others c.requires.room

pub returns-then-keeps_known-clause-same : goal.returns-then-keeps_known-clause-same
returns-then-keeps_known-clause-same c = same_lists c.args.walk.now c.keep_known.new.self c.keep_known.ensures.others
