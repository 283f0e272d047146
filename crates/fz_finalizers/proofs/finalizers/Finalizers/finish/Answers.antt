use Rattle.std.proofs.Common.{◌∙◌, sym, ap}
use Rattle.fz_finalizers.specs.Fits.{state_of}
use Rattle.fz_finalizers.specs.States.{View}
use Rattle.fz_finalizers.proofs.Taking.{none_of}
use Rattle.fz_finalizers.proofs.finalizers.Finalizers.finish.Goals as goal

pub returns-then-not-finish-clause-refused : goal.returns-then-not-finish-clause-refused
returns-then-not-finish-clause-refused c =
    let i = c.self.inside in
    let e = c.finish.ensures in
    let s = state_of i.table.content i.short i.long i.ephemerons.ephemerons i.cleanups.cleanups i.ready i.passes in
    let held = e.held ∙ sym (none_of c.args.entry.now i.ready.held (sym e.answer ∙ c.if-not-finish.true)) in
    (λ j. record s { queue = e.queue.0 j; taken = e.queue.1 j; held = held j }) ∙ ap (λ (v : View). v.state) c.self.view_is
