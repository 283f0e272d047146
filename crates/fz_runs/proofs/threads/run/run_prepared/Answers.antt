use Rattle.std.proofs.Common.{inr, subst, refl, ap, ◌∙◌, IfOk}
use Rattle.fz_runs.specs.Holds.{SectionsRefused}
use Rattle.fz_service.specs.Workers.{ExtendEach}
use Rattle.fz_runs.specs.Telling.{asked_from, lineless}
use Rattle.fz_service.proofs.Seated.{come_back}
use Rattle.fz_runs.proofs.Telling.{refusal_stops, silence_stops, summary_tells, sums_up}
use Rattle.fz_runs.proofs.threads.run.run_prepared.Goals as goal

pub end_of-requires : goal.end_of-requires
end_of-requires g c =
    come_back g.O.Opening.origin.line g.O.Opening.origin.workers _ (subst (λ seats. ExtendEach seats c.side_by_side-seats.result.0.items) c.in-Ok.ensures.seats c.side_by_side-seats.ensures.seats)

pub returns-in-Err : goal.returns-in-Err
returns-in-Err g c =
    refusal_stops (asked_from g.O.Opening.origin c.args.collections c.args.sections.now.jobs.items) c.args.line c.refusal.result _ _ c.tell_refused.result
    (inr (c.requires.within, c.refusal.ensures ∙ c.in-Err.ensures.refused, refl)) c.tell_refused.ensures

pub returns-in-Err-start_thread : goal.returns-in-Err-start_thread
returns-in-Err-start_thread g c =
    silence_stops (asked_from g.O.Opening.origin c.args.collections c.args.sections.now.jobs.items) c.args.line (g.W.Sink.log c.args.writer.now) c.in-Err-start_thread.fault c.in-Err-start_thread.ensures

pub returns-in_default-refused : goal.returns-in_default-refused
returns-in_default-refused g c =
    silence_stops (asked_from g.O.Opening.origin c.args.collections c.args.sections.now.jobs.items) c.args.line (g.W.Sink.log c.args.writer.now) c.lineless.result c.lineless.ensures

pub returns-in-Ok-end_of : goal.returns-in-Ok-end_of
returns-in-Ok-end_of g c =
    let origin = g.O.Opening.origin in
    let jobs = c.args.sections.now.jobs.items in
    let sections = subst (λ r. IfOk r (SectionsRefused origin jobs)) c.in-Ok-refused.is c.side_by_side-seats.ensures.refused in
    summary_tells (asked_from origin c.args.collections jobs) c.args.line c.in-Ok-end_of.tally (g.W.Sink.log c.args.writer.now) (g.W.Sink.log c.tell_summary.new.writer) c.tell_summary.result
    (sums_up origin c.args.collections jobs c.in-Ok-refused.refused c.in-Ok-end_of.tally c.requires.within sections c.side_by_side-seats.ensures.settled c.in-Ok-end_of.ensures.ended) c.tell_summary.ensures

pub returns-in-Err-end_of : goal.returns-in-Err-end_of
returns-in-Err-end_of g c =
    silence_stops (asked_from g.O.Opening.origin c.args.collections c.args.sections.now.jobs.items) c.args.line (g.W.Sink.log c.args.writer.now) c.lineless-in-Err-end_of.result (c.lineless-in-Err-end_of.ensures ∙ ap lineless c.in-Err-end_of.ensures.refused)
