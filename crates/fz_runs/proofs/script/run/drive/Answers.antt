use Rattle.std.proofs.Common.{arith, refl, ◌+◌, ◌++◌, ◌∙◌, [], ap, sym, subst, IsTrue}
use Rattle.fz_runs.specs.Reading.{unread}
use Rattle.fz_runs.specs.declared.text.fault.DriveFault.{DriveFault}
use Rattle.std.specs.Io.KnownBytes.{Consumes, prepend_known}
use Rattle.fz_runs.specs.Lines.{with_lf}
use Rattle.fz_runs.specs.Report.{Stopped}
use Rattle.fz_runs.specs.Machines.{answer_text, is_told}
use Rattle.fz_runs.proofs.Runs.{Position, Ended, run_ends, tell_stops, reach, close_here, close_last, break_off, goes_on, position_more, whole_taken, IsBelow, counts_bound}
use Rattle.fz_runs.proofs.Scripts.{at_start}
use Rattle.fz_runs.proofs.Lines.{at_first}
use Rattle.fz_runs.proofs.Taking.{fresh, took_start, took_ahead, no_more}
use Rattle.std.proofs.KnownBytes.{Appends-nil, Consumes-trans}
use Rattle.fz_runs.proofs.Writing.{gains_more}
use Rattle.fz_runs.proofs.script.run.drive.Goals as goal

pub lines-init : goal.lines-init
lines-init g c = record {
  position = ([], [], took_start _ _ (fresh c.new-chunk.result c.new-chunk.ensures), (Appends-nil _, refl), at_first _ at_start);
  in_time = omega arith;
  steps = omega arith;
  refused = omega arith;
  finished = omega arith;
  forfeited = omega arith;
  reads = refl;
}

pub returns-in-Nothing : goal.returns-in-Nothing
returns-in-Nothing g c =
    let h = rw c.in-Nothing.is at c.in-Ok.ensures in
    let p = c.lines.invariant.position in
    run_ends (g.R.Source.feed c.args.reader.now) (g.R.Source.feed c.next_line.new.source) (unread c.next_line.new.chunk) (p.0 ++ h.0.0) p.1 (g.W.Sink.log c.args.writer.now) (g.W.Sink.log c.lines.writer) (g.W.Sink.log c.finish.new.writer) c.lines.number c.lines.machine c.lines.counts c.finish.result
    (Consumes-trans _ _ _ _ _ p.2 h.0.2) h.1 (h.4 ∙ c.lines.invariant.reads) p.3 (close_here p.0 h.0.0 p.1 c.lines.number c.lines.machine c.lines.counts p.4 h.0.1.0) c.finish.ensures

pub returns-in_default : goal.returns-in_default
returns-in_default g c =
    let h = c.in_default.ensures in
    let p = c.lines.invariant.position in
    let left = g.R.Source.feed c.next_line.new.source in
    let P : DriveFault → Type 0 = λ f. Stopped (g.R.Source.feed c.args.reader.now) left (g.W.Sink.log c.args.writer.now) (g.W.Sink.log c.lines.writer) f in
    subst P (sym c.fault.ensures) (record {
      bytes = p.0 ++ c.next_line.new.line.items;
      unread = unread c.next_line.new.chunk;
      text = p.1;
      read = took_ahead _ _ _ _ (Consumes-trans _ _ _ _ _ p.2 h.0);
      written = p.3.0;
      explains = break_off p.0 p.1 c.next_line.new.line.items (unread c.next_line.new.chunk) c.lines.number c.lines.machine c.lines.counts left.remaining p.4 h.1 h.2 h.3;
      reads = h.4 ∙ ap (λ n. n + 1) c.lines.invariant.reads;
      writes = no_more p.3.1 refl;
    })

pub returns-in-Err : goal.returns-in-Err
returns-in-Err g c =
    let h = c.in-Ok.ensures in
    let p = c.lines.invariant.position in
    let given = rw c.as_slice.ensures.value at c.answer_at-answer.ensures in
    let left = g.R.Source.feed c.next_line.new.source in
    let due = λ (told : IsTrue (is_told c.answer_at-answer.result)). reach p.0 h.0.0 p.1 c.next_line.new.line.items (prepend_known (unread c.next_line.new.chunk) left.remaining) c.lines.number c.in-Ok.ending c.lines.machine c.answer_at-answer.new.machine c.lines.counts c.answer_at-answer.result p.4 h.0.1 h.1 h.2 h.3 c.in_default-ending.not-Nothing given told in
    tell_stops (g.R.Source.feed c.args.reader.now) left (unread c.next_line.new.chunk) (p.0 ++ h.0.0) p.1 (g.W.Sink.log c.args.writer.now) (g.W.Sink.log c.lines.writer) (g.W.Sink.log c.tell.new.writer) c.lines.number c.answer_at-answer.result c.in-Err.fault
    (Consumes-trans _ _ _ _ _ p.2 h.0.2) (h.4 ∙ c.lines.invariant.reads) p.3 due c.in-Err.ensures

pub returns-in-Last : goal.returns-in-Last
returns-in-Last g c =
    let h = rw c.in-Last.is at c.in-Ok.ensures in
    let p = c.lines.invariant.position in
    let given = rw c.as_slice.ensures.value at c.answer_at-answer.ensures in
    let line = c.next_line.new.line.items in
    let answer = c.answer_at-answer.result in
    let number = c.lines.number in
    let old = c.lines.machine in
    let new = c.answer_at-answer.new.machine in
    let counts = c.lines.counts in
    let text = p.1 ++ answer_text number answer in
    let tells = c.in_default-tell.ensures in
    let go = goes_on number c.in-Ok.ending old new line answer given tells.0 in
    let bytes = p.0 ++ h.0.0 in
    let closed : Ended bytes (number + 1) text new c.after-counts.result =
    subst (Ended bytes (number + 1) text new) (sym c.after-counts.ensures) (close_last p.0 h.0.0 p.1 line number old new counts answer p.4 h.0.1.0 h.0.1.1 h.2 h.3 go.0 go.1 tells.0) in
    let before = g.W.Sink.log c.args.writer.now in
    let mid = g.W.Sink.log c.tell.new.writer in
    run_ends (g.R.Source.feed c.args.reader.now) (g.R.Source.feed c.next_line.new.source) (unread c.next_line.new.chunk) bytes text before mid (g.W.Sink.log c.finish-in-Last.new.writer) (number + 1) new c.after-counts.result c.finish-in-Last.result
    (Consumes-trans _ _ _ _ _ p.2 h.0.2) h.1 (h.4 ∙ c.lines.invariant.reads) (gains_more before (g.W.Sink.log c.lines.writer) mid p.1 (answer_text number answer) p.3 tells.1) closed c.finish-in-Last.ensures

pub lines-preserved : goal.lines-preserved
lines-preserved g c =
    let h = c.in-Ok.ensures in
    let p = c.lines.invariant.position in
    let given = rw c.as_slice.ensures.value at c.answer_at-answer.ensures in
    let text = p.1 ++ answer_text c.lines.number c.answer_at-answer.result in
    let go = goes_on c.lines.number c.in-Ok.ending c.lines.machine c.answer_at-answer.new.machine c.next_line.new.line.items c.answer_at-answer.result given c.in_default-tell.ensures.0 in
    let whole = whole_taken c.lines.number c.in-Ok.ending c.lines.machine c.answer_at-answer.new.machine c.next_line.new.line.items h.0.0 c.answer_at-answer.result given c.in_default-tell.ensures.0 c.in_default-ending.not-Nothing c.in_default-ending-2.not-Last h.0.1 in
    let seen = p.0 ++ with_lf c.next_line.new.line.items in
    let position = position_more p.0 p.1 c.next_line.new.line.items c.lines.number c.lines.machine c.answer_at-answer.new.machine c.lines.counts c.answer_at-answer.result p.4 h.2 h.3 go.0 go.1 c.in_default-tell.ensures.0 in
    let small = subst (IsBelow (c.lines.number + 1)) (sym c.after-counts.ensures) (counts_bound c.lines.counts c.answer_at-answer.result c.lines.number c.lines.invariant.steps c.lines.invariant.refused c.lines.invariant.finished c.lines.invariant.forfeited) in
    record {
      position = (
        seen,
        text,
        subst (λ b. Consumes (g.R.Source.feed c.args.reader.now).remaining (prepend_known (unread c.next_line.new.chunk) (g.R.Source.feed c.next_line.new.source).remaining) (p.0 ++ b)) whole (Consumes-trans _ _ _ _ _ p.2 h.0.2),
        gains_more (g.W.Sink.log c.args.writer.now) (g.W.Sink.log c.lines.writer) (g.W.Sink.log c.tell.new.writer) p.1 (answer_text c.lines.number c.answer_at-answer.result) p.3 c.in_default-tell.ensures.1,
        subst (Position seen (c.lines.number + 1) text c.answer_at-answer.new.machine) (sym c.after-counts.ensures) position,
      );
      in_time = let few = go.0 in omega (arith, few);
      steps = small.0;
      refused = small.1;
      finished = small.2;
      forfeited = small.3;
      reads = h.4 ∙ c.lines.invariant.reads;
    }
