use Rattle.std.proofs.Common.{arith, refl, ◌+◌, [], ◌++◌, ◌∙◌, ap, sym, subst}
use Rattle.fz_runs.specs.Reading.{unread}
use Rattle.fz_runs.specs.declared.text.fault.DriveFault.{DriveFault}
use Rattle.std.specs.Io.KnownBytes.{Consumes, prepend_known}
use Rattle.fz_runs.specs.Lines.{with_lf}
use Rattle.fz_runs.specs.Jobs.{IsUnreadable}
use Rattle.fz_runs.proofs.Taking.{fresh, took_start, took_all}
use Rattle.fz_runs.proofs.FileReading.{first_place, place_more, file_ends, file_ends_last, whole_taken, breaks_off, stops_at}
use Rattle.std.proofs.KnownBytes.{Consumes-trans}
use Rattle.fz_runs.proofs.threads.reading.read_lines.Goals as goal

pub lines-init : goal.lines-init
lines-init g c = record {
  place = ([], took_start _ _ (fresh c.new-chunk.result c.new-chunk.ensures), first_place _ c.requires);
  in_time = omega arith;
  reads = refl;
}

pub returns-in_default : goal.returns-in_default
returns-in_default g c =
    let h = c.in_default.ensures in
    let p = c.lines.invariant.place in
    subst (λ (f : DriveFault). IsUnreadable (g.R.Source.feed c.args.reader.now) (g.R.Source.feed c.next_line.new.source) f) (sym c.unreadable.ensures)
    (breaks_off _ _ p.0 c.next_line.new.line.items (unread c.next_line.new.chunk) c.lines.number c.lines.draft p.2 (Consumes-trans _ _ _ _ _ p.1 h.0) h.1 h.2 h.3 (h.4 ∙ ap (λ n. n + 1) c.lines.invariant.reads))

pub returns-in-Nothing : goal.returns-in-Nothing
returns-in-Nothing g c =
    let h = rw c.in-Nothing.is at c.in-Ok.ensures in
    let p = c.lines.invariant.place in
    let t = took_all _ _ (p.0 ++ h.0.0) (unread c.next_line.new.chunk) h.1 (Consumes-trans _ _ _ _ _ p.1 h.0.2) in
    let end = file_ends p.0 h.0.0 c.lines.number c.lines.draft p.2 h.0.1.0 in
    (p.0 ++ h.0.0, t.0, t.1, end.0, end.1, h.4 ∙ c.lines.invariant.reads)

pub returns-in-Err : goal.returns-in-Err
returns-in-Err g c =
    let h = c.in-Ok.ensures in
    let p = c.lines.invariant.place in
    let given = rw c.as_slice.ensures.value at c.in-Err.ensures in
    subst (λ (f : DriveFault). IsUnreadable (g.R.Source.feed c.args.reader.now) (g.R.Source.feed c.next_line.new.source) f) (sym c.unreadable-in-Err.ensures)
    (stops_at (g.R.Source.feed c.args.reader.now) (g.R.Source.feed c.next_line.new.source) p.0 h.0.0 c.next_line.new.line.items (unread c.next_line.new.chunk) c.lines.number c.in-Ok.ending c.lines.draft c.read_job.new.draft c.in-Err.refusal
    p.2 (Consumes-trans _ _ _ _ _ p.1 h.0.2) h.0.1 h.1 h.2 h.3 c.in_default-ending.not-Nothing (h.4 ∙ c.lines.invariant.reads) given)

pub returns-in-Last : goal.returns-in-Last
returns-in-Last g c =
    let h = rw c.in-Last.is at c.in-Ok.ensures in
    let p = c.lines.invariant.place in
    let given = rw c.as_slice.ensures.value at c.in_default-read_job.ensures in
    let t = took_all _ _ (p.0 ++ h.0.0) (unread c.next_line.new.chunk) h.1 (Consumes-trans _ _ _ _ _ p.1 h.0.2) in
    let end = file_ends_last p.0 h.0.0 c.next_line.new.line.items c.lines.number c.lines.draft c.read_job.new.draft p.2 h.0.1.0 h.0.1.1 h.2 h.3 given.1 given.2 in
    (p.0 ++ h.0.0, t.0, t.1, end.0, end.1, h.4 ∙ c.lines.invariant.reads)

pub lines-preserved : goal.lines-preserved
lines-preserved g c =
    let h = c.in-Ok.ensures in
    let p = c.lines.invariant.place in
    let given = rw c.as_slice.ensures.value at c.in_default-read_job.ensures in
    let whole = whole_taken c.lines.number c.in-Ok.ending c.lines.draft c.read_job.new.draft c.next_line.new.line.items h.0.0 given c.in_default-ending.not-Nothing c.in_default-ending-2.not-Last h.0.1 in
    record {
      place = (
        p.0 ++ with_lf c.next_line.new.line.items,
        subst (λ b. Consumes (g.R.Source.feed c.args.reader.now).remaining (prepend_known (unread c.next_line.new.chunk) (g.R.Source.feed c.next_line.new.source).remaining) (p.0 ++ b)) whole (Consumes-trans _ _ _ _ _ p.1 h.0.2),
        place_more p.0 c.next_line.new.line.items c.lines.number c.lines.draft c.read_job.new.draft p.2 h.2 h.3 given.1 given.2,
      );
      in_time = let few = given.1 in omega (arith, few);
      reads = h.4 ∙ c.lines.invariant.reads;
    }
