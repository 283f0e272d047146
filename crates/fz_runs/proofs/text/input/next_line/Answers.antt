use Rattle.std.proofs.Common.{◌∙◌, arith}
use Rattle.fz_runs.specs.Reading.{unread}
use Rattle.fz_runs.proofs.Reading.{taken_last, taken_moved, taken_on, one_more, longer}
use Rattle.fz_runs.proofs.text.input.next_line.Goals as goal

pub returns-then-not-branch : goal.returns-then-not-branch
returns-then-not-branch g c =
    let f = rw c.if-not-branch.true at c.in_ok-fill.ensures in
    let t = taken_last _ _ _ c.loop-line.line.items c.last_ending.result c.loop-line.invariant.taken f.0 f.1 c.last_ending.ensures in
    (t.0, t.1, c.loop-line.invariant.one, c.loop-line.invariant.short, f.2 ∙ c.loop-line.invariant.same)

pub returns-in-Some : goal.returns-in-Some
returns-in-Some g c =
    let f = rw c.if-not-branch.false at c.in_ok-fill.ensures in
    let m = rw c.in-Some.is at c.move_line.ensures in
    let t = taken_moved _ _ (g.R.Source.feed c.fill.new.source).remaining (unread c.fill.new.chunk) (unread c.move_line.new.chunk) c.loop-line.line.items c.move_line.new.line.items c.in-Some.ending c.loop-line.invariant.taken f.0 c.loop-line.invariant.one c.in-Some.ensures in
    (t.0.0, t.0.1, t.1, t.2, f.2 ∙ c.loop-line.invariant.same)

pub loop-line-preserved : goal.loop-line-preserved
loop-line-preserved g c =
    let f = rw c.if-not-branch.false at c.in_ok-fill.ensures in
    let m = c.in_default.ensures in
    record {
      taken = taken_on _ _ (g.R.Source.feed c.fill.new.source).remaining (unread c.fill.new.chunk) (unread c.move_line.new.chunk) c.loop-line.line.items c.move_line.new.line.items c.loop-line.invariant.taken f.0 m;
      one = one_more c.loop-line.line.items (unread c.fill.new.chunk) c.move_line.new.line.items m.1 c.loop-line.invariant.one m.2;
      short = m.3;
      same = f.2 ∙ c.loop-line.invariant.same;
    }

pub loop-line-smaller : goal.loop-line-smaller
loop-line-smaller g c =
    let f = rw c.if-not-branch.false at c.in_ok-fill.ensures in
    let m = c.in_default.ensures in
    let l = longer (unread c.fill.new.chunk) c.loop-line.line.items c.move_line.new.line.items f.1 m.1 in
    let s = m.3 in
    omega (arith, l, s)
