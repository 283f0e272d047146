use Rattle.std.proofs.Common.{arith, sym, ◌∙◌}
use Rattle.std.proofs.lemmas.Bool.{eq-eqb, ne_eqb}
use Rattle.fz_runs.proofs.Holding.{doing_first, next_begins, next_skips, next_does}
use Rattle.fz_runs.proofs.threads.section.work.Goals as goal
use Rattle.fz_runs.proofs.threads.section.work.Goals.{then-begins_section, else-begins_section+then-begun-number, else-begins_section+else-begun-number}

pub loop-job-init : goal.loop-job-init
loop-job-init g c = record { doing = doing_first _ _ _; few = omega arith; begun = omega arith }

pub loop-job-preserved : goal.loop-job-preserved
loop-job-preserved g c =
    let before = c.loop-job.invariant.few in
    let begun = c.loop-job.invariant.begun in
    elim c.if-begins_section.branch [
      | then-begins_section w ↦
          let b = w.begun-is in
          let r = w.refused-is in
          record {
            doing = next_begins _ _ _ _ _ _ _ _ _ c.loop-job-test.true (sym c.begins_section.ensures ∙ w.if-begins_section.true) b r c.loop-job.invariant.doing;
            few = omega (arith, before, r);
            begun = omega (arith, begun, b);
          }
      | else-begins_section+then-begun-number w ↦
          let b = w.begun-is in
          let r = w.refused-is in
          let more = w.carry-refused.ensures.few in
          record {
            doing = next_does _ _ _ _ _ _ _ _ _ _ c.loop-job-test.true (sym c.begins_section.ensures ∙ w.if-begins_section.false) (eq-eqb _ _ w.if-begun-number.true) w.carry-refused.ensures.refused b r c.loop-job.invariant.doing;
            few = omega (arith, before, r, more);
            begun = omega (arith, begun, b);
          }
      | else-begins_section+else-begun-number w ↦
          let b = w.begun-is in
          let r = w.refused-is in
          record {
            doing = next_skips _ _ _ _ _ _ _ _ _ c.loop-job-test.true (sym c.begins_section.ensures ∙ w.if-begins_section.false) (ne_eqb _ _ w.if-begun-number.false) b r c.loop-job.invariant.doing;
            few = omega (arith, before, r);
            begun = omega (arith, begun, b);
          }
    ]
