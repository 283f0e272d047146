use Rattle.fz_runs.proofs.Writing.{written_more, still_works}
use Rattle.std.proofs.Common.{◌∙◌, length}
use Rattle.fz_runs.proofs.text.output.write_all.Goals as goal

pub loop-rest-preserved : goal.loop-rest-preserved
loop-rest-preserved g c = record {
  written = written_more _ _ _ c.args.bytes.now c.loop-rest.rest.now c.in-Some.count c.loop-rest.invariant.written c.in-Some.ensures.bytes;
  same = still_works (length c.loop-rest.rest.now) c.in-Some.count _ _ c.in-Some.count-test.1 c.in-Some.ensures.failures ∙ c.loop-rest.invariant.same;
}
