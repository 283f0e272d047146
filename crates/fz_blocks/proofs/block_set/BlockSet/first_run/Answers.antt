use Rattle.std.proofs.Common.{◌+◌, ◌*◌, ◌∙◌, ap, arith}
use Rattle.std.specs.FinSet.{contains}
use Rattle.fz_bits.specs.Flags.{Flagged}
use Rattle.fz_blocks.proofs.Searching.{least_run, none_in_row}
use Rattle.fz_blocks.proofs.block_set.BlockSet.first_run.Goals as goal

pub returns-then-runs-ne0 : goal.returns-then-runs-ne0
returns-then-runs-ne0 c =
    least_run c.args.self.now.members c.loop-row.row c.word.result c.word-in-loop-row.result
    (λ p lt. c.word.ensures p lt ∙ ap (λ (f : Flagged). contains f.members (64 * c.loop-row.row + p)) c.self.view_is)
    (λ p lt. c.word-in-loop-row.ensures p lt ∙ ap (λ (f : Flagged). contains f.members (64 * (c.loop-row.row + 1) + p)) c.self.view_is)
    c.runs_of-runs.result c.args.count c.requires.few c.runs_of-runs.ensures c.from.result c.if-runs-ne0.true (omega arith) c.from.ensures c.loop-row.invariant

pub loop-row-preserved : goal.loop-row-preserved
loop-row-preserved c =
    none_in_row c.args.self.now.members c.loop-row.row c.word.result c.word-in-loop-row.result
    (λ p lt. c.word.ensures p lt ∙ ap (λ (f : Flagged). contains f.members (64 * c.loop-row.row + p)) c.self.view_is)
    (λ p lt. c.word-in-loop-row.ensures p lt ∙ ap (λ (f : Flagged). contains f.members (64 * (c.loop-row.row + 1) + p)) c.self.view_is)
    c.runs_of-runs.result c.args.count c.requires.few c.runs_of-runs.ensures c.if-runs-ne0.false c.loop-row.invariant
