use Rattle.std.proofs.Common.{◌≡◌, ◌||◌, ◌==◌, ap, ◌∙◌, arith}
use Rattle.std.specs.FinSet.{contains}
use Rattle.fz_model.proofs.Sets.{has_inserted}
use Rattle.fz_bits.specs.Flags.{Flagged}
use Rattle.fz_finalizers.specs.Queue.{is_between}
use Rattle.fz_finalizers.proofs.Queues.{between_more}
use Rattle.fz_finalizers.proofs.stored.hold.Goals as goal

pub loop-number-preserved : goal.loop-number-preserved
loop-number-preserved c =
    let inv = c.loop-number.invariant in
    record {
      size = ap (λ (f : Flagged). f.size) c.insert.ensures.inserted ∙ inv.size;
      held = λ n.
          ap (λ (f : Flagged). contains f.members n) c.insert.ensures.inserted ∙ has_inserted c.loop-number.held.members c.loop-number.number n
          ∙ ap (λ b. n == c.loop-number.number || b) (inv.held n) ∙ between_more c.args.first c.loop-number.number n (contains c.args.held.now.members n) c.loop-number.auto.number;
    }

pub returns-clause-held : goal.returns-clause-held
returns-clause-held c = λ n.
    let end : c.loop-number.number ≡ c.args.end = omega (arith, c.loop-number-test.false, c.loop-number.auto.number-end, c.requires.ordered) in
    c.loop-number.invariant.held n ∙ ap (λ k. is_between c.args.first k n || contains c.args.held.now.members n) end
