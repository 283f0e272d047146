use Rattle.std.proofs.Common.{◌≡◌, ◌∙◌, ◌++◌, length, length-append, ap, arith, nat_cmp}
use Rattle.std.specs.FinMap.{len, len-empty}
use Rattle.fz_model.specs.declared.answers.Registration.{Registration}
use Rattle.fz_model.specs.Pass.{entries_of}
use Rattle.fz_model.proofs.Sound.{length-entries_of}
use Rattle.fz_table.specs.Registered.{Registered}
use Rattle.fz_pass.specs.Gathered.{Gathered}
use Rattle.fz_pass.proofs.Emptied.{both_rounds}
use Rattle.fz_pass.proofs.all.queue_all.Goals as goal

pub returns-clause-queued : goal.returns-clause-queued
returns-clause-queued c =
    let out = c.take_round-2.new.out in
    let begun = c.new-out.ensures in
    let before : out.before ≡ c.args.queue.now.items = c.take_round-2.ensures.queue.0 ∙ c.take_round.ensures.queue.0 ∙ ap (λ (v : Gathered). v.before) begun ∙ ap (λ v. v.items) c.replace.ensures.value in
    let pass : out.pass ≡ 0 = c.take_round-2.ensures.queue.1 ∙ c.take_round.ensures.queue.1 ∙ ap (λ (v : Gathered). v.pass) begun in
    let first : out.first ≡ c.args.first = c.take_round-2.ensures.queue.2 ∙ c.take_round.ensures.queue.2 ∙ ap (λ (v : Gathered). v.first) begun in
    let rounds = both_rounds c.args.table.now.content c.take_round.new.table.content c.take_round-2.new.table.content _ _ _ c.take_round.ensures.picks c.take_round-2.ensures.picks (ap (λ (v : Gathered). v.picks) begun) in (
      record {
        picks = rounds.picks;
        queued = c.into_queue.ensures.items ∙ (λ i. before i ++ entries_of (pass i) (first i) (rounds.out_is i));
        ordered = rounds.ordered;
        each = rounds.each;
        whole = rounds.whole;
      },
      rounds.flags,
    )

pub returns-clause-table : goal.returns-clause-table
returns-clause-table c =
    let rounds = both_rounds c.args.table.now.content c.take_round.new.table.content c.take_round-2.new.table.content _ _ _ c.take_round.ensures.picks c.take_round-2.ensures.picks (ap (λ (v : Gathered). v.picks) c.new-out.ensures) in
    rounds.empty

pub returns-clause-count : goal.returns-clause-count
returns-clause-count c =
    let rounds = both_rounds c.args.table.now.content c.take_round.new.table.content c.take_round-2.new.table.content _ _ _ c.take_round.ensures.picks c.take_round-2.ensures.picks (ap (λ (v : Gathered). v.picks) c.new-out.ensures) in
    let out = c.take_round-2.new.out in
    let left = ap (λ (t : Registered). len t.registrations) rounds.empty ∙ len-empty nat_cmp Registration in
    let long = ap length c.into_queue.ensures.items ∙ length-append out.before _ in
    let count = length-entries_of out.pass out.first out.picks in
    let before = ap length (c.take_round-2.ensures.queue.0 ∙ c.take_round.ensures.queue.0) in
    let begun = ap (λ (v : Gathered). length v.before) c.new-out.ensures in
    let none = ap (λ (v : Gathered). length v.picks) c.new-out.ensures in
    let value = ap (λ v. length v.items) c.replace.ensures.value in
    omega (arith, left, long, count, before, begun, none, value, c.take_round.ensures.count, c.take_round-2.ensures.count, c.into_queue.result.ok, c.args.queue.now.ok)
