use Rattle.std.proofs.Common.{◌≡◌, ◌∙◌, ℕ, List, [], ◌∷◌, take, length, length-append, get_or, refl, sym, ap, subst, arith}
use Rattle.std.proofs.lemmas.Bool.{true≢false}
use Rattle.std.proofs.lemmas.List.{take_all}
use Rattle.fz_model.proofs.Maps.{mapped_here}
use Rattle.fz_pass.specs.All.{unknown, unknown_objects}
use Rattle.fz_pass.specs.Gathered.{Gathered}
use Rattle.fz_pass.specs.Picking.{Picks, Takes}
use Rattle.fz_pass.specs.Listing.{is_listed}
use Rattle.fz_pass.proofs.Listed.{still, next}
use Rattle.fz_pass.proofs.Picked.{picks_none}
use Rattle.fz_pass.proofs.all.take_all.Goals as goal

pub loop-entry-init : goal.loop-entry-init
loop-entry-init c = record {
  count = refl;
  capacity = omega arith;
  queue = (refl, refl, refl);
  picks = picks_none (unknown_objects c.args.table.now.registrations) (is_listed []) c.args.table.now.content c.args.out.now.picks (λ a on. true≢false (sym on));
}

pub take_unknown-pick-requires : goal.take_unknown-pick-requires
take_unknown-pick-requires c = record {
  registered = still (unknown_objects c.args.table.now.registrations) c.requires.listed.0 c.args.ready.now c.args.table.now.content c.requires.listed.1 c.loop-entry.table.content c.args.out.now.picks c.loop-entry.out.picks c.loop-entry.entry-index c.loop-entry-test.true c.loop-entry.invariant.picks;
}

pub loop-entry-preserved : goal.loop-entry-preserved
loop-entry-preserved c =
    let registrations = c.args.table.now.registrations in
    let objects = unknown_objects registrations in
    let ready = c.args.ready.now in
    let i = c.loop-entry.entry-index in
    let inv = c.loop-entry.invariant in
    let x = get_or ready i (0, 0) in
    let its = c.requires.listed.1.each i (0, 0) c.loop-entry-test.true in
    let pushed = c.push.ensures.pushed in
    let picks = ap (λ (g : Gathered). length g.picks) pushed ∙ length-append c.loop-entry.out.picks (c.take_unknown-pick.result ∷ []) in
    let takes : Takes objects x.1 c.loop-entry.table.content c.take_unknown-pick.new.table.content c.loop-entry.out.picks c.push.new.self.picks = record {
      pick = c.take_unknown-pick.result;
      taken = c.take_unknown-pick.ensures.taken objects unknown (mapped_here (λ _ _. unknown) registrations x.1 its.0 its.1) refl;
      out_is = ap (λ (g : Gathered). g.picks) pushed;
    } in
    record {
      count = omega (arith, picks, inv.count, c.take_unknown-pick.ensures.count);
      capacity = omega (arith, inv.capacity, c.push.ensures.capacity);
      queue = (ap (λ (g : Gathered). g.before) pushed ∙ inv.queue.0, ap (λ (g : Gathered). g.pass) pushed ∙ inv.queue.1, ap (λ (g : Gathered). g.first) pushed ∙ inv.queue.2);
      picks = next objects c.requires.listed.0 ready c.args.table.now.content c.requires.listed.1 c.loop-entry.table.content c.args.out.now.picks c.loop-entry.out.picks i c.loop-entry-test.true inv.picks c.take_unknown-pick.new.table.content c.push.new.self.picks takes;
    }

pub returns-clause-picks : goal.returns-clause-picks
returns-clause-picks c =
    let ready = c.args.ready.now in
    let all : take c.loop-entry.entry-index ready ≡ ready = take_all c.loop-entry.entry-index ready c.loop-entry-test.false in
    subst (λ (ys : List (ℕ × ℕ)). Picks (unknown_objects c.args.table.now.registrations) (is_listed ys) c.args.table.now.content c.loop-entry.table.content c.args.out.now.picks c.loop-entry.out.picks) all c.loop-entry.invariant.picks
