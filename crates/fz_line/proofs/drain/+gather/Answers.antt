use Rattle.std.proofs.Common.{◌≡◌, ℕ, ◌+◌, List, ◌∙◌, sym, ap, subst, length, arith}
use Rattle.fz_model.specs.declared.answers.Entry.{Entry}
use Rattle.fz_line.specs.declared.seat.Seat.TheInside.{Inside}
use Rattle.fz_line.specs.Views.{total}
use Rattle.fz_line.specs.Passes.{took_by}
use Rattle.crossbeam_deque.specs.Handles.{view, worker_view, worker_deque}
use Rattle.fz_line.specs.declared.protocol.View.{View}
use Rattle.std.specs.List.{AllByRecursion}
use Rattle.fz_line.specs.States.{SeatState}
use Rattle.fz_line.proofs.Passes.{forks_nothing, merges_as, forks_as}
use Rattle.fz_line.proofs.Draining.{gathered, as_asked, had_back, each_rest, total_split}
use Rattle.fz_line.proofs.drain.+gather.Goals as goal

pub another-blank-requires : goal.another-blank-requires
another-blank-requires t c = forks_nothing _ _

pub absorb-requires-clause-rule : goal.absorb-requires-clause-rule
absorb-requires-clause-rule t c =
    merges_as _ _ _ _ _
    (ap (λ (v : View). v.owner) c.another-blank.ensures.rule.0 ∙ ap (λ (v : View). v.owner) c.requires.once.1)
    (ap view c.replace-pass.ensures.value ∙ c.seat-inside.invariant.1)

pub gather-requires : goal.gather-requires
gather-requires t c =
    let g = gathered (worker_view c.args.worker.now) _ _ _ _ c.requires.once.1 c.another-blank.ensures.rule.0 (ap view c.replace-pass.ensures.value ∙ c.seat-inside.invariant.1) c.absorb.ensures.rule in
    let lists = ap (λ (v : View). length v.lists) g in
    let sent = ap (λ (v : View). length v.sent) g in
    let absorbed = c.absorb.ensures.same in
    let blank = c.another-blank.ensures.same in
    let deque = absorbed.0.0 ∙ blank.0.0 in
    let rest = c.split_at_mut-front.result.1.now in
    let back = c.split_at_mut-front.ensures.back_len in
    let room = c.requires.once.0 in
    let split = total_split (λ (s : SeatState). length s.took) c.index-front-0.result c.args.seats.now c.split_at_mut-front.result.0.now rest c.split_at_mut-front.ensures.value c.split_at_mut-front.ensures.front_len in
    let seen = ap (λ (s : SeatState). length s.took) c.seat.view_is in
    let inside = ap (λ (s : Inside). length s.taker.took) c.seat-inside.view_is in
    let with_first : total (λ (l : List Entry). length l) (worker_view c.absorb.new.self).lists ≡ length (took_by c.seat-inside.inside.0.0.pass) + total (λ (l : List Entry). length l) (worker_view c.args.worker.now).lists
    = ap (λ (v : View). total (λ (l : List Entry). length l) v.lists) g in (
      (let d = c.decreases in omega arith),
      (
        subst (λ (line : ℕ × ℕ). AllByRecursion (λ (seat : SeatState). seat.line ≡ line) rest) (sym (ap (λ (d : (ℕ × ℕ) × _). d.0) deque)) (each_rest (λ (seat : SeatState). seat.line ≡ (worker_deque c.args.worker.now).0) c.args.seats.now rest c.split_at_mut-front.ensures.back c.requires.own),
        (
          ((absorbed.0.1 ∙ blank.0.1 ∙ room.0, omega (arith, absorbed.1, blank.1, room.1, sent)), as_asked _ _ _ g),
          (omega (arith, lists, back, c.requires.all), (c.requires.room.0, omega (arith, c.requires.room.1, sent, split, seen, inside, with_first))),
        ),
      ),
    )

pub another-pass-requires : goal.another-pass-requires
another-pass-requires t c =
    let g = gathered (worker_view c.args.worker.now) _ _ _ _ c.requires.once.1 c.another-blank.ensures.rule.0 (ap view c.replace-pass.ensures.value ∙ c.seat-inside.invariant.1) c.absorb.ensures.rule in
    forks_as _ _ _ _ _ _ (had_back _ _ _ _ _ _ g c.gather.ensures.popped)
