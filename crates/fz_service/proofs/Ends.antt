-- How a service ends.
use Rattle.std.proofs.Common.{◌≡◌, ℕ, Bool, true, false, IsTrue, ◌+◌, ◌-◌, ◌<◌, ◌≤◌, List, [], ◌∷◌, ◌++◌, length, take, drop, get_or, min, All, sum_by, refl, sym, ap, ◌∙◌, subst, arith, append_assoc, length-append, length-take, length-take-le, length-drop, take-append-drop}
use Rattle.std.proofs.lemmas.List.{take-take, drop-append-le}
use Rattle.std.proofs.lemmas.List.Sums.{sum_by-cons, sum_by_push}
use Rattle.std.proofs.lemmas.List.Concat.{length-flat_map}
use Rattle.std.proofs.lemmas.List.Elements.{All-head, All-tail, All-push}
use Rattle.std.specs.List.{remove}
use Rattle.std.specs.FinMap.{len}
use Rattle.std.specs.List.Sorted.{IsPermutation}
use Rattle.std.proofs.lemmas.List.Sorted.{length_permutation}
use Rattle.fz_model.specs.declared.answers.Entry.{Entry}
use Rattle.fz_line.specs.States.{SeatState, taken_by, IsIdle}
use Rattle.fz_service.specs.declared.ending.Final.{Final}
use Rattle.fz_service.specs.States.{Origin, LockedState, IsInOrder}
use Rattle.fz_service.specs.Ends.{IsEnd, IsEachOnce}

-- one seat goes over
pub moved_on : (plain plain' seats seats' all : List SeatState) (r s : SeatState) → plain ++ seats ≡ all → plain' ≡ plain ++ r ∷ [] → r ≡ s → s ≡ get_or seats 0 s → seats' ≡ remove seats 0 → 0 < length seats → plain' ++ seats' ≡ all
moved_on plain plain' [] seats' all r s so_far pushed same value removed some_one = absurd (omega arith)
moved_on plain plain' (x ∷ seats) seats' all r s so_far pushed same value removed some_one =
    (λ i. pushed i ++ removed i) ∙ append_assoc plain (r ∷ []) seats ∙ ap (λ (y : SeatState). plain ++ y ∷ seats) (same ∙ value) ∙ so_far

pub all_more : (P : SeatState → Type 0) (plain plain' : List SeatState) (r : SeatState) → plain' ≡ plain ++ r ∷ [] → All P plain → P r → All P plain'
all_more P plain plain' r pushed h p = subst (All P) (sym pushed) (All-push P plain r h p)

pub sum_more : (f : SeatState → ℕ) (plain plain' : List SeatState) (r : SeatState) → plain' ≡ plain ++ r ∷ [] → sum_by f plain' ≡ sum_by f plain + f r
sum_more f plain plain' r pushed = ap (sum_by f) pushed ∙ sum_by_push f plain r

pub length_more : (plain plain' : List SeatState) (r : SeatState) → plain' ≡ plain ++ r ∷ [] → length plain' ≡ length plain + 1
length_more plain plain' r pushed = ap (λ (l : List SeatState). length l) pushed ∙ length-append plain (r ∷ [])

idle_sum : (seats : List SeatState) → All IsIdle seats → sum_by (λ (s : SeatState). length s.took) seats ≡ sum_by (λ (s : SeatState). s.finished) seats + sum_by (λ (s : SeatState). s.forfeited) seats
idle_sum [] h = refl
idle_sum (s ∷ seats) h =
    let here = (All-head IsIdle s seats h).1 in
    let rest = idle_sum seats (All-tail IsIdle s seats h) in
    let a = sum_by-cons (λ (s : SeatState). length s.took) s seats in
    let b = sum_by-cons (λ (s : SeatState). s.finished) s seats in
    let c = sum_by-cons (λ (s : SeatState). s.forfeited) s seats in
    omega (arith, here, rest, a, b, c)

-- what is known once the line is drained
pub record Drained (origin : Origin) (s : LockedState) (seats : List SeatState) (popped : List Entry) : Type 0 where
  pub order : IsInOrder origin s
  pub first : IsPermutation (taken_by seats) (take (length (taken_by seats)) s.sent)
  pub rest : popped ≡ drop (length (taken_by seats)) s.sent
  pub idle : All IsIdle seats
  pub finished : s.finished ≡ sum_by (λ (x : SeatState). x.finished) seats

module _ (origin : Origin) (s : LockedState) (seats : List SeatState) (popped : List Entry) (d : Drained origin s seats popped) where
  count : ℕ
  count = length (taken_by seats)

  sent_length : length s.sent ≡ s.published
  sent_length = ap (λ (l : List Entry). length l) d.order.sent ∙ length-take-le s.published s.world.queue d.order.within

  some_sent : count ≤ s.published
  unfolding count
  some_sent =
      let n : ℕ = length (taken_by seats) in
      let a : length (take n s.sent) ≡ n = length_permutation (taken_by seats) (take n s.sent) d.first in
      let b : length (take n s.sent) ≡ min n (length s.sent) = length-take n s.sent in
      let c = sent_length in
      omega (arith, a, b, c)

  popped_length : length popped ≡ s.published - count
  unfolding count
  popped_length = ap (λ (l : List Entry). length l) d.rest ∙ length-drop (length (taken_by seats)) s.sent ∙ ap (λ n. n - length (taken_by seats)) sent_length

  pub taken_is : s.published - length popped ≡ length (taken_by seats)
  unfolding count
  taken_is = let a = popped_length in let b = some_sent in omega (arith, a, b)

  spent_is : length (taken_by seats) ≡ s.finished + sum_by (λ (x : SeatState). x.forfeited) seats
  spent_is = let a = length-flat_map (λ (x : SeatState). x.took) seats in let b = idle_sum seats d.idle in let c = d.finished in omega (arith, a, b, c)

  -- no more was finished than was taken
  pub enough : length s.world.queue - length s.world.held ≤ s.published - length popped
  enough = let a = taken_is in let b = spent_is in let c = d.order.finished in omega (arith, a, b, c)

  -- what is left fits where there is room for what the seats didn't take
  pub fits_left : (capacity : ℕ) → length s.world.queue ≤ capacity + length (taken_by seats) → length popped + (length s.world.queue - s.published) ≤ capacity
  unfolding count
  fits_left capacity room =
      let le = some_sent in
      let sent = sent_length in
      let n : length popped ≡ length s.sent - length (taken_by seats) = ap (λ (l : List Entry). length l) d.rest ∙ length-drop (length (taken_by seats)) s.sent in
      omega (arith, room, le, sent, n, d.order.within)

  left_is : (left : List Entry) → left ≡ popped ++ drop s.published s.world.queue → left ≡ drop (length (taken_by seats)) s.world.queue
  unfolding count
  left_is left is =
      let n : ℕ = length (taken_by seats) in
      let le = some_sent in
      let m : length (take s.published s.world.queue) ≡ s.published = length-take-le s.published s.world.queue d.order.within in
      let cut : drop n s.world.queue ≡ drop n (take s.published s.world.queue) ++ drop s.published s.world.queue =
      ap (drop n) (sym (take-append-drop s.published s.world.queue)) ∙ drop-append-le n (take s.published s.world.queue) (drop s.published s.world.queue) (omega (arith, le, m)) in
      is ∙ ap (λ (l : List Entry). l ++ drop s.published s.world.queue) (d.rest ∙ ap (drop n) d.order.sent) ∙ sym cut

  pub is_end : (end : Final) → end.enqueued ≡ length s.world.queue → end.taken ≡ s.published - length popped → end.finished ≡ length s.world.queue - length s.world.held → end.forfeited ≡ end.taken - end.finished → end.left.items ≡ popped ++ drop s.published s.world.queue → end.passes ≡ s.world.passes → end.reclaimed ≡ s.world.next_birth - len s.world.objects → IsEnd s seats end
  unfolding count
  is_end end enqueued taken finished forfeited left passes reclaimed =
      let n : ℕ = length (taken_by seats) in
      let le = some_sent in
      let p = d.order.within in
      let k = d.order.finished in
      let b = d.finished in
      let t : end.taken ≡ n = taken ∙ taken_is in
      let sp = spent_is in
      let left_at : end.left.items ≡ drop n s.world.queue = left_is end.left.items left in
      let left_length : length end.left.items ≡ length s.world.queue - n = ap (λ (l : List Entry). length l) left_at ∙ length-drop n s.world.queue in
      record {
        first = subst (IsPermutation (taken_by seats)) (ap (take n) d.order.sent ∙ take-take n s.published s.world.queue le ∙ ap (λ m. take m s.world.queue) (sym t)) d.first;
        idle = d.idle;
        left = left_at ∙ ap (λ m. drop m s.world.queue) (sym t);
        taken = t;
        finished = omega (arith, finished, k, b);
        forfeited = omega (arith, forfeited, finished, t, sp, k);
        enqueued = enqueued;
        all = omega (arith, enqueued, t, left_length, le, p);
        spent = omega (arith, forfeited, finished, t, sp, k);
        held = omega (arith, left_length, forfeited, finished, t, sp, k, le, p);
        passes = passes;
        reclaimed = reclaimed;
      }

pub drained_by : (origin : Origin) (s : LockedState) (got seats : List SeatState) (popped : List Entry) → got ≡ seats → IsInOrder origin s
    → IsPermutation (taken_by got) (take (length (taken_by got)) s.sent) → popped ≡ drop (length (taken_by got)) s.sent → All IsIdle got → s.finished ≡ sum_by (λ (x : SeatState). x.finished) seats
    → Drained origin s seats popped
drained_by origin s got seats popped here order first rest idle finished =
    let Q : List SeatState → Type 0 = λ xs. IsPermutation (taken_by xs) (take (length (taken_by xs)) s.sent) × (popped ≡ drop (length (taken_by xs)) s.sent) × All IsIdle xs in
    let q : Q seats = subst Q here (first, rest, idle) in
    record { order = order; first = q.0; rest = q.1; idle = q.2; finished = finished }

module _ (workers owned : ℕ) (seats now : List SeatState) (is : Bool) (owner : owned ≡ workers) (same : now ≡ seats) where
  pub each_once : (is ≡ true) → (IsTrue is → IsEachOnce owned now) → IsEachOnce workers seats
  each_once succeeded holds = grind arith

  pub not_once : (is ≡ false) → (IsEachOnce owned now → IsTrue is) → IsEachOnce workers seats → ⊥
  not_once failed holds each = grind arith
