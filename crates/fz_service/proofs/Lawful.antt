-- What follows of the definitions.
use Rattle.std.proofs.Common.{◌≡◌, ◌≢◌, ℕ, zero, suc, ◌+◌, ◌%◌, ◌^◌, ◌<◌, ◌≤◌, ◌⊎◌, Bool, true, false, cond, nat_lt, List, [], ◌∷◌, ◌++◌, length, drop, take, filter, count_by, Some, slice_get, Contains, refl, sym, ap, subst, ◌∙◌, ⊎_elim, arith, length-append, length-take-le, take-append-drop}
use Rattle.std.proofs.lemmas.Bool.{cases_lt, lt-ltb, ltb-true, true≢false}
use Rattle.std.proofs.lemmas.Option.{same_Some, none-some}
use Rattle.std.proofs.lemmas.List.Concat.{flat_map-cons}
use Rattle.std.proofs.lemmas.List.Elements.{Contains-append_left, Contains-append_right, Contains-append_cases}
use Rattle.std.proofs.lemmas.List.Sorted.{IsPermutation-append, IsPermutation-refl}
use Rattle.std.proofs.lemmas.List.Sums.{length-filter}
use Rattle.std.specs.List.Sorted.{IsPermutation}
use Rattle.fz_model.specs.declared.answers.Entry.{Entry}
use Rattle.fz_model.proofs.Lists.{place_of, contains_at, filter_at, count_cons}
use Rattle.fz_line.specs.States.{SeatState, taken_by}
use Rattle.fz_service.specs.declared.ending.Final.{Final}
use Rattle.fz_service.specs.declared.event.Event.{Event}
use Rattle.fz_service.specs.declared.event.Event.TheVariants.{Told, NotTold, Listened, FoundEmpty, Ran}
use Rattle.fz_service.specs.Diary.{run_of, runs_of, is_run, RunsEach}
use Rattle.fz_service.specs.Ends.{IsEnd}
use Rattle.fz_service.specs.Laws.{IsWholeQueue, OrdersQueue, SendsAll, Accounts, EndsWithAll, RunsOnce, RunsItsEntries}
use Rattle.fz_service.specs.States.{Origin, LockedState, IsInOrder, SendsMore, one_more}

-- ---- the queue

pub orders : (origin : Origin) (s : LockedState) → OrdersQueue origin s
orders origin s h = record {
  all = ap (λ (es : List Entry). es ++ drop s.published s.world.queue) h.sent ∙ take-append-drop s.published s.world.queue;
  count = ap (λ (es : List Entry). length es) h.sent ∙ length-take-le s.published s.world.queue h.within;
  held = let all = h.finished in omega (arith, all);
}

one_more_differs : (n : ℕ) → one_more n ≢ n
one_more_differs n same = absurd (omega (arith, same))

pub sends : (origin : Origin) (old new : LockedState) → SendsAll origin old new
sends origin old new h m = (to, m.all)
  where
    to : new.shortages ≡ old.shortages → new.published ≡ length new.world.queue
    to same =
        let within = h.within in
        ⊎_elim
        (λ (less : new.published < length new.world.queue). absurd (one_more_differs old.shortages (sym (m.short less) ∙ same)))
        (λ (more : length new.world.queue ≤ new.published). omega (arith, within, more))
        (cases_lt new.published (length new.world.queue))

-- ---- the end

pub ends : (origin : Origin) (s : LockedState) (seats : List SeatState) (end : Final) → EndsWithAll origin s seats end
ends origin s seats end h e = record {
  each =
      subst (IsPermutation (taken_by seats ++ end.left.items)) (take-append-drop end.taken s.world.queue)
      (IsPermutation-append (taken_by seats) (take end.taken s.world.queue) end.left.items (drop end.taken s.world.queue) e.first (subst (IsPermutation end.left.items) e.left (IsPermutation-refl end.left.items)));
  finished =
      let all = h.finished in
      let held = e.held in
      let queued = e.enqueued in
      let taken = e.all in
      let spent = e.spent in
      omega (arith, all, held, queued, taken, spent);
  spent = sym e.taken ∙ e.spent;
}

-- ---- runs

-- what follows a list is what is left of both behind it
rest_of : {X : Type 0} (xs ys : List X) → drop (length xs) (xs ++ ys) ≡ ys
rest_of [] ys = refl
rest_of (x ∷ xs) ys = rest_of xs ys

module _ {X : Type 0} (p : X → Bool) where
  from_filter : (xs : List X) (x : X) → Contains (filter p xs) x → Contains xs x
  from_filter xs x here = let at = place_of (filter p xs) x here in let from = filter_at p xs at.0 x at.1 in contains_at xs from.0 x from.1

  in_filter : (xs : List X) (k : ℕ) (x : X) → slice_get xs k ≡ Some x → p x ≡ true → Contains (filter p xs) x
  in_filter [] k x at on = absurd (none-some x at)
  in_filter (y ∷ ys) zero x at on = subst (λ b. Contains (cond b (y ∷ filter p ys) (filter p ys)) x) (sym (ap p (same_Some y x at) ∙ on)) (contains_at (y ∷ filter p ys) 0 x at)
  in_filter (y ∷ ys) (suc k) x at on = further (p y) (in_filter ys k x at on)
    where
      further : (b : Bool) → Contains (filter p ys) x → Contains (cond b (y ∷ filter p ys) (filter p ys)) x
      further true rest = Contains-append_right (y ∷ []) (filter p ys) x rest
      further false rest = rest

number_of : Event → ℕ
number_of (Ran proc seq) = proc
number_of Told = 0
number_of NotTold = 0
number_of Listened = 0
number_of FoundEmpty = 0

seq_of : Event → ℕ
seq_of (Ran proc seq) = seq
seq_of Told = 0
seq_of NotTold = 0
seq_of Listened = 0
seq_of FoundEmpty = 0

module _ (count : ℕ) where
  abbrev has : Entry → Bool
  has e = nat_lt e.proc count

  in_runs : (es : List Entry) (k : ℕ) (e : Entry) → slice_get es k ≡ Some e → e.proc < count → Contains (runs_of count es) (Ran e.proc e.seq)
  in_runs [] k e at less = absurd (none-some e at)
  in_runs (d ∷ ds) zero e at less =
      let same : run_of count d ≡ Ran e.proc e.seq ∷ [] = ap (run_of count) (same_Some d e at) ∙ ap (λ b. cond b (Ran e.proc e.seq ∷ []) []) (lt-ltb e.proc count less) in
      subst (λ es. Contains es (Ran e.proc e.seq)) (sym (flat_map-cons (run_of count) d ds))
      (Contains-append_left (run_of count d) (runs_of count ds) (Ran e.proc e.seq) (subst (λ es. Contains es (Ran e.proc e.seq)) (sym same) (contains_at (Ran e.proc e.seq ∷ []) 0 (Ran e.proc e.seq) refl)))
  in_runs (d ∷ ds) (suc k) e at less =
      subst (λ es. Contains es (Ran e.proc e.seq)) (sym (flat_map-cons (run_of count) d ds)) (Contains-append_right (run_of count d) (runs_of count ds) (Ran e.proc e.seq) (in_runs ds k e at less))

  abbrev IsFrom : List Entry → ℕ → ℕ → Type 0
  IsFrom es proc seq = (e : Entry) × Contains es e × (e.proc ≡ proc) × (e.seq ≡ seq) × (proc < count)

  of_one : (d : Entry) (ds : List Entry) (proc seq : ℕ) (b : Bool) → has d ≡ b → Contains (cond b (Ran d.proc d.seq ∷ []) []) (Ran proc seq) → IsFrom (d ∷ ds) proc seq
  unfolding number_of seq_of
  of_one d ds proc seq false off here = let at = place_of [] (Ran proc seq) here in absurd (none-some (Ran proc seq) at.1)
  of_one d ds proc seq true on here =
      let same : Ran d.proc d.seq ≡ Ran proc seq = only_one (place_of (Ran d.proc d.seq ∷ []) (Ran proc seq) here) in
      let number : d.proc ≡ proc = ap number_of same in
      (d, contains_at (d ∷ ds) 0 d refl, number, ap seq_of same, subst (λ n. n < count) number (ltb-true d.proc count on))
    where
      only_one : (k : ℕ) × (slice_get (Ran d.proc d.seq ∷ []) k ≡ Some (Ran proc seq)) → Ran d.proc d.seq ≡ Ran proc seq
      only_one (zero, at) = same_Some _ _ at
      only_one (suc k, at) = absurd (none-some (Ran proc seq) at)

  from_runs : (es : List Entry) (proc seq : ℕ) → Contains (runs_of count es) (Ran proc seq) → IsFrom es proc seq
  from_runs [] proc seq here = let at = place_of [] (Ran proc seq) here in absurd (none-some (Ran proc seq) at.1)
  from_runs (d ∷ ds) proc seq here =
      ⊎_elim (of_one d ds proc seq (has d) refl) (λ later. let is = from_runs ds proc seq later in (is.0, Contains-append_right (d ∷ []) ds is.0 is.1, is.2, is.3, is.4))
      (Contains-append_cases (run_of count d) (runs_of count ds) (Ran proc seq) (subst (λ es. Contains es (Ran proc seq)) (flat_map-cons (run_of count) d ds) here))

  length-runs : (es : List Entry) → length (runs_of count es) ≡ count_by has es
  length-runs [] = refl
  length-runs (d ∷ ds) =
      ap (λ (es : List Event). length es) (flat_map-cons (run_of count) d ds) ∙ length-append (run_of count d) (runs_of count ds)
      ∙ ap (λ n. length (run_of count d) + n) (length-runs ds) ∙ ap (λ n. n + count_by has ds) (one (has d)) ∙ sym (count_cons has d ds)
    where
      one : (b : Bool) → length (cond b (Ran d.proc d.seq ∷ []) []) ≡ cond b 1 0
      one true = refl
      one false = refl

  runs_once : (es : List Entry) (events : List Event) → filter is_run events ≡ runs_of count es → RunsOnce count es events
  runs_once es events is = record {
    each = λ e here less. let at = place_of es e here in from_filter is_run events (Ran e.proc e.seq) (subst (λ xs. Contains xs (Ran e.proc e.seq)) (sym is) (in_runs es at.0 e at.1 less));
    only = λ proc seq here. let at = place_of events (Ran proc seq) here in from_runs es proc seq (subst (λ xs. Contains xs (Ran proc seq)) is (in_filter is_run events at.0 (Ran proc seq) at.1 refl));
    often = sym (length-filter is_run events) ∙ ap (λ (xs : List Event). length xs) is ∙ length-runs es;
  }

pub runs : (count : ℕ) (old new : SeatState) (events : List Event) → RunsItsEntries count old new events
runs count old new events r =
    let since : drop (length old.took) new.took ≡ r.since = ap (λ (es : List Entry). drop (length old.took) es) r.took ∙ rest_of old.took r.since in
    subst (λ es. RunsOnce count es events) (sym since) (runs_once count r.since events r.ran)
