-- What a worker's diary gains, turn by turn.
use Rattle.std.proofs.Common.{◌≡◌, ℕ, List, [], ◌∷◌, ◌++◌, Bool, true, false, refl, sym, ap, ◌∙◌, subst, append-nil, append_assoc, filter, nat_lt, if◌then◌else◌}
use Rattle.std.proofs.lemmas.List.Elements.{filter-append}
use Rattle.std.proofs.lemmas.List.Concat.{flat_map-cons}
use Rattle.std.proofs.lemmas.Grind.{flat_map-append}
use Rattle.fz_model.specs.declared.answers.Entry.{Entry}
use Rattle.fz_line.specs.States.{SeatState, DutyState}
use Rattle.fz_line.specs.Takes.{GainsEntry}
use Rattle.fz_service.specs.Workers.{Serves}
use Rattle.fz_service.specs.Diary.{run_of, runs_of, is_run, Gains, RunsEach, EndsWith, EndsWork, told_of, empty_of, taken_run}
use Rattle.fz_service.specs.Takes.{MatchTake}
use Rattle.fz_service.specs.Waits.{RunsNone}
use Rattle.fz_service.specs.Turns.{IsAnswered, Turns}
use Rattle.fz_service.specs.declared.event.Event.{Event}
use Rattle.fz_service.specs.declared.event.Event.TheVariants.{Told, FoundEmpty, Ran}
use Rattle.fz_service.specs.declared.seat.Take.{Take}
use Rattle.fz_service.specs.declared.seat.Take.TheVariants as take
use Rattle.fz_service.specs.declared.turn.CameTo.{CameTo}
use Rattle.fz_service.specs.declared.turn.CameTo.TheVariants.{Served, Empty, Busy}

-- the run of an entry is one
runs_run : (count : ℕ) (e : Entry) → filter is_run (run_of count e) ≡ run_of count e
runs_run count e = elim (nat_lt e.proc count) as (λ b. filter is_run (if b then Ran e.proc e.seq ∷ [] else []) ≡ (if b then Ran e.proc e.seq ∷ [] else [])) [ true ↦ refl | false ↦ refl ]

-- with further events
pub noted_more : (old first mid second new : List Event) → mid ≡ old ++ first → new ≡ mid ++ second → new ≡ old ++ (first ++ second)
noted_more old first mid second new before after = after ∙ ap (λ (es : List Event). es ++ second) before ∙ append_assoc old first second

-- what was taken was answered
pub turned : {O : Type 0} (count : ℕ) (taken : Take O) (turn : CameTo) (old new : SeatState) → MatchTake taken (GainsEntry old) (λ seat. seat ≡ old) → IsAnswered taken turn new → Turns count old turn new (empty_of taken ++ taken_run count taken)
turned count (take.Taken duty) (Served finished) old new gains serves = (duty, gains, serves, refl)
turned count (take.Taken duty) Empty old new gains serves = absurd serves
turned count (take.Taken duty) Busy old new gains serves = absurd serves
turned count (take.Empty seat) (Served finished) old new same is = absurd is
turned count (take.Empty seat) Empty old new same is = (is ∙ same, refl)
turned count (take.Empty seat) Busy old new same is = absurd is
turned count (take.Busy seat) (Served finished) old new same is = absurd is
turned count (take.Busy seat) Empty old new same is = absurd is
turned count (take.Busy seat) Busy old new same is = (is ∙ same, refl)

module _ (count : ℕ) where
  -- no event
  pub ran_none : (seat : SeatState) (events : List Event) → Gains events events (RunsEach count seat seat)
  ran_none seat events = ([], sym (append-nil events), record { since = []; took = sym (append-nil seat.took); ran = refl })

  -- further events
  both : (old mid new : SeatState) (first second : List Event) → RunsEach count old mid first → RunsEach count mid new second → RunsEach count old new (first ++ second)
  both old mid new first second f s = record {
    since = f.since ++ s.since;
    took = s.took ∙ ap (λ (es : List Entry). es ++ s.since) f.took ∙ append_assoc old.took f.since s.since;
    ran =
        filter-append is_run first second
        ∙ ap (λ (es : List Event). es ++ filter is_run second) f.ran
        ∙ ap (λ (es : List Event). runs_of count f.since ++ es) s.ran
        ∙ sym (flat_map-append (run_of count) f.since s.since);
  }

  took : (old new : SeatState) (duty : DutyState) (done : Bool) → GainsEntry old duty → Serves duty new done → new.took ≡ old.took ++ duty.entry ∷ []
  took old new duty true gains served = ap (λ (s : SeatState). s.took) served ∙ ap (λ (s : SeatState). s.took) gains.0
  took old new duty false gains served = ap (λ (s : SeatState). s.took) served ∙ ap (λ (s : SeatState). s.took) gains.0

  -- a turn
  turn_runs : (old new : SeatState) (turn : CameTo) (events : List Event) → Turns count old turn new events → RunsEach count old new events
  turn_runs old new (Served finished) events (duty, gains, serves, is) = record {
    since = duty.entry ∷ [];
    took = took old new duty finished gains serves;
    ran = ap (filter is_run) is ∙ runs_run count duty.entry ∙ sym (flat_map-cons (run_of count) duty.entry [] ∙ append-nil (run_of count duty.entry));
  }
  turn_runs old new Empty events (same, is) = record { since = []; took = ap (λ (s : SeatState). s.took) same ∙ sym (append-nil old.took); ran = ap (filter is_run) is }
  turn_runs old new Busy events (same, is) = record { since = []; took = ap (λ (s : SeatState). s.took) same ∙ sym (append-nil old.took); ran = ap (filter is_run) is }

  pub ran_turn : (other : ℕ) (old mid new : SeatState) (turn : CameTo) (before between after : List Event) → other ≡ count → Gains before between (RunsEach count old mid) → Gains between after (Turns other mid turn new) → Gains before after (RunsEach count old new)
  ran_turn other old mid new turn before between after same first second = (
    first.0 ++ second.0,
    noted_more before first.0 between second.0 after first.1 second.1,
    both old mid new first.0 second.0 first.2 (turn_runs mid new turn second.0 (subst (λ n. Turns n mid turn new second.0) same second.2)),
  )

  -- a look at `stop`
  told_runs : (seat : SeatState) (told : Bool) → RunsEach count seat seat (told_of told)
  told_runs seat true = record { since = []; took = sym (append-nil seat.took); ran = refl }
  told_runs seat false = record { since = []; took = sym (append-nil seat.took); ran = refl }

  pub ran_look : (old new : SeatState) (told : Bool) (before between after : List Event) → Gains before between (RunsEach count old new) → after ≡ between ++ told_of told → Gains before after (RunsEach count old new)
  ran_look old new told before between after first is = (
    first.0 ++ told_of told,
    noted_more before first.0 between (told_of told) after first.1 is,
    both old new new first.0 (told_of told) first.2 (told_runs new told),
  )

  -- events without a run
  pub ran_other : (old new : SeatState) (before between after : List Event) → Gains before between (RunsEach count old new) → Gains between after RunsNone → Gains before after (RunsEach count old new)
  ran_other old new before between after first second = (
    first.0 ++ second.0,
    noted_more before first.0 between second.0 after first.1 second.1,
    both old new new first.0 second.0 first.2 (record { since = []; took = sym (append-nil new.took); ran = second.2 }),
  )

  -- the last turn
  pub empty_last : (other : ℕ) (old mid new : SeatState) (before between after : List Event) → other ≡ count → Gains before between (RunsEach count old mid) → Gains between after (Turns other mid Empty new) → Gains before after (λ events. RunsEach count old new events × EndsWith FoundEmpty events)
  unfolding ran_turn
  empty_last other old mid new before between after same first second =
      let gains = ran_turn other old mid new Empty before between after same first second in
      (gains.0, gains.1, (gains.2, (first.0, ap (λ (es : List Event). first.0 ++ es) second.2.1)))

  -- both
  pub worked : (other : ℕ) (old mid new : SeatState) (before between after : List Event) → other ≡ count → Gains before between (λ events. RunsEach count old mid events × EndsWith Told events) → Gains between after (λ events. RunsEach other mid new events × EndsWith FoundEmpty events)
      → Gains before after (λ events. RunsEach count old new events × EndsWork events)
  worked other old mid new before between after same first second =
      let told = first.2.1 in
      let empty = second.2.1 in (
        first.0 ++ second.0,
        noted_more before first.0 between second.0 after first.1 second.1,
        (
          both old mid new first.0 second.0 first.2.0 (subst (λ n. RunsEach n mid new second.0) same second.2.0),
          (
            told.0,
            empty.0,
            ap (λ (es : List Event). es ++ second.0) told.1
                ∙ ap (λ (es : List Event). (told.0 ++ Told ∷ []) ++ es) empty.1
                ∙ append_assoc told.0 (Told ∷ []) (empty.0 ++ FoundEmpty ∷ [])
                ∙ sym (append_assoc told.0 (Told ∷ empty.0) (FoundEmpty ∷ [])),
          ),
        ),
      )
