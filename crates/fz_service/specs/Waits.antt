-- What a worker has done before it sleeps.
-- code: fz_service/src/bell.rt, worker_threads.rt
use Rattle.std.specs.Prelude.{◌≡◌, List, [], ◌∷◌, ◌++◌, filter}
use Rattle.fz_service.specs.Diary.{is_run}
use Rattle.fz_service.specs.declared.event.Event.{Event}
use Rattle.fz_service.specs.declared.event.Event.TheVariants.{NotTold, Listened, FoundEmpty}

-- it read how often the bell was rung
abbrev pub HasListened : List Event → Type 0
HasListened events = (before after : List Event) × (events ≡ before ++ Listened ∷ after)

-- after that it read `stop` as false, and its last take found the line empty
abbrev pub HasLooked : List Event → Type 0
HasLooked events = (before between : List Event) × (events ≡ (before ++ Listened ∷ between) ++ NotTold ∷ FoundEmpty ∷ [])

-- these events have no run
abbrev pub RunsNone : List Event → Type 0
RunsNone events = filter is_run events ≡ []
