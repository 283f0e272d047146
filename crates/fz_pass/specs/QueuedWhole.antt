-- What a pass with ephemerons marks and queues, one round after the other: after each round the marks become whole.
-- code: fz_pass/src/whole.rt
use Rattle.std.specs.Prelude.{◌≡◌, ℕ, Bool, true, false, List, [], ◌++◌, Option}
use Rattle.fz_model.specs.declared.answers.Entry.{Entry}
use Rattle.fz_model.specs.declared.answers.Pick.{Pick}
use Rattle.fz_model.specs.State.{Map, Object}
use Rattle.fz_model.specs.Pass.{entries_of}
use Rattle.fz_table.specs.Tabled.{Content}
use Rattle.fz_pass.specs.Holds.{Settles}
use Rattle.fz_pass.specs.Marks.{Marks, AreReached}
use Rattle.fz_pass.specs.Picking.{Picks}
use Rattle.fz_pass.specs.Queued.{is_ready}
use Rattle.fz_pass.specs.Tiers.{skips}

pub record QueuesWhole (Exact : Type 0) (place : ℕ → Option ℕ) (value : Map Object → ℕ → Option ℕ) (IsOf : ℕ → ℕ → Type 0) (late : ℕ → Bool) (pass first : ℕ) (objects : Map Object)
    (marked new_marked : ℕ → Bool) (table new_table : Content) (queue new_queue : List Entry) : Type 0 where
  pub picks : List Pick
  pub late_picks : List Pick
  pub after : ℕ → Bool
  pub between : ℕ → Bool
  pub after_late : ℕ → Bool
  pub mid : Content
  pub queued : new_queue ≡ queue ++ entries_of pass first (picks ++ late_picks)
  pub picked : Picks objects (is_ready false late table.registrations marked) table mid [] picks
  pub reached : Marks Exact objects marked after (AreReached objects table.registrations (skips false late marked))
  pub settled : Settles place value objects IsOf Exact after between
  pub picked_late : Picks objects (is_ready true late mid.registrations between) mid new_table [] late_picks
  pub reached_late : Marks Exact objects between after_late (AreReached objects mid.registrations (skips true late between))
  pub settled_late : Settles place value objects IsOf Exact after_late new_marked
