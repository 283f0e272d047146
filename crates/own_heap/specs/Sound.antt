-- Registered addresses, the targets of links, the keys of ephemerons and the objects of unfinished entries are addresses of existing records.
-- code: own_heap/src/runtime.rt
use Rattle.std.specs.Prelude.{◌≢◌, Contains, IsTrue}
use Rattle.std.specs.FinMap.{contains_key}
use Rattle.fz_model.specs.declared.answers.Entry.{Entry}
use Rattle.fz_model.specs.State.{Map, Object}
use Rattle.fz_pass.specs.Marks.{AreRegistered, AreTargets}
use Rattle.fz_finalizers.specs.States.{State, unfinished}

-- the objects of the entries that aren't finished exist, whether they wait or were taken; the entry of a cleanup has none
abbrev pub HeldStand : Map Object → State → Type 0
HeldStand objects s = (e : Entry) → Contains (unfinished s) e → e.obj ≢ 0 → IsTrue (contains_key objects e.obj)

pub record IsSound (objects : Map Object) (s : State) : Type 0 where
  pub registered : AreRegistered objects s.registrations
  pub short : AreTargets objects s.short
  pub long : AreTargets objects s.long
  pub short_keys : AreTargets objects s.ephemerons.short
  pub long_keys : AreTargets objects s.ephemerons.long
  pub held : HeldStand objects s
