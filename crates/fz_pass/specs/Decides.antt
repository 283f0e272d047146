-- How a pass changes the objects, the table and the links.
-- code: fz_pass/src/pass.rt
use Rattle.std.specs.Prelude.{◌≡◌, ℕ, ◌+◌, ◌++◌, Bool, false, List, length}
use Rattle.std.specs.FinMap.{len, retain_keys}
use Rattle.fz_model.specs.declared.answers.Entry.{Entry}
use Rattle.fz_model.specs.declared.answers.Pick.{Pick}
use Rattle.fz_model.specs.declared.answers.Registration.{Registration}
use Rattle.fz_model.specs.State.{Map, Object, Core}
use Rattle.fz_table.specs.Tabled.{Tabled}
use Rattle.fz_links.specs.Linked.{Linked}
use Rattle.fz_model.specs.Pass.{Passes, Decision, remaining_objects, without_picks, links_within, entries_of}

pub record Parts : Type 0 where
  pub objects : Map Object
  pub registrations : Map Registration
  pub short : Map ℕ
  pub long : Map ℕ

-- the objects, with the content of the table and of the links
abbrev pub parts_of : Map Object → Tabled → Linked → Linked → Parts
parts_of objects table short long = record { objects = objects; registrations = table.registrations; short = short.links; long = long.links }

-- the same after a pass: only the marked objects remain
abbrev pub parts_left : Map Object → (ℕ → Bool) → Tabled → Linked → Linked → Parts
parts_left objects marked table short long = parts_of (retain_keys objects marked) table short long

-- what a pass with this found set queues, and the state after it
pub record Decides (old : Parts) (found : ℕ → Bool) (picks : List Pick) (new : Parts) : Type 0 where
  pub decision : Decision old.objects old.registrations old.short found
  pub picked : picks ≡ decision.picks
  pub is : new ≡ record {
    objects = remaining_objects old.objects old.short old.long found decision.kept;
    registrations = without_picks old.registrations decision.picks;
    short = links_within old.objects old.short found decision.kept;
    long = links_within old.objects old.long decision.kept decision.kept;
  }

-- the pass of this number queues entries of picks, with successive numbers; if marking is exact, they are the model's picks, and the state after it is the
-- model's
pub record DecidesInto (Exact : Type 0) (pass first : ℕ) (old : Parts) (found : ℕ → Bool) (new : Parts) (queue new_queue : List Entry) : Type 0 where
  pub picks : List Pick
  pub queued : new_queue ≡ queue ++ entries_of pass first picks
  pub exactly : Exact → Decides old found picks new

-- the objects, table and links of a core
abbrev pub core_parts : Core → Parts
core_parts c = record { objects = c.objects; registrations = c.registrations; short = c.short; long = c.long }

-- the core after a pass: with other objects, table and links, and with the entries of the picks
abbrev pub passed_core : Core → Parts → List Pick → Core
passed_core c new picks = record c {
  objects = new.objects;
  registrations = new.registrations;
  short = new.short;
  long = new.long;
  queue = c.queue ++ entries_of (c.passes + 1) (length c.queue) picks;
  held = c.held ++ entries_of (c.passes + 1) (length c.queue) picks;
  passes = c.passes + 1;
  cycle = false;
}

-- carrying out a decision for the core, so that its picks are queued and held, is a pass of the model
abbrev pub DecisionsPass : Core → Type 0
DecisionsPass c = (found : ℕ → Bool) (picks : List Pick) (new : Parts) (reclaimed : ℕ)
    → Decides (core_parts c) found picks new → len new.objects + reclaimed ≡ len c.objects
    → Passes c found (record { pass = c.passes + 1; picked = length picks; reclaimed = reclaimed }) (passed_core c new picks)
