-- A collection without ephemerons goes by paths alone.
use Rattle.std.proofs.Common.{◌≡◌, ◌∙◌, ◌↔◌, ℕ, Bool, List, Option, length, sym, ap, subst, IsTrue}
use Rattle.std.specs.FinSet.{contains}
use Rattle.fz_model.specs.State.{Map, Object}
use Rattle.fz_pass.specs.Flagged.{AreNormal}
use Rattle.fz_pass.specs.Holds.{Ephemerons, IsOfKey, Settles, no_ephemerons}
use Rattle.fz_pass.specs.Marks.{IsClosed, Marks}
use Rattle.fz_pass.specs.Whole.{DecidesWhole}
use Rattle.fz_pass.proofs.ByPaths.{by_paths, nothing_settles}
use Rattle.fz_finalizers.specs.declared.roots.Root.{Root}
use Rattle.fz_finalizers.specs.States.{State, AreFlags}
use Rattle.fz_finalizers.specs.Follows.{next_pass}
use Rattle.fz_finalizers.specs.Passed.{parts_in}
use Rattle.fz_finalizers.proofs.Flags.{normal_of}
use Rattle.own_heap.specs.declared.record.Record.{Record}
use Rattle.own_heap.specs.declared.record.RecordId.{RecordId}
use Rattle.own_heap.specs.Outside.{place_of_link}
use Rattle.own_heap.specs.Records.{objects_of, value_of}
use Rattle.own_heap.specs.Collected.{Collects, CollectsByPaths, CollectsWithout, MarksAll, MarksKept}
use Rattle.own_heap.proofs.Collected.{zero_nowhere}

marks_also : {E : Type 0} {objects : Map Object} {old new more : ℕ → Bool} {P : ℕ → Type 0} → ((a : ℕ) → IsTrue (more a) ↔ IsTrue (new a)) → Marks E objects old new P → Marks E objects old more P
marks_also same m = record {
  closed = λ a b on child. (same b).1 (m.closed a b ((same a).0 on) child);
  least = λ a h. (same a).1 (m.least a h);
  most = λ e a on. m.most e a ((same a).0 on);
}

kept_also : {objects : Map Object} {root : Root} {s : State} {old new more : ℕ → Bool} → ((a : ℕ) → IsTrue (more a) ↔ IsTrue (new a)) → MarksKept objects root s old new → MarksKept objects root s old more
kept_also same k = record { words = k.words; yielded = k.yielded; marked = marks_also same k.marked }

all_also : {objects : Map Object} {roots : List RecordId} {s : State} {traced found : ℕ → Bool} → ((a : ℕ) → IsTrue (found a) ↔ IsTrue (traced a)) → MarksAll objects roots s traced → MarksAll objects roots s found
all_also same m = record { rooted = m.rooted; held = m.held; handed = m.handed; by_roots = m.by_roots; by_objects = m.by_objects; by_data = m.by_data; by_registered = kept_also same m.by_registered }

module _ (slots : List (Option Record)) (roots : List RecordId) (old : State) (left : Map Object) (new : State) (flags : AreFlags old.registrations old.late) (none : old.ephemerons ≡ no_ephemerons) (c : Collects (objects_of slots) roots old left new) where
  abbrev objects : Map Object
  objects = objects_of slots

  closed : IsClosed objects c.traced
  closed = c.marks.by_registered.marked.closed

  same : (a : ℕ) → IsTrue (c.found a) ↔ IsTrue (c.traced a)
  same = (nothing_settles place_of_link value_of objects c.traced c.found closed).1 (subst (λ (e : Ephemerons). Settles place_of_link value_of objects (IsOfKey e) (Unit {0}) c.traced c.found) none c.settles)

  found_closed : IsClosed objects c.found
  found_closed a b on child = (same b).1 (closed a b ((same a).0 on) child)

  begun_none : c.begun.ephemerons ≡ no_ephemerons
  begun_none = ap (λ (s : State). s.ephemerons) c.short.2 ∙ none

  normal : AreNormal c.begun.registrations (contains c.begun.late)
  normal = subst (λ (s : State). AreNormal s.registrations (contains s.late)) (sym c.short.2) (normal_of old.registrations old.late flags)

  decided : DecidesWhole (Unit {0}) place_of_link value_of (contains c.begun.late) (next_pass old.passes) (length c.begun.queue) (parts_in objects c.begun) no_ephemerons c.found (parts_in left c.passed) c.passed.ephemerons c.begun.queue c.passed.queue
  decided = subst
      (λ (e : Ephemerons). DecidesWhole (Unit {0}) place_of_link value_of (contains c.begun.late) (next_pass old.passes) (length c.begun.queue) (parts_in objects c.begun) e c.found (parts_in left c.passed) c.passed.ephemerons c.begun.queue c.passed.queue)
      begun_none c.decided

  pub collects_by_paths : CollectsByPaths objects roots old left new × (new.ephemerons ≡ no_ephemerons)
  collects_by_paths =
      let by = by_paths (Unit {0}) place_of_link value_of (contains c.begun.late) (parts_in objects c.begun) normal (zero_nowhere slots) (next_pass old.passes) (length c.begun.queue) c.found (parts_in left c.passed) c.passed.ephemerons c.begun.queue c.passed.queue found_closed decided in (
        record { found = c.found; marks = all_also same c.marks; begun = c.begun; passed = c.passed; marked = c.marked; remain = c.remain; short = c.short; decided = by.flagged; follows = c.follows; long = c.long },
        ap (λ (s : State). s.ephemerons) c.long.2 ∙ by.none,
      )

pub collects_without : (slots : List (Option Record)) (roots : List RecordId) (old : State) (left : Map Object) (new : State) → CollectsWithout slots roots old left new
collects_without slots roots old left new flags none c = collects_by_paths slots roots old left new flags none c
