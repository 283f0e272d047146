use Rattle.std.proofs.Common.{◌≡◌, ◌≤◌, ◌<◌, ◌-◌, ◌⊎◌, ℕ, IsTrue}
use Rattle.std.specs.FinSet.{contains, len}
use Rattle.fz_model.specs.Extents.{extents, AreApart}
use Rattle.fz_marker.specs.Standing.{HasWordOn, IsOnNotedFrom}
use Rattle.fz_marker.proofs.cycle.Cycle.forget.Given as goal

-- the objects on noted pages so far are forgotten
abbrev pub invariant-loop-page : goal.invariant-loop-page
invariant-loop-page l = record {
  marks : l.self.marks ≡ l.initial.self.marks;
  scans : l.self.scans ≡ l.initial.self.scans;
  size : l.self.scanned.size ≡ l.initial.self.scanned.size;
  few : len l.self.scanned.members ≤ l.self.scanned.size;
  gone : (a : ℕ) → IsTrue (contains l.self.scanned.members a) → IsTrue (contains l.initial.self.scanned.members a) × ((page : ℕ) → page < l.from → IsTrue (contains l.dirty.noted page) → HasWordOn l.heap.objects page a → ⊥);
  apart : (page : ℕ) → page < l.from → IsTrue (contains l.dirty.noted page) → AreApart (extents l.heap.objects);
  others : (a : ℕ) → IsTrue (contains l.initial.self.scanned.members a) → IsTrue (contains l.self.scanned.members a) ⊎ IsOnNotedFrom l.heap.objects l.dirty.noted 0 a;
}

abbrev pub decreases-loop-page : goal.decreases-loop-page
decreases-loop-page l = l.dirty.pages - l.from
