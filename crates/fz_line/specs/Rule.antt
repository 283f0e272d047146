-- The invariant of the line, which every step of its owner and of its seats preserves. The entries that were sent are those that left the line, followed by
-- those that wait in it. Each entry that left is in exactly one place, once: in the list of one of eight seats, or in what the owner popped.
-- code: fz_line/src/protocol.rt, owner.rt, seat.rt, duty.rt
use Rattle.std.specs.Prelude.{◌≡◌, ℕ, ◌+◌, ◌<◌, ◌≤◌, List, [], ◌++◌, length, take, drop, true, false, All}
use Rattle.std.specs.List.{AllByRecursion}
use mathlib.Core.Option.{some}
use lib.ListN.{get_elem?}
use Rattle.fz_model.specs.declared.answers.Entry.{Entry}
use Rattle.fz_line.specs.declared.protocol.View.{View}
use Rattle.fz_line.specs.Numbers.{AreNumberedFrom, Rises}
use Rattle.fz_line.specs.Views.{total, sent_limit, view_of, seat_view, first_list}
use Rattle.fz_model.specs.declared.limits.TheConstants.{MAX_WORKERS}

-- the total weight of the view's entries: with weight 1 for one entry and 0 for all others, how often that entry occurs in the view
abbrev pub weight_of : (Entry → ℕ) → View → ℕ
weight_of weight v = total (total weight) v.lists + total weight v.popped

-- the list of a seat, after n entries have left the line
abbrev pub IsSeatList : ℕ → List Entry → Type 0
IsSeatList n took = Rises took × AllByRecursion (λ e. e.seq < n) took × (length took ≤ n)

-- how one pass agrees with what left and what waits: only the writer is the owner, and only it knows what was sent and pops entries
abbrev pub FitsLine : ℕ → List Entry → List Entry → ℕ → View → Type 0
FitsLine writer left waiting port v =
    (v.owner ≡ true → (port ≡ writer) × (v.sent ≡ left ++ waiting))
    × (v.owner ≡ false → v.popped ≡ [])
    × AllByRecursion (IsSeatList (length left)) v.lists

pub record IsLine (waiting : List Entry) (views : List View) : Type 0 where
  pub left : List Entry
  pub writer : ℕ
  pub all_lists : total (λ v. length v.lists) views ≡ MAX_WORKERS
  pub each_once : (weight : Entry → ℕ) → total (weight_of weight) views ≡ total weight left
  pub numbered : AreNumberedFrom 0 (left ++ waiting)
  pub short : length (left ++ waiting) ≤ sent_limit
  pub fits : (port : ℕ) (v : View) → get_elem? views port ≡ some v → FitsLine writer left waiting port v

-- ---- the three kinds of step, from a view to a view, by the entries that came or left

abbrev pub GainsSent : View → List Entry → View → Type 0
GainsSent old entries new = new ≡ view_of old.owner (old.sent ++ entries) old.popped old.lists

-- the numbers of the new entries exceed all numbers in the seat's list
abbrev pub GainsTaken : View → List Entry → View → Type 0
GainsTaken old entries new =
    let before = first_list old.lists in
    (new ≡ seat_view (before ++ entries))
    × AllByRecursion (λ entry. All (λ e. e.seq < entry.seq) before) entries
    × Rises (before ++ entries)
    × (length (before ++ entries) ≤ sent_limit)

-- how many entries left the line, for an owner with the lists of all seats
abbrev pub left_count : View → ℕ
left_count v = total length v.lists + length v.popped

abbrev pub GainsPopped : View → List Entry → View → Type 0
GainsPopped old entries new =
    (new ≡ view_of old.owner old.sent (old.popped ++ entries) old.lists)
    × (take (length entries) (drop (left_count old) old.sent) ≡ entries)

-- nothing waits, so an owner with the lists of all seats has everything that was sent, each entry once
abbrev pub KnowsAll : View → Type 0
KnowsAll v = (left_count v ≡ length v.sent) × ((weight : Entry → ℕ) → weight_of weight v ≡ total weight v.sent)
