-- The model of the entries: every entry ever queued; how many of them were taken; the entries that were taken and aren't finished; for how many more there is
-- room; and the places of the unfinished entries, over which iterators go.
-- code: fz_finalizers/src/ready.rt, queue.rt
use Rattle.std.specs.Prelude.{◌≡◌, ℕ, ◌+◌, ◌-◌, ◌≤◌, ◌<◌, ◌++◌, List, [], ◌∷◌, length, drop, take, slice_get, Option, Some, None, refl, Bool, All}
use Rattle.std.specs.Coded.{Coded, code_by, coded×, coded_ℕ, coded_list, coded_option}
use Rattle.fz_model.specs.declared.answers.Entry.{Entry}
use Rattle.fz_model.specs.Codes.{entry_code}
use Rattle.std.specs.FinSet.{contains}
use Rattle.fz_table.specs.Tabled.{Content, Set}
use Rattle.fz_pass.specs.All.{QueuesAll}
use Rattle.fz_pass.specs.Decides.{Parts}
use Rattle.fz_pass.specs.Flagged.{DecidesFlagged}
use Rattle.fz_pass.specs.Holds.{Ephemerons}
use Rattle.fz_pass.specs.Whole.{DecidesWhole}
use Rattle.fz_model.specs.State.{Map, Object}
use Rattle.fz_pass.specs.Picking.{without_flags}
use Rattle.fz_finalizers.specs.Queue.{Queue, AreNumbered}
use Rattle.fz_finalizers.specs.States.{Memory, memory_code}

pub record Ready : Type 0 where
  pub queue : List Entry
  pub taken : ℕ
  pub held : List Entry
  pub room : ℕ
  pub memory : Memory
  pub places : List (Option Entry)

abbrev pub ready_code : Coded Ready
ready_code =
    code_by (List Entry × (ℕ × (List Entry × (ℕ × (Memory × List (Option Entry))))))
    (coded× (coded_list entry_code) (coded× coded_ℕ (coded× (coded_list entry_code) (coded× coded_ℕ (coded× memory_code (coded_list (coded_option entry_code)))))))
    (λ r. (r.queue, (r.taken, (r.held, (r.room, (r.memory, r.places)))))) (λ p. record { queue = p.0; taken = p.1.0; held = p.1.1.0; room = p.1.1.1.0; memory = p.1.1.1.1.0; places = p.1.1.1.1.1 })
    (λ _. refl)

-- the taken entries that aren't finished: the unfinished ones except those that wait
abbrev pub held_of : Queue → ℕ → List Entry
held_of q taken = take (length q.held - (length q.queue - taken)) q.held

-- waiting entries aren't finished, and come after the taken ones
pub record IsTaken (q : Queue) (taken : ℕ) : Type 0 where
  pub window : q.forgotten ≤ taken
  pub within : taken ≤ length q.queue
  pub early : List Entry
  pub open_is : q.held ≡ early ++ drop taken q.queue
  pub before : All (λ (e : Entry). e.seq < taken) early
  pub numbered : AreNumbered taken (drop taken q.queue)

-- only reserved room and memory have changed
abbrev pub HasSameEntries : Ready → Ready → Type 0
HasSameEntries old new = (new.queue ≡ old.queue) × (new.taken ≡ old.taken) × (new.held ≡ old.held)

-- the next entry of the queue is taken, and held or not; if none waits, nothing changes
abbrev pub Takes : Option Entry → Ready → Ready → Type 0
Takes None old new = (length old.queue ≤ old.taken) × HasSameEntries old new
Takes (Some e) old new = (slice_get old.queue old.taken ≡ Some e) × (new.queue ≡ old.queue) × (new.taken ≡ old.taken + 1) × (new.held ≡ old.held ++ e ∷ [])

abbrev pub TakesFinished : Option Entry → Ready → Ready → Type 0
TakesFinished None old new = (length old.queue ≤ old.taken) × HasSameEntries old new
TakesFinished (Some e) old new = (slice_get old.queue old.taken ≡ Some e) × (new.queue ≡ old.queue) × (new.taken ≡ old.taken + 1) × (new.held ≡ old.held)

-- every registration is appended to the queue, those of kind `Unreachable` after the others
abbrev pub QueuesTable : Content → Set → List Entry → List Entry → Type 0
QueuesTable old new_late queue new_queue = (q : QueuesAll (length queue) old.registrations (contains old.late) queue new_queue) × (new_late ≡ without_flags old.late q.picks)

-- the entries that a pass decides on are appended to the queue
abbrev pub Decides : Type 0 → (ℕ → Option ℕ) → ℕ → Set → Set → Parts → (ℕ → Bool) → Parts → List Entry → List Entry → Type 0
Decides Exact place pass late new_late parts found new_parts old new =
    (d : DecidesFlagged Exact place (contains late) pass (length old) parts found new_parts old new) × (new_late ≡ without_flags late d.picks)

-- the same over a host with ephemerons
abbrev pub DecidesKeyed : Type 0 → (ℕ → Option ℕ) → (Map Object → ℕ → Option ℕ) → ℕ → Set → Set → Parts → Ephemerons → (ℕ → Bool) → Parts → Ephemerons → List Entry → List Entry → Type 0
DecidesKeyed Exact place value pass late new_late parts ephemerons found new_parts new_ephemerons old new =
    (d : DecidesWhole Exact place value (contains late) pass (length old) parts ephemerons found new_parts new_ephemerons old new) × (new_late ≡ without_flags late d.picks)
