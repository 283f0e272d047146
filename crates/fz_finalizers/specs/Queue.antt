-- The model of the queue: every entry ever queued; the entries that aren't finished, whether they wait or were taken, which are called held in this file; the
-- number from which on the queue is in memory; how many entries are in memory; for how many more there is room; and the places of the held entries.
-- code: fz_finalizers/src/queue.rt, stored.rt, past.rt, unfinished.rt
use Rattle.std.specs.Prelude.{◌≡◌, ◌≢◌, ℕ, ◌+◌, ◌^◌, ◌<◌, ◌≤◌, ◌⊎◌, ◌++◌, ◌&&◌, nat_le, nat_lt, if◌then◌else◌, Bool, List, [], ◌∷◌, length, drop, map, slice_get, Option, None, Some, All, Contains, IsTrue, MatchOption, refl}
use Rattle.std.specs.Coded.{Coded, code_by, coded×, coded_ℕ, coded_list, coded_option}
use Rattle.std.specs.FinSet.{contains}
use Rattle.fz_model.specs.declared.answers.Entry.{Entry}
use Rattle.fz_model.specs.declared.answers.Pick.{Pick}
use Rattle.fz_model.specs.Codes.{entry_code}
use Rattle.fz_model.specs.Pass.{entries_of}
use Rattle.std.specs.FinMap.{get}
use Rattle.fz_bits.specs.Flags.{Set}
use Rattle.fz_model.specs.State.{Map}
use Rattle.fz_finalizers.specs.declared.cleanups.Attached.{Attached}
use Rattle.fz_finalizers.specs.Cleanups.{AreDue, pick_of, ranked, without}

pub record Queue : Type 0 where
  pub queue : List Entry
  pub held : List Entry
  pub forgotten : ℕ
  pub remembered : ℕ
  pub room : ℕ
  pub places : List (Option Entry)  -- for each index in memory the entry, or none if it is finished

abbrev pub queue_code : Coded Queue
queue_code =
    code_by (List Entry × (List Entry × (ℕ × (ℕ × (ℕ × List (Option Entry))))))
    (coded× (coded_list entry_code) (coded× (coded_list entry_code) (coded× coded_ℕ (coded× coded_ℕ (coded× coded_ℕ (coded_list (coded_option entry_code)))))))
    (λ r. (r.queue, (r.held, (r.forgotten, (r.remembered, (r.room, r.places)))))) (λ p. record { queue = p.0; held = p.1.0; forgotten = p.1.1.0; remembered = p.1.1.1.0; room = p.1.1.1.1.0; places = p.1.1.1.1.1 })
    (λ _. refl)

-- from `first` up to but excluding `end`
abbrev pub is_between : ℕ → ℕ → ℕ → Bool
is_between first end n = nat_le first n && nat_lt n end

-- the entries of a pass's picks are appended, and are held
pub record GainsPicks (pass : ℕ) (picks : List Pick) (old new : Queue) : Type 0 where
  pub queue : new.queue ≡ old.queue ++ entries_of pass (length old.queue) picks
  pub held : new.held ≡ old.held ++ entries_of pass (length old.queue) picks
  pub forgotten : new.forgotten ≡ old.forgotten

-- the same for a pass whose picks are those that the queue gained
abbrev pub Gains : ℕ → Queue → Queue → Type 0
Gains pass old new = (picks : List Pick) × GainsPicks pass picks old new

-- the due cleanups leave the table, and their entries are appended
abbrev pub CleansOut : ℕ → (Attached → Bool) → Map Attached → Map Attached → List Entry → List Entry → Type 0
CleansOut pass is_due old new queue new_queue =
    (due : List (ℕ × Attached)) × AreDue is_due old due × (new ≡ without old due) × (new_queue ≡ queue ++ entries_of pass (length queue) (map pick_of due))

-- the unfinished entries: some early ones, and then all from this number on
abbrev pub AreOpenFrom : ℕ → List Entry → List Entry → Type 0
AreOpenFrom taken queue held = (early : List Entry) × (held ≡ early ++ drop taken queue)

-- the first of these entries with a number of at least `from`
pub record IsNextHeld (held : List Entry) (from : ℕ) (e : Entry) : Type 0 where
  pub member : Contains held e
  pub after : from ≤ e.seq
  pub others : (d : Entry) → Contains held d → (d.seq < from) ⊎ ((d ≡ e) ⊎ (e.seq < d.seq))

-- the entry with a number among these, or none if there is none
abbrev pub IsFoundIn : List Entry → ℕ → Option Entry → Type 0
IsFoundIn held number found = MatchOption found ((e : Entry) → Contains held e → e.seq ≢ number) (λ e. Contains held e × (e.seq ≡ number))

-- the first of these from a number on, or none if there is none
abbrev pub IsFirstHeldFrom : List Entry → ℕ → Option Entry → Type 0
IsFirstHeldFrom held from found = MatchOption found ((e : Entry) → Contains held e → e.seq < from) (IsNextHeld held from)

-- The rest is for proofs alone: how listed cleanups are queued, which entries are in memory, and at which index.

-- the listed cleanups leave the table, and their entries are appended
pub record TakesListed (pass : ℕ) (listed : List (ℕ × ℕ)) (old new : Map Attached) (queue new_queue : Queue) : Type 0 where
  pub due : List (ℕ × Attached)
  pub ranks : map ranked due ≡ listed
  pub each : All (λ (x : ℕ × Attached). get old x.0 ≡ Some x.1) due
  pub left : new ≡ without old due
  pub gained : GainsPicks pass (map pick_of due) queue new_queue

-- the entries at the indices in the set; the first entry has the index `first`
abbrev pub placed_in : Set → ℕ → List Entry → List Entry
placed_in places first [] = []
placed_in places first (e ∷ es) = if contains places first then e ∷ placed_in places (first + 1) es else placed_in places (first + 1) es

-- the same, with none at all other indices
abbrev pub shown_in : Set → ℕ → List Entry → List (Option Entry)
shown_in places first [] = []
shown_in places first (e ∷ es) = (if contains places first then Some e else None) ∷ shown_in places (first + 1) es

-- the entries have successive numbers from `first` on
abbrev pub AreNumbered : ℕ → List Entry → Type 0
AreNumbered first [] = Unit {0}
AreNumbered first (e ∷ es) = (e.seq ≡ first) × AreNumbered (first + 1) es

-- entries from before the window, in ascending order of their numbers, followed by the window, which begins with number `first`
pub record AreStored (entries : List Entry) (kept first : ℕ) : Type 0 where
  pub few : kept ≤ length entries
  pub early : (place : ℕ) (e : Entry) → slice_get entries place ≡ Some e → place < kept → e.seq < first
  pub rising : (place later : ℕ) (d e : Entry) → slice_get entries place ≡ Some d → slice_get entries later ≡ Some e → place < later → later < kept → d.seq < e.seq
  pub numbered : AreNumbered first (drop kept entries)

-- the set contains the indices of the held entries, and `outstanding` is their number
pub record IsReady (past entries : List Entry) (kept first : ℕ) (held : Set) (outstanding : ℕ) : Type 0 where
  pub stored : AreStored entries kept first
  pub past_is : first ≡ length past
  pub numbers : first + length (drop kept entries) < 2 ^ 64
  pub within : (n : ℕ) → IsTrue (contains held n) → n < length entries
  pub counted : outstanding ≡ length (placed_in held 0 entries)

-- the first index whose number is at least `number`, or an index after all entries
pub record IsPlaceOf (entries : List Entry) (number place : ℕ) : Type 0 where
  pub before : (k : ℕ) (e : Entry) → slice_get entries k ≡ Some e → k < place → e.seq < number
  pub after : (k : ℕ) (e : Entry) → slice_get entries k ≡ Some e → place ≤ k → number ≤ e.seq
