-- What an ephemeron pair has, and what it has after a collection.
-- code: own_heap/src/ephemeron.rt, law.rt
use Rattle.std.specs.Prelude.{◌≡◌, ◌↔◌, ◌||◌, ℕ, Bool, List, Option, None, Some, IsTrue}
use Rattle.std.specs.FinMap.{get, contains_key}
use Rattle.fz_model.specs.State.{Map, Object}
use Rattle.fz_pass.specs.Holds.{Holds, IsOfKey}
use Rattle.fz_pass.specs.WholeLaws.{without_key}
use Rattle.fz_finalizers.specs.States.{State}
use Rattle.own_heap.specs.declared.record.Record.{Record}
use Rattle.own_heap.specs.declared.record.RecordId.{RecordId}
use Rattle.own_heap.specs.Outside.{place_of_link}
use Rattle.own_heap.specs.Records.{address_of, objects_of, value_of}
use Rattle.own_heap.specs.Collected.{Collects}
use Rattle.own_heap.specs.Sound.{IsSound}

-- the first field of a pair is an ephemeron of this key
abbrev pub HasKey : State → RecordId → RecordId → Type 0
HasKey s pair key = get s.ephemerons.short (address_of pair.place) ≡ Some (address_of key.place)

-- after a collection a pair that remains has the same key as before if that was found, and else none
abbrev pub PairsLoseKeys : List (Option Record) → List RecordId → State → Map Object → State → Type 0
PairsLoseKeys slots roots old left new = (c : Collects (objects_of slots) roots old left new) → (pair key : RecordId) → HasKey old pair key → IsTrue (contains_key left (address_of pair.place))
    → HasKey new pair key ↔ IsTrue (c.found (address_of key.place))

-- the marked records, and the registered ones
abbrev pub with_registered : (ℕ → Bool) → State → ℕ → Bool
with_registered traced s a = traced a || contains_key s.registrations a

-- an ephemeron never retains its own key: a key was found just if what was marked at first holds it without the ephemerons of which it is the key, and if it
-- remains, what was marked at first and the registered records hold it without them
abbrev pub KeysAreNotRetained : List (Option Record) → List RecordId → State → Map Object → State → Type 0
KeysAreNotRetained slots roots old left new = (c : Collects (objects_of slots) roots old left new) → (key : ℕ)
    → (IsTrue (c.found key) ↔ Holds place_of_link value_of (objects_of slots) (IsOfKey (without_key old.ephemerons key)) (λ a. IsTrue (c.traced a)) key)
    × (IsTrue (contains_key left key) → Holds place_of_link value_of (objects_of slots) (IsOfKey (without_key old.ephemerons key)) (λ a. IsTrue (with_registered c.traced old a)) key)

-- the field is no link, and no long ephemeron
abbrev pub IsOnlyKeyed : State → ℕ → Type 0
IsOnlyKeyed s word = (get s.short word ≡ None) × (get s.long word ≡ None) × (get s.ephemerons.long word ≡ None)

-- after a collection a pair that remains, and has its key, has its value, too
abbrev pub PairsKeepValues : List (Option Record) → List RecordId → State → List (Option Record) → State → Type 0
PairsKeepValues slots roots old left new = IsSound (objects_of slots) old → Collects (objects_of slots) roots old (objects_of left) new → (pair key value : RecordId)
    → IsOnlyKeyed old (address_of pair.place) → value_of (objects_of slots) (address_of pair.place) ≡ Some (address_of value.place)
    → IsTrue (contains_key (objects_of left) (address_of pair.place)) → HasKey new pair key → IsTrue (contains_key (objects_of left) (address_of key.place)) × (value_of (objects_of left) (address_of pair.place) ≡ Some (address_of value.place))
