-- What the readers show to C.
-- code: fz_c/src/machine/shown.rt, walks.rt
use Rattle.std.specs.Prelude.{◌≡◌, ◌⊎◌, ℕ, ◌≤◌, ◌<◌, min, nat_eq, zero, suc, Bool, true, false, List, drop, map, take, length, Option, Some, None}
use Rattle.std.specs.FinMap.{from_entries, get, len}
use Rattle.std.specs.List.{IsDistinct}
use Rattle.std.specs.Map.{keys_of}
use Rattle.fz_model.specs.declared.answers.Registration as answers
use Rattle.fz_model.specs.declared.kinds.LinkKind.{LinkKind}
use Rattle.fz_model.specs.declared.kinds.LinkKind.TheVariants.{Short, Long}
use Rattle.fz_model.specs.State.{Map}
use Rattle.fz_finalizers.specs.declared.cleanups.Attached.{Attached}
use Rattle.fz_finalizers.specs.declared.kinds.Kind.{Kind}
use Rattle.fz_finalizers.specs.declared.kinds.Kind.TheVariants.{Normal, IgnoreSelf, NoOrder, Unreachable}
use Rattle.fz_finalizers.specs.declared.roots.Root.{Root}
use Rattle.fz_finalizers.specs.declared.roots.Root.TheVariants.{HeldObject, HeldData, RegisteredData}
use Rattle.fz_pass.specs.Keyed.{ephemeron_at, of_kind}
use Rattle.fz_finalizers.specs.States.{State, View, kind_at, links_of, waiting}
use Rattle.fz_finalizers.specs.Walks.{AreCleanups, AreRegistrations, YieldsRoots, links_in_order, registrations_in_order, roots_of, somes}
use Rattle.fz_c.specs.declared.machine.codes.TheConstants.{OK, EMPTY}
use Rattle.fz_c.specs.declared.machine.shown.TheConstants.{WORDS}
use Rattle.fz_c.specs.declared.machine.shown.CleanupAt.{CleanupAt}
use Rattle.fz_c.specs.declared.machine.shown.Counts.{Counts}
use Rattle.fz_c.specs.declared.machine.shown.KeyAt.{KeyAt}
use Rattle.fz_c.specs.declared.machine.shown.RegistrationAt.{RegistrationAt}
use Rattle.fz_c.specs.declared.machine.shown.Words.{Words}
use Rattle.fz_c.specs.declared.machine.walks.TheConstants.{PART}
use Rattle.fz_c.specs.declared.machine.walks.Cleanups.{Cleanups}
use Rattle.fz_c.specs.declared.machine.walks.Linked.{Linked}
use Rattle.fz_c.specs.declared.machine.walks.Links.{Links}
use Rattle.fz_c.specs.declared.machine.walks.Registrations.{Registrations}

abbrev pub root_of : ℕ → Root
root_of zero = HeldObject
root_of (suc zero) = HeldData
root_of (suc (suc n)) = RegisteredData

abbrev pub kind_number : Option Kind → ℕ
kind_number None = 0
kind_number (Some Normal) = 0
kind_number (Some IgnoreSelf) = 1
kind_number (Some NoOrder) = 2
kind_number (Some Unreachable) = 3

abbrev pub IsCounted : State → Counts → Type 0
IsCounted s told =
    told ≡ record { registrations = len s.registrations; short_links = len s.short; long_links = len s.long; short_ephemerons = len s.ephemerons.short; long_ephemerons = len s.ephemerons.long; cleanups = len s.cleanups; waiting = length (waiting s); held = length s.held; queued = length s.queue; passes = s.passes }

-- the part of a list from an index on, as much as fits, so that the iteration continues after it; or nothing remains, and C's variable is unchanged
abbrev pub ShowsFrom : {X Told : Type 0} → ℕ → List X → (Told → ℕ) → (Told → List X) → ℕ → ℕ → Told → Told → Type 0
ShowsFrom room all count part from code old told =
    ((code ≡ EMPTY) × (length all ≤ from) × (told ≡ old))
    ⊎ ((code ≡ OK) × (from < length all) × (count told ≡ min room (length (drop from all))) × (take (count told) (part told) ≡ take (count told) (drop from all)))

-- the words of an iteration from a place on, as many as fit, and the place from which it continues; or nothing remains, or none is asked for, and C's
-- variable is unchanged
abbrev pub ShowsWords : ℕ → List (Option ℕ) → ℕ → ℕ → Words → Words → Type 0
ShowsWords room all from code old told =
    ((code ≡ EMPTY) × (min room (length (somes (drop from all))) ≡ 0) × (told ≡ old))
    ⊎ ((code ≡ OK) × (0 < told.count) × (told.count ≡ min room (length (somes (drop from all))))
    × (take told.count told.words ≡ take told.count (somes (drop from all))) × (somes (drop told.next all) ≡ drop told.count (somes (drop from all))))

abbrev pub ShowsRoots : Root → View → ℕ → ℕ → ℕ → Words → Words → Type 0
ShowsRoots root v from most code old told = YieldsRoots root v.state (somes (roots_of root v)) × ShowsWords (min WORDS most) (roots_of root v) from code old told

-- an object's registration, a link or an ephemeron, a word's ephemeron, and a cleanup, as C represents them
abbrev pub registration_told : State → ℕ × answers.Registration → RegistrationAt
registration_told s e = record { object = e.0; number = e.1.number; proc = e.1.proc; cd = e.1.cd; kind = kind_number (kind_at s e.0); rank = e.1.rank }

abbrev pub link_told : ℕ × ℕ → Linked
link_told e = record { word = e.0; target = e.1 }

abbrev pub is_long : LinkKind → Bool
is_long Short = false
is_long Long = true

abbrev pub key_told : LinkKind × ℕ → KeyAt
key_told e = record { key = e.1; is_long = is_long e.0 }

abbrev pub cleanup_told : ℕ × Attached → CleanupAt
cleanup_told e = record { number = e.0; object = e.1.object; proc = e.1.cleanup.procedure; cd = e.1.cleanup.client_data; is_long = is_long e.1.cleanup.when; rank = e.1.cleanup.rank }

abbrev pub ShowsRegistrations : View → ℕ → ℕ → Registrations → Registrations → Type 0
ShowsRegistrations v from code old told =
    AreRegistrations v.state (registrations_in_order v)
    × ShowsFrom PART (map (registration_told v.state) (registrations_in_order v)) (λ (t : Registrations). t.count) (λ (t : Registrations). t.registrations) from code old told

-- these are the entries of a table, each once
abbrev pub AreEntries : Map ℕ → List (ℕ × ℕ) → Type 0
AreEntries table entries = (from_entries entries ≡ table) × IsDistinct nat_eq (keys_of entries)

-- a table of links or of ephemerons, in this order
abbrev pub ShowsTable : Map ℕ → List (ℕ × ℕ) → ℕ → ℕ → Links → Links → Type 0
ShowsTable table entries from code old told =
    AreEntries table entries × ShowsFrom PART (map link_told entries) (λ (t : Links). t.count) (λ (t : Links). t.links) from code old told

abbrev pub ShowsLinks : LinkKind → View → ℕ → ℕ → Links → Links → Type 0
ShowsLinks kind v = ShowsTable (links_of v.state kind) (links_in_order v kind)

-- in some order, of which no other call says that it is the same
abbrev pub ShowsEphemerons : LinkKind → View → ℕ → ℕ → Links → Links → Type 0
ShowsEphemerons kind v from code old told = (entries : List (ℕ × ℕ)) × ShowsTable (of_kind v.ephemerons kind) entries from code old told

abbrev pub ShowsCleanups : View → ℕ → ℕ → Cleanups → Cleanups → Type 0
ShowsCleanups v from code old told =
    AreCleanups v.state v.order.cleanups
    × ShowsFrom PART (map cleanup_told v.order.cleanups) (λ (t : Cleanups). t.count) (λ (t : Cleanups). t.cleanups) from code old told

-- what is found is stored in C's variable; if nothing is found, the variable is unchanged
abbrev pub ShowsFound : {X Told : Type 0} → Option X → (X → Told) → ℕ → Told → Told → Type 0
ShowsFound None tell code old told = (code ≡ EMPTY) × (told ≡ old)
ShowsFound (Some x) tell code old told = (code ≡ OK) × (told ≡ tell x)

abbrev pub ShowsRegistration : State → ℕ → ℕ → RegistrationAt → RegistrationAt → Type 0
ShowsRegistration s object = ShowsFound (get s.registrations object) (λ (r : answers.Registration). registration_told s (object, r))

abbrev pub ShowsCleanup : State → ℕ → ℕ → CleanupAt → CleanupAt → Type 0
ShowsCleanup s number = ShowsFound (get s.cleanups number) (λ (c : Attached). cleanup_told (number, c))

abbrev pub ShowsKey : State → ℕ → ℕ → KeyAt → KeyAt → Type 0
ShowsKey s word = ShowsFound (ephemeron_at s.ephemerons word) key_told

abbrev pub ShowsTarget : Map ℕ → ℕ → ℕ → ℕ → ℕ → Type 0
ShowsTarget links word = ShowsFound (get links word) (λ (target : ℕ). target)
