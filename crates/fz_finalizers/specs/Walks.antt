-- What iterators yield.
-- code: fz_finalizers/src/walks.rt, roots.rt
use Rattle.std.specs.Prelude.{◌≡◌, ℕ, ◌-◌, ◌≤◌, nat_eq, List, [], ◌∷◌, ◌++◌, drop, length, map, Option, None, Some, option_map}
use Rattle.std.specs.FinMap.{from_entries}
use Rattle.std.specs.List.{IsDistinct}
use Rattle.std.specs.Map.{keys_of}
use Rattle.fz_model.specs.declared.answers.Entry.{Entry}
use Rattle.fz_model.specs.declared.answers.Registration.{Registration}
use Rattle.fz_model.specs.declared.kinds.LinkKind.{LinkKind}
use Rattle.fz_model.specs.declared.kinds.LinkKind.TheVariants.{Short, Long}
use Rattle.fz_table.specs.Tabled.{plain}
use Rattle.fz_finalizers.specs.declared.roots.Root.{Root}
use Rattle.fz_finalizers.specs.declared.roots.Root.TheVariants.{HeldObject, HeldData, RegisteredData}
use Rattle.fz_table.specs.declared.limits.TheConstants.{MOST_ENTRIES}
use Rattle.fz_finalizers.specs.declared.cleanups.Attached.{Attached}
use Rattle.fz_finalizers.specs.States.{State, View, links_of, unfinished}

-- the values of the places that have one
abbrev pub somes : {X : Type 0} → List (Option X) → List X
somes [] = []
somes (None ∷ xs) = somes xs
somes (Some x ∷ xs) = x ∷ somes xs

-- the remaining places of an iterator
abbrev pub IsRest : {X : Type 0} → List X → List X → Type 0
IsRest old new = new ≡ drop (length old - length new) old

-- an iterator moves to its next place that has a value, or none remains
abbrev pub Steps : {X : Type 0} → Option X → List (Option X) → List (Option X) → Type 0
Steps None old new = (somes old ≡ []) × (new ≡ old)
Steps (Some x) old new = (somes old ≡ x ∷ somes new) × IsRest old new

-- the client data of registrations and cleanups
abbrev pub data_of : List (ℕ × Registration) → List (ℕ × Attached) → List ℕ
data_of registrations cleanups = map (λ (e : ℕ × Registration). e.1.cd) registrations ++ map (λ (e : ℕ × Attached). e.1.cleanup.client_data) cleanups

-- the words of one kind of roots, at the places of these entries, or these data
abbrev pub words_left : Root → List (Option Entry) → List ℕ → List (Option ℕ)
words_left HeldObject entries registered = map (option_map (λ (e : Entry). e.obj)) entries
words_left HeldData entries registered = map (option_map (λ (e : Entry). e.cd)) entries
words_left RegisteredData entries registered = map Some registered

-- the words of one kind of roots
abbrev pub words_of : Root → List Entry → List ℕ → List ℕ
words_of HeldObject entries registered = map (λ (e : Entry). e.obj) entries
words_of HeldData entries registered = map (λ (e : Entry). e.cd) entries
words_of RegisteredData entries registered = registered

-- these are the registrations, each once
abbrev pub AreRegistrations : State → List (ℕ × Registration) → Type 0
AreRegistrations s registrations = (from_entries registrations ≡ s.registrations) × IsDistinct nat_eq (keys_of registrations)

-- these are the cleanups, each once
abbrev pub AreCleanups : State → List (ℕ × Attached) → Type 0
AreCleanups s cleanups = (from_entries cleanups ≡ s.cleanups) × IsDistinct nat_eq (keys_of cleanups)

-- these are the links of one kind, each once
abbrev pub AreLinks : State → LinkKind → List (ℕ × ℕ) → Type 0
AreLinks s kind links = (from_entries links ≡ links_of s kind) × IsDistinct nat_eq (keys_of links)

-- what an iterator over one kind of roots yields
abbrev pub YieldsRoots : Root → State → List ℕ → Type 0
YieldsRoots root s words =
    (registrations : List (ℕ × Registration)) × (cleanups : List (ℕ × Attached)) × AreRegistrations s registrations × AreCleanups s cleanups
    × (words ≡ words_of root (unfinished s) (data_of registrations cleanups))

-- the order of iterators over registrations, over the links of one kind, and over the roots of one kind: it stays the same until something changes
abbrev pub registrations_in_order : View → List (ℕ × Registration)
registrations_in_order v = map plain v.order.registrations

abbrev pub links_in_order : View → LinkKind → List (ℕ × ℕ)
links_in_order v Short = v.order.short
links_in_order v Long = v.order.long

abbrev pub roots_of : Root → View → List (Option ℕ)
roots_of root v = words_left root v.order.entries (data_of (registrations_in_order v) v.order.cleanups)

-- neither of an iterator's tables has more than a table can have
pub record AreShort (registrations : List (ℕ × Registration)) (cleanups : List (ℕ × Attached)) : Type 0 where
  pub registered : length registrations ≤ MOST_ENTRIES
  pub attached : length cleanups ≤ MOST_ENTRIES
