-- The regions of objects and words: where those of items may lie, and what words say about them.
-- code: fz_machine/src/regions.rt
use Rattle.std.specs.Prelude.{◌≡◌, ℕ, ◌-◌, ◌*◌, ◌/◌, ◌%◌, ◌≤◌, Bool, false, not, if◌then◌else◌, List, [], length, Some, slice_index_or, nat_eq, is_some, IsTrue, refl}
use Rattle.std.specs.Coded.{Coded, code_by, coded×, coded_ℕ, coded_list, coded_bool}
use Rattle.std.specs.FinMap.{get, len, contains_key}
use Rattle.std.specs.List.{IsDistinct}
use Rattle.std.specs.Map.{keys_of, lookup}
use Rattle.std.specs.Option.{option_map_or}
use Rattle.fz_model.specs.declared.kinds.LinkKind.{LinkKind}
use Rattle.fz_model.specs.declared.kinds.LinkKind.TheVariants.{Short, Long}
use Rattle.fz_model.specs.Bits.{has_bit}
use Rattle.fz_finalizers.specs.declared.cleanups.Attached.{Attached}
use Rattle.fz_finalizers.specs.Cleanups.{is_when}
use Rattle.fz_finalizers.specs.States.{State}
use Rattle.fz_machine.specs.declared.regions.Noted.{Noted}
use Rattle.fz_machine.specs.declared.phase.Sweep.{Sweep}
use Rattle.fz_machine.specs.declared.phase.Sweep.TheVariants.{ShortCleanups, ShortTargets, Objects, LongTargets, ShortHolders, LongHolders, LongCleanups}

-- the place of an object or a word in its region, and where the region begins: a region has 64 places, 16 bytes apart
abbrev pub place_in : ℕ → ℕ
place_in n = n / 16 % 64

abbrev pub region_of : ℕ → ℕ
region_of n = n - 16 * place_in n

-- whether a bit of the word of its region is set, for a word that a list of regions has
abbrev pub has_place : List (ℕ × ℕ) → ℕ → Bool
has_place regions n = option_map_or (λ (bits : ℕ). has_bit bits (place_in n)) (lookup (nat_eq (region_of n)) regions) false

-- an object or a word is noted: in its region the bit of its place is set
abbrev pub IsNoted : List (ℕ × ℕ) → ℕ → Type 0
IsNoted regions n = IsTrue (has_place regions n)

-- what was told of regions, with a word for each: an object, or a word, is told marked if its bit is set, and unmarked if it isn't; of other regions nothing is
-- told
abbrev pub is_marked : List (ℕ × ℕ) → ℕ → Bool
is_marked told n = has_place told n

abbrev pub is_unmarked : List (ℕ × ℕ) → ℕ → Bool
is_unmarked told n = option_map_or (λ (word : ℕ). not (has_bit word (place_in n))) (lookup (nat_eq (region_of n)) told) false

-- the objects or words of the items that a sweep is about
abbrev pub IsOfSweep : Sweep → State → ℕ → Type 0
IsOfSweep ShortCleanups s n = (number : ℕ) × (c : Attached) × (get s.cleanups number ≡ Some c) × IsTrue (is_when Short c.cleanup.when) × (c.object ≡ n)
IsOfSweep ShortTargets s n = (word : ℕ) × (get s.short word ≡ Some n)
IsOfSweep Objects s n = IsTrue (contains_key s.registrations n)
IsOfSweep LongTargets s n = (word : ℕ) × (get s.long word ≡ Some n)
IsOfSweep ShortHolders s n = IsTrue (contains_key s.short n)
IsOfSweep LongHolders s n = IsTrue (contains_key s.long n)
IsOfSweep LongCleanups s n = (number : ℕ) × (c : Attached) × (get s.cleanups number ≡ Some c) × IsTrue (is_when Long c.cleanup.when) × (c.object ≡ n)

-- at most how many there are
abbrev pub most_of : Sweep → State → ℕ
most_of ShortCleanups s = len s.cleanups
most_of ShortTargets s = len s.short
most_of Objects s = len s.registrations
most_of LongTargets s = len s.long
most_of ShortHolders s = len s.short
most_of LongHolders s = len s.long
most_of LongCleanups s = len s.cleanups

-- each of them is noted
abbrev pub AreNoted : Sweep → State → List (ℕ × ℕ) → Type 0
AreNoted sweep s regions = (n : ℕ) → IsOfSweep sweep s n → IsNoted regions n

-- a table of regions: all of them, in order, each with the bits of its noted places; what was told of the first ones in an open sweep; the first addresses of
-- those of which it isn't told yet; how many of these the last question was about; and whether all that should be noted is
pub record Regions : Type 0 where
  pub order : List (ℕ × ℕ)
  pub told : List (ℕ × ℕ)
  pub left : List ℕ
  pub asked : ℕ
  pub complete : Bool

abbrev pub regions_code : Coded Regions
regions_code =
    code_by (List (ℕ × ℕ) × (List (ℕ × ℕ) × (List ℕ × (ℕ × Bool))))
    (coded× (coded_list (coded× coded_ℕ coded_ℕ)) (coded× (coded_list (coded× coded_ℕ coded_ℕ)) (coded× (coded_list coded_ℕ) (coded× coded_ℕ coded_bool)))) (λ r. (r.order, (r.told, (r.left, (r.asked, r.complete)))))
    (λ p. record { order = p.0; told = p.1.0; left = p.1.1.0; asked = p.1.1.1.0; complete = p.1.1.1.1 }) (λ _. refl)

-- a region of a table with the bits of its noted places, and with the word that was told
abbrev pub placed : ℕ × Noted → ℕ × ℕ
placed e = (e.0, e.1.places)

abbrev pub worded : ℕ × Noted → ℕ × ℕ
worded e = (e.0, e.1.told)

-- the invariant of a table: no region is there twice, and each begins where a region does
pub record AreRegions (regions : List (ℕ × Noted)) : Type 0 where
  pub once : IsDistinct nat_eq (keys_of regions)
  pub begin : (region : ℕ) → IsTrue (is_some (lookup (nat_eq region) regions)) → place_in region ≡ 0

-- no sweep is open
abbrev pub IsUntold : Regions → Type 0
IsUntold r = (r.told ≡ []) × (r.left ≡ []) × (r.asked ≡ 0)

-- the tables, one for each sweep, and their numbers
abbrev pub index_of : Sweep → ℕ
index_of ShortCleanups = 0
index_of ShortTargets = 1
index_of Objects = 2
index_of LongTargets = 3
index_of ShortHolders = 4
index_of LongHolders = 5
index_of LongCleanups = 6

abbrev pub no_regions : Regions
no_regions = record { order = []; told = []; left = []; asked = 0; complete = false }

abbrev pub table_at : List Regions → Sweep → Regions
table_at tables sweep = slice_index_or tables (index_of sweep) no_regions

-- something more is noted in a table: what was noted still is, and what was told stays
pub record KeepsTable (old new : Regions) : Type 0 where
  pub same : new ≡ record old { order = new.order; complete = new.complete }
  pub complete : IsTrue new.complete → IsTrue old.complete
  pub kept : (n : ℕ) → IsNoted old.order n → IsNoted new.order n

-- the table of a sweep at its end: all that should be noted is, and each region was told; or the table isn't complete, and nothing was told
pub record IsTold (sweep : Sweep) (s : State) (t : Regions) : Type 0 where
  pub noted : IsTrue t.complete → AreNoted sweep s t.order
  pub whole : IsTrue t.complete → keys_of t.told ≡ keys_of t.order
  pub lacking : t.complete ≡ false → t.told ≡ []

-- the table once the items that weren't told marked are listed
pub record IsRenoted (sweep : Sweep) (s : State) (old new : Regions) : Type 0 where
  pub untold : IsUntold new
  pub same : new.complete ≡ old.complete
  pub noted : IsTrue new.complete → AreNoted sweep s new.order
  pub fewer : length new.order ≤ length old.order

-- the sweeps about links of a kind and about cleanups of a moment
abbrev pub targets : LinkKind → Sweep
targets Short = ShortTargets
targets Long = LongTargets

abbrev pub holders : LinkKind → Sweep
holders Short = ShortHolders
holders Long = LongHolders

abbrev pub attached : LinkKind → Sweep
attached Short = ShortCleanups
attached Long = LongCleanups

-- the sweep about the words of links of a kind, or about their targets
abbrev pub link_sweep : Bool → LinkKind → Sweep
link_sweep words kind = if words then holders kind else targets kind

-- the words are those of all regions, or none
pub record IsWhole (t : Regions) : Type 0 where
  pub whole : IsTrue t.complete → keys_of t.told ≡ keys_of t.order
  pub lacking : t.complete ≡ false → t.told ≡ []

-- an object or a word is noted again, if its region is there; nothing else changes
pub record IsLooked (n : ℕ) (old new : Regions) : Type 0 where
  pub same : new ≡ record old { order = new.order }
  pub keys : keys_of new.order ≡ keys_of old.order
  pub kept : (other : ℕ) → IsNoted old.order other → IsNoted new.order other
  pub noted : IsTrue old.complete → IsTrue (is_some (lookup (nat_eq (region_of n)) old.order)) → IsNoted new.order n

-- a sweep begins, if its table is complete, or it ends early
abbrev pub begun : Regions → Regions
begun t = record t { told = []; left = if t.complete then keys_of t.order else []; asked = 0 }

abbrev pub stopped : Regions → Regions
stopped t = record t { told = []; left = []; asked = 0 }
