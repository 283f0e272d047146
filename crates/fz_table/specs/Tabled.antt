-- The model of a table: its content, for which objects the flag of the kind unreachable is set, how many more registrations fit without allocating, and the
-- order of its iterators.
-- code: fz_table/src/table.rt, stored.rt, registrations.rt
use Rattle.std.specs.Prelude.{◌≡◌, ℕ, ◌+◌, ◌-◌, ◌≤◌, Bool, true, false, if◌then◌else◌, List, map, nat_eq, refl}
use Rattle.std.specs.Coded.{Coded, code_by, coded×, coded_ℕ, coded_bool, coded_list}
use Rattle.std.specs.FinMap.{from_entries}
use Rattle.std.specs.FinMap as maps
use Rattle.std.specs.FinSet.{FinSet, insert, remove, retain, from_list}
use Rattle.std.specs.FinSet as sets
use Rattle.std.specs.Map.{keys_of, lookup}
use Rattle.std.specs.Option.{option_map_or}
use Rattle.std.specs.Ordering.{nat_cmp}
use Rattle.fz_model.specs.declared.answers.Registration.{Registration}
use Rattle.fz_model.specs.declared.kinds.RegKind.{RegKind}
use Rattle.fz_model.specs.Codes.{reg_kind_code}
use Rattle.fz_table.specs.declared.limits.TheConstants.{MOST_ENTRIES}
use Rattle.fz_table.specs.declared.stored.Stored.{Stored}
use Rattle.fz_table.specs.Registered.{Registered, registered_code}

-- a set of objects
abbrev pub Set : Type 0
Set = FinSet nat_cmp

-- a registration without its flag, and the same with its object
abbrev pub shown : Stored → Registration
shown s = record { number = s.number; proc = s.proc; cd = s.cd; kind = s.kind; rank = s.rank }

abbrev pub plain : ℕ × Stored → ℕ × Registration
plain e = (e.0, shown e.1)

-- whether an object's flag is set, and the objects whose flag is
abbrev pub flag_at : List (ℕ × Stored) → ℕ → Bool
flag_at es object = option_map_or (λ (s : Stored). s.unreachable) (lookup (nat_eq object) es) false

abbrev pub flagged : List (ℕ × Stored) → Set
flagged es = retain (from_list (keys_of es)) (flag_at es)

-- the set after an object's flag is set or cleared
abbrev pub with_flag : Set → ℕ → Bool → Set
with_flag late object true = insert late object
with_flag late object false = remove late object

-- how many flags there are then, if the object's flag was this
abbrev pub counted : ℕ → Bool → Bool → ℕ
counted flags was true = if was then flags else flags + 1
counted flags was false = if was then flags - 1 else flags

-- the registrations, and which of them are of the kind unreachable
pub record Content : Type 0 where
  pub registered : Registered
  pub open registered use *
  pub late : Set

pub record Tabled : Type 0 where
  pub content : Content
  pub open content use *
  pub room : ℕ
  pub order : List (ℕ × Stored)  -- the content, each registration once

abbrev pub content_of : List (ℕ × Stored) → ℕ → Content
content_of es next_number = record { registered = record { registrations = from_entries (map plain es); next_number = next_number }; late = flagged es }

-- the invariant between a table's parts
pub record IsTable (es : List (ℕ × Stored)) (next_number flags : ℕ) : Type 0 where
  pub few : maps.len (from_entries {R = nat_cmp} (map plain es)) ≤ MOST_ENTRIES
  pub flags_are : sets.len (flagged es) ≡ flags
  pub fewer : flags ≤ next_number

abbrev pub stored_code : Coded Stored
stored_code =
    code_by (ℕ × (RegKind × (ℕ × (ℕ × (ℕ × Bool))))) (coded× coded_ℕ (coded× reg_kind_code (coded× coded_ℕ (coded× coded_ℕ (coded× coded_ℕ coded_bool)))))
    (λ s. (s.number, (s.kind, (s.proc, (s.cd, (s.rank, s.unreachable))))))
    (λ p. record { number = p.0; kind = p.1.0; proc = p.1.1.0; cd = p.1.1.1.0; rank = p.1.1.1.1.0; unreachable = p.1.1.1.1.1 }) (λ _. refl)

abbrev pub tabled_code : Coded Tabled
tabled_code =
    code_by ((Registered × Set) × (ℕ × List (ℕ × Stored))) (coded× (coded× registered_code (sets.code coded_ℕ)) (coded× coded_ℕ (coded_list (coded× coded_ℕ stored_code))))
    (λ t. ((t.registered, t.late), (t.room, t.order)))
    (λ p. record { content = record { registered = p.0.0; late = p.0.1 }; room = p.1.0; order = p.1.1 }) (λ _. refl)
