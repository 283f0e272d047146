-- Cleanups: what is queued, without its object, when an object is lost. An object may have any number of them.
-- code: fz_finalizers/src/cleanups.rt, cleaning.rt
use Rattle.std.specs.Prelude.{◌≡◌, ℕ, Bool, true, false, not, ◌&&◌, ◌<◌, ◌⊎◌, ◌≤◌, List, [], ◌∷◌, Some, Contains, All, AllPairs, IsTrue, refl}
use Rattle.std.specs.Coded.{Coded, code_by, coded×, coded_ℕ, coded_bool, coded_list}
use Rattle.std.specs.FinMap as maps
use Rattle.std.specs.FinMap.{get, remove}
use Rattle.fz_model.specs.declared.answers.Pick.{Pick}
use Rattle.fz_model.specs.declared.kinds.LinkKind.{LinkKind}
use Rattle.fz_model.specs.declared.kinds.LinkKind.TheVariants.{Short, Long}
use Rattle.fz_model.specs.State.{Map}
use Rattle.fz_table.specs.declared.limits.TheConstants.{MOST_ENTRIES}
use Rattle.fz_finalizers.specs.declared.cleanups.Attached.{Attached}

abbrev pub is_when : LinkKind → LinkKind → Bool
is_when Short Short = true
is_when Short Long = false
is_when Long Short = false
is_when Long Long = true

-- a cleanup of this moment is due if its object isn't in the set: for a short one the found objects, for a long one the retained ones
abbrev pub is_due : LinkKind → (ℕ → Bool) → Attached → Bool
is_due when set c = is_when when c.cleanup.when && not (set c.object)

-- the order of cleanups, each with its number: by rank, then number
abbrev pub ComesFirst : ℕ × Attached → ℕ × Attached → Type 0
ComesFirst x y = (x.1.cleanup.rank < y.1.cleanup.rank) ⊎ ((x.1.cleanup.rank ≡ y.1.cleanup.rank) × (x.0 < y.0))

-- all due cleanups, in order
pub record AreDue (is_due : Attached → Bool) (cleanups : Map Attached) (due : List (ℕ × Attached)) : Type 0 where
  pub each : All (λ (x : ℕ × Attached). (get cleanups x.0 ≡ Some x.1) × IsTrue (is_due x.1)) due
  pub whole : (number : ℕ) (c : Attached) → get cleanups number ≡ Some c → IsTrue (is_due c) → Contains due (number, c)
  pub ordered : AllPairs ComesFirst due

-- the cleanups except these
abbrev pub without : Map Attached → List (ℕ × Attached) → Map Attached
without cleanups [] = cleanups
without cleanups (x ∷ xs) = without (remove cleanups x.0) xs

-- the entry of a cleanup has its number, and no object
abbrev pub pick_of : ℕ × Attached → Pick
pick_of x = record { reg = x.0; obj = 0; birth = 0; proc = x.1.cleanup.procedure; cd = x.1.cleanup.client_data }

-- The model of the table: the cleanups by number, how many more fit without allocating, and the order of iterators.
pub record Cleanups : Type 0 where
  pub cleanups : Map Attached
  pub room : ℕ
  pub order : List (ℕ × Attached)

abbrev link_kind_code : Coded LinkKind
link_kind_code = code_by Bool coded_bool to back same
  where
    to : LinkKind → Bool
    to Short = true
    to Long = false

    back : Bool → LinkKind
    back true = Short
    back false = Long

    same : (k : LinkKind) → back (to k) ≡ k
    same Short = refl
    same Long = refl

abbrev pub attached_code : Coded Attached
attached_code =
    code_by (ℕ × (LinkKind × (ℕ × (ℕ × ℕ)))) (coded× coded_ℕ (coded× link_kind_code (coded× coded_ℕ (coded× coded_ℕ coded_ℕ))))
    (λ c. (c.object, (c.cleanup.when, (c.cleanup.procedure, (c.cleanup.client_data, c.cleanup.rank)))))
    (λ p. record { object = p.0; cleanup = record { when = p.1.0; procedure = p.1.1.0; client_data = p.1.1.1.0; rank = p.1.1.1.1 } }) (λ _. refl)

abbrev pub cleanups_code : Coded Cleanups
cleanups_code =
    code_by (Map Attached × (ℕ × List (ℕ × Attached))) (coded× (maps.code coded_ℕ attached_code) (coded× coded_ℕ (coded_list (coded× coded_ℕ attached_code))))
    (λ t. (t.cleanups, (t.room, t.order))) (λ p. record { cleanups = p.0; room = p.1.0; order = p.1.1 }) (λ _. refl)

-- at most as many as a table can have
abbrev pub AreFew : Map Attached → Type 0
AreFew cleanups = maps.len cleanups ≤ MOST_ENTRIES

-- The rest is for proofs alone: how due cleanups are listed, and leave the table one after another.

-- the rank and the number of a cleanup
abbrev pub ranked : ℕ × Attached → ℕ × ℕ
ranked x = (x.1.cleanup.rank, x.0)

-- a listed rank and number are those of a cleanup
abbrev pub IsListed : Map Attached → ℕ × ℕ → Type 0
IsListed cleanups x = (c : Attached) × (get cleanups x.1 ≡ Some c) × (c.cleanup.rank ≡ x.0)

-- all due cleanups are listed, and nothing else
pub record AreListed (is_due : Attached → Bool) (cleanups : Map Attached) (IsOrdered : List (ℕ × ℕ) → Type 0) (listed : List (ℕ × ℕ)) : Type 0 where
  pub ordered : IsOrdered listed
  pub each : All (λ (x : ℕ × ℕ). (c : Attached) × (get cleanups x.1 ≡ Some c) × (c.cleanup.rank ≡ x.0) × IsTrue (is_due c)) listed
  pub whole : (number : ℕ) (c : Attached) → get cleanups number ≡ Some c → IsTrue (is_due c) → Contains listed (c.cleanup.rank, number)
