-- The model of the dirty pages: how many pages there are, and which of them are dirty.
-- code: fz_dirty/src/lib.rt
use Rattle.std.specs.Prelude.{◌≡◌, ℕ, ◌<◌, ◌≤◌, IsTrue, refl}
use Rattle.std.specs.Coded.{Coded, code_by, coded×, coded_ℕ}
use Rattle.std.specs.FinSet as sets
use Rattle.std.specs.FinSet.{contains, len}
use Rattle.fz_bits.specs.Flags.{Set, Flagged}

pub record Pages : Type 0 where
  pub pages : ℕ
  pub noted : Set

abbrev pub pages_code : Coded Pages
pages_code = code_by (ℕ × Set) (coded× coded_ℕ (sets.code coded_ℕ)) (λ f. (f.pages, f.noted)) (λ p. record { pages = p.0; noted = p.1 }) (λ _. refl)

-- the dirty pages are pages of the heap, and `count` is their number
pub record ArePages (flags : Flagged) (pages count : ℕ) : Type 0 where
  pub room : pages ≤ flags.size
  pub each : (page : ℕ) → IsTrue (contains flags.members page) → page < pages
  pub counted : count ≡ len flags.members
