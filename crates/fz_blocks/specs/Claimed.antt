-- The model of a block map: its number of blocks, the extents of its objects, and the addresses of dead, unswept cells.
-- code: fz_blocks/src/block_map.rt
use Rattle.std.specs.Prelude.{ℕ, refl, [], ◌∷◌, IsTrue, IsFalse}
use Rattle.std.specs.Coded.{Coded, code_by, coded×, coded_ℕ}
use Rattle.std.specs.FinMap as map
use Rattle.std.specs.FinMap.{contains_key}
use Rattle.std.specs.FinSet as sets
use Rattle.std.specs.FinSet.{contains}
use Rattle.fz_model.specs.declared.kinds.ObjKind.{ObjKind}
use Rattle.fz_model.specs.declared.extent.Extent.{Extent}
use Rattle.fz_model.specs.State.{Map}
use Rattle.fz_model.specs.Causes.{Causes, bad_size, no_space}
use Rattle.fz_model.specs.Codes.{kind_code}
pub use Rattle.fz_model.specs.Condemned.{Addresses, stands_at, swept}

pub record Claimed : Type 0 where
  pub blocks : ℕ
  pub extents : Map Extent
  pub condemned : Addresses

abbrev pub extent_code : Coded Extent
extent_code = code_by (ℕ × ObjKind) (coded× coded_ℕ kind_code) (λ x. (x.size, x.kind)) (λ p. record { size = p.0; kind = p.1 }) (λ _. refl)

abbrev pub claimed_code : Coded Claimed
claimed_code =
    code_by (ℕ × (Map Extent × Addresses)) (coded× coded_ℕ (coded× (map.code coded_ℕ extent_code) (sets.code coded_ℕ))) (λ c. (c.blocks, (c.extents, c.condemned)))
    (λ p. record { blocks = p.0; extents = p.1.0; condemned = p.1.1 }) (λ _. refl)

-- no object has the address of a dead cell
abbrev pub AreGone : Claimed → Type 0
AreGone claimed = (a : ℕ) → IsTrue (contains claimed.condemned a) → IsFalse (contains_key claimed.extents a)

-- the causes for which a claim is refused
abbrev pub claim_causes : Claimed → ℕ → ObjKind → Causes
claim_causes claimed size kind = bad_size size ∷ no_space claimed.extents claimed.blocks size kind ∷ []
