-- A run: neighbouring blocks that one object takes, and what claiming one changes.
-- code: fz_blocks/src/claims.rt
use Rattle.std.specs.Prelude.{◌≡◌, ℕ, ◌+◌, ◌*◌, ◌<◌, ◌≤◌, ◌⊎◌, ◌==◌, List, length, Some, slice_get, IsTrue}
use Rattle.fz_model.specs.declared.limits.TheConstants.{BLOCK_WORDS}
use Rattle.fz_blocks.specs.declared.block.Block.{Block}
use Rattle.fz_blocks.specs.Blocks.{starts_at, is_bare, Detaches}

-- `count` neighbouring empty blocks
abbrev pub IsRun : List Block → ℕ → ℕ → Type 0
IsRun blocks count b = (k : ℕ) → k < count → (block : Block) × (slice_get blocks (b + k) ≡ Some block) × IsTrue (is_bare block)

-- `count` empty blocks now contain one object, which starts in the first; all other blocks are unchanged
pub record TakesRun (old new : List Block) (b count : ℕ) (first : Block) : Type 0 where
  pub long : length new ≡ length old
  pub bare : IsRun old count b
  pub here : slice_get new b ≡ Some first
  pub one : (place : ℕ) → starts_at first place ≡ (place == 0)
  pub own : first.back ≡ 0
  pub enough : first.size ≤ BLOCK_WORDS * count
  pub few : BLOCK_WORDS * count < first.size + BLOCK_WORDS
  pub later : (k : ℕ) → 0 < k → k < count → (block : Block) × (slice_get new (b + k) ≡ Some block) × (block.back ≡ k) × (block.condemned ≡ 0)
  pub others : (c : ℕ) → (c < b) ⊎ (b + count ≤ c) → slice_get new c ≡ slice_get old c

-- the `count` blocks of a run are written
pub record WritesRun (old new : List Block) (b count : ℕ) (first : Block) : Type 0 where
  pub long : length new ≡ length old
  pub here : slice_get new b ≡ Some first
  pub later : (k : ℕ) → 0 < k → k < count → (block : Block) × (slice_get new (b + k) ≡ Some block) × (block.back ≡ k) × (block.condemned ≡ 0)
  pub others : (c : ℕ) → (c < b) ⊎ (b + count ≤ c) → slice_get new c ≡ slice_get old c

pub record IsFirstRun (blocks : List Block) (count b : ℕ) : Type 0 where
  pub run : IsRun blocks count b
  pub before : (c : ℕ) → c < b → IsRun blocks count c → ⊥

-- all but the first of `count` blocks are no longer part of a run; all others are unchanged
pub record FreesLater (old new : List Block) (b count : ℕ) : Type 0 where
  pub long : length new ≡ length old
  pub later : (k : ℕ) → 0 < k → k < count → (was : Block) × (now : Block) × (slice_get old (b + k) ≡ Some was) × (slice_get new (b + k) ≡ Some now) × Detaches was now
  pub others : (c : ℕ) → (c ≤ b) ⊎ (b + count ≤ c) → slice_get new c ≡ slice_get old c
