-- The links that remain after links were removed by a test of link and target.
-- code: fz_links/src/links.rt (drop_where)
use Rattle.std.specs.Prelude.{◌≡◌, ℕ, Bool, false, not}
use Rattle.std.specs.Option.{option_map_or}
use Rattle.std.specs.FinMap.{get, retain_keys}
use Rattle.fz_model.specs.State.{Map}

-- a closure that returns this computes the test
abbrev pub ComputesTest : (ℕ → ℕ → Bool → Type 0) → (ℕ → ℕ → Bool) → Type 0
ComputesTest answers test = (link target : ℕ) (answer : Bool) → answers link target answer → answer ≡ test link target

-- the links for which the test is false
abbrev pub without : (ℕ → ℕ → Bool) → Map ℕ → Map ℕ
without test links = retain_keys links (λ link. option_map_or (λ target. not (test link target)) (get links link) false)
