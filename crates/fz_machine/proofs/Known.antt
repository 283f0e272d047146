-- There is room for what comes, or it is known.
use Rattle.std.proofs.Common.{◌≡◌, ◌≤◌, ◌<◌, ℕ, true, is_some, arith}
use Rattle.std.specs.FinMap.{get, insert, len}
use Rattle.fz_model.specs.State.{Map}
use Rattle.fz_finalizers.proofs.Counting.{len_grown, len_known}

module _ (links : Map ℕ) (word target room : ℕ) where
  pub grown : len links < room → len (insert links word target) ≤ room
  grown lt = let more = len_grown links word target in omega (arith, lt, more)

  pub known : is_some (get links word) ≡ true → len links ≤ room → len (insert links word target) ≤ room
  known is le = let same = len_known links word target is in omega (arith, same, le)
