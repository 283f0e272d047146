-- The sequence numbers of entries.
use Rattle.std.specs.Prelude.{◌≡◌, ℕ, ◌+◌, List, map, Some, slice_get}
use Rattle.std.specs.List.Sorted.{IsStrictlyIncreasing}
use Rattle.fz_model.specs.declared.answers.Entry.{Entry}

-- the entries have successive numbers from n on
abbrev pub AreNumberedFrom : ℕ → List Entry → Type 0
AreNumberedFrom n entries = (k : ℕ) (e : Entry) → slice_get entries k ≡ Some e → e.seq ≡ n + k

-- the numbers ascend
abbrev pub Rises : List Entry → Type 0
Rises entries = IsStrictlyIncreasing (map (λ e. e.seq) entries)
