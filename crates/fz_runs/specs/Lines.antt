-- The lines of a text.
-- code: fz_runs/src/text/input.rt
use Rattle.std.specs.Prelude.{◌≡◌, ◌≢◌, ℕ, ◌+◌, Bool, false, not, ◌==◌, ◌⊎◌, List, [], ◌∷◌, ◌++◌, length, flat_map, Option}
use Rattle.std.specs.List.{All}
use Rattle.std.specs.Io.KnownBytes.{IsAtEnd}

-- a line with its LF (byte 10)
abbrev pub with_lf : List ℕ → List ℕ
with_lf line = line ++ 10 ∷ []

abbrev pub IsOneLine : List ℕ → Type 0
IsOneLine bytes = All (λ b. b ≢ 10) bytes

-- the bytes are these lines, each with its LF, followed by `last`, which contains no LF
pub record Lines (bytes : List ℕ) (lines : List (List ℕ)) (last : List ℕ) : Type 0 where
  pub is : bytes ≡ flat_map with_lf lines ++ last
  pub each : All IsOneLine lines
  pub one : IsOneLine last

-- what follows the last LF is a line, unless it is empty
abbrev pub all_lines : List (List ℕ) → List ℕ → List (List ℕ)
all_lines lines [] = lines
all_lines lines (b ∷ bs) = lines ++ (b ∷ bs) ∷ []

-- an empty line, or one whose first byte is # (35), is skipped
abbrev pub is_kept : List ℕ → Bool
is_kept [] = false
is_kept (b ∷ bs) = not (b == 35)

-- the largest length of a line in bytes, without its LF
abbrev pub max_line : ℕ
max_line = 200

-- A line ends with an LF or with the input, or it is too long because of its last byte. `left` is what can still be read.
abbrev pub IsEnded : List ℕ → List ℕ → Option (List ℕ) → Type 0
IsEnded line end left = (end ≡ 10 ∷ []) ⊎ ((end ≡ []) × ((IsAtEnd left × (line ≢ [])) ⊎ (length line ≡ max_line + 1)))

-- the bytes consist of lines that satisfy P; the next line would have this number
pub record AreLines (P : List (List ℕ) → Type 0) (bytes : List ℕ) (number : ℕ) : Type 0 where
  pub lines : List (List ℕ)
  pub last : List ℕ
  pub split : Lines bytes lines last
  pub place : length (all_lines lines last) + 1 ≡ number
  pub holds : P (all_lines lines last)

-- the bytes end with this line, and the lines before it satisfy P; `left` is what can still be read
pub record EndsAt (P : List (List ℕ) → Type 0) (bytes : List ℕ) (left : Option (List ℕ)) (number : ℕ) (line : List ℕ) : Type 0 where
  pub lines : List (List ℕ)
  pub end : List ℕ
  pub is : bytes ≡ flat_map with_lf lines ++ (line ++ end)
  pub each : All IsOneLine lines
  pub one : IsOneLine line
  pub ended : IsEnded line end left
  pub place : length lines + 1 ≡ number
  pub holds : P lines
