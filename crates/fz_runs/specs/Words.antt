-- Words as the code represents them.
-- code: fz_runs/src/text/output.rt
use Rattle.std.specs.Prelude.{ℕ, Bool, true, ◌&&◌, nat_le, nat_lt, if◌then◌else◌, List, [], ◌∷◌, length}
use Rattle.fz_script.specs.Spelling as spelling
use Rattle.fz_runs.specs.declared.text.output.Word.{Word}
use Rattle.fz_runs.specs.declared.text.output.Word.TheVariants.{Text, Number}

abbrev pub said : Word → spelling.Token
said (Text letters) = spelling.Text letters.now
said (Number n) = spelling.Number n

-- what precedes the word with this index
abbrev pub separator : ℕ → List ℕ
separator place = if nat_lt 0 place then (32 ∷ []) else []

-- no longer than the longest number
abbrev pub is_short : Word → Bool
is_short (Text letters) = nat_le (length letters.now) 20
is_short (Number n) = true

abbrev pub all_short : List Word → Bool
all_short [] = true
all_short (word ∷ words) = is_short word && all_short words

-- the words fit into a line
abbrev pub fits_line : List Word → Bool
fits_line words = nat_le (length words) 12 && all_short words
