-- The summary of a run of a threads file.
-- code: fz_runs/src/threads/summary.rt, tally.rt
use Rattle.std.specs.Prelude.{ℕ, List, [], ◌∷◌, flat_map, codes}
use Rattle.fz_script.specs.Spelling.{Token, Text, Number}
use Rattle.fz_runs.specs.Written.{text_line}
use Rattle.fz_runs.specs.declared.threads.tally.Tally.{Tally}

-- a name and a number
abbrev pub named : List ℕ → ℕ → List Token
named name number = Text name ∷ Number number ∷ []

-- the lines of a summary, in order
abbrev pub summary_lines : Tally → List (List Token)
summary_lines tally =
    named (codes "enqueued") tally.enqueued ∷ named (codes "finished") tally.finished ∷ named (codes "forfeited") tally.forfeited
    ∷ named (codes "left") tally.left ∷ named (codes "passes") tally.passes ∷ named (codes "reclaimed") tally.reclaimed
    ∷ named (codes "refused") tally.refused ∷ []

abbrev pub summary_text : Tally → List ℕ
summary_text tally = flat_map text_line (summary_lines tally)
