-- What is written: lines of words, and the lines that scripts and threads files have in common.
-- code: fz_runs/src/text/output.rt, refusals.rt
use Rattle.std.specs.Prelude.{ℕ, List, [], ◌∷◌, ◌++◌, map, codes}
use Rattle.std.specs.List.{join_with_byte}
use Rattle.fz_model.specs.declared.refusal.Refusal.{Refusal}
use Rattle.fz_model.specs.declared.refusal.Refusal.TheVariants.{BadLine}
use Rattle.fz_model.specs.Refusals.{code_of, name_of}
use Rattle.fz_script.specs.Spelling.{Token, Number, Text, text}

-- the line of these words: separated by one space (byte 32), ended by an LF (byte 10)
abbrev pub text_line : List Token → List ℕ
text_line words = join_with_byte 32 (map text words) ++ 10 ∷ []

abbrev pub done : List Token
done = Text (codes "ok") ∷ []

abbrev pub refused_words : Refusal → List Token
refused_words refusal = Text (codes "refused") ∷ Number (code_of refusal) ∷ Text (name_of refusal) ∷ []

-- for a malformed line, or for an input that ends without an opening
abbrev pub malformed_words : ℕ → List Token
malformed_words number = Text (codes "line") ∷ Number number ∷ refused_words BadLine
