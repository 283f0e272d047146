-- The numbers of the questions in C, and the answers in a word.
-- code: fz_machine/src/question.rt, answers.rt
use Rattle.std.specs.Prelude.{ℕ, Bool, List, map}
use Rattle.std.specs.List.{range_with_len}
use Rattle.fz_model.specs.Bits.{has_bit}
use Rattle.fz_machine.specs.declared.question.Ask.{Ask}
use Rattle.fz_machine.specs.declared.question.TheConstants.{BATCH}
use Rattle.fz_machine.specs.declared.question.Ask.TheVariants.{IsMarked, MarkChildren, MarkOthers, Mark, MarkAlone, Clear, IsHolderMarked, Marks, Live, MarkValue}

abbrev pub number_of : Ask → ℕ
number_of IsMarked = 1
number_of MarkChildren = 2
number_of MarkOthers = 3
number_of Mark = 4
number_of MarkAlone = 5
number_of Clear = 6
number_of IsHolderMarked = 7
number_of Marks = 8
number_of Live = 9
number_of MarkValue = 10

-- the answers in a 64-bit word, from its lowest bit on
abbrev pub bits_of : ℕ → List Bool
bits_of bits = map (has_bit bits) (range_with_len 0 BATCH)
