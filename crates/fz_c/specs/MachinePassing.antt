-- How a pass proceeds through a handle.
-- code: fz_c/src/machine/passing.rt
use Rattle.std.specs.Prelude.{◌≡◌, ℕ, Bool, List, [], ◌∷◌, take, Option, Some, None}
use Rattle.fz_machine.specs.declared.pass.Next.{Next}
use Rattle.fz_machine.specs.declared.pass.Next.TheVariants as next
use Rattle.fz_machine.specs.declared.phase.Phase.{Phase}
use Rattle.fz_machine.specs.declared.refused.Refused.TheVariants.{NoPass}
use Rattle.fz_machine.specs.Asks.{number_of}
use Rattle.fz_machine.specs.Machines.{Answers, GoesTo, Heard, IsAbandoned, Machine, Words}
use Rattle.fz_c.specs.declared.machine.codes.TheConstants.{OK, EMPTY}
use Rattle.fz_c.specs.declared.machine.passing.Question.{Question}
use Rattle.fz_c.specs.declared.machine.passing.Passed.{Passed}
use Rattle.fz_c.specs.MachineCodes.{code_of}

-- C gets the question, or what the pass has done; the other variable is unchanged
abbrev pub TellsNext : Next → ℕ → Question → Question → Passed → Passed → Type 0
TellsNext (next.Asks q) code old_question question old_passed passed =
    (code ≡ OK) × (question ≡ record { what = q.about; count = q.count; ask = number_of q.ask; marks = old_question.marks }) × (passed ≡ old_passed)
TellsNext (next.Ended p) code old_question question old_passed passed = (code ≡ EMPTY) × (question ≡ old_question) × (passed ≡ record { pass = p.pass; picked = p.picked })

-- the answers to the last question: words for its regions, if it was about some, and else bits for its items, as many as it was about
abbrev pub heard_of : List ℕ → ℕ → List Bool → List ℕ → Heard
heard_of [] asked bits words = Answers (take asked bits)
heard_of (region ∷ regions) asked bits words = Words words

abbrev pub heard : Machine → List Bool → List ℕ → Heard
heard m bits words = heard_of m.regions m.asked bits words

-- the answers are processed, and the pass proceeds; if no pass is open, the call is refused
abbrev pub AsksNextIn : Option Phase → Machine → Heard → Machine → ℕ → Question → Question → Passed → Passed → Type 0
AsksNextIn None m answers n code old_question question old_passed passed = (code ≡ code_of NoPass) × (n ≡ m) × (question ≡ old_question) × (passed ≡ old_passed)
AsksNextIn (Some phase) m answers n code old_question question old_passed passed = (next : Next) × GoesTo m answers n next × TellsNext next code old_question question old_passed passed

abbrev pub AsksNext : Machine → List Bool → List ℕ → Machine → ℕ → Question → Question → Passed → Passed → Type 0
AsksNext m bits words = AsksNextIn m.phase m (heard m bits words)

-- an open pass is abandoned; if no pass is open, the call is refused
abbrev AbandonsIn : Option Phase → ℕ → Machine → Machine → Type 0
AbandonsIn None code m n = (code ≡ code_of NoPass) × (n ≡ m)
AbandonsIn (Some phase) code m n = (code ≡ OK) × IsAbandoned m n

abbrev pub Abandons : ℕ → Machine → Machine → Type 0
Abandons code m = AbandonsIn m.phase code m
