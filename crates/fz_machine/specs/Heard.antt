-- What holds of a pass whatever the host answers: it ends, and consists of calls of the finalizers.
-- code: fz_machine/src/law.rt
use Rattle.std.specs.Prelude.{◌≡◌, ℕ, suc, ◌+◌, ◌*◌, ◌≤◌, Bool, List, length, Some}
use Rattle.std.specs.FinMap.{len}
use Rattle.fz_finalizers.specs.Promises.{Past, IsReached}
use Rattle.fz_finalizers.specs.States.{State}
use Rattle.fz_machine.specs.declared.pass.Next.{Next}
use Rattle.fz_machine.specs.declared.phase.Phase.{Phase}
use Rattle.fz_machine.specs.declared.question.Question.{Question}
use Rattle.fz_machine.specs.Going.{ephemerons_in, questions_in}
use Rattle.fz_machine.specs.Machines.{Machine, Heard, Answers, Words, AsksRegions, IsBegunFrom, GoesTo, IsAbandoned, IsTold, IsWorked, PassesOver}

-- this many answers were processed since a pass began, for each question about items no more than it asked for; meanwhile words about regions are told, workers
-- take and finish entries, and the host tells keys
pub data Hears (begun : Machine) : Machine → ℕ → Type 0 where
  Begun : Hears begun begun 0
  Goes : {m new : Machine} {next : Next} {n : ℕ} (answers : List Bool) → length answers ≤ m.asked → GoesTo m (Answers answers) new next → Hears begun m n → Hears begun new (n + length answers)
  Learns : {m new : Machine} {next : Next} {n : ℕ} (words : List ℕ) → GoesTo m (Words words) new next → Hears begun m n → Hears begun new n
  Meanwhile : {m new : Machine} {n : ℕ} → IsWorked m new → Hears begun m n → Hears begun new n
  Told : {m new : Machine} {n : ℕ} (key : ℕ) → IsTold key m new → Hears begun m n → Hears begun new n

-- the most answers about this number of ephemerons. One that lives is asked about three times: for its key, its holder and its value. For each value that is
-- marked, those that still wait are asked about in at most two more rounds: one about those that were told, and one about all. One that waits throughout is
-- asked about at most 14 times: twice at each of the four times at which the marks are made whole, twice behind the first of them, and four times behind the
-- last
abbrev pub most_rows : ℕ → ℕ
most_rows n = 11 * n + n * (2 * n + 1)

-- six phases process registrations, three phases process the links of each kind, and one phase processes the cleanups of each moment
abbrev pub most_answers : State → ℕ
most_answers s = 6 * len s.registrations + 3 * (len s.short + len s.long) + len s.cleanups + most_rows (ephemerons_in s)

abbrev pub PassesEnd : Type 0
PassesEnd = (from : ℕ) (old begun m : Machine) (n : ℕ) → IsBegunFrom from old begun → Hears begun m n → n ≤ most_answers old.finalizers.state

-- this many questions about regions were answered since a pass began, each by `next_marks`; meanwhile other questions are answered, workers take and finish
-- entries, and the host tells keys
pub data HearsMarks (begun : Machine) : Machine → ℕ → Type 0 where
  Opened : HearsMarks begun begun 0
  Marks : {m new : Machine} {n : ℕ} (phase : Phase) (question : Question) → m.phase ≡ Some phase → AsksRegions m phase question → PassesOver m new → HearsMarks begun m n → HearsMarks begun new (suc n)
  Others : {m new : Machine} {next : Next} {n : ℕ} (heard : Heard) → GoesTo m heard new next → HearsMarks begun m n → HearsMarks begun new n
  Beside : {m new : Machine} {n : ℕ} → IsWorked m new → HearsMarks begun m n → HearsMarks begun new n
  Keyed : {m new : Machine} {n : ℕ} (key : ℕ) → IsTold key m new → HearsMarks begun m n → HearsMarks begun new n

-- at most one question for each 64 regions of a sweep, and one for those left over
abbrev pub RegionQuestionsEnd : Type 0
RegionQuestionsEnd = (from : ℕ) (old begun m : Machine) (n : ℕ) → IsBegunFrom from old begun → HearsMarks begun m n → n ≤ questions_in old.tabled

-- calls lead to the state, and they take and finish no more than the given history
pub record IsCalled (past : Past) (s : State) : Type 0 where
  pub later : Past
  pub reached : IsReached s later
  pub taken : later.taken ≡ past.taken
  pub finished : later.finished ≡ past.finished

-- calls lead through a pass, whatever keys are told, and to the state after one is abandoned
pub data Proceeds (old new : Machine) : Type 0 where
  Opens : (from : ℕ) → IsBegunFrom from old new → Proceeds old new
  Hearing : (heard : Heard) (next : Next) → GoesTo old heard new next → Proceeds old new
  Tells : (key : ℕ) → IsTold key old new → Proceeds old new
  Abandons : IsAbandoned old new → Proceeds old new

abbrev pub PassesAreCalls : Type 0
PassesAreCalls = (old new : Machine) (past : Past) → IsReached old.finalizers.state past → Proceeds old new → IsCalled past new.finalizers.state
