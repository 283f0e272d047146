-- The driver's state, and how each of its functions changes it. Means only: no public contract cites this file.
-- code: fz_runs/src/script/machine.rt, answer.rt, run.rt
use Rattle.std.specs.Prelude.{◌≡◌, ℕ, ◌+◌, ◌-◌, Bool, true, false, ◌⊎◌, List, [], length, map, count_by, Option, Some, None, is_some, is_err, Result, Ok, Err, IsTrue, IsFalse, MatchBool, nat_le}
use Rattle.fz_model.specs.declared.refusal.Refusal.{Refusal}
use Rattle.fz_model.specs.declared.refusal.Refusal.TheVariants.{BadLine, Output}
use Rattle.fz_model.specs.Causes.{first_cause}
use Rattle.fz_model.specs.Joint.{Worker, Joint, JointEvent, JointAnswer, JointStep, Move, joint_opening}
use Rattle.fz_world.specs.Does.{StandsFor}
use Rattle.fz_script.specs.declared.step.Step.{Step}
use Rattle.fz_script.specs.declared.step.Step.TheVariants.{Open}
use Rattle.fz_script.specs.Spelling.{Token, spelling, Fits}
use Rattle.fz_runs.specs.declared.script.machine.Machine.{Machine}
use Rattle.fz_runs.specs.declared.script.reply.StepReply.{StepReply}
use Rattle.fz_runs.specs.declared.script.reply.StepReply.TheVariants.{Called, Taken, Held, Finished, Forfeited}
use Rattle.fz_runs.specs.declared.script.answer.Answer.{Answer}
use Rattle.fz_runs.specs.declared.script.answer.Answer.TheVariants.{Skipped, Opened, Replied, Ended, Malformed}
use Rattle.fz_runs.specs.declared.text.input.Ending.{Ending}
use Rattle.fz_runs.specs.declared.text.input.Ending.TheVariants.{TooLong}
use Rattle.fz_runs.specs.declared.script.run.Summary.{Summary}
use Rattle.fz_runs.specs.declared.script.run.Counts.{Counts}
use Rattle.fz_runs.specs.declared.text.fault.DriveFault.{DriveFault}
use Rattle.fz_runs.specs.Devices.{Log, Gains, GainsPart}
use Rattle.fz_runs.specs.Script.{max_lines, may_come, event_of}
use Rattle.fz_runs.specs.Lines.{is_kept}
use Rattle.fz_runs.specs.Replies.{called_words, taken_words, reply_words, end_words}
use Rattle.fz_runs.specs.Written.{text_line, done, refused_words, malformed_words}
use Rattle.fz_runs.specs.Report.{Course, opening_causes, AsksFor, IsRefusedOpening, finishes, forfeits}

-- The machine represents the joint state, and its world has forgotten no entry. It doesn't keep which entries the workers took and forfeited.
pub record StandsForJoint (machine : Machine) (j : Joint) : Type 0 where
  pub world : StandsFor machine.world j.state
  pub shown : machine.world.forgotten ≡ 0
  pub line : machine.line ≡ j.taken
  pub hands : machine.hands.items ≡ map (λ (w : Worker). w.hand) j.workers

-- for each joint state that the old machine represents there is a step with this reply to one that the new machine represents
abbrev pub JointDoes : Machine → (e : JointEvent) → Result (JointAnswer e) Refusal → Machine → Type 0
JointDoes old e reply new = (j : Joint) → StandsForJoint old j → (t : Joint) × JointStep j e reply t × StandsForJoint new t

abbrev pub words_of : StepReply → List Token
words_of (Called reply) = called_words reply
words_of (Taken entry) = taken_words entry
words_of Held = done
words_of Finished = done
words_of Forfeited = done

abbrev pub result_words : Result StepReply Refusal → List Token
result_words (Ok reply) = words_of reply
result_words (Err refusal) = refused_words refusal

abbrev pub is_finish : Result StepReply Refusal → Bool
is_finish (Ok Finished) = true
is_finish _ = false

abbrev pub is_forfeit : Result StepReply Refusal → Bool
is_forfeit (Ok Forfeited) = true
is_forfeit _ = false

-- the result has every part of the reply that the report shows
pub record Tells (e : JointEvent) (reply : Result (JointAnswer e) Refusal) (result : Result StepReply Refusal) : Type 0 where
  pub words : result_words result ≡ reply_words e reply
  pub refused : is_err result ≡ is_err reply
  pub finish : is_finish result ≡ finishes e reply
  pub forfeit : is_forfeit result ≡ forfeits e reply

-- the step's event, as in `JointDoes`
pub record StepDoes (old : Machine) (step : Step) (result : Result StepReply Refusal) (new : Machine) : Type 0 where
  pub event : JointEvent
  pub reply : Result (JointAnswer event) Refusal
  pub asked : event_of step ≡ Some event
  pub does : JointDoes old event reply new
  pub tells : Tells event reply result

-- a step that may come is carried out; an opening, which may not, changes nothing
abbrev pub TakesStep : Machine → Step → Result (Option StepReply) Refusal → Machine → Type 0
TakesStep old step (Ok (Some reply)) new = StepDoes old step (Ok reply) new
TakesStep old step (Ok None) new = IsFalse (may_come true step) × (new ≡ old)
TakesStep old step (Err refusal) new = StepDoes old step (Err refusal) new

-- the outcome of one line, before and after the opening
abbrev pub Gives : Option Machine → List ℕ → Answer → Option Machine → Type 0
Gives old line Skipped new = (is_kept line ≡ false) × (new ≡ old)
Gives old line Opened new =
    (old ≡ None) × (machine : Machine) × (new ≡ Some machine) × (blocks : ℕ) × (frames : ℕ) × (workers : ℕ) × AsksFor line (Open blocks frames workers)
    × (first_cause (opening_causes blocks frames workers) ≡ None) × StandsForJoint machine (joint_opening blocks frames workers)
Gives old line (Replied result) new =
    (machine : Machine) × (old ≡ Some machine) × (machine' : Machine) × (new ≡ Some machine') × (step : Step) × AsksFor line step × StepDoes machine step result machine'
Gives old line (Ended refusal) new = (old ≡ None) × (new ≡ old) × IsRefusedOpening line refusal
Gives old line Malformed new = (new ≡ old) × IsTrue (is_kept line) × ((step : Step) → Fits step → line ≡ spelling step → IsFalse (may_come (is_some old) step))

-- the outcome of the line with this number; a line that is too long or comes too late is malformed
abbrev pub Given : ℕ → Ending → Option Machine → List ℕ → Answer → Option Machine → Type 0
Given number TooLong old line answer new = (answer ≡ Malformed) × (new ≡ old)
Given number _ old line answer new = MatchBool (nat_le number max_lines) (Gives old line answer new) ((answer ≡ Malformed) × (new ≡ old))

-- the text that is written for an outcome
abbrev pub answer_text : ℕ → Answer → List ℕ
answer_text number Skipped = []
answer_text number Opened = text_line done
answer_text number (Replied result) = text_line (result_words result)
answer_text number (Ended refusal) = text_line (refused_words refusal)
answer_text number Malformed = text_line (malformed_words number)

abbrev pub is_told : Answer → Bool
is_told Skipped = false
is_told _ = true

-- why the run ends with this outcome
abbrev pub stop_of : Answer → Option Refusal
stop_of Skipped = None
stop_of Opened = None
stop_of (Replied result) = None
stop_of (Ended refusal) = Some refusal
stop_of Malformed = Some BadLine

-- the text of the outcome was written, and the run continues or ends; or the writer failed meanwhile
abbrev pub TellsAnswer : ℕ → Answer → Log → Result (Unit {0}) DriveFault → Log → Type 0
TellsAnswer number answer old (Ok x) new = (stop_of answer ≡ None) × Gains old (answer_text number answer) new
TellsAnswer number answer old (Err fault) new =
    (fault.line ≡ number)
    × (((fault.refusal ≡ Output) × IsTrue (is_told answer) × GainsPart old (answer_text number answer) new)
    ⊎ ((stop_of answer ≡ Some fault.refusal) × Gains old (answer_text number answer) new))

-- the counts of the steps so far
abbrev pub no_counts : Counts
no_counts = record { steps = 0; refused = 0; finished = 0; forfeited = 0 }

abbrev pub bit : Bool → ℕ
bit true = 1
bit false = 0

abbrev pub counts_after : Counts → Answer → Counts
counts_after counts Opened = record counts { steps = counts.steps + 1 }
counts_after counts (Replied result) =
    record {
      steps = counts.steps + 1;
      refused = counts.refused + bit (is_err result);
      finished = counts.finished + bit (is_finish result);
      forfeited = counts.forfeited + bit (is_forfeit result);
    }
counts_after counts _ = counts

abbrev pub counts_of : Option Course → Counts
counts_of None = no_counts
counts_of (Some course) =
    record {
      steps = length course.moves + 1;
      refused = count_by (λ (m : Move). is_err m.reply) course.moves;
      finished = count_by (λ (m : Move). finishes m.event m.reply) course.moves;
      forfeited = count_by (λ (m : Move). forfeits m.event m.reply) course.moves;
    }

-- the totals of the run that led to this machine
abbrev pub summary_at : Machine → Counts → Summary
summary_at machine counts =
    record {
      steps = counts.steps;
      refused = counts.refused;
      enqueued = length machine.world.core.queue;
      finished = counts.finished;
      forfeited = counts.forfeited;
      in_hand = count_by is_some machine.hands.items;
      left = length machine.world.core.queue - machine.line;
    }

-- the words at the end of a report
abbrev pub ending_words : ℕ → Option Machine → Counts → List Token
ending_words number None counts = malformed_words number
ending_words number (Some machine) counts = end_words (summary_at machine counts)

-- the last line of the report was written; or the script had no opening; or the writer failed
abbrev pub Finishes : ℕ → Option Machine → Counts → Log → Result Summary DriveFault → Log → Type 0
Finishes number world counts old (Ok summary) new =
    (machine : Machine) × (world ≡ Some machine) × (summary ≡ summary_at machine counts) × Gains old (text_line (end_words (summary_at machine counts))) new
Finishes number world counts old (Err fault) new =
    (fault.line ≡ number)
    × (((fault.refusal ≡ Output) × GainsPart old (text_line (ending_words number world counts)) new)
    ⊎ ((fault.refusal ≡ BadLine) × (world ≡ None) × Gains old (text_line (malformed_words number)) new))
