-- The report of a script: the replies to its steps, which are those of a joint run, and how it ends.
-- code: fz_runs/src/script/run.rt (drive)
use Rattle.std.specs.Prelude.{◌≡◌, ◌≢◌, ℕ, ◌+◌, ◌-◌, ◌≤◌, Bool, true, false, ◌⊎◌, List, [], ◌∷◌, ◌++◌, length, map, flat_map, count_by, Option, Some, None, is_some, is_err, Result, Ok, Err, IsTrue}
use Rattle.fz_model.specs.declared.refusal.Refusal.{Refusal}
use Rattle.fz_model.specs.declared.refusal.Refusal.TheVariants.{BadLine, BadCount, NoMemory, Output, Input}
use Rattle.fz_model.specs.declared.limits.TheConstants.{MAX_WORKERS}
use Rattle.fz_model.specs.Causes.{Causes, bad_count, first_cause, IsRefusedFor}
use Rattle.fz_model.specs.Joint.{Worker, Joint, JointEvent, JointAnswer, FinishOwn, Forfeit, JointStep, Move, MovesTo, joint_opening}
use Rattle.fz_world.specs.Does.{open_causes}
use Rattle.fz_script.specs.declared.step.Step.{Step}
use Rattle.fz_script.specs.declared.step.Step.TheVariants.{Open}
use Rattle.fz_script.specs.Spelling.{Token, spelling, Fits}
use Rattle.fz_runs.specs.declared.script.run.Summary.{Summary}
use Rattle.fz_runs.specs.declared.text.fault.DriveFault.{DriveFault}
use Rattle.std.specs.Io.KnownBytes.{Consumes, IsAtEnd, prepend_known}
use Rattle.fz_runs.specs.Devices.{Feed, Log, Gains}
use Rattle.fz_runs.specs.Faults.{StoppedFor}
use Rattle.fz_runs.specs.Script.{max_lines, IsScript, IsMalformed, event_of}
use Rattle.fz_runs.specs.Lines.{Lines, AreLines, EndsAt, is_kept, max_line}
use Rattle.fz_runs.specs.Replies.{reply_words, reply_line, end_words}
use Rattle.fz_runs.specs.Written.{text_line, done, refused_words, malformed_words}

-- the causes for which an opening is refused
abbrev pub opening_causes : ℕ → ℕ → ℕ → Causes
opening_causes blocks frames workers = bad_count MAX_WORKERS workers ∷ open_causes blocks frames

-- the moves since the opening, and the joint state after them
pub record Course : Type 0 where
  pub moves : List Move
  pub end : Joint

-- the lines spell an opening and then these moves, which are those of a joint run; the text is `ok` and the replies
pub record HasRun (lines : List (List ℕ)) (text : List ℕ) (course : Course) : Type 0 where
  pub blocks : ℕ
  pub frames : ℕ
  pub workers : ℕ
  pub steps : List Step
  pub script : IsScript lines (Open blocks frames workers ∷ steps)
  pub asked : map event_of steps ≡ map (λ (m : Move). Some m.event) course.moves
  pub opened : first_cause (opening_causes blocks frames workers) ≡ None
  pub run : MovesTo (joint_opening blocks frames workers) course.moves course.end
  pub told : text ≡ text_line done ++ flat_map reply_line course.moves

-- the text is the report of these lines; before the first step there is no course
abbrev pub Reports : List (List ℕ) → List ℕ → Option Course → Type 0
Reports lines text None = IsScript lines [] × (text ≡ [])
Reports lines text (Some course) = HasRun lines text course

abbrev pub finishes : (e : JointEvent) → Result (JointAnswer e) Refusal → Bool
finishes (FinishOwn worker) (Ok answer) = true
finishes (FinishOwn worker) (Err refusal) = false
finishes _ reply = false

abbrev pub forfeits : (e : JointEvent) → Result (JointAnswer e) Refusal → Bool
forfeits (Forfeit worker) (Ok answer) = true
forfeits (Forfeit worker) (Err refusal) = false
forfeits _ reply = false

-- the totals of a run: its steps, including the opening, and the refused ones; the length of the queue; the entries that workers finished and abandoned; the
-- entries in hand; and the entries not taken
abbrev pub summary_of : Course → Summary
summary_of course =
    record {
      steps = length course.moves + 1;
      refused = count_by (λ (m : Move). is_err m.reply) course.moves;
      enqueued = length course.end.state.queue;
      finished = count_by (λ (m : Move). finishes m.event m.reply) course.moves;
      forfeited = count_by (λ (m : Move). forfeits m.event m.reply) course.moves;
      in_hand = count_by (λ (w : Worker). is_some w.hand) course.end.workers;
      left = length course.end.state.queue - course.end.taken;
    }

-- all lines of the bytes were carried out; the next line would have this number
abbrev pub AtEnd : List ℕ → ℕ → List ℕ → Option Course → Type 0
AtEnd bytes number text course = AreLines (λ lines. Reports lines text course) bytes number

-- the text is the report of the whole script in these bytes, with the totals of its run
pub record IsReport (bytes text : List ℕ) (summary : Summary) : Type 0 where
  pub number : ℕ
  pub before : List ℕ
  pub course : Course
  pub at_end : AtEnd bytes number before (Some course)
  pub counted : summary ≡ summary_of course
  pub told : text ≡ before ++ text_line (end_words summary)

-- the bytes end with this line; the lines before it were carried out, and this is their report
abbrev pub AtLine : List ℕ → Option (List ℕ) → ℕ → List ℕ → List ℕ → Option Course → Type 0
AtLine bytes left number line text course = EndsAt (λ lines. Reports lines text course) bytes left number line

abbrev pub AsksFor : List ℕ → Step → Type 0
AsksFor line step = IsTrue (is_kept line) × Fits step × (line ≡ spelling step)

-- the line spells an opening that is refused with this refusal
abbrev pub IsRefusedOpening : List ℕ → Refusal → Type 0
IsRefusedOpening line refusal =
    (blocks : ℕ) × (frames : ℕ) × (workers : ℕ) × AsksFor line (Open blocks frames workers) × IsRefusedFor (opening_causes blocks frames workers) true refusal

-- the words that are written for the line with this number, after the course so far; a line beyond the last number is malformed, whatever it is
pub data IsDue (number : ℕ) (line : List ℕ) : Option Course → List Token → Type 0 where
  Opens : (blocks frames workers : ℕ) → number ≤ max_lines → AsksFor line (Open blocks frames workers) → first_cause (opening_causes blocks frames workers) ≡ None → IsDue number line None done
  OpensNot : (refusal : Refusal) → number ≤ max_lines → IsRefusedOpening line refusal → IsDue number line None (refused_words refusal)
  Replies : (course : Course) (step : Step) (m : Move) (new : Joint) → number ≤ max_lines → AsksFor line step → event_of step ≡ Some m.event → JointStep course.end m.event m.reply new → IsDue number line (Some course) (reply_words m.event m.reply)
  Malformed : (course : Option Course) → IsMalformed (is_some course) number line → IsDue number line course (malformed_words number)

-- the last words of a report; an input without an opening is malformed there
abbrev pub closing_words : ℕ → Option Course → List Token
closing_words number None = malformed_words number
closing_words number (Some course) = end_words (summary_of course)

-- Why a run ended early, and at which line. `bytes` were consumed, `unread` was read beyond them, `left` is what the reader has left, and `text` was written.
abbrev pub Explains : Refusal → ℕ → List ℕ → List ℕ → Option (List ℕ) → List ℕ → Type 0
-- the line is malformed, or the input ended without an opening; its reply and all replies before it were written
Explains BadLine number bytes unread left text =
    (before : List ℕ) × (text ≡ before ++ text_line (malformed_words number))
    × (((line : List ℕ) × (course : Option Course) × AtLine bytes (prepend_known unread left) number line before course × IsMalformed (is_some course) number line) ⊎ (AtEnd bytes number before None × IsAtEnd (prepend_known unread left)))
-- the opening was refused, and its reply was written
Explains BadCount number bytes unread left text =
    (number ≤ max_lines) × (line : List ℕ) × AtLine bytes (prepend_known unread left) number line [] None × IsRefusedOpening line BadCount × (text ≡ text_line (refused_words BadCount))
Explains NoMemory number bytes unread left text =
    (number ≤ max_lines) × (line : List ℕ) × AtLine bytes (prepend_known unread left) number line [] None × IsRefusedOpening line NoMemory × (text ≡ text_line (refused_words NoMemory))
-- the output for this line, or for the end of the report, wasn't written completely; all replies before it were
Explains Output number bytes unread left text =
    (before : List ℕ) × (part : List ℕ) × (rest : List ℕ) × (text ≡ before ++ part) × (rest ≢ [])
    × (((line : List ℕ) × (course : Option Course) × (words : List Token) × AtLine bytes (prepend_known unread left) number line before course × IsDue number line course words × (text_line words ≡ part ++ rest))
    ⊎ ((course : Option Course) × AtEnd bytes number before course × IsAtEnd (prepend_known unread left) × (text_line (closing_words number course) ≡ part ++ rest)))
-- reading failed in this line; all complete lines before it were carried out, and their replies were written
Explains Input number bytes unread left text =
    (unread ≡ []) × (lines : List (List ℕ)) × (line : List ℕ) × (course : Option Course) × Lines bytes lines line × (length line ≤ max_line) × (length lines + 1 ≡ number) × Reports lines text course
Explains _ number bytes unread left text = ⊥

-- the whole input was read, and its report was written; each entry is finished, abandoned, in hand or not taken; and no device failed
pub record Reported (input left : Feed) (before after : Log) (summary : Summary) : Type 0 where
  pub bytes : List ℕ
  pub text : List ℕ
  pub read : Consumes input.remaining left.remaining bytes
  pub whole : IsAtEnd left.remaining
  pub reads : left.failures ≡ input.failures
  pub written : Gains before text after
  pub report : IsReport bytes text summary
  pub balanced : summary.enqueued ≡ summary.finished + summary.forfeited + summary.in_hand + summary.left

-- the run of the input's script ended early
abbrev pub Stopped : Feed → Feed → Log → Log → DriveFault → Type 0
Stopped input left before after fault = StoppedFor Explains input left before after fault

-- the script was run to its end, or until a fault
abbrev pub Drives : Feed → Log → Result Summary DriveFault → Feed → Log → Type 0
Drives input before (Ok summary) left after = Reported input left before after summary
Drives input before (Err fault) left after = Stopped input left before after fault
