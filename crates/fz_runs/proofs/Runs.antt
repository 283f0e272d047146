-- How a run goes on by one line, and how it ends.
use Rattle.std.proofs.Common.{◌≡◌, ◌≢◌, ℕ, ◌≤◌, ◌<◌, ◌+◌, List, [], ◌∷◌, ◌++◌, Option, Some, None, Result, Ok, Err, Bool, true, false, ◌∙◌, ap, sym, refl, subst, append-nil, arith, length, length-append, is_some, IsTrue, IsFalse, inl, inr, ◌⊎◌, leb-true, nat_le}
use Rattle.std.proofs.lemmas.Bool.{leb-false}
use Rattle.std.proofs.lemmas.List.Elements.{All-push}
use Rattle.std.specs.Bool.{MatchBool}
use Rattle.fz_model.specs.declared.refusal.Refusal.{Refusal}
use Rattle.fz_model.specs.declared.refusal.Refusal.TheVariants.{BadLine, BadCount, NoMemory, Output, Input}
use Rattle.fz_model.specs.declared.limits.TheConstants.{MAX_BLOCKS, MAX_FRAMES, MAX_WORKERS}
use Rattle.fz_model.specs.Causes.{bad_count, IsRefusedFor}
use Rattle.fz_model.specs.Joint.{Move}
use Rattle.fz_script.specs.Spelling.{Token}
use Rattle.fz_runs.specs.declared.text.input.Ending.{Ending}
use Rattle.fz_runs.specs.declared.text.input.Ending.TheVariants.{Whole, Last, Nothing, TooLong}
use Rattle.fz_runs.specs.declared.script.machine.Machine.{Machine}
use Rattle.fz_runs.specs.declared.script.answer.Answer.{Answer}
use Rattle.fz_runs.specs.declared.script.answer.Answer.TheVariants.{Skipped, Opened, Replied, Malformed}
use Rattle.fz_runs.specs.declared.script.answer.Answer.TheVariants as answers
use Rattle.fz_runs.specs.declared.script.run.Counts.{Counts}
use Rattle.fz_runs.specs.declared.script.run.Summary.{Summary}
use Rattle.fz_runs.specs.declared.text.fault.DriveFault.{DriveFault}
use Rattle.std.specs.Io.KnownBytes.{Consumes, IsAtEnd, prepend_known}
use Rattle.fz_runs.specs.Script.{max_lines, may_come, IsMalformed}
use Rattle.fz_runs.specs.Lines.{with_lf, IsOneLine, all_lines, max_line}
use Rattle.fz_runs.specs.Replies.{reply_words, end_words}
use Rattle.fz_runs.specs.Written.{text_line, done, refused_words, malformed_words}
use Rattle.fz_runs.specs.Report.{Course, Reports, opening_causes, summary_of, AtEnd, IsReport, AtLine, IsRefusedOpening, IsDue, Opens, OpensNot, Replies, closing_words, Explains, Stopped, Drives}
use Rattle.fz_runs.specs.Lines.{IsEnded}
use Rattle.fz_runs.specs.Report as report
use Rattle.fz_runs.specs.Reading.{TakenFor, EndsInput}
use Rattle.fz_runs.specs.Devices.{Feed, Log, Gains}
use Rattle.fz_runs.specs.Faults.{failures_of}
use Rattle.fz_runs.proofs.Lines.{Between, line_more, ends_here, ends_last, next_at, counts_only}
use Rattle.fz_runs.proofs.Taking.{took_ahead, took_all, no_more}
use Rattle.fz_runs.proofs.Writing.{gains_more}
use Rattle.fz_runs.specs.Machines.{Gives, Given, answer_text, is_told, stop_of, bit, TellsAnswer, counts_after, counts_of, summary_at, ending_words, Finishes}
use Rattle.std.proofs.KnownBytes.{Appends-trans}
use Rattle.fz_runs.proofs.Balance.{balanced}
use Rattle.fz_runs.proofs.Scripts.{Follows, follows_some, After, carried_out, same_summary, same_ending}

-- between two lines
abbrev pub Position : List ℕ → ℕ → List ℕ → Option Machine → Counts → Type 0
Position bytes number text machine counts = Between (λ lines. After lines text machine counts) bytes number

-- ---- the run goes on

matched : (b : Bool) (P Q : Type 0) → MatchBool b P Q → ((b ≡ true) × P) ⊎ ((b ≡ false) × Q)
matched true P Q h = inl (refl, h)
matched false P Q h = inr (refl, h)

-- the line was in time, or one too many
timed : (number : ℕ) (old new : Option Machine) (line : List ℕ) (answer : Answer) → MatchBool (nat_le number max_lines) (Gives old line answer new) ((answer ≡ Malformed) × (new ≡ old))
    → ((number ≤ max_lines) × Gives old line answer new) ⊎ ((max_lines < number) × (answer ≡ Malformed))
timed number old new line answer h = elim (matched (nat_le number max_lines) (Gives old line answer new) ((answer ≡ Malformed) × (new ≡ old)) h) [
  | inl t ↦ inl (leb-true _ _ t.0, t.1)
  | inr t ↦ inr (leb-false _ _ t.0, t.1.0)
]

stopped : (answer : Answer) → answer ≡ Malformed → stop_of answer ≡ None → ⊥
stopped answer e go = let bad : ◌≡◌ {A = Option Refusal} (Some BadLine) None = ap stop_of (sym e) ∙ go in absurd cc

in_time : (number : ℕ) (old new : Option Machine) (line : List ℕ) (answer : Answer) → MatchBool (nat_le number max_lines) (Gives old line answer new) ((answer ≡ Malformed) × (new ≡ old)) → stop_of answer ≡ None
    → (number ≤ max_lines) × Gives old line answer new
in_time number old new line answer h go = elim (timed number old new line answer h) [
  | inl t ↦ t
  | inr t ↦ absurd (stopped answer t.1 go)
]

-- where the run goes on, the line has an answer of the machine
pub goes_on : (number : ℕ) (ending : Ending) (old new : Option Machine) (line : List ℕ) (answer : Answer) → Given number ending old line answer new → stop_of answer ≡ None
    → (number ≤ max_lines) × Gives old line answer new
goes_on number Whole old new line answer h go = in_time number old new line answer h go
goes_on number Last old new line answer h go = in_time number old new line answer h go
goes_on number Nothing old new line answer h go = in_time number old new line answer h go
goes_on number TooLong old new line answer h go = absurd (stopped answer h.0 go)

-- a line after which the run goes on, and which is not the last, ends with LF
pub whole_taken : (number : ℕ) (ending : Ending) (old new : Option Machine) (line bytes : List ℕ) (answer : Answer) → Given number ending old line answer new → stop_of answer ≡ None
    → ending ≢ Nothing → ending ≢ Last → TakenFor ending line bytes → bytes ≡ with_lf line
whole_taken number Whole old new line bytes answer h go n l t = t
whole_taken number Last old new line bytes answer h go n l t = absurd (l refl)
whole_taken number Nothing old new line bytes answer h go n l t = absurd (n refl)
whole_taken number TooLong old new line bytes answer h go n l t = absurd (stopped answer h.0 go)

-- a line with its LF was carried out
pub position_more : (seen text line : List ℕ) (number : ℕ) (old new : Option Machine) (counts : Counts) (answer : Answer)
    → Position seen number text old counts → IsOneLine line → length line ≤ max_line → number ≤ max_lines → Gives old line answer new → stop_of answer ≡ None
    → Position (seen ++ with_lf line) (number + 1) (text ++ answer_text number answer) new (counts_after counts answer)
position_more seen text line number old new counts answer p one short few g go =
    let place = p.place in
    let after = p.holds in
    line_more (λ lines. After lines (text ++ answer_text number answer) new (counts_after counts answer)) seen line number p one
    (carried_out p.lines text line number old new counts answer after.course after.reports after.follows after.counted short (omega (arith, place, few)) g go)

-- ---- the whole input was read

-- all lines were carried out
pub record Ended (bytes : List ℕ) (number : ℕ) (text : List ℕ) (machine : Option Machine) (counts : Counts) : Type 0 where
  pub course : Option Course
  pub at_end : AtEnd bytes number text course
  pub follows : Follows machine course
  pub counted : counts ≡ counts_of course

-- the input ended between two lines
pub close_here : (seen bytes text : List ℕ) (number : ℕ) (machine : Option Machine) (counts : Counts) → Position seen number text machine counts → bytes ≡ [] → Ended (seen ++ bytes) number text machine counts
close_here seen bytes text number machine counts p e =
    let after = p.holds in record { course = after.course; at_end = ends_here (λ lines. Reports lines text after.course) seen bytes number p e after.reports; follows = after.follows; counted = after.counted }

-- the input ended with a line that has no LF
pub close_last : (seen bytes text line : List ℕ) (number : ℕ) (old new : Option Machine) (counts : Counts) (answer : Answer)
    → Position seen number text old counts → bytes ≡ line → line ≢ [] → IsOneLine line → length line ≤ max_line → number ≤ max_lines → Gives old line answer new → stop_of answer ≡ None
    → Ended (seen ++ bytes) (number + 1) (text ++ answer_text number answer) new (counts_after counts answer)
close_last seen bytes text line number old new counts answer p e some one short few g go =
    let place = p.place in
    let before = p.holds in
    let after = carried_out p.lines text line number old new counts answer before.course before.reports before.follows before.counted short (omega (arith, place, few)) g go in
    record { course = after.course; at_end = ends_last (λ lines. Reports lines (text ++ answer_text number answer) after.course) seen bytes line number p e some one after.reports; follows = after.follows; counted = after.counted }

-- ---- faults: what was read, used and written

explained : (f : DriveFault) (q : Refusal) (number : ℕ) (bytes u text : List ℕ) (r : Option (List ℕ)) → f.refusal ≡ q → f.line ≡ number → Explains q number bytes u r text → Explains f.refusal f.line bytes u r text
explained f q number bytes u text r e n h = subst (λ p. Explains p f.line bytes u r text) (sym e) (subst (λ m. Explains q m bytes u r text) (sym n) h)

-- the reader failed
pub break_off : (seen text line u : List ℕ) (number : ℕ) (machine : Option Machine) (counts : Counts) (r : Option (List ℕ)) → Position seen number text machine counts → IsOneLine line → length line ≤ max_line → u ≡ [] → Explains Input number (seen ++ line) u r text
break_off seen text line u number machine counts r p one short e =
    (e, p.lines, line, p.holds.course, record { is = ap (λ b. b ++ line) p.is; each = p.each; one = one }, short, p.place, p.holds.reports)

finish_report : (y text : List ℕ) (number : ℕ) (machine : Machine) (course : Option Course) (counts : Counts) (summary : Summary) → AtEnd y number text course → Follows (Some machine) course → counts ≡ counts_of course → summary ≡ summary_at machine counts
    → IsReport y (text ++ text_line (end_words (summary_at machine counts))) summary
finish_report y text number machine None counts summary at f e is = absurd f
finish_report y text number machine (Some course) counts summary at f e is =
    let same = is ∙ same_summary machine course counts f e in
    record { number = number; before = text; course = course; at_end = at; counted = same; told = ap (λ s. text ++ text_line (end_words s)) (sym is) }

report_balanced : (bytes text : List ℕ) (summary : Summary) → IsReport bytes text summary → summary.enqueued ≡ summary.finished + summary.forfeited + summary.in_hand + summary.left
report_balanced bytes text summary r =
    let P : Summary → Type 0 = λ s. s.enqueued ≡ s.finished + s.forfeited + s.in_hand + s.left in
    subst P (sym r.counted) (balanced (all_lines r.at_end.lines r.at_end.last) r.before r.course r.at_end.holds)

no_course : (course : Option Course) → Follows None course → course ≡ None
no_course None f = refl
no_course (Some course) f = absurd f

said_part : (words words' : List Token) (part rest : List ℕ) → words ≡ words' → text_line words' ≡ part ++ rest → text_line words ≡ part ++ rest
said_part words words' part rest e h = ap text_line e ∙ h

pub run_ends : (input left : Feed) (u y text : List ℕ) (old mid new : Log) (number : ℕ) (machine : Option Machine) (counts : Counts) (result : Result Summary DriveFault)
    → Consumes input.remaining (prepend_known u left.remaining) y → IsAtEnd (prepend_known u left.remaining) → left.failures ≡ input.failures → Gains old text mid → Ended y number text machine counts → Finishes number machine counts mid result new
    → Drives input old result left new
run_ends input left u y text old mid new number machine counts (Ok summary) took end reads wrote closed fin =
    let t = took_all input.remaining left.remaining y u end took in
    let last : List ℕ = text_line (end_words (summary_at fin.0 counts)) in
    let report = finish_report y text number fin.0 closed.course counts summary closed.at_end (subst (λ m. Follows m closed.course) fin.1 closed.follows) closed.counted fin.2 in
    record { bytes = y; text = text ++ last; read = t.0; whole = t.1; reads = reads; written = gains_more old mid new text last wrote fin.3; report = report; balanced = report_balanced y (text ++ last) summary report }
run_ends input left u y text old mid new number machine counts (Err fault) took end reads wrote closed fin = elim fin.1 [
  | inl out ↦
      let part = out.1.0 in record {
        bytes = y;
        unread = u;
        text = text ++ part.0;
        read = took_ahead input.remaining left.remaining y u took;
        written = Appends-trans old.written mid.written new.written text part.0 wrote.0 part.4;
        explains = explained fault Output number y u (text ++ part.0) left.remaining out.0 fin.0
            (text, part.0, part.1, refl, part.3, inr (closed.course, closed.at_end, end, said_part (closing_words number closed.course) (ending_words number machine counts) part.0 part.1 (sym (same_ending number machine closed.course counts closed.follows closed.counted)) part.2));
        reads = no_more reads (rw out.0 refl);
        writes = rw out.0 (out.1.1 ∙ ap (λ n. n + 1) wrote.1);
      }
  | inr bad ↦
      let last = gains_more old mid new text (text_line (malformed_words number)) wrote bad.2 in record {
        bytes = y;
        unread = u;
        text = text ++ text_line (malformed_words number);
        read = took_ahead input.remaining left.remaining y u took;
        written = last.0;
        explains = explained fault BadLine number y u (text ++ text_line (malformed_words number)) left.remaining bad.0 fin.0
            (text, refl, inr (subst (λ c. AtEnd y number text c) (no_course closed.course (subst (λ m. Follows m closed.course) bad.1 closed.follows)) closed.at_end, end));
        reads = no_more reads (rw bad.0 refl);
        writes = no_more last.1 (rw bad.0 refl);
      }
]

-- ---- what a line is due

-- what else is known where the run ends at this answer
abbrev pub Why : ℕ → List ℕ → Option Course → Answer → Type 0
Why number line course (answers.Ended refusal) = (course ≡ None) × IsRefusedOpening line refusal × (number ≤ max_lines)
Why number line course Malformed = IsMalformed (is_some course) number line
Why number line course _ = Unit {0}

-- the answer is what this line is due
pub record Due (number : ℕ) (line : List ℕ) (course : Option Course) (answer : Answer) : Type 0 where
  pub words : List Token
  pub due : IsDue number line course words
  pub said : answer_text number answer ≡ text_line words
  pub why : Why number line course answer

malformed_due : (number : ℕ) (line : List ℕ) (course : Option Course) (answer : Answer) → answer ≡ Malformed → IsMalformed (is_some course) number line → Due number line course answer
malformed_due number line course answer e h = subst (Due number line course) (sym e) (record { words = malformed_words number; due = report.Malformed course h; said = refl; why = h })

given_due : (number : ℕ) (line : List ℕ) (old new : Option Machine) (course : Option Course) (answer : Answer) → number ≤ max_lines → Follows old course → IsTrue (is_told answer) → Gives old line answer new → Due number line course answer
given_due number line old new course Skipped few f told g = absurd cc
given_due number line old new None Opened few f told g = record { words = done; due = Opens g.3 g.4 g.5 few g.6 g.7; said = refl; why = tt }
given_due number line old new (Some course) Opened few f told g = absurd (subst (λ m. Follows m (Some course)) g.0 f)
given_due number line old new None (Replied result) few f told g = absurd (subst (λ m. Follows m None) g.1 f)
given_due number line old new (Some course) (Replied result) few f told g =
    let does = g.6 in
    let d = does.does course.end (subst (λ m. Follows m (Some course)) g.1 f) in
    let m : Move = record { event = does.event; reply = does.reply } in
    record { words = reply_words m.event m.reply; due = Replies course g.4 m d.0 few g.5 does.asked d.1; said = ap text_line does.tells.words; why = tt }
given_due number line old new None (answers.Ended refusal) few f told g = record { words = refused_words refusal; due = OpensNot refusal few g.2; said = refl; why = (refl, g.2, few) }
given_due number line old new (Some course) (answers.Ended refusal) few f told g = absurd (subst (λ m. Follows m (Some course)) g.0 f)
given_due number line old new course Malformed few f told g =
    malformed_due number line course Malformed refl (inr (inr (g.1, λ step fits is. subst (λ b. IsFalse (may_come b step)) (follows_some old course f) (g.2 step fits is))))

timed_due : (number : ℕ) (line : List ℕ) (old new : Option Machine) (course : Option Course) (answer : Answer) → Follows old course → IsTrue (is_told answer) → MatchBool (nat_le number max_lines) (Gives old line answer new) ((answer ≡ Malformed) × (new ≡ old))
    → Due number line course answer
timed_due number line old new course answer f told h = elim (timed number old new line answer h) [
  | inl t ↦ given_due number line old new course answer t.0 f told t.1
  | inr t ↦ malformed_due number line course answer t.1 (inr (inl t.0))
]

-- at this line, whose bytes were taken, the answer is due
pub record DueAt (bytes : List ℕ) (left : Option (List ℕ)) (number : ℕ) (text : List ℕ) (answer : Answer) : Type 0 where
  pub line : List ℕ
  pub course : Option Course
  pub at : AtLine bytes left number line text course
  pub due : Due number line course answer

due_at : (seen bytes text line end : List ℕ) (left : Option (List ℕ)) (number : ℕ) (machine : Option Machine) (counts : Counts) (answer : Answer) → (p : Position seen number text machine counts) → bytes ≡ line ++ end → IsOneLine line → IsEnded line end left → Due number line p.holds.course answer
    → DueAt (seen ++ bytes) left number text answer
due_at seen bytes text line end left number machine counts answer p is one ended due = record {
  line = line;
  course = p.holds.course;
  at = next_at (λ lines. Reports lines text p.holds.course) seen bytes line end left number p is one ended p.holds.reports;
  due = due;
}

pub reach : (seen bytes text line : List ℕ) (left : Option (List ℕ)) (number : ℕ) (ending : Ending) (old new : Option Machine) (counts : Counts) (answer : Answer)
    → Position seen number text old counts → TakenFor ending line bytes → EndsInput ending left → IsOneLine line → length line ≤ max_line → ending ≢ Nothing → Given number ending old line answer new → IsTrue (is_told answer) → DueAt (seen ++ bytes) left number text answer
reach seen bytes text line left number Whole old new counts answer p t end one short n g told =
    due_at seen bytes text line (10 ∷ []) left number old counts answer p t one (inl refl) (timed_due number line old new p.holds.course answer p.holds.follows told g)
reach seen bytes text line left number Last old new counts answer p t end one short n g told =
    due_at seen bytes text line [] left number old counts answer p (t.0 ∙ sym (append-nil line)) one (inr (refl, inl (end, t.1))) (timed_due number line old new p.holds.course answer p.holds.follows told g)
reach seen bytes text line left number Nothing old new counts answer p t end one short n g told = absurd (n refl)
reach seen bytes text line left number TooLong old new counts answer p t end one short n g told =
    let longer : length (line ++ t.0 ∷ []) ≡ max_line + 1 = let l = t.3 in omega (arith, length-append line (t.0 ∷ []), l) in
    due_at seen bytes text (line ++ t.0 ∷ []) [] left number old counts answer p (t.1 ∙ sym (append-nil _)) (All-push (λ b. b ≢ 10) line t.0 one t.2) (inr (refl, inr longer)) (malformed_due number (line ++ t.0 ∷ []) p.holds.course answer g.0 (inl (omega (arith, longer))))

-- ---- faults of a line

-- an opening is refused for one of two reasons
two_refusals : (blocks frames workers : ℕ) (q : Refusal) → IsRefusedFor (opening_causes blocks frames workers) true q → (q ≡ BadCount) ⊎ (q ≡ NoMemory)
two_refusals blocks frames workers q h = elim h [
  | inl first ↦ inl (counts_only (bad_count MAX_WORKERS workers).0 (bad_count MAX_BLOCKS blocks).0 (bad_count MAX_FRAMES frames).0 q first)
  | inr none ↦ inr none.1
]

opening_explains : (q : Refusal) (number : ℕ) (line bytes u text : List ℕ) (r : Option (List ℕ)) → number ≤ max_lines → AtLine bytes (prepend_known u r) number line text None → IsRefusedOpening line q → Explains q number bytes u r (text ++ text_line (refused_words q))
opening_explains q number line bytes u text r few at h =
    let at' : AtLine bytes (prepend_known u r) number line [] None = subst (λ t. AtLine bytes (prepend_known u r) number line t None) at.holds.1 at in
    let only : text ++ text_line (refused_words q) ≡ text_line (refused_words q) = ap (λ t. t ++ text_line (refused_words q)) at.holds.1 in
    elim (two_refusals h.0 h.1 h.2 q h.4) [
      | inl count ↦
          let P : Refusal → Type 0 = λ p. IsRefusedOpening line p in
          let Q : Refusal → Type 0 = λ p. Explains p number bytes u r (text ++ text_line (refused_words q)) in
          subst Q (sym count) (few, line, at', subst P count h, only ∙ ap (λ p. text_line (refused_words p)) count)
      | inr memory ↦
          let P : Refusal → Type 0 = λ p. IsRefusedOpening line p in
          let Q : Refusal → Type 0 = λ p. Explains p number bytes u r (text ++ text_line (refused_words q)) in
          subst Q (sym memory) (few, line, at', subst P memory h, only ∙ ap (λ p. text_line (refused_words p)) memory)
    ]

same_some : (x y : Refusal) → ◌≡◌ {A = Option Refusal} (Some x) (Some y) → x ≡ y
same_some x y h = cc

stop_explains : (answer : Answer) (q : Refusal) (number : ℕ) (bytes u text : List ℕ) (r : Option (List ℕ)) → stop_of answer ≡ Some q → DueAt bytes (prepend_known u r) number text answer → Explains q number bytes u r (text ++ answer_text number answer)
stop_explains Skipped q number bytes u text r h due = absurd cc
stop_explains Opened q number bytes u text r h due = absurd cc
stop_explains (Replied result) q number bytes u text r h due = absurd cc
stop_explains (answers.Ended e) q number bytes u text r h due =
    subst (λ p. Explains p number bytes u r (text ++ text_line (refused_words e))) (same_some e q h)
    (opening_explains e number due.line bytes u text r due.due.why.2 (subst (λ c. AtLine bytes (prepend_known u r) number due.line text c) due.due.why.0 due.at) due.due.why.1)
stop_explains Malformed q number bytes u text r h due = subst (λ p. Explains p number bytes u r (text ++ text_line (malformed_words number))) (same_some BadLine q h) (text, refl, inl (due.line, due.course, due.at, due.due.why))

-- what stops a run is no failure of a device
stop_failures : (answer : Answer) (q : Refusal) (number n : ℕ) (line : List ℕ) (course : Option Course) → stop_of answer ≡ Some q → Why number line course answer
    → (failures_of Input (record { refusal = q; line = n }) ≡ 0) × (failures_of Output (record { refusal = q; line = n }) ≡ 0)
stop_failures Skipped q number n line course h why = absurd cc
stop_failures Opened q number n line course h why = absurd cc
stop_failures (Replied result) q number n line course h why = absurd cc
stop_failures (answers.Ended e) q number n line course h why =
    let P : Refusal → Type 0 = λ p. (failures_of Input (record { refusal = p; line = n }) ≡ 0) × (failures_of Output (record { refusal = p; line = n }) ≡ 0) in
    subst P (same_some e q h) (elim (two_refusals why.1.0 why.1.1 why.1.2 e why.1.4) [
      | inl count ↦ subst P (sym count) (refl, refl)
      | inr memory ↦ subst P (sym memory) (refl, refl)
    ])
stop_failures Malformed q number n line course h why =
    let P : Refusal → Type 0 = λ p. (failures_of Input (record { refusal = p; line = n }) ≡ 0) × (failures_of Output (record { refusal = p; line = n }) ≡ 0) in
    subst P (same_some BadLine q h) (refl, refl)

stop_told : (answer : Answer) (q : Refusal) → stop_of answer ≡ Some q → IsTrue (is_told answer)
stop_told Skipped q h = absurd cc
stop_told Opened q h = refl
stop_told (Replied result) q h = refl
stop_told (answers.Ended e) q h = refl
stop_told Malformed q h = refl

-- a fault of a line, told by the line's answer or by the writer
pub tell_stops : (input left : Feed) (u y text : List ℕ) (old mid new : Log) (number : ℕ) (answer : Answer) (fault : DriveFault)
    → Consumes input.remaining (prepend_known u left.remaining) y → left.failures ≡ input.failures → Gains old text mid → (IsTrue (is_told answer) → DueAt y (prepend_known u left.remaining) number text answer) → TellsAnswer number answer mid (Err fault) new
    → Stopped input left old new fault
tell_stops input left u y text old mid new number answer fault took reads wrote due tells = elim tells.1 [
  | inl out ↦
      let d = due out.1 in
      let part = out.2.0 in record {
        bytes = y;
        unread = u;
        text = text ++ part.0;
        read = took_ahead input.remaining left.remaining y u took;
        written = Appends-trans old.written mid.written new.written text part.0 wrote.0 part.4;
        explains = explained fault Output number y u (text ++ part.0) left.remaining out.0 tells.0 (text, part.0, part.1, refl, part.3, inl (d.line, d.course, d.due.words, d.at, d.due.due, sym d.due.said ∙ part.2));
        reads = no_more reads (rw out.0 refl);
        writes = rw out.0 (out.2.1 ∙ ap (λ n. n + 1) wrote.1);
      }
  | inr stop ↦
      let d = due (stop_told answer fault.refusal stop.0) in
      let none = stop_failures answer fault.refusal number fault.line d.line d.course stop.0 d.due.why in
      let all = gains_more old mid new text (answer_text number answer) wrote stop.1 in record {
        bytes = y;
        unread = u;
        text = text ++ answer_text number answer;
        read = took_ahead input.remaining left.remaining y u took;
        written = all.0;
        explains = explained fault fault.refusal number y u (text ++ answer_text number answer) left.remaining refl tells.0 (stop_explains answer fault.refusal number y u text left.remaining stop.0 d);
        reads = no_more reads none.0;
        writes = no_more all.1 none.1;
      }
]

-- ---- counts stay small

abbrev pub IsBelow : ℕ → Counts → Type 0
IsBelow n counts = (counts.steps < n) × (counts.refused < n) × (counts.finished < n) × (counts.forfeited < n)

pub counts_bound : (counts : Counts) (answer : Answer) (n : ℕ) → counts.steps < n → counts.refused < n → counts.finished < n → counts.forfeited < n → IsBelow (n + 1) (counts_after counts answer)
counts_bound counts Skipped n a b c d = (omega arith, omega arith, omega arith, omega arith)
counts_bound counts Opened n a b c d = (omega arith, omega arith, omega arith, omega arith)
counts_bound counts (Replied result) n a b c d = (omega arith, one_more counts.refused _ n b, one_more counts.finished _ n c, one_more counts.forfeited _ n d)
  where
    one_more : (m : ℕ) (t : Bool) (n : ℕ) → m < n → m + bit t < n + 1
    one_more m true n l = omega arith
    one_more m false n l = omega arith
counts_bound counts (answers.Ended e) n a b c d = (omega arith, omega arith, omega arith, omega arith)
counts_bound counts Malformed n a b c d = (omega arith, omega arith, omega arith, omega arith)
