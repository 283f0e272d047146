-- What a report says of each step: the words of its reply.
-- code: fz_runs/src/script/reply.rt
use Rattle.std.specs.Prelude.{ℕ, Bool, true, false, List, [], ◌∷◌, codes, Option, Some, None, Result, Ok, Err}
use Rattle.fz_model.specs.declared.answers.Entry.{Entry}
use Rattle.fz_model.specs.declared.answers.Old.{Old}
use Rattle.fz_model.specs.declared.answers.Passed.{Passed}
use Rattle.fz_model.specs.declared.answers.Progress.{Progress}
use Rattle.fz_model.specs.declared.answers.Progress.TheVariants.{More, Done}
use Rattle.fz_model.specs.declared.answers.RegAnswer.{RegAnswer}
use Rattle.fz_model.specs.declared.answers.RegAnswer.TheVariants as registering
use Rattle.fz_model.specs.declared.answers.LinkAnswer.{LinkAnswer}
use Rattle.fz_model.specs.declared.answers.LinkAnswer.TheVariants as linking
use Rattle.fz_model.specs.declared.answers.MoveAnswer.{MoveAnswer}
use Rattle.fz_model.specs.declared.answers.MoveAnswer.TheVariants as moving
use Rattle.fz_model.specs.declared.refusal.Refusal.{Refusal}
use Rattle.fz_model.specs.declared.call.Reply.{Reply}
use Rattle.fz_model.specs.declared.call.Reply.TheVariants as replies
use Rattle.fz_model.specs.Events.{Event, Make, Queue, Answer}
use Rattle.fz_model.specs.Calls.{reply_of}
use Rattle.fz_model.specs.Joint.{JointEvent, Call, Take, HoldOwn, FinishOwn, Forfeit, JointAnswer, Move}
use Rattle.fz_script.specs.Spelling.{Token, Number, Text}
use Rattle.fz_runs.specs.Written.{text_line, done, refused_words}
use Rattle.fz_runs.specs.declared.script.run.Summary.{Summary}

abbrev pub pair_words : Option Old → List Token
pair_words None = []
pair_words (Some old) = Text (codes "old") ∷ Number old.proc ∷ Number old.cd ∷ []

abbrev pub registered_words : RegAnswer → List Token
registered_words registering.Outside = Text (codes "outside") ∷ []
registered_words (registering.Number number old) = Text (codes "reg") ∷ Number number ∷ pair_words old

abbrev pub unregistered_words : Option Old → List Token
unregistered_words None = Text (codes "none") ∷ []
unregistered_words (Some old) = pair_words (Some old)

abbrev pub linked_words : LinkAnswer → List Token
linked_words linking.Success = Text (codes "success") ∷ []
linked_words linking.Duplicate = Text (codes "duplicate") ∷ []

abbrev pub unlinked_words : Bool → List Token
unlinked_words true = Text (codes "true") ∷ []
unlinked_words false = Text (codes "false") ∷ []

abbrev pub moved_words : MoveAnswer → List Token
moved_words moving.Success = Text (codes "success") ∷ []
moved_words moving.Duplicate = Text (codes "duplicate") ∷ []
moved_words moving.NotFound = Text (codes "notfound") ∷ []

abbrev pub marked_words : Progress → List Token
marked_words More = Text (codes "more") ∷ []
marked_words Done = Text (codes "done") ∷ []

abbrev pub passed_words : Passed → List Token
passed_words passed =
    Text (codes "pass") ∷ Number passed.pass ∷ Text (codes "picked") ∷ Number passed.picked ∷ Text (codes "reclaimed") ∷ Number passed.reclaimed ∷ []

abbrev pub taken_words : Option Entry → List Token
taken_words None = Text (codes "empty") ∷ []
taken_words (Some entry) =
    Text (codes "entry") ∷ Number entry.seq ∷ Number entry.pass ∷ Number entry.reg ∷ Number entry.obj ∷ Number entry.birth ∷ Number entry.proc ∷ Number entry.cd ∷ []

abbrev pub called_words : Reply → List Token
called_words replies.Done = done
called_words (replies.Allocated address birth) = Text (codes "new") ∷ Number address ∷ Number birth ∷ []
called_words (replies.Word word) = Text (codes "word") ∷ Number word ∷ []
called_words (replies.Registered answer) = registered_words answer
called_words (replies.Unregistered old) = unregistered_words old
called_words (replies.Linked answer) = linked_words answer
called_words (replies.Unlinked there) = unlinked_words there
called_words (replies.Moved answer) = moved_words answer
called_words (replies.Marked progress) = marked_words progress
called_words (replies.Passed passed) = passed_words passed
called_words (replies.Outstanding count) = Text (codes "outstanding") ∷ Number count ∷ []

-- no step of a script reads the queue
abbrev pub event_words : (e : Event) → Answer e → List Token
event_words (Make call) answer = called_words (reply_of call answer)
event_words Queue answer = []
event_words _ answer = done

abbrev pub answer_words : (e : JointEvent) → JointAnswer e → List Token
answer_words (Call e) answer = event_words e answer
answer_words (Take worker) answer = taken_words answer
answer_words (HoldOwn worker slot) answer = done
answer_words (FinishOwn worker) answer = done
answer_words (Forfeit worker) answer = done

abbrev pub reply_words : (e : JointEvent) → Result (JointAnswer e) Refusal → List Token
reply_words e (Ok answer) = answer_words e answer
reply_words e (Err refusal) = refused_words refusal

abbrev pub reply_line : Move → List ℕ
reply_line m = text_line (reply_words m.event m.reply)

-- the last line of a complete report
abbrev pub end_words : Summary → List Token
end_words summary =
    Text (codes "end") ∷ Text (codes "enqueued") ∷ Number summary.enqueued ∷ Text (codes "finished") ∷ Number summary.finished
    ∷ Text (codes "forfeited") ∷ Number summary.forfeited ∷ Text (codes "in_hand") ∷ Number summary.in_hand ∷ Text (codes "left") ∷ Number summary.left ∷ []
