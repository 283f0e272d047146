-- The results of calls as values of `Reply`.
-- code: fz_model/src/call.rt, fz_world/src/calls.rt
use Rattle.std.specs.Prelude.{Result, Ok, Err}
use Rattle.fz_model.specs.declared.call.Call.{Call}
use Rattle.fz_model.specs.declared.call.Call.TheVariants as calls
use Rattle.fz_model.specs.declared.call.Reply.{Reply}
use Rattle.fz_model.specs.declared.call.Reply.TheVariants as replies
use Rattle.fz_model.specs.declared.refusal.Refusal.{Refusal}
use Rattle.fz_model.specs.Events.{CallAnswer}

abbrev pub reply_of : (c : Call) → CallAnswer c → Reply
reply_of (calls.Alloc slot size kind) made = replies.Allocated made.0 made.1
reply_of (calls.Load place to) word = replies.Word word
reply_of (calls.Register slot finalizer) answer = replies.Registered answer
reply_of (calls.Unregister slot) old = replies.Unregistered old
reply_of (calls.Link which place target) answer = replies.Linked answer
reply_of (calls.Unlink which place) there = replies.Unlinked there
reply_of (calls.Move which place to) answer = replies.Moved answer
reply_of (calls.Mark budget) progress = replies.Marked progress
reply_of calls.Pause passed = replies.Passed passed
reply_of calls.Collect passed = replies.Passed passed
reply_of calls.Outstanding count = replies.Outstanding count
reply_of _ done = replies.Done

abbrev pub result_of : (c : Call) → Result (CallAnswer c) Refusal → Result Reply Refusal
result_of c (Ok answer) = Ok (reply_of c answer)
result_of c (Err refusal) = Err refusal
