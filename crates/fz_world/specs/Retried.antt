-- An allocation that finds no room, and is tried again. Each of its calls satisfies `Makes`, which states everything about a call: for a world this is
-- `Replies`.
-- code: fz_world/src/retrying.rt; fz_service/src/calls.rt
use Rattle.std.specs.Prelude.{◌≡◌, ◌≢◌, Err, Ok, Result}
use Rattle.fz_model.specs.declared.refusal.Refusal.{Refusal}
use Rattle.fz_model.specs.declared.refusal.Refusal.TheVariants.{NoSpace}
use Rattle.fz_model.specs.declared.call.Call.{Call}
use Rattle.fz_model.specs.declared.call.Call.TheVariants.{Collect}
use Rattle.fz_model.specs.declared.call.Reply.{Reply}

-- one of three: the call alone, if it doesn't fail with NoSpace; or the call and a collection that both fail; or the call, a collection, the work, and the call
-- once more. A failed call changes nothing, so each collection starts from the old state.
pub data TriesTwice {S : Type 0} (Makes : S → Call → Result Reply Refusal → S → Type 0) (Works : S → S → Type 0) (call : Call) (old : S) (result : Result Reply Refusal) (new : S) : Type 0 where
  Once : result ≢ Err NoSpace → Makes old call result new → TriesTwice Makes Works call old result new
  NotCollected : (refusal : Refusal) → Makes old call (Err NoSpace) old → Makes old Collect (Err refusal) new → result ≡ Err refusal → TriesTwice Makes Works call old result new
  Twice : (mid worked : S) (passed : Reply) → Makes old call (Err NoSpace) old → Makes old Collect (Ok passed) mid → Works mid worked → Makes worked call result new
      → TriesTwice Makes Works call old result new
