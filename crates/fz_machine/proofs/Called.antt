-- A pass is made of calls.
use Rattle.std.proofs.Common.{ℕ, Bool, true, false, cond, refl, sym, subst}
use Rattle.std.specs.FinMap.{remove}
use Rattle.fz_model.specs.declared.kinds.LinkKind.{LinkKind}
use Rattle.fz_model.specs.declared.kinds.LinkKind.TheVariants.{Short, Long}
use Rattle.fz_finalizers.specs.Follows.{Follows, EndEphemeron, Unlink, Begin, Queue, QueueCleanup, queued_cleanup, queued_object}
use Rattle.fz_finalizers.specs.Kinds.{is_late}
use Rattle.fz_finalizers.specs.Promises.{IsReached, Past, Then}
use Rattle.fz_finalizers.specs.States.{State, View}
use Rattle.fz_machine.specs.declared.item.Item.{Item}
use Rattle.fz_machine.specs.declared.phase.Phase.{Phase}
use Rattle.fz_machine.specs.declared.phase.Phase.TheVariants.{Keys, KeysAgain, Holders, Values, Regions, ShortCleanups, ShortTargets, ShortWords, ShortKeys, ShortKeyWords, Objects, Children, Again, Picks, Entries, LateAgain, LatePicks, LongTargets, LongWords, LongKeys, LongKeyWords, ShortHolders, LongHolders, ShortKeyHolders, LongKeyHolders, LongCleanups}
use Rattle.fz_machine.specs.Heard.{Abandons, Hearing, IsCalled, Opens, PassesAreCalls, Tells}
use Rattle.fz_machine.specs.Machines.{Machine, going_of, heard_by}
use Rattle.fz_machine.specs.Phases.{after, without_key}
use Rattle.fz_machine.proofs.Throughout.{goes_keep, heard_keeps}

-- ---- what answers do

module _ (past : Past) (s : State) (c : IsCalled past s) where
  unlinked : (kind : LinkKind) (word : ℕ) (new : State) → Follows s (Unlink kind word) new → IsCalled past new
  unlinked kind word new is = record { later = c.later; reached = Then (Unlink kind word) c.reached is; taken = c.taken; finished = c.finished }

  keyed : (word : ℕ) → IsCalled past (without_key s word)
  keyed word = record { later = _; reached = Then (EndEphemeron word) c.reached refl; taken = c.taken; finished = c.finished }

  queued : (object : ℕ) → IsCalled past (queued_object s object)
  queued object = record { later = _; reached = Then (Queue object) c.reached refl; taken = c.taken; finished = c.finished }

  cleaned : (number : ℕ) → IsCalled past (queued_cleanup s number)
  cleaned number = record { later = _; reached = Then (QueueCleanup number) c.reached refl; taken = c.taken; finished = c.finished }

  cases : (b : Bool) (t u : State) → IsCalled past t → IsCalled past u → IsCalled past (cond b t u)
  cases true t u x y = x
  cases false t u x y = y

  called : (phase : Phase) (item : Item) (answer : Bool) → IsCalled past (after phase item answer s)
  called (Keys moment) item answer = c
  called (KeysAgain moment) item answer = c
  called (Holders moment) item answer = c
  called (Values moment) item answer = c
  called (Regions sweep) item answer = c
  called ShortCleanups item answer = cases answer s (queued_cleanup s item.word) c (cleaned item.word)
  called ShortTargets item answer = c
  called ShortWords item answer = unlinked Short item.word _ refl
  called ShortKeys item answer = c
  called ShortKeyWords item answer = keyed item.word
  called Objects item answer = c
  called Children item answer = c
  called Again item answer = c
  called Picks item answer = c
  called Entries item answer = cases (is_late item.kind) s (queued_object s item.object) c (queued item.object)
  called LateAgain item answer = c
  called LatePicks item answer = queued item.object
  called LongTargets item answer = c
  called LongWords item answer = unlinked Long item.word _ refl
  called LongKeys item answer = c
  called LongKeyWords item answer = keyed item.word
  called ShortHolders item answer = cases answer s (record s { short = remove s.short item.word }) c (unlinked Short item.word _ refl)
  called LongHolders item answer = cases answer s (record s { long = remove s.long item.word }) c (unlinked Long item.word _ refl)
  called ShortKeyHolders item answer = cases answer s (without_key s item.word) c (keyed item.word)
  called LongKeyHolders item answer = cases answer s (without_key s item.word) c (keyed item.word)
  called LongCleanups item answer = cases answer s (queued_cleanup s item.word) c (cleaned item.word)

pub passes_are_calls : PassesAreCalls
passes_are_calls old new past reached (Opens from begun) = record { later = past; reached = Then Begin reached begun.finalizers; taken = refl; finished = refl }
passes_are_calls old new past reached (Hearing heard next goes) =
    let kept = λ (phase : Phase) (item : Item) (answer : Bool) (s : State) (c : IsCalled past s). called past s c phase item answer in
    let start : IsCalled past old.finalizers.state = record { later = past; reached = reached; taken = refl; finished = refl } in
    goes_keep (IsCalled past) kept goes.phase (heard_by goes.phase old.regions heard (going_of old)) new.phase (going_of new) goes.goes
    (heard_keeps (IsCalled past) kept goes.phase old.regions heard (going_of old) start)
passes_are_calls old new past reached (Tells key tells) = record { later = past; reached = subst (λ (m : Machine). IsReached m.finalizers.state past) (sym tells.same) reached; taken = refl; finished = refl }
passes_are_calls old new past reached (Abandons abandoned) =
    record { later = past; reached = subst (λ (v : View). IsReached v.state past) (sym abandoned.same) reached; taken = refl; finished = refl }
