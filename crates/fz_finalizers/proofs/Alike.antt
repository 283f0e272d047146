-- A pass with cleanups is a pass without them, between two rounds.
use Rattle.std.proofs.Common.{◌≡◌, ◌++◌, ◌∙◌, ℕ, Bool, List, Option, Some, length, refl, sym, ap, subst}
use Rattle.std.specs.FinMap.{get}
use Rattle.std.specs.FinSet.{contains}
use Rattle.fz_model.specs.declared.answers.Entry.{Entry}
use Rattle.fz_model.specs.declared.answers.Pick.{Pick}
use Rattle.fz_model.specs.declared.kinds.LinkKind.TheVariants.{Short, Long}
use Rattle.fz_model.specs.Pass.{entries_of}
use Rattle.fz_model.specs.State.{Map, Object}
use Rattle.fz_pass.specs.Flagged.{DecidesFlagged}
use Rattle.fz_finalizers.specs.declared.cleanups.Attached.{Attached}
use Rattle.fz_finalizers.specs.Cleanups.{is_due, without}
use Rattle.fz_finalizers.specs.Follows.{next_pass}
use Rattle.fz_finalizers.specs.Laws.{IsAsWithoutCleanups, PassesAlike}
use Rattle.fz_finalizers.specs.Passed.{PassesFor, parts_in, parts_left_in}
use Rattle.fz_finalizers.specs.States.{State}
use Rattle.fz_finalizers.proofs.Cleaned.{left_not_due, not_due_in, without_back}

module _ (Exact : Type 0) (place : ℕ → Option ℕ) (old new : State) (objects new_objects : Map Object) (found marked : ℕ → Bool) (p : PassesFor Exact place old objects found new new_objects marked) where
  abbrev picks : List Pick
  picks = p.decided.picks

  abbrev queue : List Entry
  queue = old.queue ++ entries_of (next_pass old.passes) (length old.queue) picks

  abbrev Decided : State → State → Type 0
  Decided s t = DecidesFlagged Exact place (contains s.late) (next_pass old.passes) (length old.queue) (parts_in objects s) found (parts_left_in new_objects marked t) old.queue queue

  between : Decided p.begun p.passed
  between = record { picks = picks; picked = p.decided.picked; queued = refl; kept = p.decided.kept; keeps = p.decided.keeps; most = p.decided.most; is = p.decided.is }

  before : Decided old p.passed
  before = subst (λ s. Decided s p.passed) p.short.2 between

  after : Decided old new
  after = subst (λ t. Decided old t) (sym p.long.2) before

  kept_passed : (n : ℕ) (c : Attached) → get new.cleanups n ≡ Some c → get (without p.passed.cleanups p.long.0) n ≡ Some c
  kept_passed n c here = ap (λ (s : State). get s.cleanups n) (sym p.long.2) ∙ here

  kept_begun : (n : ℕ) (c : Attached) → get new.cleanups n ≡ Some c → get (without old.cleanups p.short.0) n ≡ Some c
  kept_begun n c here =
      let back = without_back p.passed.cleanups p.long.0 n c (kept_passed n c here) in
      ap (λ (s : State). get s.cleanups n) (sym p.short.2) ∙ ap (λ (m : Map Attached). get m n) (sym p.follows.0.cleanups) ∙ back.0

  alike : IsAsWithoutCleanups Exact place old objects found new new_objects marked
  alike = record {
    picks = picks;
    same = after;
    short = λ n c here is. not_due_in Short found c (left_not_due (is_due Short found) old.cleanups p.short.0 p.short.1 n c (kept_begun n c here)) is;
    long = λ n c here is. not_due_in Long marked c (left_not_due (is_due Long marked) p.passed.cleanups p.long.0 p.long.1 n c (kept_passed n c here)) is;
  }

pub passes_alike : (Exact : Type 0) (place : ℕ → Option ℕ) (old new : State) → PassesAlike Exact place old new
passes_alike Exact place old new objects new_objects found marked p = alike Exact place old new objects new_objects found marked p
