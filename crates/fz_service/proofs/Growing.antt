-- How queue and held entries grow along the calls of a world other than `finish`.
use Rattle.std.proofs.Common.{◌≡◌, ◌++◌, List, [], Result, Ok, Err, refl, sym, ap, ◌∙◌, IsFalse, append-nil, append_assoc, length}
use Rattle.std.proofs.lemmas.Bool.{not-true}
use Rattle.fz_model.specs.declared.answers.Entry.{Entry}
use Rattle.fz_model.specs.declared.refusal.Refusal.{Refusal}
use Rattle.fz_model.specs.State.{Core, State}
use Rattle.fz_model.specs.Pass.{entries_of}
use Rattle.fz_model.specs.Events.{Event, Answer}
use Rattle.fz_model.specs.Steps.{Step, StepsTo, NoStep, OneMore, any_call}
use Rattle.fz_model.specs.Joint.{is_finish}
use Rattle.fz_model.proofs.Stepwise.{accepted_grows}
use Rattle.fz_service.specs.States.{is_no_finish}

-- both gained the same entries
pub record IsLonger (old new : Core) : Type 0 where
  pub more : List Entry
  pub queue : new.queue ≡ old.queue ++ more
  pub held : new.held ≡ old.held ++ more

pub same_longer : (c : Core) → IsLonger c c
same_longer c = record { more = []; queue = sym (append-nil c.queue); held = sym (append-nil c.held) }

longer_still : (old mid new : Core) → IsLonger old mid → IsLonger mid new → IsLonger old new
longer_still old mid new a b = record {
  more = a.more ++ b.more;
  queue = b.queue ∙ ap (λ (es : List Entry). es ++ b.more) a.queue ∙ append_assoc old.queue a.more b.more;
  held = b.held ∙ ap (λ (es : List Entry). es ++ b.more) a.held ∙ append_assoc old.held a.more b.more;
}

pub step_longer : (s : State) (e : Event) (reply : Result (Answer e) Refusal) (new : State) → IsFalse (is_finish e) → Step s e reply new → IsLonger s.core new.core
step_longer s e (Err r) new other step = record {
  more = [];
  queue = ap (λ (t : State). t.queue) step.1 ∙ sym (append-nil s.queue);
  held = ap (λ (t : State). t.held) step.1 ∙ sym (append-nil s.held);
}
step_longer s e (Ok answer) new other step =
    let g = accepted_grows s e answer new.core other step.1 in
    record { more = entries_of g.pass (length s.queue) g.picks; queue = g.queue; held = g.held }

pub steps_longer : (s new : State) → StepsTo is_no_finish s new → IsLonger s.core new.core
steps_longer s new NoStep = same_longer s.core
steps_longer s new (OneMore {mid = mid} e reply ok before step) =
    longer_still s.core mid.core new.core (steps_longer s mid before) (step_longer mid e reply new (not-true (is_finish e) ok) step)

-- steps after steps
pub steps_on : (first s new : State) → StepsTo any_call first s → StepsTo is_no_finish s new → StepsTo any_call first new
steps_on first s new before NoStep = before
steps_on first s new before (OneMore {mid = mid} e reply ok after step) = OneMore e reply refl (steps_on first s mid before after) step
