-- Calls of a world one after another, as a procedure makes them. A crate whose procedures or helpers make calls names `runs_calls` in its attribute
-- `tactic`, and needs no answer for them.
use Rattle.std.proofs.Common.{Result, IsTrue, refl, ◌∙◌}
use Rattle.fz_model.specs.declared.refusal.Refusal.{Refusal}
use Rattle.fz_model.specs.State.{State}
use Rattle.fz_model.specs.Events.{Event, Answer}
use Rattle.fz_model.specs.Steps.{StepsTo, NoStep, OneMore}
use Rattle.fz_world.specs.World.{WorldView}
use Rattle.fz_world.specs.Does.{Does}
use Rattle.fz_service.specs.States.{RunsCalls, is_no_finish}

-- no call
pub runs_none : (world : WorldView) → RunsCalls world world
unfolding RunsCalls
runs_none world = (refl, λ s stands. (s, NoStep, stands))

-- one call more
pub runs_then : (old mid new : WorldView) (e : Event) (reply : Result (Answer e) Refusal) → Does mid e reply new → IsTrue (is_no_finish e) → RunsCalls old mid → RunsCalls old new
unfolding RunsCalls Does
runs_then old mid new e reply does is_call runs = (
  does.0 ∙ runs.0,
  λ s stands.
      let before = runs.1 s stands in
      let next = does.1 before.0 before.2 in
      (next.0, OneMore e reply is_call before.1 next.1, next.2),
)

steps_both : (s mid new : State) → StepsTo is_no_finish s mid → StepsTo is_no_finish mid new → StepsTo is_no_finish s new
steps_both s mid new before NoStep = before
steps_both s mid new before (OneMore {mid = last} e reply ok after step) = OneMore e reply ok (steps_both s mid last before after) step

-- more calls
pub runs_both : (old mid new : WorldView) → RunsCalls mid new → RunsCalls old mid → RunsCalls old new
unfolding RunsCalls
runs_both old mid new after before = (
  after.0 ∙ before.0,
  λ s stands.
      let first = before.1 s stands in
      let last = after.1 first.0 first.2 in
      (last.0, steps_both s first.0 last.0 first.1 last.1, last.2),
)

pub ruleset runs_calls = (runs_none, runs_then, runs_both)
