-- A law that tests what a cycle has seen.
-- code: fz_model/src/laws.rt (every_call)
use Rattle.std.specs.Prelude.{ℕ, Bool, not, IsTrue, ◌↔◌}
use Rattle.fz_model.specs.State.{State}
use Rattle.fz_model.specs.Reachability.{IsReachable, WasSeen}
use Rattle.fz_model.specs.Events.{Event}
use Rattle.fz_model.specs.Steps.{StepsTo, IsReached}
use Rattle.fz_model.specs.Headline.{is_pass}

abbrev pub is_no_pass : Event → Bool
is_no_pass e = not (is_pass e)

-- an object was seen exactly if it was reachable in a state of this cycle: a state with an open cycle, after which no pass came
abbrev pub SeenInThisCycle : State → Type 0
SeenInThisCycle s =
    (a : ℕ) → WasSeen s a ↔ (moment : State) × IsReached moment × IsTrue moment.cycle × StepsTo is_no_pass moment s × IsReachable moment.core a
