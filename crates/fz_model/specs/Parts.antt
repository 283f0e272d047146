-- What holds of the parts of every world, as one name that proofs pass on whole. Means only, as IsSound is: no public contract cites it.
use Rattle.std.specs.Prelude.{ℕ, List}
use Rattle.fz_model.specs.declared.answers.Entry.{Entry}
use Rattle.fz_model.specs.declared.answers.Registration.{Registration}
use Rattle.fz_model.specs.State.{Map, Object}
use Rattle.fz_model.specs.Sound.{IsSound}

unfoldable pub AreSound : Map Object → Map Registration → ℕ → List Entry → List Entry → Type 0
AreSound objects registrations next_number queue held = IsSound objects registrations next_number queue held
