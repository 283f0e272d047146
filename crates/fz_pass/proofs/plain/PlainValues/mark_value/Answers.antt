use Rattle.std.proofs.Common.{inl, ⊎_elim}
use Rattle.std.proofs.lemmas.Option.{none-some}
use Rattle.fz_pass.proofs.plain.PlainValues.mark_value.Goals as goal

pub returns-clause-marked : goal.returns-clause-marked
returns-clause-marked g c = record { closed = c.requires.closed; least = λ a. ⊎_elim (λ on. on) (λ value. absurd (none-some value.0 value.1)); most = λ _ a on. inl on }
