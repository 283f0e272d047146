use Rattle.std.proofs.Common.{◌∙◌, sym, inl, inr, ⊎_elim}
use Rattle.std.proofs.lemmas.Bool.{both_ways}
use Rattle.fz_why.proofs.Trails.{has_at}
use Rattle.fz_why.proofs.valuing.held_at.Goals as goal

pub returns-in-Some : goal.returns-in-Some
returns-in-Some c = (inr (has_at c.args.trail.now c.in-Some.place c.args.object c.in-Some.ensures), c.in-Some.ensures)

pub returns-then-is_behind : goal.returns-then-is_behind
returns-then-is_behind c = (inl (sym c.is_behind.ensures ∙ c.if-is_behind.true), c.in-None.ensures)

pub returns-else-is_behind : goal.returns-else-is_behind
returns-else-is_behind c = ⊎_elim (λ on. both_ways _ (sym c.is_behind.ensures ∙ c.if-is_behind.false) on) (λ on. both_ways _ c.in-None.ensures on)
