-- Children of objects.
use Rattle.std.proofs.Common.{◌≡◌, ℕ, Bool, None, sym, ◌∙◌, ⊎_elim}
use Rattle.std.proofs.lemmas.Option.{none-some}
use Rattle.fz_model.specs.State.{Map, Object}
use Rattle.fz_model.specs.declared.kinds.RegKind.{RegKind}
use Rattle.fz_model.specs.declared.kinds.RegKind.TheVariants.{Normal, IgnoreSelf, NoOrder}
use Rattle.fz_model.specs.Memory.{points, filled}
use Rattle.fz_model.specs.Reachability.{Child}
use Rattle.fz_model.specs.Pass.{LeadsFirst}
use Rattle.fz_model.proofs.SeenKept.{Child-filled}

pub first_child : (objects : Map Object) (o : ℕ) (kind : RegKind) (b : ℕ) → LeadsFirst objects o kind b → Child objects o b
first_child objects o Normal b h = h
first_child objects o IgnoreSelf b h = h.0
first_child objects o NoOrder b h = absurd h

-- what is closed stays closed where words become zero
pub child_before : (test : ℕ → Bool) (objects : Map Object) → points objects 0 ≡ None → (a b : ℕ) → Child (filled test 0 objects) a b → Child objects a b
child_before test objects none a b child = ⊎_elim (λ c. c) (λ zero. absurd (none-some b (sym none ∙ zero))) (Child-filled test 0 objects a b child)
