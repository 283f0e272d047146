-- A host without objects.
use Rattle.std.proofs.Common.{◌≡◌, ℕ, is_some, Some, nat_cmp, sym, ap, ◌∙◌, IsTrue}
use Rattle.std.proofs.lemmas.Bool.{true≢false}
use Rattle.std.specs.FinMap.{get, contains_key, empty, get-empty}
use Rattle.fz_model.specs.State.{Map, Object}

abbrev pub none : Map Object
none = empty

pub no_object : (a : ℕ) → IsTrue (contains_key none a) → ⊥
no_object a here = true≢false (sym here ∙ ap is_some (get-empty nat_cmp a))

pub not_there : (a : ℕ) (o : Object) → get none a ≡ Some o → ⊥
not_there a o here = no_object a (ap is_some here)
