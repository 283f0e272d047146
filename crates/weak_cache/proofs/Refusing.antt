-- Why a cache is refused.
use Rattle.std.proofs.Common.{◌≡◌, ℕ, true, None, Result, Ok, Err, IfErr, IsErrAnd, OnErr, sym, ◌∙◌, subst, inl}
use Rattle.std.proofs.lemmas.Option.{none-some}
use Rattle.fz_model.specs.declared.refusal.Refusal.{Refusal}
use Rattle.fz_model.specs.Causes.{Causes, first_cause, IsRefusedFor, IsJudgedBy, IsJudgedOrLacks}
use Rattle.fz_world.specs.Does.{open_causes}
use Rattle.weak_cache.specs.Cached.{IsOpenedFor}

-- what holds of a refusal holds of a reply that hands it on
pub handed_on : {A : Type 0} (reply : Result A Refusal) (r : Refusal) (P : Refusal → Type 0) → IsErrAnd reply (λ x. x ≡ r) → P r → IfErr reply P
handed_on (Err x) r P is holds = subst P (sym is) holds
handed_on (Ok x) r P is holds = absurd is

pub not_opened : {A : Type 0} (blocks keys : ℕ) (reply : Result A Refusal) (r : Refusal) → IsErrAnd reply (λ x. x ≡ r) → IsRefusedFor (open_causes blocks 1) true r → IsOpenedFor blocks keys reply
not_opened blocks keys (Err x) r is refused = inl (subst (λ e. IsRefusedFor (open_causes blocks 1) true e) (sym is) refused)
not_opened blocks keys (Ok x) r is refused = absurd is

-- a store that can't be refused is judged as the link before it
pub judged_as_linked : {A : Type 0} (links stores : Causes) (reply : Result A Refusal) → first_cause links ≡ None → first_cause stores ≡ None → IsJudgedBy stores reply → IsJudgedOrLacks links reply
judged_as_linked links stores (Ok x) linked stands judged = linked
judged_as_linked links stores (Err r) linked stands judged = absurd (none-some r (sym stands ∙ judged))

pub never_refused : {A : Type 0} (P : Type 0) (stores : Causes) (reply : Result A Refusal) → first_cause stores ≡ None → IsJudgedBy stores reply → OnErr reply P
never_refused P stores (Ok x) stands judged = tt
never_refused P stores (Err r) stands judged = absurd (none-some r (sym stands ∙ judged))
