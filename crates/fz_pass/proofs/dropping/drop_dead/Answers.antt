use Rattle.std.proofs.Common.{◌≡◌, ◌∙◌, ℕ, Bool, true, false, not, Option, Some, None, refl, rules}
use Rattle.std.specs.Option.{option_map_or}
use Rattle.std.specs.FinMap.{get, retain_keys}
use Rattle.fz_pass.proofs.dropping.drop_dead.Goals as goal

twice : (b : Bool) → not (not b) ≡ b
twice true = refl
twice false = refl

same : (marked : ℕ → Bool) (o : Option ℕ) → option_map_or (λ t. not (not (marked t))) o false ≡ option_map_or marked o false
same marked None = refl
same marked (Some t) = twice (marked t)

pub returns : goal.returns
returns g c =
    let links = c.args.links.now.links in
    let marked = g.H.Host.marked c.args.host.now in
    c.drop_where.ensures.dropped (λ link target. not (marked target)) (λ link target b call. search rules) ∙ (λ i. retain_keys links (λ link. same marked (get links link) i))
