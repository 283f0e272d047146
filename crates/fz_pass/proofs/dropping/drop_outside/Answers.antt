use Rattle.std.proofs.Common.{◌≡◌, ◌∙◌, ℕ, Bool, true, false, not, Option, Some, None, refl, rules}
use Rattle.std.specs.Option.{option_map_or}
use Rattle.std.specs.FinMap.{get, retain_keys}
use Rattle.fz_pass.specs.Places.{is_held}
use Rattle.fz_pass.proofs.dropping.drop_outside.Goals as goal

twice : (b : Bool) → not (not b) ≡ b
twice true = refl
twice false = refl

same : (b : Bool) (o : Option ℕ) → option_map_or (λ _. not (not b)) o false ≡ option_map_or (λ _. b) o false
same b None = refl
same b (Some t) = twice b

pub returns : goal.returns
returns g c =
    let links = c.args.links.now.links in
    let inside = λ (link : ℕ). is_held g.H.Host.place (g.H.Host.objects c.args.host.now) (g.H.Host.marked c.args.host.now) link in
    c.drop_where.ensures.dropped (λ link target. not (inside link)) (λ link target b call. search rules) ∙ (λ i. retain_keys links (λ link. same (inside link) (get links link) i))
