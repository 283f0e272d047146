use Rattle.std.proofs.Common.{◌≡◌, ◌∙◌, ◌++◌, ◌∷◌, [], drop, map, zip, ap, refl, arith}
use Rattle.indexmap.specs.IndexMap.{set_value_at}
use Rattle.fz_machine.specs.declared.regions.Noted.{Noted}
use Rattle.fz_machine.specs.Regions.{Regions, placed}
use Rattle.fz_machine.proofs.Noting.{keys_set, length_by, one_less, one_told, placed_set, regions_by_keys}
use Rattle.fz_machine.proofs.regions.Regions.hear_one.Goals as goal

pub invariant_of-self : goal.invariant_of-self
invariant_of-self c =
    let w : Noted = record { places = c.index.result.now.places; told = c.args.word } in
    let es = c.self.inside.noted.entries in
    let keys = keys_set es c.self.inside.heard w in
    let long = length_by es (set_value_at es c.self.inside.heard w) keys in
    let less = c.if-self.true in
    let le = c.self.invariant.1 in (omega (arith, less), omega (arith, long, le), regions_by_keys es (set_value_at es c.self.inside.heard w) keys c.self.invariant.2)

pub returns-then-self : goal.returns-then-self
returns-then-self c =
    let w : Noted = record { places = c.index.result.now.places; told = c.args.word } in
    let es = c.self.inside.noted.entries in
    let heard = c.self.inside.heard in
    let end = c.self.inside.end in
    let order : map placed (set_value_at es heard w) ≡ c.args.self.now.order = placed_set es heard c.index.result.now w c.index.ensures refl ∙ ap (λ (r : Regions). r.order) c.self.view_is in
    let told = one_told es heard end w c.if-self.true c.self.invariant.1 ∙ ap (λ (r : Regions). r.told ++ zip r.left (c.args.word ∷ [])) c.self.view_is in
    let left = one_less es heard end w ∙ ap (λ (r : Regions). drop 1 r.left) c.self.view_is in
    let asked = ap (λ (r : Regions). r.asked) c.self.view_is in
    let complete = ap (λ (r : Regions). r.complete) c.self.view_is in
    λ i. record { order = order i; told = told i; left = left i; asked = asked i; complete = complete i }
