use Rattle.std.proofs.Common.{◌∙◌, ap, refl, arith}
use Rattle.std.specs.Map.{keys_of}
use Rattle.indexmap.specs.IndexMap.{set_value_at}
use Rattle.fz_machine.specs.declared.regions.Noted.{Noted}
use Rattle.fz_machine.specs.Regions.{Regions}
use Rattle.fz_machine.proofs.Noting.{keys_set, length_by, placed_by, regions_by_keys, viewed, viewed_by, worded_set}
use Rattle.fz_machine.proofs.regions.Regions.forget.Goals as goal

pub invariant_of-self : goal.invariant_of-self
invariant_of-self c =
    let inv = c.loop-index.invariant in
    let heard = inv.others.0 in
    let end = inv.others.1 in
    let le = c.self.invariant.0 in
    let within = c.self.invariant.1 in
    let long = length_by c.self.inside.noted.entries c.loop-index.self-inside.noted.entries inv.keys in (omega (arith, heard, end, le), omega (arith, end, within, long), regions_by_keys c.self.inside.noted.entries c.loop-index.self-inside.noted.entries inv.keys c.self.invariant.2)

pub loop-index-smaller : goal.loop-index-smaller
loop-index-smaller c =
    let es = c.loop-index.self-inside.noted.entries in
    let w : Noted = record { places = 0; told = c.index.result.now.told } in
    let long = length_by es (set_value_at es c.loop-index.index w) (keys_set es c.loop-index.index w) in
    let lt = c.loop-index-test.true in
    let len = c.len.ensures.len in
    omega (arith, long, lt, len)

pub loop-index-preserved : goal.loop-index-preserved
loop-index-preserved c =
    let es = c.loop-index.self-inside.noted.entries in
    let w : Noted = record { places = 0; told = c.index.result.now.told } in
    let inv = c.loop-index.invariant in
    record {
      keys = keys_set es c.loop-index.index w ∙ inv.keys;
      told = worded_set es c.self.inside.heard c.loop-index.index c.index.result.now w c.index.ensures refl ∙ inv.told;
      others = inv.others;
    }

pub returns-clause-same : goal.returns-clause-same
returns-clause-same c =
    let inv = c.loop-index.invariant in
    let ns = c.loop-index.self-inside.noted.entries in
    (λ i. viewed ns (inv.others.0 i) (inv.others.1 i) (inv.others.2 i) (inv.others.3 i))
    ∙ viewed_by c.self.inside.noted.entries ns c.args.self.now c.self.inside.heard c.self.inside.end c.self.inside.asked c.self.inside.complete c.self.view_is inv.keys inv.told

pub returns-clause-keys : goal.returns-clause-keys
returns-clause-keys c = placed_by c.self.inside.noted.entries c.loop-index.self-inside.noted.entries c.loop-index.invariant.keys ∙ ap (λ (r : Regions). keys_of r.order) c.self.view_is
