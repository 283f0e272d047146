use Rattle.std.proofs.Common.{◌≡◌, true, false, None, sym, ap, ◌∙◌, subst, arith, rules}
use Rattle.std.specs.FinSet.{contains}
use Rattle.fz_model.specs.State.{Core}
use Rattle.fz_model.specs.Reachability.{IsRoot}
use Rattle.fz_model.specs.Pass.{Passes}
use Rattle.fz_model.specs.Causes.{first_cause}
use Rattle.fz_model.specs.declared.call.Call.TheVariants.{Pause}
use Rattle.fz_model.specs.Events.{Make, causes}
use Rattle.fz_marker.specs.Marking.{IsClosed}
use Rattle.fz_world.specs.World.{WorldView}
use Rattle.fz_world.proofs.Does.{does_pause}
use Rattle.fz_world.proofs.Rooted.{is_here, is_root, same_pass}
use Rattle.fz_world.proofs.world.World.pause.Goals as goal

pub pass-requires-clause-roots : goal.pass-requires-clause-roots
pass-requires-clause-roots c a root =
    let closed_core : IsRoot (record c.args.self.now.core { cycle = false }) a = subst (λ (k : Core). IsRoot k a) c.mark_rest.ensures.core root in
    c.mark_rest.ensures.roots a (is_root c.args.self.now.core a (is_here (record c.args.self.now.core { cycle = false }) a closed_core))

pub pass-requires-clause-closed : goal.pass-requires-clause-closed
pass-requires-clause-closed c = subst (λ (k : Core). IsClosed k.objects c.mark_rest.new.self.marked) (sym c.mark_rest.ensures.core) c.mark_rest.ensures.closed

pub returns-clause-step : goal.returns-clause-step
returns-clause-step c =
    let on : c.args.self.now.core.cycle ≡ true = search rules in
    let none : first_cause (causes c.args.self.now.core (Make Pause)) ≡ None = search rules in
    let passes = same_pass c.args.self.now.core (contains c.mark_rest.new.self.marked) c.pass.result c.pass.new.self.core (subst (λ (k : Core). Passes k (contains c.mark_rest.new.self.marked) c.pass.result c.pass.new.self.core) c.mark_rest.ensures.core c.pass.ensures.passes) in
    does_pause c.args.self.now c.pass.new.self c.mark_rest.new.self.marked c.pass.result none on c.mark_rest.ensures.roots c.mark_rest.ensures.closed c.mark_rest.ensures.led passes (ap (λ (k : Core). k.cycle) passes.is) (ap (λ (v : WorldView). v.forgotten) c.pass.ensures.marks ∙ c.mark_rest.ensures.forgotten)

pub returns-clause-few : goal.returns-clause-few
returns-clause-few c =
    let scans = ap (λ (v : WorldView). v.scans) c.pass.ensures.marks in
    let few = c.mark_rest.ensures.few in
    omega (arith, scans, few)
