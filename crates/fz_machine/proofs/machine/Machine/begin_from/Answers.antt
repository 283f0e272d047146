use Rattle.std.proofs.Common.{◌∙◌, length, ap, refl}
use Rattle.fz_finalizers.specs.Follows.{next_pass}
use Rattle.fz_finalizers.specs.States.{State}
use Rattle.fz_machine.specs.Machines.{Machine}
use Rattle.fz_machine.specs.Walks.{Walk}
use Rattle.fz_machine.proofs.machine.Machine.begin_from.Goals as goal

pub returns-clause-begun : goal.returns-clause-begun
returns-clause-begun c =
    let begins = c.begin.ensures.begins c.args.from in
    record {
      phase = refl;
      finalizers = c.begin_pass-number.ensures.follows ∙ ap (λ (m : Machine). record m.finalizers.state { passes = next_pass m.finalizers.passes }) c.self.view_is;
      begins = record {
        same = refl;
        none = begins.none;
        lists = begins.lists;
        aside = begins.aside ∙ ap (λ (w : Walk). w.kept) c.forget.ensures ∙ ap (λ (w : Walk). w.kept) c.clear.ensures;
        off = begins.off;
        told = refl;
      };
      asked = refl;
      remaining = refl;
      regions = refl;
      before = c.queued-self-inside.ensures ∙ ap (λ (s : State). length s.queue) c.begin_pass-number.ensures.follows ∙ ap (λ (m : Machine). length m.finalizers.state.queue) c.self.view_is;
      from = refl;
      same = (ap (λ (m : Machine). m.by) c.self.view_is, ap (λ (m : Machine). m.noted) c.self.view_is, ap (λ (m : Machine). m.tabled) c.self.view_is);
    }
