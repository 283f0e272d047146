use Rattle.std.proofs.Common.{◌≡◌, ◌⊎◌, ℕ, [], List, None, filter, length, ap, arith, inr, subst, sym, ⊎_elim}
use Rattle.fz_finalizers.specs.States.{State}
use Rattle.fz_machine.specs.declared.item.Item.{Item}
use Rattle.fz_machine.specs.declared.phase.Moment.{Moment}
use Rattle.fz_machine.specs.declared.phase.Moment.TheVariants.{Last, Led, Picked}
use Rattle.fz_machine.specs.declared.phase.Phase.TheVariants.{Keys}
use Rattle.fz_machine.specs.Items.{is_still}
use Rattle.fz_machine.specs.Phases.{Lists}
use Rattle.fz_machine.proofs.Beside.{few_still}
use Rattle.fz_machine.proofs.listing.list_rows.Goals as goal

-- at a later moment, those that are put off
later : (moment : Moment) → (moment ≡ Led) ⊎ ((moment ≡ Picked) ⊎ (moment ≡ Last)) → (from : ℕ) (s : State) (given items : List Item) → items ≡ filter (is_still None s.ephemerons) given → Lists (Keys moment) from [] s given items
later moment is from s given items listed =
    ⊎_elim (λ (led : moment ≡ Led). at Led led listed) (⊎_elim (λ (picked : moment ≡ Picked). at Picked picked listed) (λ (last : moment ≡ Last). at Last last listed)) is
  where
    at : (m : Moment) → moment ≡ m → Lists (Keys m) from [] s given items → Lists (Keys moment) from [] s given items
    at m same = subst (λ (x : Moment). Lists (Keys x) from [] s given items) (sym same)

pub returns-in-Led : goal.returns-in-Led
returns-in-Led c =
    let s = c.args.finalizers.now.state in
    let off = c.args.walk.now.off in
    let long = ap length c.walk_off.ensures.listed in
    let few = few_still (is_still None s.ephemerons) off in
    record {
      listed = λ from. later c.args.moment c.in-Led.is from s _ c.walk_off.new.walk.left c.walk_off.ensures.listed;
      few = inr (omega (arith, long, few));
      others = c.walk_off.ensures.others;
    }
