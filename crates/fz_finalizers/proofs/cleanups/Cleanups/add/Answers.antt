use Rattle.std.proofs.Common.{◌≡◌, ◌<◌, ◌≤◌, ◌∙◌, ℕ, Bool, true, false, not, ◌&&◌, nat_le, refl, ap, sym, subst, arith}
use Rattle.std.proofs.lemmas.Bool.Decides.{nat_tests}
use Rattle.std.specs.FinMap.{len, insert, contains_key, from_entries}
use Rattle.fz_model.specs.State.{Map}
use Rattle.fz_model.proofs.Tables.{made_inserted}
use Rattle.fz_table.specs.declared.limits.TheConstants.{MOST_ENTRIES}
use Rattle.fz_table.specs.Places.{lacks_place}
use Rattle.fz_table.proofs.Entries.{limit_inserted}
use Rattle.fz_finalizers.specs.declared.cleanups.Attached.{Attached}
use Rattle.fz_finalizers.specs.Cleanups.{Cleanups}
use Rattle.fz_finalizers.proofs.cleanups.Cleanups.add.Goals as goal

-- a table with fewer than it can have has a place
has_place : (m : Map Attached) (k : ℕ) → len m < MOST_ENTRIES → lacks_place m k ≡ false
has_place m k few = by (contains_key m k)
  where
    by : (b : Bool) → (not b && nat_le MOST_ENTRIES (len m)) ≡ false
    by true = refl
    by false = grind (arith, nat_tests)

pub invariant_of-self-2 : goal.invariant_of-self-2
invariant_of-self-2 c =
    let es = c.self.inside.entries.entries in
    let few = subst (λ (t : Cleanups). len t.cleanups < MOST_ENTRIES) (sym c.self.view_is) c.requires.place in
    subst (λ (m : Map Attached). len m ≤ MOST_ENTRIES) (sym (made_inserted es c.insert.new.self.entries c.args.number c.args.attached c.in-Ok.ensures.updates.0))
    (limit_inserted (from_entries es) c.args.number c.args.attached (has_place (from_entries es) c.args.number few) c.self.invariant)

pub returns-clause-added : goal.returns-clause-added
returns-clause-added c =
    made_inserted c.self.inside.entries.entries c.insert.new.self.entries c.args.number c.args.attached c.in-Ok.ensures.updates.0
    ∙ ap (λ (t : Cleanups). insert t.cleanups c.args.number c.args.attached) c.self.view_is
