use Rattle.std.proofs.Common.{◌∙◌, inl, inr, refl, set, sym, subst, ⊎_elim}
use Rattle.fz_machine.specs.Going.{AreRenewed}
use Rattle.fz_machine.proofs.Renewed.{set_renewed, within_is}
use Rattle.fz_machine.proofs.tables.renew.Goals as goal
use Rattle.fz_machine.proofs.tables.renew.Goals.{then-is_by, else-is_by}

pub loop-sweep-init : goal.loop-sweep-init
loop-sweep-init c = record { each = λ sweep. inl refl; count = refl }

pub loop-sweep-preserved : goal.loop-sweep-preserved
loop-sweep-preserved c =
    let many = c.loop-sweep.auto.tables ∙ c.requires in
    elim c.if-is_by.branch [
      | then-is_by w ↦
          let was = within_is c.loop-sweep.tables _ w.index.result w.index-tables-index.result many w.index.ensures w.index-tables-index.is in
          subst (AreRenewed c.args.by c.args.finalizers.now.state c.args.tables.now) (sym w.tables-is)
          (subst (λ i. AreRenewed c.args.by c.args.finalizers.now.state c.args.tables.now (set c.loop-sweep.tables i w.renew_one.new.table)) (sym w.index.ensures)
          (set_renewed c.args.by c.args.finalizers.now.state c.args.tables.now c.loop-sweep.tables c.loop-sweep.invariant many _ w.renew_one.new.table (sym c.is_by.ensures ∙ w.if-is_by.true)
          (⊎_elim (λ same. inl (same ∙ sym w.index-tables-index.is ∙ was)) inr w.renew_one.ensures)))
      | else-is_by w ↦ subst (AreRenewed c.args.by c.args.finalizers.now.state c.args.tables.now) (sym w.tables-is) c.loop-sweep.invariant
    ]
