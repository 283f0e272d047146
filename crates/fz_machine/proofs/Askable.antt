-- A host that answers for a graph is asked only what it may be asked.
use Rattle.std.proofs.Common.{◌≡◌, ◌∷◌, [], ℕ, List, None, Option, Some, sym, subst}
use Rattle.fz_model.specs.State.{Map, Object}
use Rattle.fz_finalizers.specs.Promises.{AreSingle}
use Rattle.fz_finalizers.specs.States.{AreFlags, State}
use Rattle.fz_finalizers.proofs.Keying.{single}
use Rattle.fz_finalizers.proofs.Promised.{promised}
use Rattle.fz_machine.specs.declared.item.Item.{Item}
use Rattle.fz_machine.specs.declared.phase.Phase.{Phase}
use Rattle.fz_machine.specs.declared.phase.Phase.TheVariants.{Regions}
use Rattle.fz_machine.specs.declared.question.Ask.{Ask}
use Rattle.fz_machine.specs.Graph.{AreOldMarked, Graph, MayBegin, MayBeAsked}
use Rattle.fz_machine.specs.Machines.{IsBegunFrom, Machine, going_of}
use Rattle.fz_machine.specs.Off.{PutOff, put_off}
use Rattle.fz_machine.specs.Phases.{after, ask_of, keeps, subject}
use Rattle.fz_machine.specs.Runs.{AreAskable, AsksRightly, AsksYoungRightly, Runs}
use Rattle.fz_machine.specs.Steps.{Going}
use Rattle.fz_machine.proofs.Begun.{HasBegun}
use Rattle.fz_machine.proofs.May.{may_ever}
use Rattle.fz_machine.proofs.Opening.{IsIn, keep}
use Rattle.fz_machine.proofs.Parted.{IsAllowed}
use Rattle.fz_machine.proofs.Phasing.{kept_on}
use Rattle.fz_machine.proofs.Ran.{IsOn, none_old, where_it_is}
use Rattle.fz_machine.proofs.Working.{going_apart}

may_be : (asked : Option Ask) (about : ℕ) (h : Graph) → IsAllowed asked about h → MayBeAsked asked about h
may_be None about h may = tt
may_be (Some ask) about h may = may

module _ (E : Type 0) (word_of : ℕ → Option ℕ) (value : Map Object → ℕ → Option ℕ) (b : State) (before : Graph) (begin : HasBegun word_of value b before) where
  pub askable : (phase : Phase) (s : State) (kept left aside : List Item) (off : PutOff) (h : Graph) → IsIn E word_of value b before phase s kept left aside off h → AreAskable E word_of value phase left h
  askable phase s kept [] aside off h p = tt
  askable phase s kept (item ∷ left) aside off h p = (
    may_be (ask_of phase item) (subject phase item) h (may_ever E word_of value b before begin phase s kept left aside off item h p),
    λ answer between honest. askable phase (after phase item answer s) (kept_on (keeps phase item answer) kept item) left aside (put_off phase item answer off) between
        (keep E word_of value b before begin phase s kept left aside off item h between p answer honest),
  )

  -- in a sweep there are no items
  pub askable_on : (phase : Phase) (g : Going) (h : Graph) → IsOn E word_of value b before begin phase g h → AreAskable E word_of value phase g.left h
  askable_on (Regions sweep) g h p = subst (λ (xs : List Item). AreAskable E word_of value (Regions sweep) xs h) (sym p.1) tt
  askable_on phase g h p = askable phase g.finalizers g.kept g.left g.aside g.off h p.1

-- where the finalizers' flags are of registered objects, and no word is two ephemerons
pub asks_on : (E : Type 0) (from : ℕ) (word_of : ℕ → Option ℕ) (value : Map Object → ℕ → Option ℕ) (old begun new : Machine) (before after_it : Graph) (phase : Phase) → AreFlags old.finalizers.state.registrations old.finalizers.state.late → AreSingle old.finalizers.state
    → IsBegunFrom from old begun → MayBegin word_of value old.finalizers.state before → AreOldMarked from old.finalizers.state before → Runs E word_of value begun before new after_it → new.phase ≡ Some phase → AreAskable E word_of value phase new.walk.left after_it
asks_on E from word_of value old begun new before after_it phase flags single is may_begin seen runs at =
    let w = where_it_is E word_of value from old begun new before after_it flags single is may_begin seen runs in
    askable_on E word_of value w.0 before w.1 phase (going_apart w.0.taken w.0.held (going_of new)) after_it (w.2 phase at)

pub asks_young_rightly : (E : Type 0) → AsksYoungRightly E
asks_young_rightly E from word_of value old begun new past before after_it phase reached is may_begin seen runs at =
    asks_on E from word_of value old begun new before after_it phase (promised old.finalizers.state past reached).flags (single old.finalizers.state past reached) is may_begin seen runs at

pub asks_rightly : (E : Type 0) → AsksRightly E
asks_rightly E word_of value old begun new past before after_it phase reached is may_begin runs at =
    asks_young_rightly E 0 word_of value old begun new past before after_it phase reached is may_begin (none_old old.finalizers.state before) runs at
