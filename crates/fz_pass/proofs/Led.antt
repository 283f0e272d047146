-- What the unmarked registered objects lead to is marked, and stays so.
use Rattle.std.proofs.Common.{◌≡◌, ℕ, not, Bool, true, false, Some, is_some, refl, ap, inl, inr, IsTrue}
use Rattle.std.proofs.lemmas.Bool.{both_ways, and_from, not-true}
use Rattle.std.specs.FinMap.{get, contains_key}
use Rattle.fz_model.specs.declared.answers.Registration.{Registration}
use Rattle.fz_model.specs.State.{Map, Object}
use Rattle.fz_model.specs.Pass.{is_outside}
use Rattle.fz_pass.specs.Leading.{LedAreMarked}
use Rattle.fz_pass.specs.Marks.{AreRegistered}
use Rattle.fz_pass.specs.Queued.{MarksLed}

module _ (Exact : Type 0) (objects : Map Object) where
  -- where all that they lead to came to the marks
  pub led_are_marked : (old new : ℕ → Bool) (all : Map Registration) → AreRegistered objects all → MarksLed Exact objects old new all → LedAreMarked objects all new
  led_are_marked old new all registered p o r here off a leads =
      p.least a (inr (o, r, here, and_from (contains_key all o) (is_outside objects old o) (ap is_some here) (and_from (contains_key objects o) (not (old o)) (registered o r here) (ap not (at (old o) refl))), leads))
    where
      at : (b : Bool) → old o ≡ b → old o ≡ false
      at false is = is
      at true is = absurd (both_ways (new o) (not-true (new o) off) (p.least o (inl is)))

  -- where more is marked, and fewer are registered
  pub led_still : (old new : ℕ → Bool) (table left : Map Registration) → ((a : ℕ) → IsTrue (old a) → IsTrue (new a)) → ((a : ℕ) (r : Registration) → get left a ≡ Some r → get table a ≡ Some r) → LedAreMarked objects table old → LedAreMarked objects left new
  led_still old new table left more of led o r here off a leads = more a (led o r (of o r here) (ap not (at (old o) refl)) a leads)
    where
      at : (b : Bool) → old o ≡ b → old o ≡ false
      at false is = is
      at true is = absurd (both_ways (new o) (not-true (new o) off) (more o is))
