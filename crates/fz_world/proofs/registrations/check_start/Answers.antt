use Rattle.std.proofs.Common.{◌≡◌, ◌≢◌, ◌∙◌, ℕ, Option, Some, None, true, is_some, is_none, refl, ap, rules}
use Rattle.std.proofs.lemmas.Option.{same_Some}
use Rattle.std.specs.FinMap.{get, contains_key}
use Rattle.fz_model.specs.State.{Map, Object}
use Rattle.fz_model.specs.Memory.{points}
use Rattle.fz_world.proofs.registrations.check_start.Goals as goal

-- no object starts at a word that points to another address
no_start : (objects : Map Object) (word start : ℕ) → Some start ≡ points objects word → start ≢ word → (contains_key objects word ≡ true → points objects word ≡ Some word) → is_none (get objects word) ≡ true
no_start objects word start at other itself = by (get objects word) refl
  where
    by : (o : Option Object) → get objects word ≡ o → is_none o ≡ true
    by None is = refl
    by (Some o) is = absurd (other (same_Some start word (at ∙ itself (ap is_some is))))

pub returns-then-start-word : goal.returns-then-start-word
returns-then-start-word c =
    let none = no_start c.args.heap.now.objects c.args.word c.in-Some.start c.in-Some.ensures.points c.if-start-word.true c.in-Some.ensures.itself in
    search rules
