-- What a worker has noted before it sleeps.
use Rattle.std.proofs.Common.{Option, None, IsSome, true≢false, sym, subst, ◌≡◌, List, ◌∷◌, ◌++◌, ap, ◌∙◌, append_assoc}
use Rattle.fz_service.specs.Waits.{HasListened}
use Rattle.fz_service.specs.declared.event.Event.{Event}
use Rattle.fz_service.specs.declared.event.Event.TheVariants.{Listened}

-- a worker that isn't about to sleep
pub unheard : {X T : Type 0} (heard : Option X) → heard ≡ None → IsSome heard → T
unheard heard none some = absurd (true≢false (sym (subst IsSome none some)))

-- what it listened to before, it has
pub has_listened : (old more new : List Event) → new ≡ old ++ more → HasListened old → HasListened new
has_listened old more new is (before, after, was) = (before, after ++ more, is ∙ ap (λ (es : List Event). es ++ more) was ∙ append_assoc before (Listened ∷ after) more)
