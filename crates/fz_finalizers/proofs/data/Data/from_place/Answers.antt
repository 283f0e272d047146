use Rattle.std.proofs.Common.{◌≡◌, ◌++◌, ◌∙◌, ◌-◌, ℕ, min, length, map, drop, ap, sym}
use Rattle.std.proofs.lemmas.List.{drop-map, length-map}
use Rattle.fz_model.specs.declared.answers.Registration.{Registration}
use Rattle.fz_finalizers.specs.declared.cleanups.Attached.{Attached}
use Rattle.fz_finalizers.specs.Walks.{data_of}
use Rattle.fz_finalizers.proofs.Placed.{drop_both}
use Rattle.fz_finalizers.proofs.data.Data.from_place.Goals as goal

abbrev of_registration : ℕ × Registration → ℕ
of_registration e = e.1.cd

abbrev of_cleanup : ℕ × Attached → ℕ
of_cleanup e = e.1.cleanup.client_data

pub returns : goal.returns
returns c =
    let registrations = c.self.inside.registrations in
    let cleanups = c.self.inside.cleanups in
    let n = c.args.place in
    let k = c.min-passed.result in
    let count : k ≡ min n (length (map of_registration registrations)) = c.min-passed.ensures ∙ ap (min n) (c.len.ensures.value ∙ sym (length-map registrations of_registration)) in
    (λ i. data_of (c.from_place.ensures i) (c.from_place-2.ensures i))
    ∙ (λ i. sym (drop-map of_registration k registrations) i ++ sym (drop-map of_cleanup (n - k) cleanups) i)
    ∙ sym (drop_both (map of_registration registrations) (map of_cleanup cleanups) n k count) ∙ ap (drop n) c.self.view_is
