-- Indices stay full where fields are kept or cleared.
use Rattle.std.proofs.Common.{◌≡◌, ℕ, List, get_or, Option, Some, None, option_map, refl, sym, ap, ◌∙◌, ⊎_elim}
use Rattle.std.proofs.lemmas.Option.{none-some}
use Rattle.own_heap.specs.declared.record.Field.{Field}
use Rattle.own_heap.specs.declared.record.Field.TheVariants.{Nothing}
use Rattle.own_heap.specs.declared.record.Record.{Record}
use Rattle.own_heap.specs.Records.{cleared, AreFieldsKept, IsFullTo}

abbrev first_field : Record → Field
first_field r = get_or r.fields 0 Nothing

no_record : (s : Option Record) → option_map first_field s ≡ None → s ≡ None
no_record None none = refl
no_record (Some r) none = absurd (none-some (first_field r) (sym none))

no_field : (o : Option Field) → option_map cleared o ≡ None → o ≡ None
no_field None none = refl
no_field (Some f) none = absurd (none-some (cleared f) (sym none))

pub full_kept : (old new : List (Option Record)) (to : ℕ) → AreFieldsKept old new → IsFullTo old to → IsFullTo new to
full_kept old new to kept full k less is =
    let none : option_map first_field (get_or new k None) ≡ None = ap (option_map first_field) is in
    ⊎_elim (λ same. full k less (no_record (get_or old k None) (sym same ∙ none))) (λ was. full k less (no_record (get_or old k None) (no_field _ (sym was ∙ none)))) (kept k 0)
