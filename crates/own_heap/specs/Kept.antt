-- Preserving fields is a preorder.
use Rattle.std.specs.Prelude.{◌≡◌, List, Option, None, Some, option_map}
use Rattle.std.proofs.Common.{refl, ap, ◌∙◌, inl, inr, ⊎_elim}
use Rattle.own_heap.specs.declared.record.Field.{Field}
use Rattle.own_heap.specs.declared.record.Field.TheVariants.{Nothing, Number, Reference, Hidden}
use Rattle.own_heap.specs.declared.record.Record.{Record}
use Rattle.own_heap.specs.Records.{cleared, AreFieldsKept}

pub kept_itself : (slots : List (Option Record)) → AreFieldsKept slots slots
kept_itself slots place k = inl refl

pub kept_on : (f g h : List (Option Record)) → AreFieldsKept f g → AreFieldsKept g h → AreFieldsKept f h
kept_on f g h p q place k =
    ⊎_elim (λ same. ⊎_elim (λ before. inl (same ∙ before)) (λ was. inr (same ∙ was)) (p place k))
    (λ is. ⊎_elim (λ before. inr (is ∙ ap (option_map cleared) before)) (λ was. inr (is ∙ ap (option_map cleared) was ∙ twice _)) (p place k)) (q place k)
  where
    again : (f : Field) → cleared (cleared f) ≡ cleared f
    again Nothing = refl
    again (Number n) = refl
    again (Reference id) = refl
    again (Hidden id) = refl

    twice : (o : Option Field) → option_map cleared (option_map cleared o) ≡ option_map cleared o
    twice None = refl
    twice (Some f) = ap Some (again f)
