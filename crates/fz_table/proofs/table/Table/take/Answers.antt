use Rattle.std.proofs.Common.{◌≡◌, ◌+◌, ◌∙◌, false, None, map, option_map, nat_cmp, ap, sym, subst, arith}
use Rattle.std.proofs.lemmas.Bool.{true≢false}
use Rattle.std.specs.Option.{IfSome}
use Rattle.std.specs.FinMap.{get, remove, len, from_entries}
use Rattle.std.specs.FinSet as sets
use Rattle.fz_model.proofs.Tables.{made_removed}
use Rattle.fz_table.specs.Tabled.{Tabled, counted, flagged, plain, shown}
use Rattle.fz_table.proofs.Entries.{limit_taken, one_taken}
use Rattle.fz_table.proofs.Flagged.{contains_flagged, flags_changed, flags_counted, get_shown, late_in, lookup_plain, plain_changed}
use Rattle.fz_table.proofs.table.Table.take.Goals as goal

pub counted-self-inside-requires : goal.counted-self-inside-requires
counted-self-inside-requires c = record { few = λ now. absurd (true≢false (sym now)) }

pub invariant_of-self : goal.invariant_of-self
invariant_of-self c =
    let es = c.self.inside.entries.entries in
    let ns = c.swap_remove-removed.new.self.entries in
    let k = c.args.object in
    let gone = c.swap_remove-removed.ensures.updates.0 in
    let was = contains_flagged es k ∙ sym (c.is_flagged.ensures ∙ ap late_in c.swap_remove-removed.ensures.value) in
    record {
      few = limit_taken (map plain es) (map plain ns) k (plain_changed es ns k None gone) c.self.invariant.few;
      flags_are = ap sets.len (flags_changed es ns k None gone) ∙ flags_counted (flagged es) k false ∙ (λ i. counted (c.self.invariant.flags_are i) (was i) false) ∙ sym c.counted-self-inside.ensures.count;
      fewer = omega (arith, c.counted-self-inside.ensures.more, c.self.invariant.fewer);
    }

pub returns-clause-answer : goal.returns-clause-answer
returns-clause-answer c =
    c.registration_in.ensures ∙ ap (option_map shown) c.swap_remove-removed.ensures.value ∙ sym (get_shown c.self.inside.entries.entries c.args.object)
    ∙ ap (λ (t : Tabled). get t.registrations c.args.object) c.self.view_is

pub returns-clause-removed : goal.returns-clause-removed
returns-clause-removed c =
    let es = c.self.inside.entries.entries in
    let ns = c.swap_remove-removed.new.self.entries in
    let m = made_removed (map plain es) (map plain ns) c.args.object (plain_changed es ns c.args.object None c.swap_remove-removed.ensures.updates.0) in
    (λ i. record { registrations = m i; next_number = c.self.inside.next_number }) ∙ ap (λ (t : Tabled). record { registrations = remove t.registrations c.args.object; next_number = t.next_number }) c.self.view_is

pub returns-clause-late : goal.returns-clause-late
returns-clause-late c =
    let es = c.self.inside.entries.entries in
    let ns = c.swap_remove-removed.new.self.entries in
    flags_changed es ns c.args.object None c.swap_remove-removed.ensures.updates.0 ∙ ap (λ (t : Tabled). sets.remove t.late c.args.object) c.self.view_is

pub returns-clause-count : goal.returns-clause-count
returns-clause-count c =
    let es = c.self.inside.entries.entries in
    let ns = c.swap_remove-removed.new.self.entries in
    subst (λ (t : Tabled). IfSome c.registration_in.result (λ _. len (from_entries {R = nat_cmp} (map plain ns)) + 1 ≡ len t.registrations)) c.self.view_is
    (one_taken (map plain es) (map plain ns) c.args.object (plain_changed es ns c.args.object None c.swap_remove-removed.ensures.updates.0) c.registration_in.result
    (c.registration_in.ensures ∙ ap (option_map shown) c.swap_remove-removed.ensures.value ∙ sym (lookup_plain es c.args.object)))
