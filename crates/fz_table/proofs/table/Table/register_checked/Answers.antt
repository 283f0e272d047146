use Rattle.std.proofs.Common.{◌≡◌, ◌+◌, ◌≤◌, None, Some, map, nat_cmp, ◌∙◌, ap, sym, subst, rules, arith}
use Rattle.std.specs.Option.{option_map, IsNone}
use Rattle.std.specs.FinSet as sets
use Rattle.std.specs.FinMap.{get, len, insert, from_entries}
use Rattle.fz_table.specs.declared.limits.TheConstants.{MOST_ENTRIES}
use Rattle.fz_table.specs.Places.{lacks_place}
use Rattle.fz_model.specs.Steps.{old_of, registration_of}
use Rattle.fz_model.proofs.Tables.{made_inserted}
use Rattle.fz_table.specs.Tabled.{Tabled, counted, flagged, plain, shown, with_flag}
use Rattle.fz_table.proofs.Flagged.{at_most_one, contains_flagged, flags_changed, flags_counted, get_shown, late_in, plain_changed}
use Rattle.fz_table.proofs.Entered.{OnErr_always, within_profile}
use Rattle.fz_table.proofs.Entries.{limit_inserted}
use Rattle.fz_table.proofs.Entries.{pair_of}
use Rattle.fz_table.proofs.table.Table.register_checked.Goals as goal

pub returns-in_err-replaced-clause-registers : goal.returns-in_err-replaced-clause-registers
returns-in_err-replaced-clause-registers c = record {
  refused = search rules;
  growth = OnErr_always c.from_residual.result (subst IsNone (sym absent) (search rules));
  unchanged = search rules;
  number = search rules;
  replaced = search rules;
  registered = search rules;
}
  where
    absent : get c.args.self.now.registrations c.args.object ≡ None
    absent =
        ap (λ (t : Tabled). get t.registrations c.args.object) (sym c.self.view_is)
        ∙ get_shown c.self.inside.entries.entries c.args.object ∙ ap (option_map shown) c.in_err-replaced.ensures.absent

pub returns-in_err-replaced-clause-within : goal.returns-in_err-replaced-clause-within
returns-in_err-replaced-clause-within c = λ free. within_profile _ _ _ _ _ c.requires.few free (returns-in_err-replaced-clause-registers c)

pub counted-self-inside-requires : goal.counted-self-inside-requires
counted-self-inside-requires c = record { few = λ _. omega (arith, c.self.invariant.fewer, c.requires.few, ap (λ (t : Tabled). t.next_number) c.self.view_is) }

pub invariant_of-self-2 : goal.invariant_of-self-2
invariant_of-self-2 c =
    let es = c.self.inside.entries.entries in
    let k = c.args.object in
    let stored = c.of-stored.result in
    let updates = c.in_ok-replaced.ensures.updates.0 in
    let free = ap (λ (t : Tabled). lacks_place t.registrations k) c.self.view_is ∙ c.requires.place in
    let was = contains_flagged es k ∙ sym (c.is_flagged.ensures ∙ ap late_in c.in_ok-replaced.ensures.old) in
    let one = at_most_one c.args.unreachable in
    record {
      few = subst (λ m. len m ≤ MOST_ENTRIES) (sym (made_inserted (map plain es) _ k (shown stored) (plain_changed es _ k (Some stored) updates))) (limit_inserted _ k (shown stored) free c.self.invariant.few);
      flags_are = ap sets.len (flags_changed es _ k (Some stored) updates) ∙ flags_counted (flagged es) k stored.unreachable
          ∙ (λ i. counted (c.self.invariant.flags_are i) (was i) (c.of-stored.ensures.flag i)) ∙ sym c.counted-self-inside.ensures.count;
      fewer = omega (arith, c.counted-self-inside.ensures.more, c.self.invariant.fewer, one);
    }

pub returns-clause-late : goal.returns-clause-late
returns-clause-late c =
    flags_changed c.self.inside.entries.entries _ c.args.object (Some c.of-stored.result) c.in_ok-replaced.ensures.updates.0 ∙ ap (with_flag (flagged c.self.inside.entries.entries) c.args.object) c.of-stored.ensures.flag
    ∙ ap (λ (t : Tabled). with_flag t.late c.args.object c.args.unreachable) c.self.view_is

pub returns-clause-registers : goal.returns-clause-registers
returns-clause-registers c = record {
  refused = search rules;
  growth = search rules;
  unchanged = search rules;
  number = search rules;
  replaced = let mapped : c.map.result ≡ option_map pair_of c.registration_in.result = search rules in
      mapped ∙ ap (option_map pair_of) (c.registration_in.ensures ∙ ap (option_map shown) c.in_ok-replaced.ensures.old ∙ sym (get_shown c.self.inside.entries.entries c.args.object))
      ∙ ap (λ (t : Tabled). old_of t.registrations c.args.object) c.self.view_is;
  registered = ap (λ m. record { registrations = m; next_number = c.self.inside.next_number + 1 })
      (made_inserted (map plain c.self.inside.entries.entries) _ c.args.object (shown c.of-stored.result) (plain_changed c.self.inside.entries.entries _ c.args.object (Some c.of-stored.result) c.in_ok-replaced.ensures.updates.0))
      ∙ ap (λ r. record { registrations = insert (from_entries {R = nat_cmp} (map plain c.self.inside.entries.entries)) c.args.object r; next_number = c.self.inside.next_number + 1 }) c.of-stored.ensures.registration
      ∙ ap (λ (t : Tabled). record { registrations = insert t.registrations c.args.object (registration_of t.next_number c.args.finalizer); next_number = t.next_number + 1 }) c.self.view_is;
}

pub returns-clause-within : goal.returns-clause-within
returns-clause-within c = λ free. within_profile _ _ _ _ _ c.requires.few free (returns-clause-registers c)
