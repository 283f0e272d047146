use Rattle.std.proofs.Common.{◌≡◌, ◌-◌, ◌∙◌, Some, None, is_some, true≢false, slice_get, nat_cmp, ap, sym}
use Rattle.std.proofs.lemmas.Bool.Decides.{Decides-eqb}
use Rattle.std.proofs.lemmas.Map.Made.{lookup_key_same}
use Rattle.std.specs.FinMap.{get, from_entries}
use Rattle.std.specs.List.{swap}
use Rattle.fz_model.proofs.Tables.{get_made}
use Rattle.fz_links.proofs.Halves.{comes_last, permuted}
use Rattle.fz_links.proofs.anew.put_last.Goals as goal

pub returns-in-Some-clause-same : goal.returns-in-Some-clause-same
returns-in-Some-clause-same c = permuted c.args.links.now.entries c.swap_indices.new.self.entries c.len-count.ensures.unique c.swap_indices.ensures.reordered.0

pub returns-in-Some-clause-last : goal.returns-in-Some-clause-last
returns-in-Some-clause-last c = λ known.
    let es = c.args.links.now.entries in
    let place = c.in-Some.place in
    let target = c.in-Some.field-0-2.now in
    let key : c.args.link ≡ c.in-Some.field-0-1.now = lookup_key_same Decides-eqb c.args.link es c.in-Some.field-0-1.now (sym c.in-Some.ensures.key) in
    let here : slice_get es place ≡ Some (c.args.link, target) = c.in-Some.ensures.entry ∙ ap (λ k. Some (k, target)) (sym key) in
    (target, comes_last es c.swap_indices.new.self.entries place c.args.link target here (c.swap_indices.ensures.entries ∙ ap (λ n. swap es place (n - 1)) c.len-count.ensures.len))

pub returns-in_default-clause-last : goal.returns-in_default-clause-last
returns-in_default-clause-last c = λ known.
    let none : get (from_entries {R = nat_cmp} c.args.links.now.entries) c.args.link ≡ None = get_made c.args.links.now.entries c.args.link ∙ sym c.in_default.ensures.value in
    absurd (true≢false (sym (ap is_some (sym none) ∙ known)))
