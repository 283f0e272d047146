use Rattle.std.proofs.Common.{◌≡◌, ap, arith, length, rules, sum, vec_len, ◌∙◌}
use Rattle.fz_runs.proofs.threads.actors.run_sections.Goals as goal

pub returns : goal.returns
returns g c =
    let len = c.in_ok-refused.ensures.len in
    let same : length c.in_ok-refused.refused.items ≡ vec_len c.in_ok-refused.refused = search rules in (
      c.in_ok-refused.refused.items,
      same ∙ len ∙ c.count.ensures.count,
      c.total.ensures ∙ ap (λ l. sum l) c.as_slice.ensures.value,
      λ i h. let e = c.in_ok-refused.ensures.each i 0 (omega (arith, h, same, len)) in search rules,
    )
