use Rattle.std.proofs.Common.{◌≡◌, ◌≤◌, ◌+◌, ◌-◌, ◌∷◌, [], ◌++◌, List, length, drop, ap, sym, ◌∙◌, subst, arith}
use Rattle.fz_model.specs.declared.answers.Entry.{Entry}
use Rattle.fz_model.specs.Pass.{entries_of}
use Rattle.fz_pass.specs.Gathered.{Gathered, picks_of}
use Rattle.fz_pass.proofs.Gathering.{pushed, count, push_ends}
use Rattle.fz_pass.proofs.gathered.Gathered.push.Goals as goal

pub invariant_of-self : goal.invariant_of-self
invariant_of-self c =
    let g = c.self.inside in
    let queue = g.queue.items in
    let inv = c.self.invariant in
    let room = ap (λ (v : Gathered). v.capacity) c.self.view_is in
    let picks = ap (λ (v : Gathered). length v.picks) c.self.view_is in
    let many = count queue g.before g.first g.pass inv.0 inv.1 in
    let items = pushed _ _ _ _ (c.push.ensures.succeeds (omega (arith, room, picks, many, inv.0, c.requires.room, g.queue.ok))) c.push.ensures.items in
    let len : c.len.result ≡ length queue = c.len.ensures ∙ g.queue.ok.0 in
    subst (λ (es : List Entry). (g.before ≤ length es) × (drop g.before es ≡ entries_of g.pass g.first (picks_of (drop g.before es)))) (sym (items ∙ ap (λ (e : Entry). queue ++ e ∷ []) c.entry_of.ensures)) (push_ends queue g.before g.first g.pass inv.0 inv.1 _ c.args.pick (ap (λ n. g.first + (n - g.before)) len))
