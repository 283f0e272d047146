use Rattle.std.proofs.Common.{◌≡◌, ◌≢◌, ◌≤◌, ◌<◌, inl, inr, ⊎_elim, ◌∙◌, subst, arith}
use Rattle.std.proofs.lemmas.Bool.{both_ways, cases_eq, cases_lt}
use Rattle.std.specs.FinSet.{contains}
use Rattle.fz_marker.specs.Standing.{HasWordOn}
use Rattle.fz_marker.proofs.Standing.{not_noted}
use Rattle.fz_marker.proofs.cycle.Cycle.forget.Goals as goal

pub loop-page-preserved : goal.loop-page-preserved
loop-page-preserved c =
    let inv = c.loop-page.invariant in
    let now = c.forget_page.ensures in
    let next = c.in-Some.ensures.next in
    let noted = c.args.dirty.now.noted in
    let page = c.in-Some.page in
    record {
      marks = now.marks ∙ inv.marks;
      scans = now.scans ∙ inv.scans;
      size = now.size ∙ inv.size;
      few = now.few;
      gone = λ a h.
          let here = now.gone a h in
          let before = inv.gone a here.0 in (
            before.0,
            λ q low on w.
                ⊎_elim (λ (is : q ≡ page). here.1 (subst (λ p. HasWordOn c.args.heap.now.objects p a) is w))
                (λ (ne : q ≢ page).
                ⊎_elim (λ (less : q < c.loop-page.from). before.1 q less on w) (λ (ge : c.loop-page.from ≤ q). both_ways (contains noted q) (next.before q ge (omega (arith, low, ne))) on)
                (cases_lt q c.loop-page.from))
                (cases_eq q page),
          );
      apart = λ q low on. now.apart;
      others = λ a h.
          ⊎_elim
          (λ still. ⊎_elim inl (λ stands. inr (page, omega arith, next.member, stands)) (now.others a still))
          inr
          (inv.others a h);
    }

pub returns-clause-gone : goal.returns-clause-gone
returns-clause-gone c a h =
    let noted = c.args.dirty.now.noted in
    let from = c.loop-page.from in
    let parts = c.loop-page.invariant.gone a h in (
      parts.0,
      not_noted c.args.heap.now.objects noted a (λ page on word.
          ⊎_elim (λ (less : page < from). parts.1 page less on word) (λ (ge : from ≤ page). both_ways (contains noted page) (c.in_default.ensures.next page ge) on)
          (cases_lt page from)),
    )

pub returns-clause-apart : goal.returns-clause-apart
returns-clause-apart c page on =
    let noted = c.args.dirty.now.noted in
    let from = c.loop-page.from in
    ⊎_elim (λ (less : page < from). c.loop-page.invariant.apart page less on) (λ (ge : from ≤ page). absurd (both_ways (contains noted page) (c.in_default.ensures.next page ge) on))
    (cases_lt page from)
