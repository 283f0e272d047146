use Rattle.std.proofs.Common.{◌≡◌, ◌≢◌, ◌∙◌, ◌+◌, ◌*◌, ◌<◌, ◌≤◌, ◌^◌, ℕ, Bool, true, false, ap, sym, ⊎_elim, bit_or, arith}
use Rattle.std.proofs.lemmas.Bool.{cases_eq}
use Rattle.fz_model.specs.Bits.{has_bit}
use Rattle.fz_machine.specs.Graph.{Graph, graph_of, is_told}
use Rattle.fz_machine.proofs.Places.{set_here, set_other}
use Rattle.fz_machine.proofs.responding.respond_marks.Goals as goal
use Rattle.fz_machine.proofs.responding.respond_marks.Goals.{then-is_told, else-is_told}

module _ (marked : ℕ → Bool) (marks place : ℕ) (done : (i : ℕ) → i < place → has_bit marks i ≡ marked i) (rest : (i : ℕ) → place ≤ i → has_bit marks i ≡ false) where
  -- one more place is done, whose object is marked or not
  record IsDone (new : ℕ) : Type 0 where
    done_too : (i : ℕ) → i < place + 1 → has_bit new i ≡ marked i
    rest_too : (i : ℕ) → place + 1 ≤ i → has_bit new i ≡ false

  on : (new one : ℕ) → new ≡ bit_or marks one → one ≡ 2 ^ place → marked place ≡ true → IsDone new
  on new one is one_is it_is = record {
    done_too = λ i lt.
        ap (λ k. has_bit k i) (is ∙ ap (bit_or marks) one_is)
        ∙ ⊎_elim
        (λ (here : i ≡ place). ap (has_bit (bit_or marks (2 ^ place))) here ∙ set_here marks place ∙ sym it_is ∙ ap marked (sym here))
        (λ (ne : i ≢ place). set_other marks place i ne ∙ done i (omega (arith, lt, ne)))
        (cases_eq i place);
    rest_too = λ i past. ap (λ k. has_bit k i) (is ∙ ap (bit_or marks) one_is) ∙ set_other marks place i (λ here. omega (arith, past, here)) ∙ rest i (omega (arith, past));
  }

  off : (new : ℕ) → new ≡ marks → marked place ≡ false → IsDone new
  off new is it_isnt = record {
    done_too = λ i lt.
        ap (λ k. has_bit k i) is
        ∙ ⊎_elim
        (λ (here : i ≡ place). ap (has_bit marks) here ∙ rest place (omega arith) ∙ sym it_isnt ∙ ap marked (sym here))
        (λ (ne : i ≢ place). done i (omega (arith, lt, ne)))
        (cases_eq i place);
    rest_too = λ i past. ap (λ k. has_bit k i) is ∙ rest i (omega (arith, past));
  }

pub loop-place-preserved : goal.loop-place-preserved
loop-place-preserved g c =
    let graph : Graph = graph_of (g.H.Host.objects c.args.host.now) (g.H.Host.marked c.args.host.now) in
    let marked : ℕ → Bool = λ i. is_told g.H.Host.place c.args.ask graph (c.args.region + 16 * i) in
    let test = c.loop-place-test.true in
    elim c.if-is_told.branch [
      | then-is_told w ↦
          let d = on marked c.loop-place.word c.loop-place.place c.loop-place.invariant.done c.loop-place.invariant.rest c.if-is_told.word w.bit-word.result w.word-is w.bit-word.ensures
          (ap (is_told g.H.Host.place c.args.ask graph) (sym c.address_of.ensures) ∙ sym c.is_told.ensures ∙ w.if-is_told.true) in
          record { most = omega (arith, test); done = d.done_too; rest = d.rest_too }
      | else-is_told w ↦
          let d = off marked c.loop-place.word c.loop-place.place c.loop-place.invariant.done c.loop-place.invariant.rest c.if-is_told.word w.word-is
          (ap (is_told g.H.Host.place c.args.ask graph) (sym c.address_of.ensures) ∙ sym c.is_told.ensures ∙ w.if-is_told.false) in
          record { most = omega (arith, test); done = d.done_too; rest = d.rest_too }
    ]
