use Rattle.std.proofs.Common.{◌≡◌, ◌≤◌, ◌<◌, ◌+◌, ◌*◌, ◌∙◌, sym, ap, subst, arith, length, slice_index, refl, ⊎_elim}
use Rattle.std.specs.FinSet.{contains}
use Rattle.std.specs.Int.{trailing_zeros, w64}
use Rattle.std.proofs.lemmas.Bool.{cases_lt}
use Rattle.fz_bits.specs.Flags.{Flagged, HasRoom}
use Rattle.fz_bits.proofs.Words.{rest_none, rest_next, rest_found, word_read, has_room, none_past, found_room}
use Rattle.fz_bits.proofs.flags.Flags.next.Goals as goal

pub returns-in_err-rest-clause-next : goal.returns-in_err-rest-clause-next
returns-in_err-rest-clause-next g c =
    let words = c.self.inside.words.items in
    let first = g.row.FIRST in
    let index = c.loop-rest.index in
    let past : length words ≤ index + 1 = subst (λ (ws : _). length ws ≤ index + 1) c.deref.ensures.value c.in_err-rest.ensures.lookup.3 in
    rw c.from_residual.ensures (λ n above.
    ⊎_elim (λ (lt : n < first + 64 * (index + 1)). rest_none first c.args.self.now.members c.args.from index c.loop-rest.rest c.loop-rest.invariant.rest c.loop-rest-test.true n above lt)
    (λ (ge : first + 64 * (index + 1) ≤ n). sym (ap (λ (v : Flagged). contains v.members n) c.self.view_is) ∙ none_past first words n (omega (arith, past, ge)))
    (cases_lt n (first + 64 * (index + 1))))

pub loop-rest-preserved : goal.loop-rest-preserved
loop-rest-preserved g c =
    let words = c.self.inside.words.items in
    let first = g.row.FIRST in
    let index = c.loop-rest.index in
    let word = c.in_ok-rest.field-0.now in
    let within : index + 1 < length words = subst (λ ws. index + 1 < length ws) c.deref.ensures.value c.in_ok-rest.ensures.lookup.3.0 in
    let read : slice_index words (index + 1) ≡ word = ap (λ ws. slice_index ws (index + 1)) (sym c.deref.ensures.value) ∙ sym (c.in_ok-rest.ensures.lookup.3.1 0) in
    let past = c.loop-rest.invariant.past in
    let fits = c.self.invariant in
    record {
      rest = rest_next first c.args.self.now.members c.args.from index c.loop-rest.rest word c.loop-rest.invariant.rest c.loop-rest-test.true past
          (λ place lt. word_read first words (index + 1) word read place lt ∙ ap (λ (v : Flagged). contains v.members (first + 64 * (index + 1) + place)) c.self.view_is);
      past = omega (arith, past);
      small = omega (arith, within, fits);
      fits = omega arith;
    }

pub overflow_mul-result : goal.overflow_mul-result
overflow_mul-result g c =
    let room = subst (HasRoom g.row.FIRST) c.self.view_is (has_room g.row.FIRST c.self.inside.words.items c.self.invariant) in
    let here = found_room g.row.FIRST c.args.self.now c.args.from c.loop-rest.index c.loop-rest.rest (trailing_zeros w64 c.loop-rest.rest) room c.loop-rest.invariant.rest (omega arith) c.loop-rest.invariant.fits refl in
    omega (arith, here.0, here.1)

pub overflow_add-result : goal.overflow_add-result
overflow_add-result g c =
    let room = subst (HasRoom g.row.FIRST) c.self.view_is (has_room g.row.FIRST c.self.inside.words.items c.self.invariant) in
    let here = found_room g.row.FIRST c.args.self.now c.args.from c.loop-rest.index c.loop-rest.rest (trailing_zeros w64 c.loop-rest.rest) room c.loop-rest.invariant.rest (omega arith) c.loop-rest.invariant.fits refl in
    omega (arith, here.0, here.1)

pub overflow_add-result-2 : goal.overflow_add-result-2
overflow_add-result-2 g c =
    let room = subst (HasRoom g.row.FIRST) c.self.view_is (has_room g.row.FIRST c.self.inside.words.items c.self.invariant) in
    let here = found_room g.row.FIRST c.args.self.now c.args.from c.loop-rest.index c.loop-rest.rest c.from.result room c.loop-rest.invariant.rest (omega arith) c.loop-rest.invariant.fits c.from.ensures in
    omega (arith, here.0, here.1)

pub returns-clause-next : goal.returns-clause-next
returns-clause-next g c =
    (rest_found g.row.FIRST c.args.self.now.members c.args.from c.loop-rest.index c.loop-rest.rest c.from.result c.loop-rest.invariant.rest (omega arith) c.loop-rest.invariant.fits c.from.ensures).0

pub returns-clause-within : goal.returns-clause-within
returns-clause-within g c =
    let room = subst (HasRoom g.row.FIRST) c.self.view_is (has_room g.row.FIRST c.self.inside.words.items c.self.invariant) in
    (found_room g.row.FIRST c.args.self.now c.args.from c.loop-rest.index c.loop-rest.rest c.from.result room c.loop-rest.invariant.rest (omega arith) c.loop-rest.invariant.fits c.from.ensures).0
