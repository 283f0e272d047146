use Rattle.std.proofs.Common.{◌≡◌, ℕ, ◌<◌, ◌-◌, ◌*◌, ◌/◌, ◌%◌, ◌^◌, ◌∙◌, sym, ap, subst, arith, false, true, length, bit_and, set, get_or}
use Rattle.std.specs.Int.{bit_not, w64}
use Rattle.std.specs.FinSet.{contains, remove}
use Rattle.std.proofs.lemmas.List.{length-set}
use Rattle.fz_bits.specs.Flags.{Flagged, flagged}
use Rattle.fz_bits.proofs.Words.{flag_removed, member_within}
use Rattle.fz_model.proofs.Sets.{removed_again}
use Rattle.fz_bits.proofs.flags.Flags.remove.Goals as goal

pub returns-then-not-contains-clause-removed : goal.returns-then-not-contains-clause-removed
returns-then-not-contains-clause-removed g c =
    let old = c.args.self.now in
    let missing : contains old.members c.args.number ≡ false = sym c.contains.ensures ∙ c.if-not-contains.true in
    ap (λ s. record old { members = s }) (sym (removed_again old.members c.args.number missing))

pub index_mut-requires : goal.index_mut-requires
index_mut-requires g c =
    let first = g.row.FIRST in
    let words = c.self.inside.words.items in
    let n = c.args.number in
    let is : contains (flagged first words) n ≡ true = ap (λ (v : Flagged). contains v.members n) c.self.view_is ∙ sym c.contains.ensures ∙ c.if-not-contains.false in
    let here = member_within first words n is in
    omega (arith, here.0, here.1, c.saturating_sub-place.ensures)

pub returns-clause-removed : goal.returns-clause-removed
returns-clause-removed g c =
    let first = g.row.FIRST in
    let words = c.self.inside.words.items in
    let n = c.args.number in
    let word = c.index_mut.result.now in
    let is : contains (flagged first words) n ≡ true = ap (λ (v : Flagged). contains v.members n) c.self.view_is ∙ sym c.contains.ensures ∙ c.if-not-contains.false in
    let here = member_within first words n is in
    let within : (n - first) / 64 < length words = omega (arith, here.0, here.1) in
    let place : c.saturating_sub-place.result ≡ n - first = c.saturating_sub-place.ensures in
    let read = subst (λ p. word ≡ get_or words (p / 64) word) place c.index_mut.ensures.value in
    let x = λ (p : ℕ). bit_and word (bit_not w64 (1 * 2 ^ (p % 64) % 18446744073709551616)) in
    let len : length (set words ((n - first) / 64) (x (n - first))) ≡ length words = length-set words ((n - first) / 64) (x (n - first)) in
    (λ i. record { size = 64 * length (set words (place i / 64) (x (place i))); members = flagged first (set words (place i / 64) (x (place i))) })
    ∙ (λ i. record { size = 64 * len i; members = flag_removed first words n word here.0 within read i })
    ∙ ap (λ (v : Flagged). record v { members = remove v.members n }) c.self.view_is
