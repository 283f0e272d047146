use Rattle.std.proofs.Common.{◌≡◌, ◌<◌, ◌-◌, ◌*◌, ◌/◌, ◌%◌, ◌^◌, ◌∙◌, sym, ap, arith, not, length, slice_index, bit_or, set}
use Rattle.std.specs.FinSet.{contains, insert}
use Rattle.std.proofs.lemmas.List.{length-set, get_or_read}
use Rattle.fz_bits.specs.Flags.{Flagged}
use Rattle.fz_model.specs.Bits.{has_bit}
use Rattle.fz_bits.proofs.Words.{flag_inserted, few_flags, bit_missing, contains_from}
use Rattle.fz_bits.proofs.flags.Flags.insert.Goals as goal

pub returns-clause-new : goal.returns-clause-new
returns-clause-new g c =
    let words = c.self.inside.words.items in
    let n = c.args.number in
    let first = g.row.FIRST in
    let size : 64 * length words ≡ c.args.self.now.size = ap (λ (v : Flagged). v.size) c.self.view_is in
    let within : (n - first) / 64 < length words = omega (arith, size, c.requires.0, c.requires.1) in
    let read : slice_index words ((n - first) / 64) ≡ c.index_mut-word.result.now = sym (get_or_read words ((n - first) / 64) c.index_mut-word.result.now within c.index_mut-word.ensures.value 0) in
    bit_missing c.index_mut-word.result.now ((n - first) % 64) (omega arith)
    ∙ ap not (ap (λ w. has_bit w ((n - first) % 64)) (sym read) ∙ sym (contains_from first words n c.requires.0) ∙ ap (λ (v : Flagged). contains v.members n) c.self.view_is)

pub returns-clause-inserted : goal.returns-clause-inserted
returns-clause-inserted g c =
    let words = c.self.inside.words.items in
    let n = c.args.number in
    let size : 64 * length words ≡ c.args.self.now.size = ap (λ (v : Flagged). v.size) c.self.view_is in
    let within : (n - g.row.FIRST) / 64 < length words = omega (arith, size, c.requires.0, c.requires.1) in
    let word = bit_or c.index_mut-word.result.now (1 * 2 ^ ((n - g.row.FIRST) % 64) % 18446744073709551616) in
    let len : length (set words ((n - g.row.FIRST) / 64) word) ≡ length words = length-set words ((n - g.row.FIRST) / 64) word in
    (λ i. record { size = 64 * len i; members = flag_inserted g.row.FIRST words n c.index_mut-word.result.now c.requires.0 within c.index_mut-word.ensures.value i })
    ∙ ap (λ (v : Flagged). record v { members = insert v.members n }) c.self.view_is

pub returns-clause-room : goal.returns-clause-room
returns-clause-room g c =
    few_flags g.row.FIRST (set c.self.inside.words.items ((c.args.number - g.row.FIRST) / 64) (bit_or c.index_mut-word.result.now (1 * 2 ^ ((c.args.number - g.row.FIRST) % 64) % 18446744073709551616)))
