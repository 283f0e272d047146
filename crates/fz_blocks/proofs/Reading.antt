-- What code that reads a list of blocks knows of them.
use Rattle.std.proofs.Common.{◌≡◌, ℕ, ◌∙◌, true, false, List, length, Some, None, slice_get, get_or, nat_lt, refl, sym, ap}
use Rattle.std.proofs.lemmas.Bool.{ltb-true, ltb-false}
use Rattle.std.proofs.lemmas.Option.{slice_get_read, slice_get_past}
use Rattle.fz_blocks.specs.declared.block.Block.{Block}

pub read_block : (xs ys : List Block) (i : ℕ) (x : Block) → ys ≡ xs → true ≡ nat_lt i (length ys) → x ≡ get_or ys i x → slice_get xs i ≡ Some x
read_block xs ys i x same lt is = ap (λ zs. slice_get zs i) (sym same) ∙ slice_get_read ys (length ys) i x refl (ltb-true i (length ys) (sym lt)) is

pub read_none : (xs ys : List Block) (i : ℕ) → ys ≡ xs → false ≡ nat_lt i (length ys) → slice_get xs i ≡ None
read_none xs ys i same past = ap (λ zs. slice_get zs i) (sym same) ∙ slice_get_past ys i (ltb-false i (length ys) (sym past))
